-- Worked cases: what the definitions say of numbers that a reader can check by hand. Assumes nothing.
use Rattle.std.specs.Prelude.{◌≡◌, ℕ, Bool, true, false, ◌||◌, List, [], ◌∷◌, replicate, is_some, None, Ok, Err, Result, ◌==◌}
use Rattle.storage.specs.Bids.{bid_decoded, buyer_of, offer_of, price_of}
use Rattle.storage.specs.Quorums.{majority_of, majority_enough, weighted_of, weighted_enough}
use Rattle.storage.specs.Spans.{span_decoded, span_of}
use Rattle.storage.specs.declared.quorum.refusal.QuorumRefusal.{QuorumRefusal}
use Rattle.storage.specs.declared.quorum.refusal.QuorumRefusal.TheVariants.{ReplicaCount, Weightless}

pub data Case : Type 0 where
  -- the code is that of the offer of this price by this buyer
  offer : (code price buyer : ℕ) → Case
  -- the code is no bid's
  no_bid : (code : ℕ) → Case
  -- the code is that of the span with this offset and length
  span : (code offset length : ℕ) → Case
  -- there is a span with this offset and length
  fits : (offset length : ℕ) → Case
  -- there is none
  too_long : (offset length : ℕ) → Case
  -- what the majority of so many replicas answers of the set with these members
  majority : (replicas : ℕ) (members : List ℕ) → Result Bool QuorumRefusal → Case
  -- what the rule of these weights answers of it
  weighted : (weights members : List ℕ) → Result Bool QuorumRefusal → Case

-- the set of the members that a list names
abbrev pub set_of : List ℕ → ℕ → Bool
set_of [] k = false
set_of (m ∷ ms) k = k == m || set_of ms k

-- what a rule answers of a set, or why there is no such rule
abbrev pub verdict : {Q : Type 0} → (Q → (ℕ → Bool) → Bool) → (ℕ → Bool) → Result Q QuorumRefusal → Result Bool QuorumRefusal
verdict enough f (Ok q) = Ok (enough q f)
verdict enough f (Err e) = Err e

abbrev pub Holds : Case → Type 0
Holds (offer c p b) = (is_some (bid_decoded c) ≡ true) × (bid_decoded c ≡ offer_of (price_of p) (buyer_of b))
Holds (no_bid c) = bid_decoded c ≡ None
Holds (span c o l) = (is_some (span_decoded c) ≡ true) × (span_decoded c ≡ span_of o l)
Holds (fits o l) = is_some (span_of o l) ≡ true
Holds (too_long o l) = span_of o l ≡ None
Holds (majority n ms answer) = verdict majority_enough (set_of ms) (majority_of n) ≡ answer
Holds (weighted ws ms answer) = verdict weighted_enough (set_of ms) (weighted_of ws) ≡ answer

abbrev pub cases : List Case
cases =
    -- the highest price by the highest buyer; one cent more is no bid
    offer 0x01000001869F03E7 99999 999
    ∷ no_bid 0x0100000186A00001
    -- a span of 300 from 4,096; the last offset but one has room for 1 and not for 2
    ∷ span 0x000010000000012C 4096 300
    ∷ fits 4294967294 1
    ∷ too_long 4294967294 2
    -- of four replicas 0 and 1 are no majority, and 0, 1 and 2 are
    ∷ majority 4 (0 ∷ 1 ∷ []) (Ok false)
    ∷ majority 4 (0 ∷ 1 ∷ 2 ∷ []) (Ok true)
    -- with weights 3, 1 and 1 replica 0 is enough alone, and 1 and 2 are not
    ∷ weighted (3 ∷ 1 ∷ 1 ∷ []) (0 ∷ []) (Ok true)
    ∷ weighted (3 ∷ 1 ∷ 1 ∷ []) (1 ∷ 2 ∷ []) (Ok false)
    -- no rule has 0 or 16 replicas
    ∷ majority 0 [] (Err ReplicaCount)
    ∷ majority 16 [] (Err ReplicaCount)
    ∷ weighted [] [] (Err ReplicaCount)
    -- weights of 0 are refused, but only for 1 to 15 replicas
    ∷ weighted (replicate 15 0) [] (Err Weightless)
    ∷ weighted (replicate 16 0) [] (Err ReplicaCount)
    ∷ []
