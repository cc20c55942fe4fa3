-- The quorum rules that can be made, and the refusals of the others. Assumes nothing.
use Rattle.std.specs.Prelude.{ℕ, ◌-◌, ◌≤◌, Bool, List, ◌++◌, length, replicate, Ok, Err, Result}
use Rattle.std.proofs.Math.Decide.{dec_le}
use Rattle.storage.specs.Weights.{weigh, all, weight_at, heavy, most}
use Rattle.storage.specs.declared.quorum.majority.Majority.{Majority}
use Rattle.storage.specs.declared.quorum.weighted.Weighted.{Weighted}
use Rattle.storage.specs.declared.quorum.refusal.QuorumRefusal.{QuorumRefusal}
use Rattle.storage.specs.declared.quorum.refusal.QuorumRefusal.TheVariants.{ReplicaCount, Weightless}

-- the number that users know a refusal by
abbrev pub refusal_number : QuorumRefusal → ℕ
refusal_number ReplicaCount = 5
refusal_number Weightless = 10

-- what `make` gives where there are 1 to 15 replicas, and refusal 5 elsewhere
abbrev pub replicas_within : {X : Type 0} (n : ℕ) → (1 ≤ n → n ≤ 15 → Result X QuorumRefusal) → Dec (1 ≤ n) → Dec (n ≤ 15) → Result X QuorumRefusal
replicas_within n make (yes l) (yes m) = make l m
replicas_within n make (yes l) (no m) = Err ReplicaCount
replicas_within n make (no l) m = Err ReplicaCount

-- the majority rule over n replicas
abbrev pub majority_of : ℕ → Result Majority QuorumRefusal
majority_of n = replicas_within n (λ l m. Ok (record { replicas = n; some = l; few = m })) (dec_le 1 n) (dec_le n 15)

-- whether a set is enough by a majority rule
abbrev pub majority_enough : Majority → (ℕ → Bool) → Bool
majority_enough q f = most q.replicas f

-- the weights, and 0 for each place up to 15 that is no replica's
abbrev pub padded : List ℕ → List ℕ
padded ws = ws ++ replicate (15 - length ws) 0

-- what all replicas weigh together
abbrev pub total_weight : List ℕ → ℕ
total_weight ws = weigh (weight_at (padded ws)) all (length ws)

-- the rule of the weights where they are not all 0, and refusal 10 elsewhere
abbrev pub weighing : (ws : List ℕ) → 1 ≤ length ws → length ws ≤ 15 → Dec (1 ≤ total_weight ws) → Result Weighted QuorumRefusal
weighing ws l m (yes h) = Ok (record { weights = padded ws; replicas = length ws; some = l; few = m; weighs = h })
weighing ws l m (no h) = Err Weightless

-- the rule of the weights, one for each replica
abbrev pub weighted_of : List ℕ → Result Weighted QuorumRefusal
weighted_of ws =
    replicas_within (length ws) (λ l m. weighing ws l m (dec_le 1 (total_weight ws))) (dec_le 1 (length ws)) (dec_le (length ws) 15)

-- whether a set is enough by a rule of weights
abbrev pub weighted_enough : Weighted → (ℕ → Bool) → Bool
weighted_enough q f = heavy (weight_at q.weights) q.replicas f
