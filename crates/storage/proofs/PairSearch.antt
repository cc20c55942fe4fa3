-- The search for a wrong pair, and what it says of all. Assumes nothing.
use Rattle.std.proofs.Common.{◌≡◌, ℕ, ◌<◌, ◌≤◌, true, false, List, Some, None, Option, MatchOption, IfNone, arith}
use Rattle.std.proofs.lemmas.Bool.{and_from, and_parts, eq-eqb, eqb-true}
use Rattle.storage.specs.Files.{RightPair}
use Rattle.storage.specs.Opened.{pair_fits}

pub fits_from : (bs : List ℕ) (i : ℕ) → RightPair bs i → pair_fits bs i ≡ true
fits_from bs i p = and_from _ _ (eq-eqb _ _ p.0) (eq-eqb _ _ p.1)

pub right_from : (bs : List ℕ) (i : ℕ) → pair_fits bs i ≡ true → RightPair bs i
right_from bs i h = let both = and_parts _ _ h in (eqb-true _ _ both.0, eqb-true _ _ both.1)

pub wrong_from : (bs : List ℕ) (i : ℕ) → pair_fits bs i ≡ false → RightPair bs i → ⊥
wrong_from bs i h p = let e = fits_from bs i p in grind (arith, e, h)

module _ (bs : List ℕ) (n : ℕ) where
  -- the answer of the search: that all are right, or one that is wrong
  abbrev pub Says : Option ℕ → Type 0
  Says r = MatchOption r ((i : ℕ) → i < n → RightPair bs i) (λ i. (i < n) × (RightPair bs i → ⊥))

  -- a search from lo on, where nothing lies below lo
  pub says : (lo : ℕ) (r : Option ℕ) → MatchOption r ((k : ℕ) → lo ≤ k → k < n → RightPair bs k) (λ i. (lo ≤ i) × (i < n) × (RightPair bs i → ⊥) × ((k : ℕ) → lo ≤ k → k < i → RightPair bs k)) → lo ≤ 0 → Says r
  says lo None h least = λ k l. h k (omega arith) l
  says lo (Some i) h least = (h.1, h.2)

  pub if_none : {S : Type 0} (r : Option ℕ) → Says r → (((i : ℕ) → i < n → RightPair bs i) → S) → IfNone r S
  if_none None h f = f h
  if_none (Some i) h f = tt
