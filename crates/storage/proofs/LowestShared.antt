-- A search through numbers from one up finds one. Assumes nothing.
use Rattle.std.proofs.Common.{◌≡◌, ℕ, zero, suc, ◌+◌, ◌<◌, ◌≤◌, Bool, true, false, cond, is_some, Some, Option, refl, arith, ⊎_elim}
use Rattle.std.specs.List.{find, range_with_len}
use Rattle.std.proofs.lemmas.Bool.{cases_eq}

-- where one of the numbers a to a + n - 1 passes, some number is found
pub found : (test : ℕ → Bool) (a n k : ℕ) → a ≤ k → k < a + n → test k ≡ true → is_some (find test (range_with_len a n)) ≡ true
found test a zero k l m h = absurd (omega arith)
found test a (suc n) k l m h =
    ⊎_elim
    (λ (e : a ≡ k). rw (e, h))
    (λ ne. later (test a) (find test (range_with_len (a + 1) n)) (found test (a + 1) n k (omega (arith, ne)) (omega arith) h))
    (cases_eq a k)
  where
    later : (b : Bool) (o : Option ℕ) → is_some o ≡ true → is_some (cond b (Some a) o) ≡ true
    later true o p = refl
    later false o p = p
