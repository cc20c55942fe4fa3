-- The first unfit page of a search from 0 up is the lowest. Assumes nothing.
use Rattle.std.proofs.Common.{◌≡◌, ℕ, zero, suc, ◌+◌, ◌<◌, ◌≤◌, Bool, true, false, Some, None, MatchOption, Option, sym, refl, ap, inl, inr, arith}
use Rattle.cluster.specs.Fitness.{lowest_unfit, page_fits}
use Rattle.std.proofs.lemmas.Bool.{cases_eq}
use Rattle.storage.specs.declared.page.Page.{Page}

module _ (n : ℕ) (valid : ℕ → Bool) (pages : ℕ → Page) where
  -- a page of the storage is fit
  abbrev pub Passes : ℕ → Type 0
  Passes k = k < n → page_fits n valid (pages k) ≡ true

  abbrev pub Stops : ℕ → Type 0
  Stops k = page_fits n valid (pages k) ≡ false

  pub first_unfit : (i m : ℕ) → i + m ≡ n → (r : Option ℕ) → MatchOption r ((k : ℕ) → i ≤ k → k < n → Passes k) (λ j. (i ≤ j) × (j < n) × Stops j × ((k : ℕ) → i ≤ k → k < j → Passes k)) → r ≡ lowest_unfit n valid pages i m
  first_unfit i zero e None h = refl
  first_unfit i zero e (Some j) h = absurd (omega (arith, h.0, h.1))
  first_unfit i (suc m) e None h =
      let here : page_fits n valid (pages i) ≡ true = h i (omega arith) (omega arith) (omega arith) in
      rw here (first_unfit (i + 1) m (omega arith) None (λ k l. h k (omega arith)))
  first_unfit i (suc m) e (Some j) h =
      elim (cases_eq i j) [
        | inl same ↦ let here : page_fits n valid (pages i) ≡ false = (rw same h.2) in rw here (ap Some (sym same))
        | inr apart ↦
            let here : page_fits n valid (pages i) ≡ true = h.3 i (omega arith) (omega (arith, h.0)) (omega arith) in
            rw here (first_unfit (i + 1) m (omega arith) (Some j) (omega (arith, h.0), h.1, h.2, λ k l. h.3 k (omega arith)))
      ]
