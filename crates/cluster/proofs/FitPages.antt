-- The pages of a fit storage. Assumes nothing.
use Rattle.std.proofs.Common.{◌≡◌, ℕ, zero, suc, ◌+◌, ◌<◌, ◌≤◌, Bool, true, false, cond, eqb, Some, None, Ok, Err, Option, Result, refl, subst, inl, inr, arith}
use Rattle.cluster.specs.Fitness.{by_page, lowest_unfit, page_fits}
use Rattle.cluster.specs.declared.refusal.Refusal.{Refusal}
use Rattle.cluster.specs.declared.refusal.Refusal.TheVariants.{ReplicaCount}
use Rattle.std.proofs.lemmas.Bool.{cases_eq}
use Rattle.storage.specs.Storages.{updated}
use Rattle.storage.specs.declared.page.Page.{Page}

-- what a search that finds no unfit page says of the first one and of the rest
none_here : (b : Bool) (x : Option ℕ) (i : ℕ) → cond b x (Some i) ≡ None → (b ≡ true) × (x ≡ None)
none_here true x i e = (refl, e)
none_here false x i e = absurd cc

module _ (n : ℕ) (valid : ℕ → Bool) (pages : ℕ → Page) where
  -- each page is fit
  pub page_read : (i m k : ℕ) → lowest_unfit n valid pages i m ≡ None → i ≤ k → k < i + m → page_fits n valid (pages k) ≡ true
  page_read i zero k e l h = absurd (omega arith)
  page_read i (suc m) k e l h =
      let first = none_here (page_fits n valid (pages i)) _ i e in
      elim (cases_eq i k) [ inl here ↦ subst (λ (j : ℕ). page_fits n valid (pages j) ≡ true) here first.0 | inr apart ↦ page_read (i + 1) m k first.1 (omega arith) (omega arith) ]

  -- a fit page may take the place of any
  pub none_stored : (j : ℕ) (p : Page) → page_fits n valid p ≡ true → (i m : ℕ) → lowest_unfit n valid pages i m ≡ None → lowest_unfit n valid (updated pages j p) i m ≡ None
  none_stored j p f i zero e = refl
  none_stored j p f i (suc m) e =
      let first = none_here (page_fits n valid (pages i)) _ i e in
      rw (either (eqb i j) first.0) (none_stored j p f (i + 1) m first.1)
    where
      either : (b : Bool) → page_fits n valid (pages i) ≡ true → page_fits n valid (cond b p (pages i)) ≡ true
      either true h = f
      either false h = h

-- a fit storage has the quorum's number of replicas, and no unfit page
pub fitness_parts : (b : Bool) (o : Option ℕ) → ◌≡◌ {A = Result (Unit {0}) Refusal} (cond b (by_page o) (Err ReplicaCount)) (Ok tt) → (b ≡ true) × (o ≡ None)
fitness_parts true None e = (refl, refl)
fitness_parts true (Some i) e = absurd cc
fitness_parts false o e = absurd cc
