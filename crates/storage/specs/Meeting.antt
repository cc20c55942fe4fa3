-- Two sets that weigh more than half each share a replica: the laws of every quorum rule here. Assumes nothing.
use Rattle.std.specs.Prelude.{◌≡◌, ℕ, zero, suc, ◌+◌, ◌*◌, ◌<◌, ◌≤◌, Bool, true, false, cond, ◌⊎◌, nat_lt, refl}
use Rattle.std.proofs.Common.{ap, ap₂, subst, inl, inr, ⊎_elim, arith, add-zero, add-one}
use Rattle.std.proofs.Math.Path.{fun_ext}
use Rattle.std.proofs.lemmas.Bool.{ltb-true, lt-ltb}
use Rattle.storage.specs.Weights.{weigh, all, one, heavy, most}

-- a replica below n that both sets hold
abbrev pub Shared : (ℕ → Bool) → (ℕ → Bool) → ℕ → Type 0
Shared f g n = (k : ℕ) × (k < n) × (f k ≡ true) × (g k ≡ true)

-- what every rule over n replicas has to give
pub record Laws (n : ℕ) (enough : (ℕ → Bool) → Bool) : Type 0 where
  pub shared : (f g : ℕ → Bool) → enough f ≡ true → enough g ≡ true → Shared f g n
  pub more : (f g : ℕ → Bool) → ((k : ℕ) → k < n → f k ≡ true → g k ≡ true) → enough f ≡ true → enough g ≡ true
  pub below : (f g : ℕ → Bool) → ((k : ℕ) → k < n → f k ≡ g k) → enough f ≡ enough g
  pub full : enough all ≡ true

-- only weights and members below n count
pub weigh_same : (w v : ℕ → ℕ) (f g : ℕ → Bool) (n : ℕ) → ((k : ℕ) → k < n → (w k ≡ v k) × (f k ≡ g k)) → weigh w f n ≡ weigh v g n
weigh_same w v f g zero h = refl
weigh_same w v f g (suc n) h =
    let here = h n (omega arith) in
    let one_more : (x : ℕ) (b : Bool) → ℕ = λ x b. cond b x 0 in
    ap₂ (λ (x y : ℕ). x + y) (weigh_same w v f g n (λ k l. h k (omega arith))) (ap₂ one_more here.0 here.1)

module _ (w : ℕ → ℕ) where
  module _ (f g : ℕ → Bool) where
    -- one more replica, which f holds if a and g holds if b
    step : (n : ℕ) (a b : Bool) → f n ≡ a → g n ≡ b → Shared f g n ⊎ (weigh w f n + weigh w g n ≤ weigh w all n) → Shared f g (suc n) ⊎ (weigh w f n + cond a (w n) 0 + (weigh w g n + cond b (w n) 0) ≤ weigh w all n + w n)
    step n a b p q (inl (k, h, x, y)) = inl (k, omega arith, x, y)
    step n true true p q (inr h) = inl (n, omega arith, p, q)
    step n true false p q (inr h) = inr (omega arith)
    step n false b p q (inr h) = inr (grind arith)

    -- two sets share a replica, or weigh together no more than all
    meet : (n : ℕ) → Shared f g n ⊎ (weigh w f n + weigh w g n ≤ weigh w all n)
    meet zero = inr (omega arith)
    meet (suc n) = step n (f n) (g n) refl refl (meet n)

    -- two sets of more than half the weight share a replica
    heavy_shared : (n : ℕ) → heavy w n f ≡ true → heavy w n g ≡ true → Shared f g n
    heavy_shared n p q =
        ⊎_elim (λ s. s)
        (λ h. absurd (omega (arith, ltb-true (weigh w all n) (2 * weigh w f n) p, ltb-true (weigh w all n) (2 * weigh w g n) q)))
        (meet n)

    -- a set that holds what f holds below n weighs no less
    grow : (n : ℕ) → ((k : ℕ) → k < n → f k ≡ true → g k ≡ true) → weigh w f n ≤ weigh w g n
    grow zero h = omega arith
    grow (suc n) h = one_more (f n) (g n) (h n (omega arith)) (grow n (λ k l. h k (omega arith)))
      where
        one_more : (a b : Bool) → (a ≡ true → b ≡ true) → weigh w f n ≤ weigh w g n → weigh w f n + cond a (w n) 0 ≤ weigh w g n + cond b (w n) 0
        one_more true b i l = rw (i refl) (omega arith)
        one_more false b i l = grind arith

    -- and so what holds a set of more than half the weight has more than half
    heavy_more : (n : ℕ) → ((k : ℕ) → k < n → f k ≡ true → g k ≡ true) → heavy w n f ≡ true → heavy w n g ≡ true
    heavy_more n h p = lt-ltb _ _ (omega (arith, grow n h, ltb-true (weigh w all n) (2 * weigh w f n) p))

  -- the laws of the rule of weights, where there is any weight
  pub heavy_laws : (n : ℕ) → 1 ≤ weigh w all n → Laws n (heavy w n)
  heavy_laws n some = record {
    shared = λ f g. heavy_shared f g n;
    more = λ f g. heavy_more f g n;
    below = λ f g h. ap (λ (x : ℕ). nat_lt (weigh w all n) (2 * x)) (weigh_same w w f g n (λ k l. (refl, h k l)));
    full = lt-ltb _ _ (omega arith);
  }

-- all n replicas, of weight 1 each, weigh n
weigh-all : (n : ℕ) → weigh one all n ≡ n
weigh-all zero = refl
weigh-all (suc n) = omega (arith, weigh-all n)

-- a majority is what is heavy by weights of 1
pub heavy-most : (n : ℕ) (f : ℕ → Bool) → heavy one n f ≡ most n f
heavy-most n f = ap (λ (t : ℕ). nat_lt t (2 * weigh one f n)) (weigh-all n)

-- the laws of the majority, where there is any replica
pub most_laws : (n : ℕ) → 1 ≤ n → Laws n (most n)
most_laws n some = subst (Laws n) (fun_ext (heavy-most n)) (heavy_laws one n (omega (arith, weigh-all n)))

-- one more replica, which f holds
pub weigh_yes : (w : ℕ → ℕ) (f : ℕ → Bool) (n : ℕ) → f n ≡ true → weigh w f (n + 1) ≡ weigh w f n + w n
weigh_yes w f n h = rw (add-one, h)

-- and one that f does not hold
pub weigh_no : (w : ℕ → ℕ) (f : ℕ → Bool) (n : ℕ) → f n ≡ false → weigh w f (n + 1) ≡ weigh w f n
weigh_no w f n h = rw (add-one, h) (add-zero (weigh w f n))
