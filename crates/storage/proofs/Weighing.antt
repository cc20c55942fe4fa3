-- What a set weighs, as a sum over the numbers from 0 up. Assumes nothing.
use Rattle.std.proofs.Common.{◌≡◌, ℕ, zero, suc, ◌+◌, ◌*◌, ◌^◌, ◌<◌, ◌≤◌, Bool, cond, List, [], ◌∷◌, refl, length, map, sym, ap, ◌∙◌, add-one, arith, sum_by, fold}
use Rattle.std.specs.List.{range_with_len, zip}
use Rattle.std.proofs.Math.Nat.{mod-eq_of_lt}
use Rattle.std.proofs.lemmas.List.{map-id}
use Rattle.std.proofs.lemmas.List.FromFn.{fill_by_all, get_or-range_with_len, length-range_with_len, sum_by-map-range_with_len_more}
use Rattle.std.proofs.lemmas.List.Sums.{sum_by-cons}
use Rattle.std.proofs.lemmas.Slice.Zip.{get_or-zip, length-zip}
use Rattle.storage.specs.Weights.{all, weigh, weight_at, with_weight}

-- what f holds weighs the sum of the weights from 0 up, at 0 for a replica that it does not hold
pub weigh_sum : (w : ℕ → ℕ) (f : ℕ → Bool) (n : ℕ) → sum_by (λ k. cond (f k) (w k) 0) (range_with_len 0 n) ≡ weigh w f n
weigh_sum w f zero = refl
weigh_sum w f (suc n) =
    let more = simp add-one at (simp map-id at (sum_by-map-range_with_len_more (λ k. cond (f k) (w k) 0) (λ k. k) 0 n n (omega arith))) in
    more ∙ ap (λ t. t + cond (f n) (w n) 0) (weigh_sum w f n)

-- a sum over what a map gives is the sum of what it gives of each
sum_by_map : {X Y : Type 0} (w : Y → ℕ) (g : X → Y) (xs : List X) → sum_by w (map g xs) ≡ sum_by (λ x. w (g x)) xs
sum_by_map w g [] = refl
sum_by_map w g (x ∷ xs) = sum_by-cons w (g x) (map g xs) ∙ ap (λ t. w (g x) + t) (sum_by_map w g xs) ∙ sym (sum_by-cons (λ y. w (g y)) x xs)

-- a list beside the numbers from 0 up
zip_range : (ws : List ℕ) (n : ℕ) → n ≤ length ws → zip ws (range_with_len 0 n) ≡ map (λ k. (weight_at ws k, k)) (range_with_len 0 n)
zip_range ws n l = fill_by_all {X = ℕ × ℕ} (λ k. (weight_at ws k, k)) (zip ws (range_with_len 0 n)) n (0, 0)
    (length-zip ws (range_with_len 0 n) ∙ grind (arith, length-range_with_len 0 n))
    (λ k m. get_or-zip ws (range_with_len 0 n) k (0, 0) (omega arith) (omega (arith, length-range_with_len 0 n)) ∙ ap (λ j. (weight_at ws k, j)) (get_or-range_with_len 0 n k 0 m ∙ omega arith))

-- what a chain gives that puts each weight beside its replica, takes it at 0 where it is no member, and sums
pub weigh_zipped : (ws : List ℕ) (f : ℕ → Bool) (n : ℕ) → n ≤ length ws → sum_by (λ (p : ℕ × ℕ). cond (f p.1) p.0 0) (zip ws (range_with_len 0 n)) ≡ weigh (weight_at ws) f n
weigh_zipped ws f n l =
    ap (sum_by (λ (p : ℕ × ℕ). cond (f p.1) p.0 0)) (zip_range ws n l)
    ∙ sum_by_map (λ (p : ℕ × ℕ). cond (f p.1) p.0 0) (λ k. (weight_at ws k, k)) (range_with_len 0 n)
    ∙ weigh_sum (weight_at ws) f n

-- where each weight is a byte, n replicas weigh at most 255 each
pub weigh_most : (w : ℕ → ℕ) (f : ℕ → Bool) → ((k : ℕ) → w k ≤ 255) → (n : ℕ) → weigh w f n ≤ 255 * n
weigh_most w f h zero = omega arith
weigh_most w f h (suc n) = one_more (f n) (w n) (weigh w f n) (weigh_most w f h n) (h n)
  where
    one_more : (b : Bool) (x t : ℕ) → t ≤ 255 * n → x ≤ 255 → t + cond b x 0 ≤ 255 * suc n
    one_more b x t l m = grind arith

-- equal parts make equal pairs
both : {a b c d : ℕ} → a ≡ b → c ≡ d → ◌≡◌ {A = ℕ × ℕ} (a, c) (b, d)
both j k = cc

-- what a fold adds for a weight beside its replica, where f says which are held
abbrev pub weights_with : (ℕ → Bool) → ℕ × ℕ → ℕ × ℕ → ℕ × ℕ
weights_with f sums p = with_weight sums p.0 (f p.1)

-- where both sums have room, the fold gives them
folded_sums : (f : ℕ → Bool) (ps : List (ℕ × ℕ)) (t h : ℕ) → t + sum_by (λ (p : ℕ × ℕ). p.0) ps < 2 ^ 32 → h + sum_by (λ (p : ℕ × ℕ). cond (f p.1) p.0 0) ps < 2 ^ 32
    → fold (weights_with f) (t, h) ps ≡ (t + sum_by (λ (p : ℕ × ℕ). p.0) ps, h + sum_by (λ (p : ℕ × ℕ). cond (f p.1) p.0 0) ps)
folded_sums f [] t h l m = grind arith
folded_sums f (p ∷ ps) t h l m =
    let first = sum_by-cons (λ (q : ℕ × ℕ). q.0) p ps in
    let second = sum_by-cons (λ (q : ℕ × ℕ). cond (f q.1) q.0 0) p ps in
    ap (λ a. fold (weights_with f) a ps) (both (mod-eq_of_lt (omega (arith, first, l))) (mod-eq_of_lt (omega (arith, second, m))))
    ∙ folded_sums f ps (t + p.0) (h + cond (f p.1) p.0 0) (omega (arith, first, l)) (omega (arith, second, m))
    ∙ both (omega (arith, first)) (omega (arith, second))

-- and so, of bytes beside the numbers from 0 up, what all replicas weigh and what f holds
pub folded_weights : (ws : List ℕ) (f : ℕ → Bool) (n : ℕ) → n ≤ length ws → n ≤ 15 → ((k : ℕ) → weight_at ws k ≤ 255) → fold (weights_with f) (0, 0) (zip ws (range_with_len 0 n)) ≡ (weigh (weight_at ws) all n, weigh (weight_at ws) f n)
folded_weights ws f n l few byte =
    let total = weigh_zipped ws all n l in
    let held = weigh_zipped ws f n l in
    folded_sums f (zip ws (range_with_len 0 n)) 0 0 (omega (arith, total, weigh_most (weight_at ws) all byte n)) (omega (arith, held, weigh_most (weight_at ws) f byte n))
    ∙ both (omega (arith, total)) (omega (arith, held))
