-- A number is read digit by digit. Assumes nothing.
use Rattle.std.proofs.Common.{◌≡◌, ℕ, ◌+◌, ◌*◌, ◌^◌, ◌<◌, ◌≤◌, Bool, true, false, cond, ◌&&◌, ltb, List, [], ◌∷◌, length, get_or, drop, Some, None, Option, sym, refl, subst, arith, ltb-false, ltb-true, le-ltb, lt-ltb}
use Rattle.std.proofs.lemmas.List.{drop_all, drop_more}
use Rattle.std.specs.Char.{digit_value, is_ascii_digit}
use Rattle.std.specs.Str.{all_ascii_digits}
use Rattle.std.specs.Str.Parse.{digits_value_after}
use Rattle.rehearsal.specs.Numbers.{number_after, with_digit}

-- digits only add to a number
grows : (n : ℕ) (bs : List ℕ) → n ≤ digits_value_after 10 n bs
grows n [] = omega arith
grows n (b ∷ bs) = let more = grows (n * 10 + digit_value b) bs in omega arith

-- where a digit could be appended the rest is read after it, and where not there is no number
abbrev pub Follows : (ℕ → Option ℕ) → Option ℕ → Option ℕ → Type 0
Follows rest (Some m) whole = (whole ≡ rest m) × (m < 2 ^ 64)
Follows rest None whole = whole ≡ None

-- the first digit of a row is appended, or there is none
pub digit_first : (n b : ℕ) (bs : List ℕ) → Follows (λ m. number_after m bs) (with_digit n b) (number_after n (b ∷ bs))
digit_first n b bs =
    go (is_ascii_digit b) (ltb m (2 ^ 64)) (all_ascii_digits bs) (ltb whole (2 ^ 64)) refl (ltb-true m (2 ^ 64)) (λ large. le-ltb whole (2 ^ 64) (let least = ltb-false m (2 ^ 64) large in let more = grows m bs in omega arith))
  where
    m : ℕ
    m = n * 10 + digit_value b

    whole : ℕ
    whole = digits_value_after 10 m bs

    go : (digit small digits fits : Bool) → number_after m bs ≡ cond (digits && fits) (Some whole) None → (small ≡ true → m < 2 ^ 64) → (small ≡ false → fits ≡ false) → Follows (λ k. number_after k bs) (cond ((digit && true) && small) (Some m) None) (cond ((digit && digits) && fits) (Some whole) None)
    go true true digits fits e t h = (sym e, t refl)
    go true false true fits e t h = rw (h refl)
    go true false false fits e t h = refl
    go false small digits fits e t h = refl

-- the digit at place i is appended, or there is none
pub digit_at : (bs : List ℕ) (i n : ℕ) {o : Option ℕ} → i < length bs → with_digit n (get_or bs i 0) ≡ o → Follows (λ m. number_after m (drop (i + 1) bs)) o (number_after n (drop i bs))
digit_at bs i n inside e =
    subst (λ (o : Option ℕ). Follows (λ m. number_after m (drop (i + 1) bs)) o (number_after n (drop i bs))) e (rw (drop_more bs i 0 inside) (digit_first n (get_or bs i 0) (drop (i + 1) bs)))

-- at the end of the digits the number is read
pub digits_end : (bs : List ℕ) (i n : ℕ) → length bs ≤ i → n < 2 ^ 64 → number_after n (drop i bs) ≡ Some n
digits_end bs i n all small = rw (drop_all i bs all, lt-ltb n (2 ^ 64) small)
