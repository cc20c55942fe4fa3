-- A word's number is what `parse` reads. Assumes nothing.
use Rattle.std.proofs.Common.{◌≡◌, ℕ, ◌^◌, ◌<◌, Bool, true, false, cond, ◌&&◌, ltb, List, length, Some, None, Ok, Err, Result, refl, ap, lt-ltb, ltb-true}
use Rattle.std.proofs.lemmas.Str.Parse.{IsNumeralModel, numerals_by_value, tells_all_ascii_digits}
use Rattle.std.specs.Result.{OkIff, result_ok}
use Rattle.std.specs.Str.{all_ascii_digits}
use Rattle.std.specs.Str.Parse.{IsNumeral, ParsesUnsigned, digits_value, without_leading_plus}
use Rattle.transfer.specs.Commands.{number_below, number_in}

own : IsNumeralModel (λ ds. all_ascii_digits ds ≡ true) (digits_value 10)
own = numerals_by_value _ tells_all_ascii_digits

number_read : {E : Type 0} (k : ℕ) (ds : List ℕ) (r : Result ℕ E) → OkIff r (IsNumeral 10 ds × (digits_value 10 ds < 2 ^ k)) (digits_value 10 ds) → result_ok r ≡ number_below k ds
number_read k ds (Ok x) h = rw (lt-ltb 0 (length ds) h.0.0.0, own.from ds h.0.0.1, lt-ltb (digits_value 10 ds) (2 ^ k) h.0.1) (ap Some h.1)
number_read k ds (Err e) h = go (ltb 0 (length ds)) (all_ascii_digits ds) (ltb (digits_value 10 ds) (2 ^ k)) (λ n d s. h ((ltb-true 0 (length ds) n, own.to ds d), ltb-true (digits_value 10 ds) (2 ^ k) s))
  where
    go : (some digits small : Bool) → (some ≡ true → digits ≡ true → small ≡ true → ⊥) → None ≡ cond (some && digits && small) (Some (digits_value 10 ds)) None
    go true true true f = absurd (f refl refl refl)
    go true true false f = refl
    go true false small f = refl
    go false digits small f = refl

pub parsed : {E : Type 0} (k : ℕ) (word : List ℕ) (r : Result ℕ E) → ParsesUnsigned k 10 word r → result_ok r ≡ number_in k word
parsed k word r h = number_read k (without_leading_plus word) r h
