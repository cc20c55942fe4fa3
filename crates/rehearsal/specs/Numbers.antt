-- Numbers in base ten. Assumes nothing.
use Rattle.std.specs.Prelude.{ℕ, ◌^◌, cond, ◌&&◌, List, [], ◌∷◌, Some, None, Option, nat_lt}
use Rattle.std.specs.Str.{all_ascii_digits}
use Rattle.std.specs.Str.Parse.{digits_value, digits_value_after}

-- the number that one digit or more write, if it is below 2^64; zeros in front do not matter
abbrev pub number_of : List ℕ → Option ℕ
number_of [] = None
number_of (b ∷ bs) = cond (all_ascii_digits (b ∷ bs) && nat_lt (digits_value 10 (b ∷ bs)) (2 ^ 64)) (Some (digits_value 10 (b ∷ bs))) None

-- the number that digits write after those of n, if it is below 2^64
abbrev pub number_after : ℕ → List ℕ → Option ℕ
number_after n bs = cond (all_ascii_digits bs && nat_lt (digits_value_after 10 n bs) (2 ^ 64)) (Some (digits_value_after 10 n bs)) None

-- a number with one digit more
abbrev pub with_digit : ℕ → ℕ → Option ℕ
with_digit n b = number_after n (b ∷ [])
