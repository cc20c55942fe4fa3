-- Numbers as bytes, lowest byte first, and bytes within bytes. Assumes nothing.
use Rattle.std.specs.Prelude.{ℕ, ◌+◌, ◌*◌, List, [], ◌∷◌, ◌++◌, length, take, drop}
use Rattle.std.specs.Int.{bytes_low_first}

-- the lowest w bytes of n
abbrev pub bytes_of : ℕ → ℕ → List ℕ
bytes_of w n = bytes_low_first 0 w n

-- the number that bytes stand for
abbrev pub number_of : List ℕ → ℕ
number_of [] = 0
number_of (b ∷ bs) = b + number_of bs * 256

-- the w bytes of bs from k on
abbrev pub part : List ℕ → ℕ → ℕ → List ℕ
part bs k w = take w (drop k bs)

-- the number in the w bytes from k on
abbrev pub number_at : List ℕ → ℕ → ℕ → ℕ
number_at bs k w = number_of (part bs k w)

-- bs with ys written over it from k on
abbrev pub overwritten : List ℕ → ℕ → List ℕ → List ℕ
overwritten bs k ys = take k bs ++ (ys ++ drop (k + length ys) bs)
