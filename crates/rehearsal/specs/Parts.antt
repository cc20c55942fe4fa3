-- The parts of a line, which stand one space apart. Assumes nothing.
use Rattle.std.specs.Prelude.{ℕ, List, ◌==◌}
use Rattle.std.specs.List.{after_first, before_first}

-- what stands before the first space: all, where there is none
abbrev pub before_space : List ℕ → List ℕ
before_space bs = before_first (λ b. b == 32) bs

-- what stands after the first space: nothing, where there is none
abbrev pub after_space : List ℕ → List ℕ
after_space bs = after_first (λ b. b == 32) bs
