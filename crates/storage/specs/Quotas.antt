-- An allowance of stores over other storage. Assumes nothing.
use Rattle.std.specs.Prelude.{ℕ, min, cond, List, map, nat_le, slice_index}
use Rattle.std.specs.List.{range_with_len}
use Rattle.storage.specs.Faults.{over}

-- the allowances of replicas 0 to 14: those given, and 0 where none is
abbrev pub allowed : List ℕ → List ℕ
allowed given = map (λ i. slice_index given i) (range_with_len 0 15)

-- the stores left under an allowance
abbrev pub left_under : ℕ → ℕ → ℕ
left_under allowance below = min allowance below

-- the layer that refuses once none is left: the quota itself where its allowance is used up no later
-- than what is below, and else the layer below, seen from above
abbrev pub layer_under : ℕ → ℕ → ℕ → ℕ
layer_under allowance below l = cond (nat_le allowance below) 0 (over l)
