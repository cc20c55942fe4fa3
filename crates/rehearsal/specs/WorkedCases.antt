-- Worked cases: what the definitions say of numbers that a reader can check by hand. Assumes nothing.
use Rattle.std.specs.Prelude.{◌≡◌, ℕ, List, [], ◌∷◌, map, codes}
use Rattle.rehearsal.specs.Rehearsals.{rehearsed, waiting}
use Rattle.storage.specs.WorkedCases as storage

pub data Case : Type 0 where
  -- a case of an entry or a quorum
  below : storage.Case → Case
  -- what the lines of a script print
  script : (lines printed : List (List ℕ)) → Case

abbrev pub Holds : Case → Type 0
Holds (below c) = storage.Holds c
Holds (script lines printed) = rehearsed waiting lines ≡ printed

-- one replica comes back, writes 5, reads it, and there is no second replica
abbrev pub write_and_read : Case
write_and_read =
    script
    (codes "1 2 10" ∷ codes "B 0" ∷ codes "W 0 5" ∷ codes "D 0" ∷ codes "D 0" ∷ codes "D 0" ∷ codes "D 0" ∷ codes "R 0" ∷ codes "D 0" ∷ codes "D 0" ∷ codes "D 0" ∷ codes "D 0" ∷ codes "R 1" ∷ [])
    (codes "b 0 0 1 0" ∷ codes "- 1 0 0 1" ∷ codes "- 1 0 0 1" ∷ codes "- 1 0 1 1" ∷ codes "- 1 0 1 1" ∷ codes "w1 0 0 0 0" ∷ codes "- 1 0 0 1" ∷ codes "- 1 0 0 1" ∷ codes "- 1 0 0 1" ∷ codes "- 1 0 0 1" ∷ codes "r5 0 0 0 0" ∷ codes "x8 0 0 0 0" ∷ [])

abbrev pub cases : List Case
cases = write_and_read ∷ map below storage.cases
