-- What opening a file answers. Assumes nothing.
use Rattle.std.specs.Prelude.{ℕ, ◌+◌, ◌*◌, ◌<◌, Bool, cond, ◌&&◌, not, List, length, Some, None, Ok, Err, Option, Result, ◌==◌, nat_lt, slice_index}
use Rattle.std.specs.List.{find, range_with_len}
use Rattle.storage.specs.ByteNumbers.{number_at}
use Rattle.storage.specs.Files.{RightPair, count_in, file_length, kind_in, place}
use Rattle.storage.specs.Memories.{count_fits}
use Rattle.storage.specs.declared.file.opening.OpenRefusal.{OpenRefusal}
use Rattle.storage.specs.declared.file.opening.OpenRefusal.TheVariants.{Length, Header, Kind, Pair}

abbrev pub open_number : OpenRefusal → ℕ
open_number Length = 1
open_number Header = 2
open_number Kind = 3
open_number (Pair i) = 4

-- 1 to 15 replicas, and the two bytes after the kind are zero
abbrev pub head_fits : List ℕ → Bool
head_fits bs = count_fits (count_in bs) && (slice_index bs 2 == 0 && slice_index bs 3 == 0)

-- pair i is that of replica i
abbrev pub pair_fits : List ℕ → ℕ → Bool
pair_fits bs i = number_at bs (4 + 8 * i) 4 == place (count_in bs) i && number_at bs (8 + 8 * i) 4 == 36

-- the first wrong pair
abbrev pub wrong_pair : List ℕ → Option ℕ
wrong_pair bs = find (λ i. not (pair_fits bs i)) (range_with_len 0 (count_in bs))

-- n replicas, unless a pair is wrong
abbrev pub by_pairs : ℕ → Option ℕ → Result ℕ OpenRefusal
by_pairs n None = Ok n
by_pairs n (Some i) = Err (Pair i)

-- the number of replicas, or the first of the refusals, in their order, that applies
abbrev pub opened : ℕ → List ℕ → Result ℕ OpenRefusal
opened kind bs =
    cond (nat_lt (length bs) 4) (Err Length)
    (cond (head_fits bs)
    (cond (length bs == file_length (count_in bs))
    (cond (kind_in bs == kind) (by_pairs (count_in bs) (wrong_pair bs)) (Err Kind))
    (Err Length))
    (Err Header))

-- where the answer names a pair, that pair is wrong
abbrev pub NamesWrong : List ℕ → Result ℕ OpenRefusal → Type 0
NamesWrong bs (Ok n) = Unit {0}
NamesWrong bs (Err Length) = Unit {0}
NamesWrong bs (Err Header) = Unit {0}
NamesWrong bs (Err Kind) = Unit {0}
NamesWrong bs (Err (Pair i)) = (i < count_in bs) × (RightPair bs i → ⊥)
