-- The layout of a lot transfer file. Assumes nothing.
use Rattle.std.specs.Prelude.{◌≡◌, ℕ, ◌+◌, ◌-◌, ◌*◌, ◌<◌, ◌≤◌, List, [], ◌∷◌, ◌++◌, length, slice_index, slice_index_or}
use Rattle.std.specs.List.{range_with_len, flat_map}
use Rattle.storage.specs.ByteNumbers.{bytes_of, number_at, overwritten}
use Rattle.storage.specs.Records.{record_at, record_bytes}
use Rattle.storage.specs.declared.page.Page.{Page}
use Rattle.storage.specs.declared.stable.memory.Cell.{Cell}

-- where the record of replica i begins in a file of n replicas
abbrev pub place : ℕ → ℕ → ℕ
place n i = 4 + 8 * n + 36 * i

-- how long a file of n replicas is
abbrev pub file_length : ℕ → ℕ
file_length n = 4 + 44 * n

-- the first four bytes
abbrev pub head_bytes : ℕ → ℕ → List ℕ
head_bytes n kind = n ∷ kind ∷ 0 ∷ 0 ∷ []

-- the pair of replica i: where its record begins, and how long that is
abbrev pub pair_bytes : ℕ → ℕ → List ℕ
pair_bytes n i = bytes_of 4 (place n i) ++ bytes_of 4 36

-- the pairs of replicas 0 to n - 1
abbrev pub pairs_bytes : ℕ → List ℕ
pairs_bytes n = flat_map (pair_bytes n) (range_with_len 0 n)

-- the records of replicas 0 to n - 1
abbrev pub records_bytes : (ℕ → Cell) → ℕ → List ℕ
records_bytes cell n = flat_map (λ i. record_bytes (cell i)) (range_with_len 0 n)

-- the file of n replicas and this kind in which replica i has the record `cell i`
abbrev pub file_of : ℕ → ℕ → (ℕ → Cell) → List ℕ
file_of n kind cell = head_bytes n kind ++ (pairs_bytes n ++ records_bytes cell n)

-- how many replicas a file says that it has
abbrev pub count_in : List ℕ → ℕ
count_in bs = slice_index bs 0

-- the kind of entry that a file says that it is for
abbrev pub kind_in : List ℕ → ℕ
kind_in bs = slice_index bs 1

-- the record of replica i in a file of n replicas, its page, and the stores that it has left
abbrev pub record_in : List ℕ → ℕ → ℕ → Cell
record_in bs n i = record_at bs (place n i)

abbrev pub page_in : List ℕ → ℕ → ℕ → Page
page_in bs n i = (record_in bs n i).page

abbrev pub left_in : List ℕ → ℕ → ℕ → ℕ
left_in bs n i = (record_in bs n i).left

-- the file of the n replicas whose records bs has, of the kind that bs says
abbrev pub file_held : List ℕ → ℕ → List ℕ
file_held bs n = file_of n (kind_in bs) (record_in bs n)

-- a file of n replicas after the page of replica i was stored: the 36 bytes of its record are new
abbrev pub file_stored : List ℕ → ℕ → ℕ → Page → List ℕ
file_stored bs n i new = overwritten bs (place n i) (record_bytes (record { page = new; left = left_in bs n i - 1 }))

-- pair i is that of replica i
abbrev pub RightPair : List ℕ → ℕ → Type 0
RightPair bs i = (number_at bs (4 + 8 * i) 4 ≡ place (count_in bs) i) × (number_at bs (8 + 8 * i) 4 ≡ 36)

-- bs is a file of this kind; its records may be any
pub record Accepted (kind : ℕ) (bs : List ℕ) : Type 0 where
  pub least : 1 ≤ count_in bs
  pub most : count_in bs ≤ 15
  pub same_kind : kind_in bs ≡ kind
  pub zero_a : slice_index_or bs 2 0 ≡ 0
  pub zero_b : slice_index_or bs 3 0 ≡ 0
  pub size : length bs ≡ file_length (count_in bs)
  pub pairs : (i : ℕ) → i < count_in bs → RightPair bs i

-- bs is a file of this kind and n replicas, and has the record `cell i` for replica i
pub record Keeps (n kind : ℕ) (cell : ℕ → Cell) (bs : List ℕ) : Type 0 where
  pub file : Accepted kind bs
  pub count : count_in bs ≡ n
  pub records : (i : ℕ) → i < n → record_in bs n i ≡ cell i
