-- A table in memory, as the meaning of stable storage. Assumes nothing.
use Rattle.std.specs.Prelude.{ℕ, ◌-◌, Bool, cond, ◌&&◌, List, Ok, Err, Result, nat_le, nat_lt, slice_index_or}
use Rattle.storage.specs.Pages.{blank_page}
use Rattle.storage.specs.Faults.{no_stores}
use Rattle.storage.specs.declared.fault.StorageFault.{StorageFault}
use Rattle.storage.specs.declared.page.Page.{Page}
use Rattle.storage.specs.declared.stable.memory.Cell.{Cell}
use Rattle.storage.specs.declared.stable.memory.MakeError.{MakeError}
use Rattle.storage.specs.declared.stable.memory.MakeError.TheVariants.{NoMemory, ReplicaCount}

-- the cell of a replica that has stored nothing and may store so often
abbrev pub blank_cell : ℕ → Cell
blank_cell stores = record { page = blank_page; left = stores }

-- past the end of the table a page is blank, and no store is left
abbrev pub cell_at : List Cell → ℕ → Cell
cell_at cells i = slice_index_or cells i (blank_cell 0)

abbrev pub page_at : List Cell → ℕ → Page
page_at cells i = (cell_at cells i).page

abbrev pub left_at : List Cell → ℕ → ℕ
left_at cells i = (cell_at cells i).left

-- a cell of replica i after a store of a page: it is refused where no store is left, and else takes one
abbrev pub cell_stored : ℕ → Cell → Page → Result Cell StorageFault
cell_stored i c new = cond (nat_lt 0 c.left) (Ok (record { page = new; left = c.left - 1 })) (Err (no_stores i 0))

-- a storage is made for 1 to 15 replicas, and so is a quorum rule
abbrev pub count_fits : ℕ → Bool
count_fits n = nat_le 1 n && nat_le n 15

-- why none was made for n
abbrev pub unmade : ℕ → MakeError
unmade n = cond (count_fits n) NoMemory ReplicaCount

abbrev pub made_number : MakeError → ℕ
made_number NoMemory = 0
made_number ReplicaCount = 5
