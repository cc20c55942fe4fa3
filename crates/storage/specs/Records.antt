-- The 36 bytes of a page record: a page and its stores left. Assumes nothing.
use Rattle.std.specs.Prelude.{ℕ, ◌^◌, ◌<◌, List, ◌++◌}
use Rattle.storage.specs.ByteNumbers.{bytes_of, number_at, part}
use Rattle.storage.specs.declared.page.Page.{Page}
use Rattle.storage.specs.declared.stable.memory.Cell.{Cell}

-- the bytes of a record: its fields one after the other
unfoldable pub record_bytes : Cell → List ℕ
record_bytes c =
    bytes_of 4 c.left
    ++ (bytes_of 4 c.page.incarnation
    ++ (bytes_of 4 c.page.written.timestamp.sequence
    ++ (bytes_of 4 c.page.written.timestamp.replica
    ++ (bytes_of 8 c.page.written.code
    ++ (bytes_of 4 c.page.intended_sequence
    ++ bytes_of 8 c.page.intended_code)))))

-- the record in 36 bytes
unfoldable pub record_of : List ℕ → Cell
record_of bs = record {
  left = number_at bs 0 4;
  page = record {
    incarnation = number_at bs 4 4;
    written = record { timestamp = record { sequence = number_at bs 8 4; replica = number_at bs 12 4 }; code = number_at bs 16 8 };
    intended_sequence = number_at bs 24 4;
    intended_code = number_at bs 28 8;
  };
}

-- the record in the 36 bytes from k on
abbrev pub record_at : List ℕ → ℕ → Cell
record_at bs k = record_of (part bs k 36)

-- the record of each replica, from its page and its stores left
abbrev pub records_with : (ℕ → Page) → (ℕ → ℕ) → ℕ → Cell
records_with page left i = record { page = page i; left = left i }

-- a record whose numbers fit the bytes that they have
pub record Fit (c : Cell) : Type 0 where
  pub left : c.left < 2 ^ 32
  pub incarnation : c.page.incarnation < 2 ^ 32
  pub sequence : c.page.written.timestamp.sequence < 2 ^ 32
  pub replica : c.page.written.timestamp.replica < 2 ^ 32
  pub code : c.page.written.code < 2 ^ 64
  pub next_sequence : c.page.intended_sequence < 2 ^ 32
  pub next_code : c.page.intended_code < 2 ^ 64
