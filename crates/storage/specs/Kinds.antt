-- The kinds of entry and their numbers. Assumes nothing.
use Rattle.std.specs.Prelude.{ℕ, cond, Ok, Err, Result, ◌==◌}
use Rattle.storage.specs.declared.entry.kind.Kind.{Kind}
use Rattle.storage.specs.declared.entry.kind.Kind.TheVariants.{Bid, Span}
use Rattle.storage.specs.declared.entry.kind.NoSuchKind.{NoSuchKind}

abbrev pub kind_number : Kind → ℕ
kind_number Bid = 1
kind_number Span = 2

-- the kind of this number, and the number itself where no kind has it
abbrev pub kind_of : ℕ → Result Kind NoSuchKind
kind_of n = cond (n == 1) (Ok Bid) (cond (n == 2) (Ok Span) (Err (record { 0 = n })))

-- the number by which a number of no kind is refused: that of a file of another kind
abbrev pub no_kind_number : NoSuchKind → ℕ
no_kind_number e = 3
