-- The first line: of what register the run is. Assumes nothing.
use Rattle.std.specs.Prelude.{◌≡◌, ℕ, Bool, true, false, refl, ◌^◌, cond, List, length, Some, None, Ok, Err, Option, Result, nat_lt}
use Rattle.rehearsal.specs.Commands.{with_number}
use Rattle.rehearsal.specs.Numbers.{number_of}
use Rattle.rehearsal.specs.Parts.{after_space, before_space}
use Rattle.rehearsal.specs.declared.opening.Opening.{Opening}
use Rattle.storage.specs.Kinds.{kind_of}
use Rattle.storage.specs.Memories.{count_fits}
use Rattle.storage.specs.declared.entry.kind.Kind.{Kind}
use Rattle.storage.specs.declared.entry.kind.NoSuchKind.{NoSuchKind}

abbrev pub opening_with : (n : ℕ) → count_fits n ≡ true → Result Kind NoSuchKind → ℕ → Option Opening
opening_with n fits (Ok k) stores = Some (record { replicas = n; kind = k; stores = stores; fits = fits })
opening_with n fits (Err e) stores = None

-- what `make` gives where the test holds, and nothing elsewhere
abbrev pub where_true : {X : Type 0} (t : Bool) → (t ≡ true → Option X) → Option X
where_true true make = make refl
where_true false make = None

-- 1 to 15 replicas, the number of a kind, stores below 2^32
abbrev pub within_range : ℕ → ℕ → ℕ → Option Opening
within_range n kind stores = where_true (count_fits n) (λ fits. cond (nat_lt stores (2 ^ 32)) (opening_with n fits (kind_of kind) stores) None)

-- "n kind stores"
abbrev pub parted : List ℕ → Option Opening
parted bs =
    with_number (number_of (before_space bs))
    (λ n. with_number (number_of (before_space (after_space bs))) (λ kind. with_number (number_of (after_space (after_space bs))) (λ stores. within_range n kind stores)))

-- a line over 4,096 bytes is no first line
abbrev pub opening_of : List ℕ → Option Opening
opening_of line = cond (nat_lt 4096 (length line)) None (parted line)
