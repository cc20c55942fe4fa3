-- What the words of the command line ask for. Assumes nothing.
use Rattle.std.specs.Prelude.{ℕ, ◌-◌, ◌^◌, cond, ◌&&◌, List, [], ◌∷◌, length, codes, Some, None, Option, nat_lt}
use Rattle.std.specs.Result.{result_ok}
use Rattle.std.specs.Str.{all_ascii_digits, bytes_eq}
use Rattle.std.specs.Str.Parse.{digits_value, without_leading_plus}
use Rattle.storage.specs.Kinds.{kind_of}
use Rattle.storage.specs.declared.entry.kind.Kind.{Kind}
use Rattle.transfer.specs.declared.command.Command.{Command}
use Rattle.transfer.specs.declared.command.Command.TheVariants.{Walk, Blank, Check, Show}

-- a command, with its path as bytes
pub data Order : Type 0 where
  walk : Order
  blank : (replicas : ℕ) (kind : Kind) (stores : ℕ) (path : List ℕ) → Order
  check : (path : List ℕ) → Order
  show : (path : List ℕ) → Order

abbrev pub order_of : Command → Order
order_of Walk = walk
order_of (Blank n k s p) = blank n k s p.now
order_of (Check p) = check p.now
order_of (Show p) = show p.now

-- the number below 2^k that digits write, behind a plus or not
abbrev pub number_below : ℕ → List ℕ → Option ℕ
number_below k ds = cond (nat_lt 0 (length ds) && all_ascii_digits ds && nat_lt (digits_value 10 ds) (2 ^ k)) (Some (digits_value 10 ds)) None

abbrev pub number_in : ℕ → List ℕ → Option ℕ
number_in k word = number_below k (without_leading_plus word)

-- the kind of one digit
abbrev pub kind_in : List ℕ → Option Kind
kind_in [] = None
kind_in (b ∷ []) = result_ok (kind_of (b - 48))
kind_in (b ∷ (c ∷ bs)) = None

abbrev pub blank_of : Option ℕ → Option Kind → Option ℕ → List ℕ → Option Order
blank_of (Some n) (Some k) (Some s) path = Some (blank n k s path)
blank_of (Some n) (Some k) None path = None
blank_of (Some n) None s path = None
blank_of None k s path = None

-- "check path" or "show path"
abbrev pub file_order : List ℕ → List ℕ → Option Order
file_order verb path = cond (bytes_eq verb (codes "check")) (Some (check path)) (cond (bytes_eq verb (codes "show")) (Some (show path)) None)

-- "blank replicas kind stores path"
abbrev pub blank_order : List ℕ → List ℕ → List ℕ → List ℕ → List ℕ → Option Order
blank_order verb replicas kind stores path = cond (bytes_eq verb (codes "blank")) (blank_of (number_in 64 replicas) (kind_in kind) (number_in 32 stores) path) None

-- the first word is the program's own name
abbrev pub order_in : List (List ℕ) → Option Order
order_in [] = None
order_in (name ∷ []) = Some walk
order_in (name ∷ (a ∷ [])) = None
order_in (name ∷ (verb ∷ (path ∷ []))) = file_order verb path
order_in (name ∷ (a ∷ (b ∷ (c ∷ [])))) = None
order_in (name ∷ (a ∷ (b ∷ (c ∷ (d ∷ []))))) = None
order_in (name ∷ (verb ∷ (replicas ∷ (kind ∷ (stores ∷ (path ∷ [])))))) = blank_order verb replicas kind stores path
order_in (name ∷ (a ∷ (b ∷ (c ∷ (d ∷ (e ∷ (f ∷ more))))))) = None
