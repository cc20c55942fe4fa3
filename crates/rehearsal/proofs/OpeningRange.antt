-- A first line whose count of replicas fits. Assumes nothing.
use Rattle.std.proofs.Common.{◌≡◌, ℕ, ◌^◌, Bool, true, false, cond, ltb, None, Option, refl, ap}
use Rattle.std.proofs.Math.Bool.{Bool-set}
use Rattle.storage.specs.Kinds.{kind_of}
use Rattle.storage.specs.Memories.{count_fits}
use Rattle.rehearsal.specs.Openings.{opening_with, where_true, within_range}

tested : {X : Type 0} (t : Bool) (make : t ≡ true → Option X) (e : t ≡ true) → where_true t make ≡ make e
tested true make e = ap make (Bool-set true true refl e)
tested false make e = cc

pub in_range : (n kind stores : ℕ) (fits : count_fits n ≡ true) → within_range n kind stores ≡ cond (ltb stores (2 ^ 32)) (opening_with n fits (kind_of kind) stores) None
in_range n kind stores fits = tested (count_fits n) (λ f. cond (ltb stores (2 ^ 32)) (opening_with n f (kind_of kind) stores) None) fits
