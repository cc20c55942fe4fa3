-- The refusals of a replica. Assumes nothing.
use Rattle.std.specs.Prelude.{ℕ}
use Rattle.replica.specs.Faults.{number_of}
use Rattle.replica.specs.declared.refusal.ReplicaRefusal.{ReplicaRefusal}
use Rattle.replica.specs.declared.refusal.ReplicaRefusal.TheVariants.{Down, NotDown, NotIdle, RoundsUsedUp, IncarnationsUsedUp, NothingToResend, Failed}

abbrev pub refusal_number : ReplicaRefusal → ℕ
refusal_number Down = 11
refusal_number NotDown = 12
refusal_number NotIdle = 13
refusal_number RoundsUsedUp = 15
refusal_number IncarnationsUsedUp = 16
refusal_number NothingToResend = 20
refusal_number (Failed f) = number_of f
