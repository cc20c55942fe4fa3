-- What comes of an event. Assumes nothing.
use Rattle.std.specs.Prelude.{ℕ, Bool, cond, None, Ok, Err, Option}
use Rattle.cluster.specs.declared.answer.Answer.{Answer}
use Rattle.cluster.specs.declared.answer.ClusterFault.{ClusterFault}
use Rattle.cluster.specs.declared.answer.Failure.TheVariants.{Fault, Refused}
use Rattle.cluster.specs.declared.refusal.Refusal.{Refusal}
use Rattle.replica.specs.declared.fault.ReplicaFault.{ReplicaFault}
use Rattle.replica.specs.declared.reaction.Outcome.{Outcome}

-- a replica's fault, before the call that knows the place has named it
abbrev pub met : ReplicaFault → ClusterFault
met f = record { replica = f; place = 0 }

-- a refused event
abbrev pub refused : Refusal → Answer
refused r = record { outcome = Err (Refused r); sent = 0; dropped = 0; stored = 0 }

-- an event at this place of a list that ended with a fault
abbrev pub failed : ℕ → ReplicaFault → Answer
failed place f = record { outcome = Err (Fault (record { replica = f; place = place })); sent = 0; dropped = 0; stored = 0 }

-- an accepted event, in which something was finished or nothing
abbrev pub answered : Option Outcome → ℕ → ℕ → Bool → Answer
answered o sent dropped stored = record { outcome = Ok o; sent = sent; dropped = dropped; stored = cond stored 1 0 }

-- nothing is finished, sent or stored
abbrev pub quiet : Answer
quiet = record { outcome = Ok None; sent = 0; dropped = 0; stored = 0 }
