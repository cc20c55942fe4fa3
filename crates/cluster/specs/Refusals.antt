-- The refusals of a cluster. Assumes nothing.
use Rattle.std.specs.Prelude.{ℕ}
use Rattle.cluster.specs.declared.refusal.Refusal.{Refusal}
use Rattle.cluster.specs.declared.refusal.Refusal.TheVariants.{ReplicaCount, Unfit, ShortAnswers, NoSuchReplica, NotOfKind, NoMessage, Replica}
use Rattle.replica.specs.Refusals.{refusal_number}

abbrev pub number_of : Refusal → ℕ
number_of ReplicaCount = 5
number_of (Unfit i) = 6
number_of ShortAnswers = 7
number_of NoSuchReplica = 8
number_of NotOfKind = 9
number_of NoMessage = 14
number_of (Replica r) = refusal_number r
