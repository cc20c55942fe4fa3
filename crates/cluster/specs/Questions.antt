-- What a cluster answers to questions. Assumes nothing.
use Rattle.std.specs.Prelude.{ℕ, cond, length, None, Ok, Err, Option, Result, nat_lt, slice_index_or}
use Rattle.cluster.specs.Fitness.{fitness}
use Rattle.cluster.specs.States.{Setup, State, record_at}
use Rattle.cluster.specs.Transits.{newest_of, no_message}
use Rattle.cluster.specs.declared.refusal.Refusal.{Refusal}
use Rattle.cluster.specs.declared.refusal.Refusal.TheVariants.{NoMessage, NoSuchReplica}
use Rattle.replica.specs.declared.message.Message.{Message}
use Rattle.replica.specs.declared.record.Status.{Status}

abbrev pub asked_if : {X : Type 0} → Result (Unit {0}) Refusal → Result X Refusal → Result X Refusal
asked_if (Ok x) r = r
asked_if (Err f) r = Err f

-- an unfit storage or quorum refuses every question
abbrev pub asked : {X : Type 0} → Setup → State → Result X Refusal → Result X Refusal
asked u s r = asked_if (fitness u.replicas u.size u.valid s.page) r

abbrev pub counted : Setup → State → Result ℕ Refusal
counted u s = asked u s (Ok (length s.transit))

abbrev pub message_at : Setup → State → ℕ → Result Message Refusal
message_at u s p = asked u s (cond (nat_lt p (length s.transit)) (Ok (slice_index_or s.transit p no_message)) (Err NoMessage))

abbrev pub status_of : Setup → State → ℕ → Result Status Refusal
status_of u s i = asked u s (cond (nat_lt i u.replicas) (Ok (record_at s i).status) (Err NoSuchReplica))

abbrev pub newest_to : Setup → State → ℕ → Result (Option Message) Refusal
newest_to u s i = asked u s (cond (nat_lt i u.replicas) (Ok (newest_of i None s.transit)) (Err NoSuchReplica))
