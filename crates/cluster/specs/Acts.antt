-- What each event does to a cluster. Assumes nothing.
use Rattle.std.specs.Prelude.{ℕ, ◌-◌, false, cond, length, Some, None, Ok, Err, Option, Result, nat_lt, slice_index_or}
use Rattle.cluster.specs.Answers.{answered, failed, met, quiet, refused}
use Rattle.cluster.specs.Fitness.{fitness}
use Rattle.cluster.specs.States.{Setup, State, place_at, record_at, with_effect, with_record, with_transit}
use Rattle.cluster.specs.Transits.{no_message, room_in, sent_count, sent_to_all, with_sent}
use Rattle.cluster.specs.declared.answer.Answer.{Answer}
use Rattle.cluster.specs.declared.answer.ClusterFault.{ClusterFault}
use Rattle.cluster.specs.declared.event.Event.{Event}
use Rattle.cluster.specs.declared.event.Event.TheVariants.{Write, Read, Resend, Deliver, Lose, Crash, Recover}
use Rattle.cluster.specs.declared.refusal.Refusal.{Refusal}
use Rattle.cluster.specs.declared.refusal.Refusal.TheVariants.{NoMessage, NoSuchReplica, NotOfKind, Replica}
use Rattle.replica.specs.Operations.{begun, crashed, resent}
use Rattle.replica.specs.Receipts.{received}
use Rattle.replica.specs.Recoveries.{recovered}
use Rattle.replica.specs.declared.fault.ReplicaFault.{ReplicaFault}
use Rattle.replica.specs.declared.message.Message.{Message}
use Rattle.replica.specs.declared.record.Replica.{Replica as Record}
use Rattle.replica.specs.declared.record.Status.TheVariants as status
use Rattle.replica.specs.declared.refusal.ReplicaRefusal.{ReplicaRefusal}
use Rattle.replica.specs.declared.site.Site.{Site}
use Rattle.std.specs.List.{remove}
use Rattle.replica.specs.declared.reaction.Reaction.{Reaction}
use Rattle.replica.specs.declared.reaction.Sending.{Sending}
use Rattle.replica.specs.declared.reaction.Sending.TheVariants.{One, All}

-- where replica i stands, or that there is no such replica
abbrev pub site_at : Setup → State → ℕ → Result Site Refusal
site_at u s i = cond (nat_lt i u.replicas) (Ok (record { own = i; page = s.page i })) (Err NoSuchReplica)

-- what a replica sends goes into transit; how many found room of n replicas, and how many did not
abbrev pub dispatched : ℕ → State → Option Sending → State × (ℕ × ℕ)
dispatched n s None = (s, (0, 0))
dispatched n s (Some (One m)) = (with_transit s (with_sent s.transit m), cond (room_in s.transit) (1, 0) (0, 1))
dispatched n s (Some (All m)) = (with_transit s (sent_to_all n s.transit m), (sent_count n s.transit m, n - sent_count n s.transit m))

-- the reaction of a replica, as the answer to its event
abbrev pub accepted : ℕ → State → Reaction → State × Answer
accepted n s r = ((dispatched n s r.sending).0, answered r.outcome (dispatched n s r.sending).1.0 (dispatched n s r.sending).1.1 r.stored)

-- a message to all, which is all that comes of an event
abbrev pub broadcasted : ℕ → State → Message → State × Answer
broadcasted n s m = ((dispatched n s (Some (All m))).0, answered None (dispatched n s (Some (All m))).1.0 (dispatched n s (Some (All m))).1.1 false)

-- what an event answers, or why it was refused
abbrev pub Acted : Type 0
Acted = State × Result Answer Refusal

abbrev pub done : State × Answer → Acted
done x = (x.0, Ok x.1)

abbrev pub refusing : State → Refusal → Acted
refusing s r = (s, Err r)

-- replica i has become r, and sends a message to all unless it refused
abbrev pub calling : Setup → State → ℕ → Record × Result Message ReplicaRefusal → Acted
calling u s i (r, Ok m) = done (broadcasted u.replicas (with_record s i r) m)
calling u s i (r, Err f) = refusing (with_record s i r) (Replica f)

-- replica i begins to write code c
abbrev pub wrote : Setup → State → ℕ → ℕ → Acted
wrote u s i c =
    cond (nat_lt i u.replicas)
    (cond (u.valid c) (calling u s i (begun status.QueryingToWrite i (s.page i) (record_at s i) c)) (refusing s NotOfKind))
    (refusing s NoSuchReplica)

-- replica i begins to read
abbrev pub began_read : Setup → State → ℕ → Acted
began_read u s i =
    cond (nat_lt i u.replicas) (calling u s i (begun status.QueryingToRead i (s.page i) (record_at s i) 0)) (refusing s NoSuchReplica)

abbrev pub resending : Setup → State → Result Message ReplicaRefusal → Acted
resending u s (Ok m) = done (broadcasted u.replicas s m)
resending u s (Err f) = refusing s (Replica f)

-- replica i sends the present round's message again
abbrev pub resent_by : Setup → State → ℕ → Acted
resent_by u s i = cond (nat_lt i u.replicas) (resending u s (resent i (s.page i) (record_at s i))) (refusing s NoSuchReplica)

abbrev pub crashing : State → ℕ → Record × Result (Unit {0}) ReplicaRefusal → Acted
crashing s i (r, Ok x) = (with_record s i r, Ok quiet)
crashing s i (r, Err f) = refusing (with_record s i r) (Replica f)

-- replica i goes down
abbrev pub crashed_at : Setup → State → ℕ → Acted
crashed_at u s i = cond (nat_lt i u.replicas) (crashing s i (crashed (record_at s i))) (refusing s NoSuchReplica)

-- the reaction to a recovery, unless it was refused
abbrev pub comeback : Setup → State → Result Reaction ReplicaRefusal → Acted
comeback u s (Ok a) = done (accepted u.replicas s a)
comeback u s (Err f) = refusing s (Replica f)

-- replica i comes back
abbrev pub recovered_at : Setup → State → ℕ → Acted
recovered_at u s i =
    cond (nat_lt i u.replicas)
    (comeback u (with_effect s i (recovered (place_at u s i) (record_at s i))) (recovered (place_at u s i) (record_at s i)).answer)
    (refusing s NoSuchReplica)

-- the message at place p is gone
abbrev pub lost : State → ℕ → Acted
lost s p = cond (nat_lt p (length s.transit)) (with_transit s (remove s.transit p), Ok quiet) (refusing s NoMessage)

-- the reaction to a message, unless it ended with a fault
abbrev pub reacting : Setup → State → Result Reaction ReplicaFault → State × Result Answer ClusterFault
reacting u s (Ok a) = ((accepted u.replicas s a).0, Ok (accepted u.replicas s a).1)
reacting u s (Err f) = (s, Err (met f))

-- message m reaches its receiver; one to no replica is ignored
abbrev pub received_at : Setup → State → Message → State × Result Answer ClusterFault
received_at u s m =
    cond (nat_lt m.receiver u.replicas)
    (reacting u (with_effect s m.receiver (received u.enough (place_at u s m.receiver) (record_at s m.receiver) m)) (received u.enough (place_at u s m.receiver) (record_at s m.receiver) m).answer)
    (s, Ok quiet)

-- a fault is an answer too, with the place of the event
abbrev pub placed : ℕ → State × Result Answer ClusterFault → Acted
placed event (s, Ok a) = (s, Ok a)
placed event (s, Err f) = (s, Ok (failed event f.replica))

-- the message at place p reaches its receiver
abbrev pub delivered : ℕ → Setup → State → ℕ → Acted
delivered event u s p =
    cond (nat_lt p (length s.transit))
    (placed event (received_at u (with_transit s (remove s.transit p)) (slice_index_or s.transit p no_message)))
    (refusing s NoMessage)

-- what each event does in a cluster that is fit
abbrev pub acting : ℕ → Setup → State → Event → Acted
acting at u s (Write i c) = wrote u s i c
acting at u s (Read i) = began_read u s i
acting at u s (Resend i) = resent_by u s i
acting at u s (Deliver p) = delivered at u s p
acting at u s (Lose p) = lost s p
acting at u s (Crash i) = crashed_at u s i
acting at u s (Recover i) = recovered_at u s i

abbrev pub tried_if : Result (Unit {0}) Refusal → ℕ → Setup → State → Event → Acted
tried_if (Ok x) at u s e = acting at u s e
tried_if (Err r) at u s e = refusing s r

-- an unfit storage or quorum refuses every event
abbrev pub tried : ℕ → Setup → State → Event → Acted
tried at u s e = tried_if (fitness u.replicas u.size u.valid s.page) at u s e

abbrev pub answering : Acted → State × Answer
answering (s, Ok a) = (s, a)
answering (s, Err r) = (s, refused r)

-- one event, at this place of a list
abbrev pub acted : ℕ → Setup → State → Event → State × Answer
acted at u s e = answering (tried at u s e)
