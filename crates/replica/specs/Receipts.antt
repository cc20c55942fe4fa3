-- What a replica does with a message that reaches it. Assumes nothing.
use Rattle.std.specs.Prelude.{ℕ, ◌+◌, Bool, true, false, cond, Some, None, Ok, Err, Result, nat_le, nat_lt}
use Rattle.replica.specs.Effects.{Effect, Place, store_at}
use Rattle.replica.specs.Faults.{used_up}
use Rattle.replica.specs.Messages.{ack, report, ticket, update}
use Rattle.replica.specs.Reactions.{ending, nothing, replying, updating}
use Rattle.replica.specs.Records.{next_round, opened, with_status}
use Rattle.replica.specs.Steps.{action, noticed}
use Rattle.replica.specs.declared.fault.Cause.TheVariants.{Storage}
use Rattle.replica.specs.declared.fault.ReplicaFault.{ReplicaFault}
use Rattle.replica.specs.declared.fault.Task.TheVariants.{KeepingUpdate, NotingIntention}
use Rattle.replica.specs.declared.message.Message.{Message}
use Rattle.replica.specs.declared.reaction.Outcome.{Outcome}
use Rattle.replica.specs.declared.reaction.Outcome.TheVariants.{Written, Read, Recovered}
use Rattle.replica.specs.declared.reaction.Reaction.{Reaction}
use Rattle.replica.specs.declared.record.Replica.{Replica}
use Rattle.replica.specs.declared.record.Status.{Status}
use Rattle.replica.specs.declared.record.Status.TheVariants as status
use Rattle.replica.specs.declared.step.Step.{Step}
use Rattle.replica.specs.declared.step.Step.TheVariants.{Ignore, Report, Acknowledge, Keep, HearReport, HearAck}
use Rattle.storage.specs.ReplicaSets.{member}
use Rattle.storage.specs.declared.fault.StorageFault.{StorageFault}
use Rattle.storage.specs.declared.page.Page.{Page}
use Rattle.storage.specs.declared.stamped.Stamped.{Stamped}

-- what comes of a message: a reaction, or a fault with which the event ends
abbrev pub Received : Type 0
Received = Effect (Result Reaction ReplicaFault)

-- nothing is stored, and this is the reaction
abbrev pub reacting : Replica → Reaction → Received
reacting r a = record { replica = r; stores = None; answer = Ok a }

-- nothing is stored, and the event ends with this fault
abbrev pub failing : Replica → ReplicaFault → Received
failing r f = record { replica = r; stores = None; answer = Err f }

-- the page with another newest entry; with another intended write
abbrev pub keeping : Page → Stamped → Page
keeping p w = record { incarnation = p.incarnation; written = w; intended_sequence = p.intended_sequence; intended_code = p.intended_code }

abbrev pub intending : Page → ℕ → ℕ → Page
intending p s c = record { incarnation = p.incarnation; written = p.written; intended_sequence = s; intended_code = c }

-- an update is stored, and only then acknowledged
abbrev pub kept_if : Result (Unit {0}) StorageFault → Place → Replica → Message → Received
kept_if (Ok u) a r m = record { replica = r; stores = Some (keeping a.page m.content); answer = Ok (replying (ack m) true) }
kept_if (Err f) a r m = failing r (record { cause = Storage f; task = Some KeepingUpdate })

-- nothing is stored, and these are the record and the reaction
abbrev pub as_reaction : Replica × Reaction → Received
as_reaction x = reacting x.0 x.1

-- a reader of number i updates all with the best that was reported
abbrev pub reader_updates : ℕ → Page → Replica → Replica × Reaction
reader_updates i p r = (
  opened status.UpdatingRead (next_round r) r.best r.write_code,
  updating (update i (ticket p.incarnation (next_round r)) r.best) false,
)

-- what the writer writes: its code, at the next sequence and its own number
abbrev pub chosen : Place → Replica → Stamped
chosen a r = record { timestamp = record { sequence = r.best.timestamp.sequence + 1; replica = a.own }; code = r.write_code }

-- a writer stores its intention and updates all with it; if that is refused its operation ends
abbrev pub intended_if : Result (Unit {0}) StorageFault → Place → Replica → Received
intended_if (Ok u) a r = record {
  replica = opened status.UpdatingWrite (next_round r) (chosen a r) r.write_code;
  stores = Some (intending a.page (r.best.timestamp.sequence + 1) r.write_code);
  answer = Ok (updating (update a.own (ticket a.page.incarnation (next_round r)) (chosen a r)) true);
}
intended_if (Err f) a r = failing (with_status status.Idle r) (record { cause = Storage f; task = Some NotingIntention })

-- a writer that has heard of the last sequence has no timestamp to write with
abbrev pub writer_updates : Place → Replica → Received
writer_updates a r =
    cond (nat_le 999999 r.best.timestamp.sequence) (failing (with_status status.Idle r) (used_up a.own)) (intended_if (store_at a) a r)

abbrev pub is_reading : Status → Bool
is_reading status.Down = false
is_reading status.Idle = false
is_reading status.QueryingToWrite = false
is_reading status.QueryingToRead = true
is_reading status.UpdatingWrite = false
is_reading status.UpdatingRead = false
is_reading status.Recovering = false

-- a report was heard: once enough are, the query is over
abbrev pub queried : ((ℕ → Bool) → Bool) → Place → Replica → Received
queried enough a r =
    cond (enough (member r.heard)) (cond (is_reading r.status) (as_reaction (reader_updates a.own a.page r)) (writer_updates a r)) (reacting r nothing)

-- what the end of an update reports
abbrev pub reported : Status → Replica → Outcome
reported status.Down r = Recovered
reported status.Idle r = Recovered
reported status.QueryingToWrite r = Recovered
reported status.QueryingToRead r = Recovered
reported status.UpdatingWrite r = Written r.best.timestamp
reported status.UpdatingRead r = Read r.best
reported status.Recovering r = Recovered

-- an acknowledgement was heard: once enough are, the operation is finished and the replica idle
abbrev pub acknowledged : ((ℕ → Bool) → Bool) → Replica → Replica × Reaction
acknowledged enough r = cond (enough (member r.heard)) (with_status status.Idle r, ending (reported r.status r) false) (r, nothing)

-- each action's effect, on the record as the step left it
abbrev pub followed : Step → ((ℕ → Bool) → Bool) → Place → Replica → Message → Received
followed Ignore enough a r m = reacting r nothing
followed Report enough a r m = reacting r (replying (report m a.page.written) false)
followed Acknowledge enough a r m = reacting r (replying (ack m) false)
followed Keep enough a r m = kept_if (store_at a) a r m
followed HearReport enough a r m = queried enough a r
followed HearAck enough a r m = as_reaction (acknowledged enough r)

-- a message to a replica that storage does not have is ignored
abbrev pub received : ((ℕ → Bool) → Bool) → Place → Replica → Message → Received
received enough a r m =
    cond (nat_lt a.own a.replicas) (followed (action a.page r m) enough a (noticed (action a.page r m) r m) m) (reacting r nothing)
