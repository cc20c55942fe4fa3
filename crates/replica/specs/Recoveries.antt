-- How a replica that is down comes back. Assumes nothing.
use Rattle.std.specs.Prelude.{ℕ, ◌+◌, Bool, true, false, cond, Some, None, Ok, Err, Result, ◌==◌, nat_le}
use Rattle.replica.specs.Effects.{Effect, Place, store_at}
use Rattle.replica.specs.Messages.{ticket, update}
use Rattle.replica.specs.Reactions.{ending, updating}
use Rattle.replica.specs.Records.{idle, opened}
use Rattle.replica.specs.declared.fault.Cause.TheVariants.{Storage}
use Rattle.replica.specs.declared.fault.Task.TheVariants as task
use Rattle.replica.specs.declared.reaction.Outcome.TheVariants.{Recovered}
use Rattle.replica.specs.declared.reaction.Reaction.{Reaction}
use Rattle.replica.specs.declared.record.Replica.{Replica}
use Rattle.replica.specs.declared.record.Status.{Status}
use Rattle.replica.specs.declared.record.Status.TheVariants.{Down, Idle, QueryingToWrite, QueryingToRead, UpdatingWrite, UpdatingRead, Recovering}
use Rattle.replica.specs.declared.refusal.ReplicaRefusal.{ReplicaRefusal}
use Rattle.replica.specs.declared.refusal.ReplicaRefusal.TheVariants as refusal
use Rattle.storage.specs.Storages.{answered}
use Rattle.storage.specs.declared.fault.StorageFault.{StorageFault}
use Rattle.storage.specs.declared.page.Page.{Page}
use Rattle.storage.specs.declared.stamped.Stamped.{Stamped}

-- what comes of a recovery: a reaction, or a refusal
abbrev pub Comeback : Type 0
Comeback = Effect (Result Reaction ReplicaRefusal)

-- the page of the next incarnation
abbrev pub raised : Page → Page
raised p = record { incarnation = p.incarnation + 1; written = p.written; intended_sequence = p.intended_sequence; intended_code = p.intended_code }

-- the write that replica i, with page p, intends
abbrev pub intended : ℕ → Page → Stamped
intended i p = record { timestamp = record { sequence = p.intended_sequence; replica = i }; code = p.intended_code }

-- replica i is up with page p: with no intended write it is idle; else it updates all with that write, in round 1
abbrev pub finishing : ℕ → Page → Replica × Reaction
finishing i p =
    cond (p.intended_sequence == 0) (idle, ending Recovered true) (
      opened Recovering 1 (intended i p) 0,
      updating (update i (ticket p.incarnation 1) (intended i p)) true,
    )

-- nothing has changed
abbrev pub refusing : Replica → ReplicaRefusal → Comeback
refusing r f = record { replica = r; stores = None; answer = Err f }

-- storage refused
abbrev pub failing : Replica → StorageFault → Comeback
failing r f = refusing r (refusal.Failed (record { cause = Storage f; task = Some task.Recovering }))

abbrev pub raised_if : Result (Unit {0}) StorageFault → Place → Replica → Comeback
raised_if (Ok u) a r = record {
  replica = (finishing a.own (raised a.page)).0;
  stores = Some (raised a.page);
  answer = Ok (finishing a.own (raised a.page)).1;
}
raised_if (Err f) a r = failing r f

-- the page of the replica, if storage has it, is stored with the next incarnation, if there is one
abbrev pub recovered_from : Result Page StorageFault → Place → Replica → Comeback
recovered_from (Ok p) a r = cond (nat_le 9999 p.incarnation) (refusing r refusal.IncarnationsUsedUp) (raised_if (store_at a) a r)
recovered_from (Err f) a r = failing r f

abbrev pub is_down : Status → Bool
is_down Down = true
is_down Idle = false
is_down QueryingToWrite = false
is_down QueryingToRead = false
is_down UpdatingWrite = false
is_down UpdatingRead = false
is_down Recovering = false

abbrev pub recovered : Place → Replica → Comeback
recovered a r =
    cond (is_down r.status) (recovered_from (answered a.replicas a.own a.page) a r) (refusing r refusal.NotDown)
