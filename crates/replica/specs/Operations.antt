-- Beginning an operation, sending its message again, and crashing. Assumes nothing.
use Rattle.std.specs.Prelude.{ℕ, ◌+◌, cond, Ok, Err, Result, nat_lt}
use Rattle.replica.specs.Messages.{query, ticket, update}
use Rattle.replica.specs.Records.{down, opened}
use Rattle.replica.specs.declared.message.Message.{Message}
use Rattle.replica.specs.declared.record.Replica.{Replica}
use Rattle.replica.specs.declared.record.Status.{Status}
use Rattle.replica.specs.declared.record.Status.TheVariants as status
use Rattle.replica.specs.declared.refusal.ReplicaRefusal.{ReplicaRefusal}
use Rattle.replica.specs.declared.refusal.ReplicaRefusal.TheVariants.{Down, NotIdle, RoundsUsedUp, NothingToResend}
use Rattle.storage.specs.Timestamps.{blank_stamped}
use Rattle.storage.specs.declared.page.Page.{Page}

-- an idle replica of number i opens the next round, if two are left of 999,999: nobody is heard, best is blank
abbrev pub begun_idle : Status → ℕ → Page → Replica → ℕ → Replica × Result Message ReplicaRefusal
begun_idle s i p r c =
    cond (nat_lt 999997 r.round) (r, Err RoundsUsedUp)
    (opened s (r.round + 1) blank_stamped c, Ok (query i (ticket p.incarnation (r.round + 1))))

abbrev pub begun_by : Status → Status → ℕ → Page → Replica → ℕ → Replica × Result Message ReplicaRefusal
begun_by status.Down s i p r c = (r, Err Down)
begun_by status.Idle s i p r c = begun_idle s i p r c
begun_by status.QueryingToWrite s i p r c = (r, Err NotIdle)
begun_by status.QueryingToRead s i p r c = (r, Err NotIdle)
begun_by status.UpdatingWrite s i p r c = (r, Err NotIdle)
begun_by status.UpdatingRead s i p r c = (r, Err NotIdle)
begun_by status.Recovering s i p r c = (r, Err NotIdle)

-- the replica begins a write of code c, or a read, by the status that it goes into
abbrev pub begun : Status → ℕ → Page → Replica → ℕ → Replica × Result Message ReplicaRefusal
begun s i p r c = begun_by r.status s i p r c

abbrev pub resent_by : Status → ℕ → Page → Replica → Result Message ReplicaRefusal
resent_by status.Down i p r = Err Down
resent_by status.Idle i p r = Err NothingToResend
resent_by status.QueryingToWrite i p r = Ok (query i (ticket p.incarnation r.round))
resent_by status.QueryingToRead i p r = Ok (query i (ticket p.incarnation r.round))
resent_by status.UpdatingWrite i p r = Ok (update i (ticket p.incarnation r.round) r.best)
resent_by status.UpdatingRead i p r = Ok (update i (ticket p.incarnation r.round) r.best)
resent_by status.Recovering i p r = Ok (update i (ticket p.incarnation r.round) r.best)

-- the present round's message once more
abbrev pub resent : ℕ → Page → Replica → Result Message ReplicaRefusal
resent i p r = resent_by r.status i p r

abbrev pub crashed_by : Status → Replica → Replica × Result (Unit {0}) ReplicaRefusal
crashed_by status.Down r = (r, Err Down)
crashed_by status.Idle r = (down, Ok tt)
crashed_by status.QueryingToWrite r = (down, Ok tt)
crashed_by status.QueryingToRead r = (down, Ok tt)
crashed_by status.UpdatingWrite r = (down, Ok tt)
crashed_by status.UpdatingRead r = (down, Ok tt)
crashed_by status.Recovering r = (down, Ok tt)

-- a replica that goes down forgets all
abbrev pub crashed : Replica → Replica × Result (Unit {0}) ReplicaRefusal
crashed r = crashed_by r.status r
