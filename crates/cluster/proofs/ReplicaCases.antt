-- What may come of a message or of a recovery at a replica, case by case. Assumes nothing.
use Rattle.std.proofs.Common.{◌≡◌, ℕ, Bool, true, false, cond, eqb, ltb, leb, Some, Ok, Err, Result, refl}
use Rattle.cluster.proofs.StepCases.{Asks, asks}
use Rattle.replica.specs.Effects.{Place, store_at}
use Rattle.replica.specs.Messages.{ack, report, ticket, update}
use Rattle.replica.specs.Reactions.{ending, nothing, replying, updating}
use Rattle.replica.specs.Receipts.{Received, acknowledged, as_reaction, failing, followed, intended_if, is_reading, kept_if, queried, reacting, reader_updates, received, reported, writer_updates}
use Rattle.replica.specs.Faults.{used_up}
use Rattle.replica.specs.Records.{hearing, hearing_report, idle, opened, with_status}
use Rattle.replica.specs.Recoveries as recovery
use Rattle.replica.specs.Recoveries.{Comeback, intended, is_down, raised, recovered, recovered_from}
use Rattle.replica.specs.Steps.{action, noticed}
use Rattle.replica.specs.declared.message.Message.{Message}
use Rattle.replica.specs.declared.reaction.Outcome.TheVariants.{Recovered}
use Rattle.replica.specs.declared.reaction.Reaction.{Reaction}
use Rattle.replica.specs.declared.record.Replica.{Replica}
use Rattle.replica.specs.declared.record.Status.TheVariants as status
use Rattle.replica.specs.declared.refusal.ReplicaRefusal.{ReplicaRefusal}
use Rattle.replica.specs.declared.refusal.ReplicaRefusal.TheVariants as refusal
use Rattle.replica.specs.declared.step.Step.{Step}
use Rattle.replica.specs.declared.step.Step.TheVariants.{Ignore, Report, Acknowledge, Keep, HearReport, HearAck}
use Rattle.storage.specs.Faults.{no_replica}
use Rattle.storage.specs.ReplicaSets.{member}
use Rattle.storage.specs.Storages.{answered}
use Rattle.storage.specs.declared.fault.StorageFault.{StorageFault}

-- a message m at a replica with record r, by the action that it asks for and the tests that follow
pub data Receipt (enough : (ℕ → Bool) → Bool) (a : Place) (r : Replica) (m : Message) : Received → Type 0 where
  ignores : Receipt enough a r m (reacting r nothing)
  reports : Asks a.page r m Report → Receipt enough a r m (reacting r (replying (report m a.page.written) false))
  acknowledges : Asks a.page r m Acknowledge → Receipt enough a r m (reacting r (replying (ack m) false))
  keeps : Asks a.page r m Keep → store_at a ≡ Ok tt → Receipt enough a r m (kept_if (Ok tt) a r m)
  keeps_not : (f : StorageFault) → Asks a.page r m Keep → store_at a ≡ Err f → Receipt enough a r m (kept_if (Err f) a r m)
  queries_on : Asks a.page r m HearReport → enough (member (hearing_report r m).heard) ≡ false → Receipt enough a r m (reacting (hearing_report r m) nothing)
  read_updates : Asks a.page r m HearReport → enough (member (hearing_report r m).heard) ≡ true → is_reading r.status ≡ true → Receipt enough a r m (as_reaction (reader_updates a.own a.page (hearing_report r m)))
  write_ends : Asks a.page r m HearReport → enough (member (hearing_report r m).heard) ≡ true → is_reading r.status ≡ false → leb 999999 (hearing_report r m).best.timestamp.sequence ≡ true → Receipt enough a r m (failing (with_status status.Idle (hearing_report r m)) (used_up a.own))
  write_updates : Asks a.page r m HearReport → enough (member (hearing_report r m).heard) ≡ true → is_reading r.status ≡ false → leb 999999 (hearing_report r m).best.timestamp.sequence ≡ false → store_at a ≡ Ok tt → Receipt enough a r m (intended_if (Ok tt) a (hearing_report r m))
  write_fails : (f : StorageFault) → Asks a.page r m HearReport → enough (member (hearing_report r m).heard) ≡ true → is_reading r.status ≡ false → leb 999999 (hearing_report r m).best.timestamp.sequence ≡ false → store_at a ≡ Err f → Receipt enough a r m (intended_if (Err f) a (hearing_report r m))
  updates_on : Asks a.page r m HearAck → enough (member (hearing r m).heard) ≡ false → Receipt enough a r m (as_reaction (hearing r m, nothing))
  finishes : Asks a.page r m HearAck → enough (member (hearing r m).heard) ≡ true → Receipt enough a r m (as_reaction (with_status status.Idle (hearing r m), ending (reported r.status (hearing r m)) false))

-- the cases are all that there are
module _ (enough : (ℕ → Bool) → Bool) (a : Place) (r : Replica) (m : Message) where
  keep : Asks a.page r m Keep → (x : Result (Unit {0}) StorageFault) → store_at a ≡ x → Receipt enough a r m (kept_if x a r m)
  keep e (Ok u) k = keeps e k
  keep e (Err f) k = keeps_not f e k

  hear_report : Asks a.page r m HearReport → Receipt enough a r m (queried enough a (hearing_report r m))
  hear_report e = enough_heard (enough (member heard.heard)) refl
    where
      heard : Replica
      heard = hearing_report r m

      intend : enough (member heard.heard) ≡ true → is_reading r.status ≡ false → leb 999999 heard.best.timestamp.sequence ≡ false → (x : Result (Unit {0}) StorageFault) → store_at a ≡ x → Receipt enough a r m (intended_if x a heard)
      intend q w l (Ok u) k = write_updates e q w l k
      intend q w l (Err f) k = write_fails f e q w l k

      write : enough (member heard.heard) ≡ true → is_reading r.status ≡ false → (b : Bool) → leb 999999 heard.best.timestamp.sequence ≡ b → Receipt enough a r m (cond b (failing (with_status status.Idle heard) (used_up a.own)) (intended_if (store_at a) a heard))
      write q w true l = write_ends e q w l
      write q w false l = intend q w l (store_at a) refl

      update_all : enough (member heard.heard) ≡ true → (b : Bool) → is_reading r.status ≡ b → Receipt enough a r m (cond b (as_reaction (reader_updates a.own a.page heard)) (writer_updates a heard))
      update_all q true w = read_updates e q w
      update_all q false w = write q w (leb 999999 heard.best.timestamp.sequence) refl

      enough_heard : (b : Bool) → enough (member heard.heard) ≡ b → Receipt enough a r m (cond b (cond (is_reading r.status) (as_reaction (reader_updates a.own a.page heard)) (writer_updates a heard)) (reacting heard nothing))
      enough_heard true q = update_all q (is_reading r.status) refl
      enough_heard false q = queries_on e q

  hear_ack : Asks a.page r m HearAck → Receipt enough a r m (as_reaction (acknowledged enough (hearing r m)))
  hear_ack e = go (enough (member (hearing r m).heard)) refl
    where
      go : (b : Bool) → enough (member (hearing r m).heard) ≡ b → Receipt enough a r m (as_reaction (cond b (with_status status.Idle (hearing r m), ending (reported r.status (hearing r m)) false) (hearing r m, nothing)))
      go true q = finishes e q
      go false q = updates_on e q

  step : (x : Step) → Asks a.page r m x → Receipt enough a r m (followed x enough a (noticed x r m) m)
  step Ignore e = ignores
  step Report e = reports e
  step Acknowledge e = acknowledges e
  step Keep e = keep e (store_at a) refl
  step HearReport e = hear_report e
  step HearAck e = hear_ack e

  pub receipt : Receipt enough a r m (received enough a r m)
  receipt = go (ltb a.own a.replicas)
    where
      go : (b : Bool) → Receipt enough a r m (cond b (followed (action a.page r m) enough a (noticed (action a.page r m) r m) m) (reacting r nothing))
      go true = step (action a.page r m) (asks a.page r m)
      go false = ignores

-- a recovery of a replica with record r
pub data Recovery (a : Place) (r : Replica) : Comeback → Type 0 where
  refuses : (f : ReplicaRefusal) → Recovery a r (recovery.refusing r f)
  is_idle : is_down r.status ≡ true → leb 9999 a.page.incarnation ≡ false → store_at a ≡ Ok tt → eqb a.page.intended_sequence 0 ≡ true → Recovery a r (record { replica = idle; stores = Some (raised a.page); answer = Ok (ending Recovered true) })
  recovers : is_down r.status ≡ true → leb 9999 a.page.incarnation ≡ false → store_at a ≡ Ok tt → eqb a.page.intended_sequence 0 ≡ false → Recovery a r (record {
    replica = opened status.Recovering 1 (intended a.own a.page) 0;
    stores = Some (raised a.page);
    answer = Ok (updating (update a.own (ticket (raised a.page).incarnation 1) (intended a.own a.page)) true);
  })

module _ (a : Place) (r : Replica) where
  finish : is_down r.status ≡ true → leb 9999 a.page.incarnation ≡ false → store_at a ≡ Ok tt → Recovery a r (recovery.raised_if (Ok tt) a r)
  finish d l k = go (eqb a.page.intended_sequence 0) refl
    where
      both : Bool → Replica × Reaction
      both b =
          cond b (idle, ending Recovered true) (
            opened status.Recovering 1 (intended a.own a.page) 0,
            updating (update a.own (ticket (raised a.page).incarnation 1) (intended a.own a.page)) true,
          )

      go : (b : Bool) → eqb a.page.intended_sequence 0 ≡ b → Recovery a r (record { replica = (both b).0; stores = Some (raised a.page); answer = Ok (both b).1 })
      go true z = is_idle d l k z
      go false z = recovers d l k z

  raise : is_down r.status ≡ true → leb 9999 a.page.incarnation ≡ false → (x : Result (Unit {0}) StorageFault) → store_at a ≡ x → Recovery a r (recovery.raised_if x a r)
  raise d l (Ok u) k = finish d l k
  raise d l (Err f) k = refuses _

  pub recovers_as : Recovery a r (recovered a r)
  recovers_as = go (is_down r.status) refl
    where
      up_to : is_down r.status ≡ true → (b : Bool) → leb 9999 a.page.incarnation ≡ b → Recovery a r (cond b (recovery.refusing r refusal.IncarnationsUsedUp) (recovery.raised_if (store_at a) a r))
      up_to d true l = refuses _
      up_to d false l = raise d l (store_at a) refl

      found : is_down r.status ≡ true → (b : Bool) → Recovery a r (recovered_from (cond b (Ok a.page) (Err (no_replica a.own))) a r)
      found d true = up_to d (leb 9999 a.page.incarnation) refl
      found d false = refuses _

      go : (b : Bool) → is_down r.status ≡ b → Recovery a r (cond b (recovered_from (answered a.replicas a.own a.page) a r) (recovery.refusing r refusal.NotDown))
      go true d = found d (ltb a.own a.replicas)
      go false d = refuses _
