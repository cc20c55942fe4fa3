-- Why a message asks a replica for an action. Assumes nothing.
use Rattle.std.proofs.Common.{◌≡◌, Bool, true, false, cond, eqb, sym, refl, subst}
use Rattle.replica.specs.Steps.{action, action_by, expected, on_ack, on_recovering, on_report, on_request, on_update}
use Rattle.replica.specs.declared.message.Message.{Message}
use Rattle.replica.specs.declared.message.MessageKind.{MessageKind}
use Rattle.replica.specs.declared.message.MessageKind.TheVariants as kind
use Rattle.replica.specs.declared.record.Replica.{Replica}
use Rattle.replica.specs.declared.record.Status.{Status}
use Rattle.replica.specs.declared.record.Status.TheVariants as status
use Rattle.replica.specs.declared.step.Step.{Step}
use Rattle.replica.specs.declared.step.Step.TheVariants.{Ignore, Report, Acknowledge, Keep, HearReport, HearAck}
use Rattle.storage.specs.Timestamps.{later}
use Rattle.storage.specs.declared.page.Page.{Page}

-- the statuses that wait for reports, and those that wait for acknowledgements
pub data Querying : Status → Type 0 where
  to_write : Querying status.QueryingToWrite
  to_read : Querying status.QueryingToRead

pub data Updating : Status → Type 0 where
  a_write : Updating status.UpdatingWrite
  a_read : Updating status.UpdatingRead
  recovering : Updating status.Recovering

-- message m asks a replica with page p and record r for an action
pub data Asks (p : Page) (r : Replica) (m : Message) : Step → Type 0 where
  ignores : Asks p r m Ignore
  reports : m.kind ≡ kind.Query → Asks p r m Report
  acknowledges : m.kind ≡ kind.Update → later m.content.timestamp p.written.timestamp ≡ false → Asks p r m Acknowledge
  keeps : m.kind ≡ kind.Update → later m.content.timestamp p.written.timestamp ≡ true → Asks p r m Keep
  hears_report : Querying r.status → m.kind ≡ kind.Report → expected p r m ≡ true → Asks p r m HearReport
  hears_ack : Updating r.status → m.kind ≡ kind.Ack → expected p r m ≡ true → Asks p r m HearAck

-- the cases are all that there are
module _ (p : Page) (r : Replica) (m : Message) where
  -- a test before an action
  if_passed : {x : Step} (b : Bool) → (b ≡ true → Asks p r m x) → Asks p r m (cond b x Ignore)
  if_passed true h = h refl
  if_passed false h = ignores

  update : m.kind ≡ kind.Update → Asks p r m (on_update p m)
  update k = go (later m.content.timestamp p.written.timestamp) refl
    where
      go : (b : Bool) → later m.content.timestamp p.written.timestamp ≡ b → Asks p r m (cond b Keep Acknowledge)
      go true l = keeps k l
      go false l = acknowledges k l

  request : (x : MessageKind) → m.kind ≡ x → Asks p r m (on_request x p m)
  request kind.Query k = reports k
  request kind.Update k = update k
  request kind.Report k = ignores
  request kind.Ack k = ignores

  report : Querying r.status → (x : MessageKind) → m.kind ≡ x → Asks p r m (on_report x p r m)
  report q kind.Query k = reports k
  report q kind.Update k = update k
  report q kind.Report k = if_passed (expected p r m) (hears_report q k)
  report q kind.Ack k = ignores

  ack : Updating r.status → (x : MessageKind) → m.kind ≡ x → Asks p r m (on_ack x p r m)
  ack q kind.Query k = reports k
  ack q kind.Update k = update k
  ack q kind.Report k = ignores
  ack q kind.Ack k = if_passed (expected p r m) (hears_ack q k)

  own : Updating r.status → (x : MessageKind) → m.kind ≡ x → Asks p r m (on_recovering x p r m)
  own q kind.Query k = if_passed (eqb m.sender m.receiver) (λ _. reports k)
  own q kind.Update k = if_passed (eqb m.sender m.receiver) (λ _. update k)
  own q kind.Report k = ignores
  own q kind.Ack k = if_passed (expected p r m) (hears_ack q k)

  pub asks : Asks p r m (action p r m)
  asks = go r.status refl
    where
      go : (x : Status) → r.status ≡ x → Asks p r m (action_by x m.kind p r m)
      go status.Down s = ignores
      go status.Idle s = request m.kind refl
      go status.QueryingToWrite s = report (subst Querying (sym s) to_write) m.kind refl
      go status.QueryingToRead s = report (subst Querying (sym s) to_read) m.kind refl
      go status.UpdatingWrite s = ack (subst Updating (sym s) a_write) m.kind refl
      go status.UpdatingRead s = ack (subst Updating (sym s) a_read) m.kind refl
      go status.Recovering s = own (subst Updating (sym s) recovering) m.kind refl
