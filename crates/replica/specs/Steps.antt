-- What a message makes a replica do. Assumes nothing.
-- First the choice of an action, by tests; then what each action leaves in the record.
use Rattle.std.specs.Prelude.{Bool, cond, not, ◌&&◌, ◌==◌}
use Rattle.replica.specs.Records.{hearing, hearing_report}
use Rattle.replica.specs.declared.message.Message.{Message}
use Rattle.replica.specs.declared.message.MessageKind.{MessageKind}
use Rattle.replica.specs.declared.message.MessageKind.TheVariants as kind
use Rattle.replica.specs.declared.record.Replica.{Replica}
use Rattle.replica.specs.declared.record.Status.{Status}
use Rattle.replica.specs.declared.record.Status.TheVariants.{Down, Idle, QueryingToWrite, QueryingToRead, UpdatingWrite, UpdatingRead, Recovering}
use Rattle.replica.specs.declared.step.Step.{Step}
use Rattle.replica.specs.declared.step.Step.TheVariants.{Ignore, Report, Acknowledge, Keep, HearReport, HearAck}
use Rattle.storage.specs.ReplicaSets.{member}
use Rattle.storage.specs.Timestamps.{later}
use Rattle.storage.specs.declared.page.Page.{Page}

-- a response under the replica's ticket, from one that it has not heard
abbrev pub expected : Page → Replica → Message → Bool
expected p r m = m.ticket.incarnation == p.incarnation && (m.ticket.round == r.round && not (member r.heard m.sender))

-- an update is kept if it is later than what the page holds as written
abbrev pub on_update : Page → Message → Step
on_update p m = cond (later m.content.timestamp p.written.timestamp) Keep Acknowledge

-- a replica that is up and not recovering answers queries and updates of all
abbrev pub on_request : MessageKind → Page → Message → Step
on_request kind.Query p m = Report
on_request kind.Update p m = on_update p m
on_request kind.Report p m = Ignore
on_request kind.Ack p m = Ignore

abbrev pub on_report : MessageKind → Page → Replica → Message → Step
on_report kind.Query p r m = Report
on_report kind.Update p r m = on_update p m
on_report kind.Report p r m = cond (expected p r m) HearReport Ignore
on_report kind.Ack p r m = Ignore

abbrev pub on_ack : MessageKind → Page → Replica → Message → Step
on_ack kind.Query p r m = Report
on_ack kind.Update p r m = on_update p m
on_ack kind.Report p r m = Ignore
on_ack kind.Ack p r m = cond (expected p r m) HearAck Ignore

-- a recovering replica answers queries and updates of itself only
abbrev pub on_recovering : MessageKind → Page → Replica → Message → Step
on_recovering kind.Query p r m = cond (m.sender == m.receiver) Report Ignore
on_recovering kind.Update p r m = cond (m.sender == m.receiver) (on_update p m) Ignore
on_recovering kind.Report p r m = Ignore
on_recovering kind.Ack p r m = cond (expected p r m) HearAck Ignore

abbrev pub action_by : Status → MessageKind → Page → Replica → Message → Step
action_by Down k p r m = Ignore
action_by Idle k p r m = on_request k p m
action_by QueryingToWrite k p r m = on_report k p r m
action_by QueryingToRead k p r m = on_report k p r m
action_by UpdatingWrite k p r m = on_ack k p r m
action_by UpdatingRead k p r m = on_ack k p r m
action_by Recovering k p r m = on_recovering k p r m

abbrev pub action : Page → Replica → Message → Step
action p r m = action_by r.status m.kind p r m

-- only hearing changes the record
abbrev pub noticed : Step → Replica → Message → Replica
noticed Ignore r m = r
noticed Report r m = r
noticed Acknowledge r m = r
noticed Keep r m = r
noticed HearReport r m = hearing_report r m
noticed HearAck r m = hearing r m
