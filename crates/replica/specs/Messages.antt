-- The messages of replicas. Assumes nothing.
use Rattle.std.specs.Prelude.{ℕ}
use Rattle.replica.specs.declared.message.Message.{Message}
use Rattle.replica.specs.declared.message.MessageKind.{MessageKind}
use Rattle.replica.specs.declared.message.MessageKind.TheVariants.{Query, Report, Update, Ack}
use Rattle.replica.specs.declared.message.Ticket.{Ticket}
use Rattle.storage.specs.Timestamps.{blank_stamped}
use Rattle.storage.specs.declared.stamped.Stamped.{Stamped}

abbrev pub ticket : ℕ → ℕ → Ticket
ticket incarnation round = record { incarnation = incarnation; round = round }

-- a response to m: back to its sender, under its ticket
abbrev pub answered_with : Message → MessageKind → Stamped → Message
answered_with m kind w = record { kind = kind; sender = m.receiver; receiver = m.sender; ticket = m.ticket; content = w }

-- what replica i asks of all, and what it has all keep; the receiver is filled in for each
abbrev pub query : ℕ → Ticket → Message
query i k = record { kind = Query; sender = i; receiver = 0; ticket = k; content = blank_stamped }

abbrev pub update : ℕ → Ticket → Stamped → Message
update i k w = record { kind = Update; sender = i; receiver = 0; ticket = k; content = w }

-- the answer to a query: what the page holds as written
abbrev pub report : Message → Stamped → Message
report m w = answered_with m Report w

-- the answer to an update that is kept, or not needed
abbrev pub ack : Message → Message
ack m = answered_with m Ack blank_stamped
