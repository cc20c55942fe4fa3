-- A rehearsal: what each line brings about and prints. Assumes nothing.
use Rattle.std.specs.Prelude.{ℕ, Bool, true, false, List, [], ◌∷◌, ◌++◌, replicate, is_some, Some, None, Ok, Err, Option, Result}
use Rattle.cluster.specs.Acts.{acted}
use Rattle.cluster.specs.Questions.{counted}
use Rattle.cluster.specs.States.{Setup, State, begins, setup_of, state_of}
use Rattle.cluster.specs.declared.cluster.Cluster.{Cluster}
use Rattle.cluster.specs.declared.event.Event.{Event}
use Rattle.cluster.specs.declared.refusal.Refusal.{Refusal}
use Rattle.rehearsal.specs.Commands.{event_of}
use Rattle.rehearsal.specs.Openings.{opening_of}
use Rattle.rehearsal.specs.Replies.{reply_text}
use Rattle.rehearsal.specs.declared.opening.Opening.{Opening}
use Rattle.rehearsal.specs.declared.rehearsal.Rehearsal.{Rehearsal}
use Rattle.rehearsal.specs.declared.rehearsal.Rehearsal.TheVariants.{Waiting, Bids, Spans, Over}
use Rattle.rehearsal.specs.declared.reply.Reply.{Reply}
use Rattle.rehearsal.specs.declared.reply.Reply.TheVariants.{NotUnderstood, Answered}
use Rattle.storage.specs.Bids.{bid_decoded}
use Rattle.storage.specs.Memories.{blank_cell, left_at, page_at}
use Rattle.storage.specs.Spans.{span_decoded}
use Rattle.storage.specs.Weights.{most}
use Rattle.storage.specs.contracts.entry.bid.BidEntry.TheImpl.{ghosts as bids}
use Rattle.storage.specs.contracts.entry.span.making.SpanEntry.TheImpl.{ghosts as spans}
use Rattle.storage.specs.contracts.quorum.majority.making.MajorityQuorum.TheImpl.{ghosts as majority}
use Rattle.storage.specs.contracts.stable.memory.MemoryStorageStorage.TheImpl.{ghosts as table}
use Rattle.storage.specs.declared.entry.Entry.{Ghosts as EntryOf}
use Rattle.storage.specs.declared.entry.kind.Kind.{Kind}
use Rattle.storage.specs.declared.entry.kind.Kind.TheVariants as kind
use Rattle.storage.specs.declared.quorum.majority.Majority.{Majority}
use Rattle.storage.specs.declared.stable.memory.MemoryStorage.{MemoryStorage}

-- the messages in transit; 0 where the cluster is unfit, and then nothing is asked of it
abbrev pub transit_count : Result ℕ Refusal → ℕ
transit_count (Ok n) = n
transit_count (Err r) = 0

abbrev pub replied_by : Setup → State → Option Event → State × Reply
replied_by u s None = (s, NotUnderstood)
replied_by u s (Some e) = ((acted 0 u s e).0, Answered (acted 0 u s e).1 (transit_count (counted u (acted 0 u s e).0)))

-- what a line does to a register, and the reply
abbrev pub replied : Setup → State → List ℕ → State × Reply
replied u s line = replied_by u s (event_of line)

-- which codes a kind has
abbrev pub valid_of : Kind → ℕ → Bool
valid_of kind.Bid code = is_some (bid_decoded code)
valid_of kind.Span code = is_some (span_decoded code)

-- the register of a first line: a table in memory and the majority
abbrev pub table_setup : ℕ → (ℕ → Bool) → Setup
table_setup n valid = record { replicas = n; size = n; enough = most n; layer = λ _. 0; valid = valid }

abbrev pub table_state : ℕ → ℕ → State
table_state n stores = begins (page_at (replicate n (blank_cell stores))) (left_at (replicate n (blank_cell stores)))

-- how far a rehearsal is: the first line is awaited, a register runs, or the first line was bad
pub data Stage : Type 0 where
  waiting : Stage
  running : Setup → State → Stage
  over : Stage

abbrev pub is_waiting : Stage → Bool
is_waiting waiting = true
is_waiting (running u s) = false
is_waiting over = false

abbrev pub is_over : Stage → Bool
is_over waiting = false
is_over (running u s) = false
is_over over = true

abbrev pub opened_by : Option Opening → Stage × Option Reply
opened_by None = (over, Some NotUnderstood)
opened_by (Some o) = (running (table_setup o.replicas (valid_of o.kind)) (table_state o.replicas o.stores), None)

-- what a line leads to, and the reply if there is one
abbrev pub heard : Stage → List ℕ → Stage × Option Reply
heard waiting line = opened_by (opening_of line)
heard (running u s) line = (running u (replied u s line).0, Some (replied u s line).1)
heard over line = (over, None)

-- the lines that a reply prints
abbrev pub printed : Option Reply → List (List ℕ)
printed None = []
printed (Some r) = reply_text r ∷ []

-- what lines print, one after another
abbrev pub rehearsed : Stage → List (List ℕ) → List (List ℕ)
rehearsed s [] = []
rehearsed s (line ∷ lines) = printed (heard s line).1 ++ rehearsed (heard s line).0 lines

-- the stage of a rehearsal
module _ {E : Type 0} where
  abbrev pub register_setup : EntryOf E → Cluster MemoryStorage Majority E → Setup
  register_setup k c = setup_of table majority k c

  abbrev pub register_state : Cluster MemoryStorage Majority E → State
  register_state c = state_of table c

abbrev pub stage_of : Rehearsal → Stage
stage_of Waiting = waiting
stage_of (Bids c) = running (register_setup bids c) (register_state c)
stage_of (Spans c) = running (register_setup spans c) (register_state c)
stage_of Over = over
