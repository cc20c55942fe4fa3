-- The messages in transit, a list with places from 0. Assumes nothing.
use Rattle.std.specs.Prelude.{ℕ, zero, suc, ◌-◌, Bool, cond, List, [], ◌∷◌, ◌++◌, length, Some, Option, ◌==◌, nat_lt}
use Rattle.replica.specs.Messages.{query, ticket}
use Rattle.replica.specs.declared.message.Message.{Message}
use Rattle.replica.specs.declared.record.Replica.{Replica}
use Rattle.replica.specs.declared.record.Status.TheVariants.{Down}
use Rattle.storage.specs.Timestamps.{blank_stamped}

-- at most 96 are in transit
abbrev pub room_in : List Message → Bool
room_in ms = nat_lt (length ms) 96

-- a message goes to the end; one that finds 96 is dropped
abbrev pub with_sent : List Message → Message → List Message
with_sent ms m = cond (room_in ms) (ms ++ m ∷ []) ms

-- the message to replica j
abbrev pub addressed : Message → ℕ → Message
addressed m j = record { kind = m.kind; sender = m.sender; receiver = j; ticket = m.ticket; content = m.content }

-- the message to replicas 0 to n - 1, in that order
abbrev pub sent_to_all : ℕ → List Message → Message → List Message
sent_to_all zero ms m = ms
sent_to_all (suc n) ms m = with_sent (sent_to_all n ms m) (addressed m n)

-- how many of them found room
abbrev pub sent_count : ℕ → List Message → Message → ℕ
sent_count n ms m = length (sent_to_all n ms m) - length ms

-- what is newest to replica i, once m is seen
abbrev pub newer : ℕ → Option Message → Message → Option Message
newer i found m = cond (m.receiver == i) (Some m) found

-- the last of the messages to replica i, and before them what was found
abbrev pub newest_of : ℕ → Option Message → List Message → Option Message
newest_of i found [] = found
newest_of i found (m ∷ ms) = newest_of i (newer i found m) ms

-- what a place past the end is read as; no rule depends on it
abbrev pub no_message : Message
no_message = query 0 (ticket 0 0)

-- what a number past the last replica's is read as; no rule depends on it
abbrev pub blank_record : Replica
blank_record = record { status = Down; round = 0; heard = record { held = [] }; best = blank_stamped; write_code = 0 }
