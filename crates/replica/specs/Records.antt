-- What a replica holds while it is up. Assumes nothing.
use Rattle.std.specs.Prelude.{ℕ, ◌+◌, min, cond}
use Rattle.replica.specs.declared.message.Message.{Message}
use Rattle.replica.specs.declared.record.Replica.{Replica}
use Rattle.replica.specs.declared.record.Status.{Status}
use Rattle.replica.specs.declared.record.Status.TheVariants.{Down, Idle}
use Rattle.storage.specs.ReplicaSets.{no_replicas, with_replica}
use Rattle.storage.specs.Timestamps.{blank_stamped, later}
use Rattle.storage.specs.declared.stamped.Stamped.{Stamped}

-- a new round, in which nobody is heard
abbrev pub opened : Status → ℕ → Stamped → ℕ → Replica
opened s n best wanted = record { status = s; round = n; heard = no_replicas; best = best; write_code = wanted }

-- a replica that is down holds nothing, and one that came back with nothing to finish neither
abbrev pub down : Replica
down = opened Down 0 blank_stamped 0

abbrev pub idle : Replica
idle = opened Idle 0 blank_stamped 0

-- the same record under another status
abbrev pub with_status : Status → Replica → Replica
with_status s r = record { status = s; round = r.round; heard = r.heard; best = r.best; write_code = r.write_code }

-- the sender is heard
abbrev pub hearing : Replica → Message → Replica
hearing r m = record { status = r.status; round = r.round; heard = with_replica r.heard m.sender; best = r.best; write_code = r.write_code }

-- the sender is heard, and what it reports is best if it is later
abbrev pub hearing_report : Replica → Message → Replica
hearing_report r m = record {
  status = r.status;
  round = r.round;
  heard = with_replica r.heard m.sender;
  best = cond (later m.content.timestamp r.best.timestamp) m.content r.best;
  write_code = r.write_code;
}

-- the round after this one; rounds of 32 bits stop at the last, which no register reaches
abbrev pub next_round : Replica → ℕ
next_round r = min 4294967295 (r.round + 1)
