-- Timestamps and their order. Assumes nothing.
use Rattle.std.specs.Prelude.{◌≡◌, Bool, true, false, ◌&&◌, ◌||◌, ◌⊎◌, ◌==◌, nat_lt}
use Rattle.storage.specs.declared.stamped.Stamped.{Stamped}
use Rattle.storage.specs.declared.timestamp.Timestamp.{Timestamp}

abbrev pub blank_timestamp : Timestamp
blank_timestamp = record { sequence = 0; replica = 0 }

-- what a register holds that was never written
abbrev pub blank_stamped : Stamped
blank_stamped = record { timestamp = blank_timestamp; code = 0 }

-- s comes after t: by sequence, and at one sequence by replica
abbrev pub later : Timestamp → Timestamp → Bool
later s t = nat_lt t.sequence s.sequence || (s.sequence == t.sequence && nat_lt t.replica s.replica)

-- the order is strict, and any two different timestamps are ordered by it
pub record StrictTotal (after : Timestamp → Timestamp → Bool) : Type 0 where
  pub irreflexive : (s : Timestamp) → after s s ≡ false
  pub transitive : (s t u : Timestamp) → after s t ≡ true → after t u ≡ true → after s u ≡ true
  pub total : (s t : Timestamp) → (s ≡ t) ⊎ (after s t ≡ true) ⊎ (after t s ≡ true)
