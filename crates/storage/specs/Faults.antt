-- The refusals of stable storage. Assumes nothing.
use Rattle.std.specs.Prelude.{ℕ, ◌+◌, min}
use Rattle.storage.specs.declared.fault.Reason.{Reason}
use Rattle.storage.specs.declared.fault.Reason.TheVariants.{NoSuchReplica, NoStoresLeft}
use Rattle.storage.specs.declared.fault.StorageFault.{StorageFault}

abbrev pub reason_number : Reason → ℕ
reason_number NoSuchReplica = 8
reason_number NoStoresLeft = 17

abbrev pub fault_number : StorageFault → ℕ
fault_number f = reason_number f.reason

-- the storage that was called refuses replica i, for this reason
abbrev pub refused : Reason → ℕ → StorageFault
refused r i = record { reason = r; replica = i; layer = 0 }

-- there is no replica i
abbrev pub no_replica : ℕ → StorageFault
no_replica i = record { reason = NoSuchReplica; replica = i; layer = 0 }

-- the layer l has no store left for replica i
abbrev pub no_stores : ℕ → ℕ → StorageFault
no_stores i l = record { reason = NoStoresLeft; replica = i; layer = l }

-- one layer more lies over the one that refuses, and 255 is as far as layers are told apart
abbrev pub over : ℕ → ℕ
over l = min 255 (l + 1)

abbrev pub lifted : StorageFault → StorageFault
lifted f = record { reason = f.reason; replica = f.replica; layer = over f.layer }
