-- What the faults of a replica say. Assumes nothing.
use Rattle.std.specs.Prelude.{ℕ, Some, None}
use Rattle.replica.specs.declared.fault.Cause.{Cause}
use Rattle.replica.specs.declared.fault.Cause.TheVariants.{Storage, SequenceUsedUp}
use Rattle.replica.specs.declared.fault.ReplicaFault.{ReplicaFault}
use Rattle.replica.specs.declared.fault.Task.{Task}
use Rattle.replica.specs.declared.fault.Task.TheVariants.{NotingIntention}
use Rattle.storage.specs.Faults.{fault_number}
use Rattle.storage.specs.declared.fault.StorageFault.{StorageFault}

-- a refusal of storage, before the call that knows the task has named it
abbrev pub met : StorageFault → ReplicaFault
met f = record { cause = Storage f; task = None }

-- the same fault, met at this task
abbrev pub tasked : Task → ReplicaFault → ReplicaFault
tasked t f = record { cause = f.cause; task = Some t }

-- replica i has no greater timestamp to write with
abbrev pub used_up : ℕ → ReplicaFault
used_up i = record { cause = SequenceUsedUp i; task = Some NotingIntention }

abbrev pub cause_number : Cause → ℕ
cause_number (Storage f) = fault_number f
cause_number (SequenceUsedUp i) = 18

abbrev pub number_of : ReplicaFault → ℕ
number_of f = cause_number f.cause

-- no layer of storage refused where the sequence is used up
abbrev pub cause_layer : Cause → ℕ
cause_layer (Storage f) = f.layer
cause_layer (SequenceUsedUp i) = 0

abbrev pub layer_of : ReplicaFault → ℕ
layer_of f = cause_layer f.cause

abbrev pub cause_replica : Cause → ℕ
cause_replica (Storage f) = f.replica
cause_replica (SequenceUsedUp i) = i

abbrev pub replica_of : ReplicaFault → ℕ
replica_of f = cause_replica f.cause
