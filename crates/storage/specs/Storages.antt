-- What stable storage answers, and what it is after a store, by what it holds. Assumes nothing.
use Rattle.std.specs.Prelude.{ℕ, cond, Ok, Err, Result, ◌==◌, nat_lt}
use Rattle.storage.specs.Faults.{no_replica, no_stores}
use Rattle.storage.specs.declared.fault.StorageFault.{StorageFault}

-- the answer to a question about replica i of n: x, or that there is no such replica
abbrev pub answered : {X : Type 0} → ℕ → ℕ → X → Result X StorageFault
answered n i x = cond (nat_lt i n) (Ok x) (Err (no_replica i))

-- the answer to a store at replica i of n that has so many stores left, where layer l refuses once none is
abbrev pub stored : ℕ → ℕ → ℕ → ℕ → Result (Unit {0}) StorageFault
stored n i left l = cond (nat_lt i n) (cond (nat_lt 0 left) (Ok tt) (Err (no_stores i l))) (Err (no_replica i))

-- f, but x at i
abbrev pub updated : {X : Type 0} → (ℕ → X) → ℕ → X → ℕ → X
updated f i x j = cond (j == i) x (f j)
