-- Which replicas a set holds, and which two sets share. Assumes nothing.
use Rattle.std.specs.Prelude.{ℕ, Bool, true, false, ◌&&◌, replicate, Option, slice_index_or, slice_set}
use Rattle.std.specs.List.{find, range_with_len}
use Rattle.storage.specs.declared.replica_set.ReplicaSet.{ReplicaSet}

-- whether the set holds replica k
abbrev pub member : ReplicaSet → ℕ → Bool
member s k = slice_index_or s.held k false

-- the set that holds no replica
abbrev pub no_replicas : ReplicaSet
no_replicas = record { held = replicate 15 false }

-- the set with replica k added, if k is a place of the set
abbrev pub with_replica : ReplicaSet → ℕ → ReplicaSet
with_replica s k = record { held = slice_set s.held k true }

-- the lowest replica below n that both sets hold
abbrev pub lowest_shared : (ℕ → Bool) → (ℕ → Bool) → ℕ → Option ℕ
lowest_shared f g n = find (λ k. f k && g k) (range_with_len 0 n)
