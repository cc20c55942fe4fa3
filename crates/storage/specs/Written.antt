-- What writing a file answers. Assumes nothing.
use Rattle.std.specs.Prelude.{ℕ, cond, Ok, Err, Result, ◌==◌}
use Rattle.storage.specs.Files.{file_length}
use Rattle.storage.specs.Memories.{count_fits}
use Rattle.storage.specs.declared.file.writing.WriteRefusal.{WriteRefusal}
use Rattle.storage.specs.declared.file.writing.WriteRefusal.TheVariants.{Length, ReplicaCount}

abbrev pub write_number : WriteRefusal → ℕ
write_number Length = 1
write_number ReplicaCount = 5

-- whether a file of n replicas is written into a buffer of so many bytes, or the first refusal that applies
abbrev pub writable : ℕ → ℕ → Result (Unit {0}) WriteRefusal
writable n size = cond (count_fits n) (cond (size == file_length n) (Ok tt) (Err Length)) (Err ReplicaCount)
