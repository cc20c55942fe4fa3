use Rattle.std.proofs.Common.{◌≡◌, ℕ, ◌+◌, ◌*◌, ◌<◌}
use Rattle.storage.specs.ByteNumbers.{overwritten}
use Rattle.storage.specs.Files.{records_bytes}
use Rattle.storage.specs.Records.{Fit}
use Rattle.storage.proofs.file.filling.put_records.Given as goal

abbrev pub invariant-loop-i : goal.invariant-loop-i
invariant-loop-i g l = record {
  written : l.bytes ≡ overwritten l.initial.bytes (4 + 8 * l.layout.count) (records_bytes (g.R.Records.cell l.records) l.i);
  fits : (k : ℕ) → k < l.i → Fit (g.R.Records.cell l.records k);
}
