use Rattle.std.proofs.Common.{◌≡◌}
use Rattle.storage.specs.ByteNumbers.{overwritten}
use Rattle.std.specs.List.{range_with_len, flat_map}
use Rattle.storage.specs.Files.{pair_bytes}
use Rattle.storage.proofs.file.filling.put_pairs.Given as goal

abbrev pub invariant-loop-i : goal.invariant-loop-i
invariant-loop-i l = l.bytes ≡ overwritten l.initial.bytes 4 (flat_map (pair_bytes l.layout.count) (range_with_len 0 l.i))
