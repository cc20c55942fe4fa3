use Rattle.std.proofs.Common.{◌+◌, ◌*◌, ◌∙◌, refl, ap, arith}
use Rattle.storage.proofs.ByteWrites.{wrote, wrote_more}
use Rattle.storage.proofs.FileWrites.{piece_more}
use Rattle.storage.specs.ByteNumbers.{bytes_of}
use Rattle.storage.specs.Files.{pair_bytes}
use Rattle.storage.proofs.file.filling.put_pairs.Goals as goal

pub loop-i-preserved : goal.loop-i-preserved
loop-i-preserved c =
    let i = c.loop-i.i in
    let w = wrote {bs = c.loop-i.bytes} {k = 4 + 8 * i} _ _ c.put.ensures (c.to_le_bytes.ensures ∙ ap (bytes_of 4) c.place.ensures) in
    let pair = wrote_more w (8 + 8 * i) _ _ c.put-in-loop-i.ensures c.to_le_bytes-in-loop-i.ensures (omega arith) (omega arith) in
    piece_more (pair_bytes c.args.layout.count) 8 (λ j. refl) c.args.bytes.now 4 i (4 + 8 * i) c.loop-i.bytes c.put-in-loop-i.new.bytes c.loop-i.invariant pair.is refl (omega arith)
