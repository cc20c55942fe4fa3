use Rattle.std.proofs.Common.{◌+◌, ◌*◌, ◌∙◌, ap, subst, arith, below_more}
use Rattle.storage.proofs.FileWrites.{piece_more}
use Rattle.storage.proofs.RecordBytes.{length_record}
use Rattle.storage.specs.ByteNumbers.{overwritten}
use Rattle.storage.specs.Records.{Fit, record_bytes}
use Rattle.storage.specs.declared.stable.memory.Cell.{Cell}
use Rattle.storage.proofs.file.filling.put_records.Goals as goal

pub loop-i-preserved : goal.loop-i-preserved
loop-i-preserved g c =
    let n = c.args.layout.count in
    let i = c.loop-i.i in
    let cell = g.R.Records.cell c.args.records.now in
    let next = c.put_record.ensures.after ∙ ap (λ (x : Cell). overwritten c.loop-i.bytes c.place.result (record_bytes x)) c.cell.ensures in
    record {
      written = piece_more (λ k. record_bytes (cell k)) 36 (λ k. length_record (cell k)) c.args.bytes.now (4 + 8 * n) i c.place.result c.loop-i.bytes c.put_record.new.bytes c.loop-i.invariant.written next c.place.ensures (omega arith);
      fits = below_more _ _ c.loop-i.invariant.fits (subst Fit c.cell.ensures c.put_record.ensures.fits);
    }
