use Rattle.std.proofs.Common.{refl, arith}
use Rattle.storage.proofs.ByteWrites.{wrote, wrote_more}
use Rattle.storage.specs.Records.{record_bytes}
use Rattle.storage.proofs.file.records.put_record.Goals as goal

pub returns-clause-after : goal.returns-clause-after
unfolding record_bytes
returns-clause-after c =
    let w1 = wrote {bs = c.args.bytes.now} {k = c.args.k} _ _ c.put.ensures c.to_le_bytes.ensures in
    let w2 = wrote_more w1 _ _ _ c.put-2.ensures c.to_le_bytes-2.ensures refl (omega arith) in
    let w3 = wrote_more w2 _ _ _ c.put-3.ensures c.to_le_bytes-3.ensures refl (omega arith) in
    let w4 = wrote_more w3 _ _ _ c.put-4.ensures c.to_le_bytes-4.ensures refl (omega arith) in
    let w5 = wrote_more w4 _ _ _ c.put-5.ensures c.to_le_bytes-5.ensures refl (omega arith) in
    let w6 = wrote_more w5 _ _ _ c.put-6.ensures c.to_le_bytes-6.ensures refl (omega arith) in
    (wrote_more w6 _ _ _ c.put-7.ensures c.to_le_bytes-7.ensures refl (omega arith)).is
