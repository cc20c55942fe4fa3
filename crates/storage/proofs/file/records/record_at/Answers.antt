use Rattle.std.proofs.Common.{◌+◌, refl, arith}
use Rattle.storage.proofs.RecordBytes.{read}
use Rattle.storage.specs.Records.{record_of}
use Rattle.storage.proofs.file.records.record_at.Goals as goal

pub returns : goal.returns
unfolding record_of
returns c =
    let bs = c.args.bytes.now in
    let k = c.args.k in
    let sequence = read 3 bs _ k 8 (k + 8) _ c.from_le_bytes.ensures c.bytes_at.ensures refl (omega arith) c.requires in
    let replica = read 3 bs _ k 12 (k + 12) _ c.from_le_bytes-2.ensures c.bytes_at-2.ensures refl (omega arith) c.requires in
    let incarnation = read 3 bs _ k 4 (k + 4) _ c.from_le_bytes-3.ensures c.bytes_at-3.ensures refl (omega arith) c.requires in
    let code = read 7 bs _ k 16 (k + 16) _ c.from_le_bytes-4.ensures c.bytes_at-4.ensures refl (omega arith) c.requires in
    let next_sequence = read 3 bs _ k 24 (k + 24) _ c.from_le_bytes-5.ensures c.bytes_at-5.ensures refl (omega arith) c.requires in
    let next_code = read 7 bs _ k 28 (k + 28) _ c.from_le_bytes-6.ensures c.bytes_at-6.ensures refl (omega arith) c.requires in
    let left = read 3 bs _ k 0 k _ c.from_le_bytes-7.ensures c.bytes_at-7.ensures (omega arith) (omega arith) c.requires in
    λ j.
    record {
      page = record {
        incarnation = incarnation j;
        written = record { timestamp = record { sequence = sequence j; replica = replica j }; code = code j };
        intended_sequence = next_sequence j;
        intended_code = next_code j;
      };
      left = left j;
    }
