use Rattle.std.proofs.Common.{◌<◌, ◌≤◌, length, refl, arith}
use Rattle.storage.proofs.FileStores.{after, given_back, held_after}
use Rattle.storage.specs.Files.{file_length}
use Rattle.storage.specs.Records.{record_bytes}
use Rattle.storage.proofs.file.taken.FileStorage.put.Goals as goal

pub invariant_of-self : goal.invariant_of-self
invariant_of-self c =
    let f = c.args.self.now in
    let some : 0 < f.count = omega arith in
    let room : file_length f.count ≤ length f.bytes.items = omega (arith, f.room some, f.bytes.ok.0) in
    let is = given_back f.bytes c.deref_mut.result.now c.put_record.new.bytes (record_bytes c.args.cell) _ c.place-k.result c.deref_mut.ensures.value c.put_record.auto.bytes c.put_record.ensures.after c.place-k.ensures in
    record {
      few = f.few;
      room = f.room;
      file = λ _. held_after f.bytes.items _ f.count c.args.i c.args.cell c.put_record.ensures.fits c.requires room is (f.file some);
    }

pub returns : goal.returns
returns c =
    let f = c.args.self.now in
    let some : 0 < f.count = omega arith in
    let room : file_length f.count ≤ length f.bytes.items = omega (arith, f.room some, f.bytes.ok.0) in
    let is = given_back f.bytes c.deref_mut.result.now c.put_record.new.bytes (record_bytes c.args.cell) _ c.place-k.result c.deref_mut.ensures.value c.put_record.auto.bytes c.put_record.ensures.after c.place-k.ensures in
    let fit = c.put_record.ensures.fits in
    record {
      pages = after f.bytes.items _ f.count c.args.i c.args.cell fit c.requires room is (λ x. x.page);
      lefts = after f.bytes.items _ f.count c.args.i c.args.cell fit c.requires room is (λ x. x.left);
      size = refl;
      bytes = is;
    }
