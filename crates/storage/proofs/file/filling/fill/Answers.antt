use Rattle.std.proofs.Common.{sym, subst}
use Rattle.storage.proofs.FileLayout.{keeps}
use Rattle.storage.proofs.FileWrites.{whole_file}
use Rattle.storage.specs.Files.{Keeps}
use Rattle.storage.proofs.file.filling.fill.Goals as goal

pub returns : goal.returns
returns g c =
    let n = c.args.layout.count in
    let kind = c.args.kind in
    let cell = g.R.Records.cell c.args.records.now in
    let all = whole_file n kind cell c.args.bytes.now c.put.new.bytes c.put_pairs.new.bytes c.put_records.new.bytes c.requires.size c.put.ensures c.put_pairs.ensures c.put_records.ensures.after in
    record {
      after = all;
      kept = subst (Keeps n kind cell) (sym all) (keeps n kind cell c.args.layout.least c.args.layout.most c.put_records.ensures.fits);
    }
