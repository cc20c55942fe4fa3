use Rattle.std.proofs.Common.{◌≡◌, true, rules, arith}
use Rattle.std.proofs.lemmas.Grind.{common_steps}
use Rattle.storage.specs.Memories.{count_fits}
use Rattle.rehearsal.proofs.OpeningRange.{in_range}
use Rattle.rehearsal.proofs.opening.reading.within_range.Goals as goal

pub returns-in_err-ok : goal.returns-in_err-ok
returns-in_err-ok c =
    let fits : count_fits c.args.replicas ≡ true = grind (arith, common_steps) in
    rw (in_range c.args.replicas c.args.kind c.args.stores fits) (search rules)

pub returns-in_err-ok-2 : goal.returns-in_err-ok-2
returns-in_err-ok-2 c =
    let fits : count_fits c.args.replicas ≡ true = grind (arith, common_steps) in
    rw (in_range c.args.replicas c.args.kind c.args.stores fits) (search rules)

pub returns : goal.returns
returns c =
    let fits : count_fits c.args.replicas ≡ true = grind (arith, common_steps) in
    rw (in_range c.args.replicas c.args.kind c.args.stores fits) (search rules)
