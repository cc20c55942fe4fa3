use Rattle.std.proofs.Common.{ap, replicate}
use Rattle.cluster.proofs.StartsFit.{begins_as, starts_fit, zero_valid}
use Rattle.replica.specs.declared.record.Replica.{Replica}
use Rattle.cluster.proofs.cluster.Cluster.new.Goals as goal

pub returns-in-Ok-clause-fit : goal.returns-in-Ok-clause-fit
returns-in-Ok-clause-fit g c =
    let begins = begins_as (g.S.Storage.page c.args.storage) (g.S.Storage.left c.args.storage) _ _ (ap (λ (r : Replica). replicate 15 r) c.new-in-Ok.ensures) c.in-Ok.ensures in
    starts_fit _ _ _ _ begins (zero_valid g.E.Entry.decoded g.E.Entry.code g.E.Entry.blank (g.met.E.Entry.reads g.E.Entry.blank) g.met.E.Entry.zero)
