use Rattle.std.proofs.Common.{rules, arith}
use Rattle.std.proofs.lemmas.Iterator.{first_from_Range}
use Rattle.cluster.proofs.UnfitSearch.{Passes, Stops, first_unfit}
use Rattle.cluster.specs.Fitness.{of_kind}
use Rattle.cluster.proofs.cluster.fitness.unfit_replica.Goals as goal

pub returns : goal.returns
returns g c =
    let n = c.args.n in
    let valid = of_kind g.E.Entry in
    let pages = g.S.Storage.page c.args.storage.now in
    first_unfit n valid pages 0 n (omega arith) _
    (first_from_Range _ _ _ _ (Stops n valid pages) (Passes n valid pages) c.find.ensures.ran (λ x q k. search rules) (λ x q k. search rules))
