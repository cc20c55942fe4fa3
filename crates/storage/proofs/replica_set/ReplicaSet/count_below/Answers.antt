use Rattle.std.proofs.Common.{ℕ, ◌∙◌, cond, refl, arith, rules, tests}
use Rattle.std.specs.List.{range_with_len}
use Rattle.std.proofs.lemmas.Iterator.Consumers.{YieldsList-at, fits_by_from_yields_list, sum_by_from_yields_List}
use Rattle.std.proofs.lemmas.Iterator.{YieldsList-from_map, YieldsList-from_range}
use Rattle.std.proofs.lemmas.List.FromFn.{length-range_with_len}
use Rattle.std.proofs.lemmas.List.Sums.{count_by-le-length}
use Rattle.storage.specs.Weights.{one}
use Rattle.storage.specs.ReplicaSets.{member}
use Rattle.storage.proofs.Weighing.{weigh_sum}
use Rattle.storage.proofs.replica_set.ReplicaSet.count_below.Goals as goal

pub sum-requires-clause-fits : goal.sum-requires-clause-fits
sum-requires-clause-fits c =
    let n = c.args.end in
    let f = member c.args.self.now in
    let ones : ℕ → ℕ = λ k. cond (f k) 1 0 in
    fits_by_from_yields_list ones (range_with_len 0 n) c.map.result _ (YieldsList-from_map _ ones (YieldsList-at c.map.ensures.source (YieldsList-from_range 0 n n refl (omega arith))) c.map.ensures.closure (λ x r q k. search (rules, tests)))
    (omega (arith, count_by-le-length f (range_with_len 0 n), length-range_with_len 0 n))

pub returns : goal.returns
returns c =
    let n = c.args.end in
    let f = member c.args.self.now in
    let ones : ℕ → ℕ = λ k. cond (f k) 1 0 in
    let same = sum_by_from_yields_List ones (range_with_len 0 n) c.map.result _ c.sum.ensures.ran (YieldsList-from_map _ ones (YieldsList-at c.map.ensures.source (YieldsList-from_range 0 n n refl (omega arith))) c.map.ensures.closure (λ x r q k. search (rules, tests))) in
    record { number = same ∙ weigh_sum one f n; few = omega (arith, same, count_by-le-length f (range_with_len 0 n), length-range_with_len 0 n) }
