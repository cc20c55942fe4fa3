use Rattle.std.proofs.Common.{◌==◌, length, sym, ap, arith, rules, tests}
use Rattle.std.proofs.lemmas.Iterator.{YieldsList-from_slice}
use Rattle.std.proofs.lemmas.Iterator.Search.{all_from_yields_List}
use Rattle.storage.specs.Weights.{weigh, all, weight_at}
use Rattle.storage.proofs.QuorumMaking.{padded_row, weightless, weighty, weightless_made, weighted_made}
use Rattle.storage.proofs.quorum.weighted.Weighted.new.Goals as goal

pub returns-then-all : goal.returns-then-all
returns-then-all c =
    let ws = c.args.weights.now in
    let each = all_from_yields_List (λ x. x == 0) _ _ c.all.result c.all.ensures.ran (YieldsList-from_slice ws cc) (λ x b q k. search (rules, tests)) in
    sym (weightless_made ws (search rules) (search rules) (weightless ws _ each c.if-all.true))

pub invariant_of-result-clause-weighs : goal.invariant_of-result-clause-weighs
invariant_of-result-clause-weighs c =
    let ws = c.args.weights.now in
    let each = all_from_yields_List (λ x. x == 0) _ _ c.all.result c.all.ensures.ran (YieldsList-from_slice ws cc) (λ x b q k. search (rules, tests)) in
    let same = ap (λ xs. weigh (weight_at xs) all (length ws)) (padded_row ws c.copy_from_slice.new.self c.copy_from_slice.ensures.after) in
    omega (arith, same, weighty ws _ each c.if-all.false)

pub returns : goal.returns
returns c = sym (weighted_made c.args.weights.now _ _ _ _ (padded_row c.args.weights.now c.copy_from_slice.new.self c.copy_from_slice.ensures.after))
