use Rattle.std.proofs.Common.{ℕ, ◌≤◌, ◌∙◌, refl, arith, rules, tests}
use Rattle.std.proofs.lemmas.Iterator.Consumers.{YieldsList-at, fold_from_yields_List}
use Rattle.std.proofs.lemmas.Iterator.{YieldsList-from_range, YieldsList-from_slice, YieldsList-from_zip}
use Rattle.storage.specs.ReplicaSets.{member}
use Rattle.storage.specs.Weights.{weight_at}
use Rattle.storage.proofs.Weighing.{weights_with, folded_weights}
use Rattle.storage.proofs.quorum.weighted.Weighted.weights_of.Goals as goal

pub returns : goal.returns
returns c =
    let n = c.args.self.now.replicas in
    let ws = c.args.self.now.weights in
    let f = member c.args.set.now in
    let few : (k : ℕ) → weight_at ws k ≤ 255 = λ k. rw (← c.as_slice-weights.ensures) (grind arith) in
    let zipped = YieldsList-from_zip (YieldsList-at c.zip.ensures.first (YieldsList-from_slice ws cc)) (YieldsList-at c.zip.ensures.second (YieldsList-from_range 0 n n refl (omega arith))) in
    fold_from_yields_List _ (weights_with f) (0, 0) _ c.fold.ensures.ran zipped (λ a x b q k. search (rules, tests))
    ∙ folded_weights ws f n (omega arith) (omega arith) few
