use Rattle.std.proofs.Common.{get_or, rules}
use Rattle.std.proofs.lemmas.List.FromFn.{fill_by_all}
use Rattle.storage.proofs.stable.quota.allowances_of.Goals as goal

pub returns : goal.returns
returns c = fill_by_all (λ i. get_or c.args.given.now i 0) _ 15 0 c.from_fn.ensures.items.long (λ k h. let e = c.from_fn.ensures.items.at k 0 h in search rules)
