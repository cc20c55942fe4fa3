use borrow.Author.Tests.{tests}
use Rattle.std.proofs.Common.{rules, ◌∙◌}
use Rattle.std.proofs.lemmas.Iterator.Adapters.{YieldsList-from_rev_slice}
use Rattle.std.proofs.lemmas.Iterator.Search.{find_from_yields_List}
use Rattle.cluster.proofs.Newest.{newest_is, to_it}
use Rattle.cluster.proofs.transit.Transit.newest_to.Goals as goal

pub returns : goal.returns
returns c =
    let i = c.args.i in
    let ms = c.args.self.now.messages.items in
    c.copied.ensures
    ∙ find_from_yields_List (to_it i) _ _ _ c.find.ensures.ran (YieldsList-from_rev_slice ms (cc)) (λ x b q k. search (rules, tests))
    ∙ newest_is i ms
