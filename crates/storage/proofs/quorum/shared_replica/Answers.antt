use Rattle.std.proofs.Common.{◌≡◌, ◌&&◌, is_some, sym, ap, ◌∙◌, arith, rules, tests}
use Rattle.std.proofs.lemmas.Iterator.{YieldsList-from_range}
use Rattle.std.proofs.lemmas.Iterator.Adapters.{option_map_id}
use Rattle.std.proofs.lemmas.Iterator.Search.{find_from_yields_List}
use Rattle.storage.specs.ReplicaSets.{member, lowest_shared}
use Rattle.storage.proofs.LowestShared.{found}
use Rattle.storage.proofs.quorum.shared_replica.Goals as goal

pub returns : goal.returns
returns g c =
    let one = member c.args.one.now in
    let other = member c.args.other.now in
    let n = g.Q.Quorum.size c.args.quorum.now in
    let lowest : c.find.result ≡ lowest_shared one other n =
    sym (option_map_id c.find.result)
    ∙ find_from_yields_List (λ k. one k && other k) _ _ c.find.result c.find.ensures.ran (YieldsList-from_range 0 n n (cc) (omega arith)) (λ x b q k. search (rules, tests)) in
    record {
      lowest = lowest;
      met = λ a b.
          let s = g.met.Q.Quorum.shared c.args.quorum.now one other a b in
          ap is_some lowest ∙ found (λ k. one k && other k) 0 n s.0 (omega arith) (omega (arith, s.1)) (rw (s.2, s.3));
    }
