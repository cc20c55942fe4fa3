use Rattle.std.proofs.Common.{ℕ, Bool, ◌∙◌, ap, find, not, refl, sym, arith, rules}
use Rattle.std.proofs.lemmas.Iterator.{YieldsList-from_range, first_from_Range}
use Rattle.std.proofs.lemmas.Iterator.Adapters.{option_map_id}
use Rattle.std.proofs.lemmas.Iterator.Search.{find_from_yields_List}
use Rattle.std.specs.List.{range_with_len}
use Rattle.storage.proofs.FileLayout.{same_file}
use Rattle.storage.proofs.PairSearch.{if_none, right_from, says, wrong_from}
use Rattle.storage.specs.Opened.{pair_fits}
use Rattle.storage.proofs.file.opening.wrong_pair.Goals as goal

pub returns : goal.returns
returns c =
    let bs = c.args.bytes.now in
    let n = c.args.layout.count in
    let wrong : ℕ → Bool = λ i. not (pair_fits bs i) in
    let right = says bs n _ c.find.result (first_from_Range _ _ _ _ _ _ c.find.ensures.ran (λ x q k. wrong_from bs x (search rules)) (λ x q k. (search rules, right_from bs x (search rules)))) (omega arith) in
    record {
      first = sym (option_map_id c.find.result) ∙ find_from_yields_List wrong _ _ _ c.find.ensures.ran (YieldsList-from_range 0 n n refl (omega arith)) (λ x b q k. search rules) ∙ ap (λ (m : ℕ). find wrong (range_with_len 0 m)) c.requires.count;
      right = right;
      same = if_none bs n c.find.result right (same_file bs n (λ i. omega (arith, c.type_inv.bytes i)) c.requires.count c.requires.zeros.0 c.requires.zeros.1 c.requires.size);
    }
