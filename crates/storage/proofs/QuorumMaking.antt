-- A rule that was made is the one of the specification. Assumes nothing.
use Rattle.std.proofs.Common.{◌≡◌, ℕ, ◌-◌, ◌≤◌, Bool, true, false, List, ◌++◌, length, get_or, drop, replicate, sum, ◌==◌, Ok, Err, Result, sym, refl, ap, ◌∙◌, subst, arith}
use Rattle.std.specs.List.{list_all, range_with_len}
use Rattle.std.proofs.lemmas.Bool.{eqb-true, eqb-false}
use Rattle.std.proofs.lemmas.List.Folds.{sum_by-zero}
use Rattle.std.proofs.lemmas.List.FromFn.{fill_by_all}
use Rattle.std.proofs.lemmas.List.Sums.{sum-map}
use native.Mathlib.Decide.{dec_le}
use native.Mathlib.Bridge.{le_prop}
use Rattle.std.proofs.lemmas.List.{drop-replicate, get_or_append_left}
use Rattle.storage.specs.Weights.{weigh, all, weight_at}
use Rattle.storage.specs.Quorums.{replicas_within, majority_of, padded, total_weight, weighing, weighted_of}
use Rattle.storage.specs.declared.quorum.majority.Majority.{Majority}
use Rattle.storage.specs.declared.quorum.refusal.QuorumRefusal.{QuorumRefusal}
use Rattle.storage.specs.declared.quorum.refusal.QuorumRefusal.TheVariants.{Weightless}
use Rattle.storage.specs.Meeting.{weigh_same}
use Rattle.storage.proofs.Weighing.{weigh_sum}

-- 1 to 15 replicas are not refused for their number
within : {X : Type 0} (n : ℕ) (make : 1 ≤ n → n ≤ 15 → Result X QuorumRefusal) (l : 1 ≤ n) (m : n ≤ 15) → replicas_within n make (dec_le 1 n) (dec_le n 15) ≡ make l m
within {X} n make l m = go (dec_le 1 n) (dec_le n 15)
  where
    go : (d : Dec (1 ≤ n)) (e : Dec (n ≤ 15)) → replicas_within n make d e ≡ make l m
    go (yes a) (yes b) = λ i. make (le_prop a l i) (le_prop b m i)
    go (yes a) (no b) = absurd (b m)
    go (no a) e = absurd (a l)

-- a majority rule is the one of its number of replicas
pub majority_made : (q : Majority) → majority_of q.replicas ≡ Ok q
majority_made q = within q.replicas (λ l m. Ok (record { replicas = q.replicas; some = l; few = m })) q.some q.few

-- the weights, copied into the front of a row of fifteen zeros
pub padded_row : (ws front : List ℕ) → front ≡ ws → padded ws ≡ front ++ drop (length ws) (replicate 15 0)
padded_row ws front e = rw (e, drop-replicate {X = ℕ} (length ws) 15 0)

-- a list is what its places hold, so that it weighs its sum; the zeros weigh nothing
weighs_sum : (ws : List ℕ) → sum ws ≡ weigh (weight_at ws) all (length ws)
weighs_sum ws =
    ap sum (fill_by_all (λ k. get_or ws k 0) ws (length ws) 0 refl (λ k l. refl))
    ∙ sum-map (weight_at ws) (range_with_len 0 (length ws))
    ∙ weigh_sum (weight_at ws) all (length ws)

total_sum : (ws : List ℕ) → sum ws ≡ total_weight ws
total_sum ws =
    weighs_sum ws
    ∙ weigh_same (weight_at ws) (weight_at (padded ws)) all all (length ws)
    (λ k l. (sym (get_or_append_left ws (replicate (15 - length ws) 0) 0 k l), refl))

-- whether all weights are 0 is whether they weigh nothing together
all_zero : (ws : List ℕ) → list_all (λ x. x == 0) ws ≡ (total_weight ws == 0)
all_zero ws = sym (sum_by-zero (λ x. x) ws) ∙ ap (λ t. t == 0) (total_sum ws)

-- and so what a search for another weight tells
pub weightless : (ws : List ℕ) (b : Bool) → b ≡ list_all (λ x. x == 0) ws → b ≡ true → total_weight ws ≡ 0
weightless ws b e h = eqb-true (total_weight ws) 0 (sym (e ∙ all_zero ws) ∙ h)

pub weighty : (ws : List ℕ) (b : Bool) → b ≡ list_all (λ x. x == 0) ws → b ≡ false → 1 ≤ total_weight ws
weighty ws b e h = omega (arith, eqb-false (total_weight ws) 0 (sym (e ∙ all_zero ws) ∙ h))

module _ (ws : List ℕ) (l : 1 ≤ length ws) (m : length ws ≤ 15) where
  -- 1 to 15 weights are judged by what they weigh together
  judged : weighted_of ws ≡ weighing ws l m (dec_le 1 (total_weight ws))
  judged = within (length ws) (λ a b. weighing ws a b (dec_le 1 (total_weight ws))) l m

  -- weights of 0 alone are refused as such
  pub weightless_made : total_weight ws ≡ 0 → weighted_of ws ≡ Err Weightless
  weightless_made z = judged ∙ go (dec_le 1 (total_weight ws))
    where
      go : (d : Dec (1 ≤ total_weight ws)) → weighing ws l m d ≡ Err Weightless
      go (yes h) = absurd (omega arith)
      go (no h) = refl

  -- other weights make a rule
  made : (h : 1 ≤ total_weight ws) → weighted_of ws ≡ Ok (record { weights = padded ws; replicas = length ws; some = l; few = m; weighs = h })
  made h = judged ∙ go (dec_le 1 (total_weight ws))
    where
      go : (d : Dec (1 ≤ total_weight ws)) → weighing ws l m d ≡ Ok (record { weights = padded ws; replicas = length ws; some = l; few = m; weighs = h })
      go (yes a) = λ i. Ok (record { weights = padded ws; replicas = length ws; some = l; few = m; weighs = le_prop a h i })
      go (no a) = absurd (a h)

-- the rule that holds the copied row is the one of its weights
pub weighted_made : (ws row : List ℕ) (l : 1 ≤ length ws) (m : length ws ≤ 15) (h : 1 ≤ weigh (weight_at row) all (length ws)) → padded ws ≡ row → weighted_of ws ≡ Ok (record { weights = row; replicas = length ws; some = l; few = m; weighs = h })
weighted_made ws row l m h e =
    let P : List ℕ → Type 0 = λ xs. (a : 1 ≤ weigh (weight_at xs) all (length ws)) → weighted_of ws ≡ Ok (record { weights = xs; replicas = length ws; some = l; few = m; weighs = a }) in
    subst P e (made ws l m) h
