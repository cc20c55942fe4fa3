-- How far a run has come. Assumes nothing.
use Rattle.std.proofs.Common.{◌≡◌, ℕ, ◌≤◌, List, ◌++◌, length, take, drop, sym, ap, ◌∙◌}
use Rattle.cluster.specs.Runs.{answers_of, ran}
use Rattle.cluster.specs.States.{Setup, State}
use Rattle.cluster.specs.declared.answer.Answer.{Answer}
use Rattle.cluster.specs.declared.event.Event.{Event}
use Rattle.std.proofs.lemmas.List.{drop_all}

-- what the whole run gives is what was given, and what the rest gives from here
pub record Running (u v : Setup) (s t : State) (es : List Event) (old new : List Answer) (k : ℕ) : Type 0 where
  pub same : v ≡ u
  pub leads : ran 0 u s es ≡ ran k u t (drop k es)
  pub answers : answers_of 0 u s es ≡ take k new ++ answers_of k u t (drop k es)
  pub spare : drop k new ≡ drop k old

module _ {u v : Setup} {s t : State} {es : List Event} {old new : List Answer} {k : ℕ} (h : Running u v s t es old new k) (all : length es ≤ k) (not-past : k ≤ length es) where
  -- the end of the list
  pub run_leads : t ≡ ran 0 u s es
  run_leads = sym (h.leads ∙ ap (ran k u t) (drop_all k es all))
