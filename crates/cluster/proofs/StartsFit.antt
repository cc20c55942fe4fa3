-- A cluster starts fit. Assumes nothing.
use Rattle.std.proofs.Common.{◌≡◌, ℕ, ◌<◌, true, leb, List, [], replicate, is_some, Some, Ok, Option, sym, ap, ◌∙◌, subst, leb-true}
use Rattle.cluster.proofs.FitEffects.{blank_fits}
use Rattle.cluster.proofs.FitPages.{fitness_parts}
use Rattle.cluster.proofs.StaysFit.{FitRecord}
use Rattle.cluster.specs.Fitness.{fitness, message_fits}
use Rattle.cluster.specs.Laws.{Fit}
use Rattle.cluster.specs.States.{Setup, State, begins}
use Rattle.replica.specs.Records.{down}
use Rattle.replica.specs.declared.message.Message.{Message}
use Rattle.replica.specs.declared.record.Replica.{Replica}
use Rattle.std.proofs.lemmas.Bool.{and_from, and_parts}
use Rattle.std.proofs.lemmas.List.Elements.{All-nil, All-replicate}
use Rattle.storage.specs.Memories.{count_fits}
use Rattle.storage.specs.declared.page.Page.{Page}

-- a state with all replicas down and nothing in transit
pub begins_as : (page : ℕ → Page) (left : ℕ → ℕ) (rs : List Replica) (ms : List Message) → rs ≡ replicate 15 down → ms ≡ [] → ◌≡◌ {A = State} (record { page = page; left = left; records = rs; transit = ms }) (begins page left)
begins_as page left rs ms p q = λ j. record { page = page; left = left; records = p j; transit = q j }

-- a cluster starts fit, with a fit storage and quorum
pub starts_fit : (u : Setup) (s : State) (page : ℕ → Page) (left : ℕ → ℕ) → s ≡ begins page left → u.valid 0 ≡ true → fitness u.replicas u.size u.valid page ≡ Ok tt → Fit u s
starts_fit u s page left e v h = subst (Fit u) (sym e) (record {
  storage = h;
  blank = v;
  records = All-replicate (FitRecord u) 15 down (and_from _ _ (blank_fits u.replicas u.valid some v) v);
  transit = All-nil (λ m. message_fits u.replicas u.valid m ≡ true);
})
  where
    some : 0 < u.replicas
    some = leb-true 1 u.replicas (and_parts (leb 1 u.replicas) _ (and_parts (count_fits u.replicas) _ (fitness_parts _ _ h).0).0).0

-- code 0 is of the kind, as the code of the blank entry
pub zero_valid : {E : Type 0} (decoded : ℕ → Option E) (code : E → ℕ) (blank : E) → decoded (code blank) ≡ Some blank → code blank ≡ 0 → is_some (decoded 0) ≡ true
zero_valid decoded code blank r z = ap is_some (ap decoded (sym z) ∙ r)
