-- A fit cluster stays fit. Assumes nothing.
use Rattle.std.proofs.Common.{◌≡◌, ℕ, zero, suc, ◌+◌, ◌<◌, Bool, true, false, cond, ◌&&◌, eqb, List, [], ◌∷◌, ◌++◌, length, get_or, take, drop, All, Some, None, Ok, Option, Result, sym, subst, inl, inr, arith}
use Rattle.cluster.proofs.EventCases as event
use Rattle.cluster.proofs.EventCases.{Happens, happens, message_in, without}
use Rattle.cluster.proofs.FitEffects.{FitAnswer, FitEffect, FitSending, FitStore, best_fits, blank_fits, receipt_fits, recovery_fits}
use Rattle.cluster.proofs.FitPages.{fitness_parts, none_stored, page_read}
use Rattle.cluster.proofs.ReplicaCases.{Receipt}
use Rattle.cluster.specs.Acts.{accepted, acted, dispatched}
use Rattle.cluster.specs.Fitness.{fitness, lowest_unfit, message_fits, page_fits, record_fits, written_fits}
use Rattle.cluster.specs.Laws.{Fit}
use Rattle.cluster.specs.Runs.{ran}
use Rattle.cluster.specs.States.{Setup, State, place_at, record_at, with_effect, with_record, with_transit}
use Rattle.cluster.specs.Transits.{addressed, blank_record, no_message, room_in, sent_to_all, with_sent}
use Rattle.cluster.specs.declared.answer.Answer.{Answer}
use Rattle.cluster.specs.declared.event.Event.{Event}
use Rattle.replica.specs.Effects.{Effect, pages_after}
use Rattle.replica.specs.Receipts.{Received}
use Rattle.replica.specs.declared.message.Message.{Message}
use Rattle.replica.specs.declared.reaction.Reaction.{Reaction}
use Rattle.replica.specs.declared.reaction.Sending.{Sending}
use Rattle.replica.specs.declared.reaction.Sending.TheVariants as sending
use Rattle.replica.specs.declared.record.Replica.{Replica}
use Rattle.replica.specs.declared.record.Status.{Status}
use Rattle.std.proofs.lemmas.Bool.{and_from, cases_lt}
use Rattle.std.proofs.lemmas.List.{get_or_past}
use Rattle.std.proofs.lemmas.List.Elements.{All-append, All-drop, All-get_or, All-push, All-set, All-take}
use Rattle.storage.specs.Memories.{count_fits}
use Rattle.storage.specs.Timestamps.{blank_stamped}
use Rattle.storage.specs.declared.page.Page.{Page}

-- what holds of each element and of the default holds of what is read
all_read : {X : Type 0} (P : X → Type 0) (xs : List X) (i : ℕ) (d : X) → All P xs → P d → P (get_or xs i d)
all_read P xs i d h k = elim (cases_lt i (length xs)) [ inl there ↦ h i d there | inr past ↦ subst P (sym (get_or_past xs i d past)) k ]

abbrev pub FitRecord : Setup → Replica → Type 0
FitRecord u r = record_fits u.replicas u.valid r ≡ true

abbrev FitMessage : Setup → Message → Type 0
FitMessage u m = message_fits u.replicas u.valid m ≡ true

-- messages that find room
room : (P : Message → Type 0) (ms : List Message) (m : Message) → P m → All P ms → All P (with_sent ms m)
room P ms m k h = go (room_in ms)
  where
    go : (b : Bool) → All P (cond b (ms ++ m ∷ []) ms)
    go true = All-push P ms m h k
    go false = h

all_sent : (P : Message → Type 0) (n : ℕ) (ms : List Message) (m : Message) → ((j : ℕ) → P (addressed m j)) → All P ms → All P (sent_to_all n ms m)
all_sent P zero ms m k h = h
all_sent P (suc n) ms m k h = room P (sent_to_all n ms m) (addressed m n) (k n) (all_sent P n ms m k h)

module _ (u : Setup) (s : State) (fit : Fit u s) where
  storage : (count_fits u.replicas && eqb u.replicas u.size ≡ true) × (lowest_unfit u.replicas u.valid s.page 0 u.replicas ≡ None)
  storage = fitness_parts _ _ fit.storage

  page_fit : (i : ℕ) → i < u.replicas → page_fits u.replicas u.valid (s.page i) ≡ true
  page_fit i l = page_read u.replicas u.valid s.page 0 u.replicas i storage.1 (omega arith) (omega arith)

  blank_fit : (i : ℕ) → i < u.replicas → written_fits u.replicas u.valid blank_stamped ≡ true
  blank_fit i l = blank_fits u.replicas u.valid (omega arith) fit.blank

  record_fit : (i : ℕ) → i < u.replicas → FitRecord u (record_at s i)
  record_fit i l = all_read (FitRecord u) s.records i blank_record fit.records (and_from _ _ (blank_fit i l) fit.blank)

  message_fit : (p : ℕ) → p < length s.transit → FitMessage u (message_in s p)
  message_fit p l = All-get_or (FitMessage u) s.transit p no_message l fit.transit

  -- each part of a state that an event changes
  store_fit : (i : ℕ) (o : Option Page) → FitStore u.replicas u.valid o → fitness u.replicas u.size u.valid (pages_after i o s.page) ≡ Ok tt
  store_fit i None h = fit.storage
  store_fit i (Some p) h = rw (storage.0, none_stored u.replicas u.valid s.page i p h 0 u.replicas storage.1)

  effect_fit : {F : Type 0} (i : ℕ) (x : Effect (Result Reaction F)) → FitEffect u.replicas u.valid x → Fit u (with_effect s i x)
  effect_fit i x h = record {
    storage = store_fit i x.stores h.stores;
    blank = fit.blank;
    records = All-set (FitRecord u) s.records i x.replica h.holds fit.records;
    transit = fit.transit;
  }

  record_set_fit : (i : ℕ) (r : Replica) → FitRecord u r → Fit u (with_record s i r)
  record_set_fit i r h = record { storage = fit.storage; blank = fit.blank; records = All-set (FitRecord u) s.records i r h fit.records; transit = fit.transit }

  transit_fit : (ms : List Message) → All (FitMessage u) ms → Fit u (with_transit s ms)
  transit_fit ms h = record { storage = fit.storage; blank = fit.blank; records = fit.records; transit = h }

  without_fit : (p : ℕ) → Fit u (without s p)
  without_fit p = transit_fit _ (All-append (FitMessage u) (take p s.transit) (drop (suc p) s.transit) (All-take (FitMessage u) p s.transit fit.transit) (All-drop (FitMessage u) (suc p) s.transit fit.transit))

  dispatch_fit : (x : Option Sending) → FitSending u.replicas u.valid x → Fit u (dispatched u.replicas s x).0
  dispatch_fit None h = fit
  dispatch_fit (Some (sending.One m)) h = transit_fit _ (room (FitMessage u) s.transit m h fit.transit)
  dispatch_fit (Some (sending.All m)) h = transit_fit _ (all_sent (FitMessage u) u.replicas s.transit m (λ _. h) fit.transit)

-- an effect at replica i, and the reaction that it answers with
reaction_fit : {F : Type 0} (u : Setup) (s : State) (i : ℕ) (x : Effect (Result Reaction F)) (a : Reaction) → Fit u s → FitEffect u.replicas u.valid x → x.answer ≡ Ok a → Fit u (accepted u.replicas (with_effect s i x) a).0
reaction_fit u s i x a fit h k = dispatch_fit u (with_effect s i x) (effect_fit u s fit i x h) a.sending (subst (FitAnswer u.replicas u.valid) k h.sends)

module _ (u : Setup) (s : State) (fit : Fit u s) where
  begin_fit : (st : Status) (i c : ℕ) → i < u.replicas → u.valid c ≡ true → Fit u (event.beginning u s st i c).0
  begin_fit st i c l v = dispatch_fit u _ (record_set_fit u s fit i _ (and_from _ _ (blank_fit u s fit i l) v)) (Some (sending.All _)) (blank_fit u s fit i l)

  received_fit : (p : ℕ) {x : Received} → p < length s.transit → (message_in s p).receiver < u.replicas → Receipt u.enough (place_at u s (message_in s p).receiver) (record_at s (message_in s p).receiver) (message_in s p) x → FitEffect u.replicas u.valid x
  received_fit p l i h = receipt_fits u.replicas u.valid _ _ i fit.blank (page_fit u s fit _ i) (record_fit u s fit _ i) _ _ (message_fit u s fit p l) h

  stays : {at : ℕ} {e : Event} {x : State × Answer} → Happens at u s e x → Fit u x.0
  stays (event.refuses f) = fit
  stays (event.writes i c l v d o) = begin_fit _ i c l v
  stays (event.reads i l d o) = begin_fit _ i 0 l fit.blank
  stays (event.resends_query i l q) = dispatch_fit u s fit (Some (sending.All _)) (blank_fit u s fit i l)
  stays (event.resends_update i l q) = dispatch_fit u s fit (Some (sending.All _)) (best_fits u.replicas u.valid (record_at s i) (record_fit u s fit i l))
  stays (event.loses p l) = without_fit u s fit p
  stays (event.crashes i l d) = record_set_fit u s fit i _ (and_from _ _ (blank_fit u s fit i l) fit.blank)
  stays (event.comes_back i a {x} l h k) = reaction_fit u s i x a fit (recovery_fits u.replicas u.valid _ _ l fit.blank (page_fit u s fit i l) (record_fit u s fit i l) h) k
  stays (event.goes_nowhere p l k) = without_fit u s fit p
  stays (event.delivers p a {x} l i h k) = reaction_fit u (without s p) (message_in s p).receiver x a (without_fit u s fit p) (received_fit p l i h) k
  stays (event.fails p f {x} l i h k) = effect_fit u (without s p) (without_fit u s fit p) (message_in s p).receiver x (received_fit p l i h)

-- by an event, and by a list of events; v is the setup after them
pub stays_fit : (at : ℕ) (u v : Setup) (s t : State) (e : Event) (a : Answer) → acted at u s e ≡ (t, a) → v ≡ u → Fit u s → Fit v t
stays_fit at u v s t e a k same fit = subst (λ (w : Setup). Fit w t) (sym same) (subst (λ (x : State × Answer). Fit u x.0) k (stays u s fit (happens at u s e)))

ran_fit : (at : ℕ) (u : Setup) (s : State) (es : List Event) → Fit u s → Fit u (ran at u s es)
ran_fit at u s [] fit = fit
ran_fit at u s (e ∷ es) fit = ran_fit (at + 1) u (acted at u s e).0 es (stays u s fit (happens at u s e))

pub runs_fit : (u v : Setup) (s t : State) (es : List Event) → t ≡ ran 0 u s es → v ≡ u → Fit u s → Fit v t
runs_fit u v s t es leads same fit = subst (λ (w : Setup). Fit w t) (sym same) (subst (Fit u) (sym leads) (ran_fit 0 u s es fit))
