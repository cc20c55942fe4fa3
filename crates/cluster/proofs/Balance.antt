-- Each event balances. Assumes nothing.
use Rattle.std.proofs.Common.{◌≡◌, ℕ, zero, suc, ◌+◌, ◌-◌, ◌<◌, ◌≤◌, Bool, true, false, cond, eqb, ltb, [], ◌∷◌, ◌++◌, length, Some, None, Ok, Err, Option, Result, sym, refl, ap, ◌∙◌, subst, add-zero, arith, length-append, ltb-true, ne_eqb, eqb-true}
use borrow.Author.Tests.{eqb-false}
use Rattle.cluster.proofs.EventCases as event
use Rattle.cluster.proofs.EventCases.{Happens, happens, message_in, without}
use Rattle.cluster.proofs.ReplicaCases as replica
use Rattle.cluster.proofs.ReplicaCases.{Receipt, Recovery}
use Rattle.cluster.proofs.Sending.{all_more}
use Rattle.cluster.specs.Acts.{accepted, acted, broadcasted, dispatched}
use Rattle.cluster.specs.Laws.{Balanced, taken_out, takes, total}
use Rattle.cluster.specs.States.{Setup, State, place_at, with_effect}
use Rattle.cluster.specs.Transits.{room_in}
use Rattle.cluster.specs.declared.answer.Answer.{Answer}
use Rattle.cluster.specs.declared.event.Event.{Event}
use Rattle.replica.specs.Effects.{Place, left_after, store_at}
use Rattle.replica.specs.Reactions.{updating}
use Rattle.replica.specs.Receipts.{Received}
use Rattle.replica.specs.Recoveries.{Comeback}
use Rattle.replica.specs.declared.message.Message.{Message}
use Rattle.replica.specs.declared.reaction.Outcome.{Outcome}
use Rattle.replica.specs.declared.reaction.Reaction.{Reaction}
use Rattle.replica.specs.declared.reaction.Sending.{Sending}
use Rattle.replica.specs.declared.reaction.Sending.TheVariants.{One, All}
use Rattle.replica.specs.declared.record.Replica.{Replica}
use Rattle.std.proofs.lemmas.List.Edits.{length-remove}
use Rattle.storage.specs.Faults.{no_replica, no_stores}
use Rattle.storage.specs.Storages.{stored, updated}
use Rattle.storage.specs.declared.fault.StorageFault.{StorageFault}
use Rattle.storage.specs.declared.page.Page.{Page}

-- a sum whose term at i became x, up to i and past it
total_kept : (f : ℕ → ℕ) (i x n : ℕ) → n ≤ i → total (updated f i x) n ≡ total f n
total_kept f i x zero l = refl
total_kept f i x (suc n) l =
    let before = total_kept f i x n (omega arith) in
    let apart = ne_eqb n i (λ e. omega arith) in
    rw (before, apart)

total_changed : (f : ℕ → ℕ) (i x n : ℕ) → i < n → total (updated f i x) n + f i ≡ total f n + x
total_changed f i x zero l = absurd (omega arith)
total_changed f i x (suc n) l = go (eqb n i) refl (total_changed f i x n)
  where
    go : (b : Bool) → eqb n i ≡ b → (i < n → total (updated f i x) n + f i ≡ total f n + x) → (total (updated f i x) n + cond b x (f n)) + f i ≡ (total f n + f n) + x
    go true k h =
        let here = eqb-true n i k in
        let before = total_kept f i x n (omega arith) in
        let term = ap f here in
        omega arith
    go false k h = let before = h (omega (arith, eqb-false n i k)) in omega arith

-- whether a page was stored at a place, and that the store was accepted
pub data Stores (a : Place) : Option Page → Bool → Type 0 where
  none : Stores a None false
  one : {p : Page} → store_at a ≡ Ok tt → Stores a (Some p) true

abbrev has_stored : {F : Type 0} → Result Reaction F → Bool
has_stored (Ok a) = a.stored
has_stored (Err f) = false

receipt_stores : {enough : (ℕ → Bool) → Bool} {a : Place} {r : Replica} {m : Message} {x : Received} → Receipt enough a r m x → Stores a x.stores (has_stored x.answer)
receipt_stores replica.ignores = none
receipt_stores (replica.reports e) = none
receipt_stores (replica.acknowledges e) = none
receipt_stores (replica.keeps e k) = one k
receipt_stores (replica.keeps_not f e k) = none
receipt_stores (replica.queries_on e q) = none
receipt_stores (replica.read_updates e q w) = none
receipt_stores (replica.write_ends e q w l) = none
receipt_stores (replica.write_updates e q w l k) = one k
receipt_stores (replica.write_fails f e q w l k) = none
receipt_stores (replica.updates_on e q) = none
receipt_stores (replica.finishes e q) = none

recovery_stores : {a : Place} {r : Replica} {x : Comeback} → Recovery a r x → Stores a x.stores (has_stored x.answer)
recovery_stores (replica.refuses f) = none
recovery_stores (replica.is_idle d l k z) = one k
recovery_stores (replica.recovers d l k z) = one k

-- a store is accepted where one is left
stores_left : (n i left layer : ℕ) → stored n i left layer ≡ Ok tt → 0 < left
stores_left n i left layer e = go (ltb i n) (ltb 0 left) refl e
  where
    go : (b d : Bool) → ltb 0 left ≡ d → ◌≡◌ {A = Result (Unit {0}) StorageFault} (cond b (cond d (Ok tt) (Err (no_stores i layer))) (Err (no_replica i))) (Ok tt) → 0 < left
    go true true k h = ltb-true 0 left k
    go true false k h = absurd cc
    go false d k h = absurd cc

-- a store takes one of the stores left
stores_taken : (u : Setup) (s : State) (i : ℕ) {o : Option Page} {b : Bool} → i < u.replicas → Stores (place_at u s i) o b → total (left_after i o s.left) u.replicas + cond b 1 0 ≡ total s.left u.replicas
stores_taken u s i l none = add-zero _
stores_taken u s i l (one k) =
    let some = stores_left u.replicas i (s.left i) (u.layer i) k in
    let changed = total_changed s.left i (s.left i - 1) u.replicas l in
    omega arith

-- what is sent goes into transit, and no store is made for it
dispatch_length : (n : ℕ) (s : State) (x : Option Sending) → length (dispatched n s x).0.transit ≡ length s.transit + (dispatched n s x).1.0
dispatch_length n s None = sym (add-zero _)
dispatch_length n s (Some (One m)) = go (room_in s.transit)
  where
    go : (b : Bool) → length (cond b (s.transit ++ m ∷ []) s.transit) ≡ length s.transit + (cond {A = ℕ × ℕ} b (1, 0) (0, 1)).0
    go true = length-append s.transit (m ∷ [])
    go false = sym (add-zero _)
dispatch_length n s (Some (All m)) = let more = all_more n s.transit m in omega arith

dispatch_left : (n : ℕ) (s : State) (x : Option Sending) → (dispatched n s x).0.left ≡ s.left
dispatch_left n s None = refl
dispatch_left n s (Some (One m)) = refl
dispatch_left n s (Some (All m)) = refl

-- an event that was not refused takes out what it takes
reported-takes : (e : Event) (o : Option Outcome) → taken_out e (Ok o) ≡ takes e
reported-takes e o = refl

module _ (u : Setup) (s : State) where
  -- a reaction is accepted in a state t from which the message is gone and in which the store is made
  reacts : (e : Event) (t : State) (a : Reaction) → length t.transit + takes e ≡ length s.transit → total t.left u.replicas + cond a.stored 1 0 ≡ total s.left u.replicas → Balanced u s (accepted u.replicas t a).0 e (accepted u.replicas t a).1
  reacts e t a p q = record {
    transit = let sent = dispatch_length u.replicas t a.sending in let taken = reported-takes e a.outcome in omega arith;
    stores = rw (dispatch_left u.replicas t a.sending) q;
  }

  calls : (e : Event) (t : State) (m : Message) → length t.transit + takes e ≡ length s.transit → total t.left u.replicas + 0 ≡ total s.left u.replicas → Balanced u s (broadcasted u.replicas t m).0 e (broadcasted u.replicas t m).1
  calls e t m p q = reacts e t (updating m false) p q

  -- by what an effect at replica i answers
  stores_answered : {F : Type 0} (i : ℕ) (o : Option Page) (x y : Result Reaction F) → i < u.replicas → Stores (place_at u s i) o (has_stored x) → x ≡ y → total (left_after i o s.left) u.replicas + cond (has_stored y) 1 0 ≡ total s.left u.replicas
  stores_answered {F} i o x y l h k = stores_taken u s i l (subst (λ (z : Result Reaction F). Stores (place_at u s i) o (has_stored z)) k h)

  balances : {at : ℕ} {e : Event} {x : State × Answer} → Happens at u s e x → Balanced u s x.0 e x.1
  balances (event.refuses f) = record { transit = refl; stores = add-zero _ }
  balances (event.writes i c l v d o) = calls _ _ _ (add-zero _) (add-zero _)
  balances (event.reads i l d o) = calls _ _ _ (add-zero _) (add-zero _)
  balances (event.resends_query i l q) = calls _ s _ (add-zero _) (add-zero _)
  balances (event.resends_update i l q) = calls _ s _ (add-zero _) (add-zero _)
  balances (event.loses p l) = record { transit = length-remove s.transit p l ∙ sym (add-zero _); stores = add-zero _ }
  balances (event.crashes i l d) = record { transit = refl; stores = add-zero _ }
  balances (event.comes_back i a {x} l h k) = reacts _ (with_effect s i x) a (add-zero _) (stores_answered i x.stores x.answer (Ok a) l (recovery_stores h) k)
  balances (event.goes_nowhere p l k) = record { transit = length-remove s.transit p l ∙ sym (add-zero _); stores = add-zero _ }
  balances (event.delivers p a {x} l i h k) =
      reacts _ (with_effect (without s p) (message_in s p).receiver x) a (length-remove s.transit p l) (stores_answered (message_in s p).receiver x.stores x.answer (Ok a) i (receipt_stores h) k)
  balances (event.fails p f {x} l i h k) = record {
    transit = length-remove s.transit p l ∙ sym (add-zero _);
    stores = stores_answered (message_in s p).receiver x.stores x.answer (Err f) i (receipt_stores h) k;
  }

pub balanced : (at : ℕ) (u : Setup) (s t : State) (e : Event) (a : Answer) → acted at u s e ≡ (t, a) → Balanced u s t e a
balanced at u s t e a k = subst (λ (x : State × Answer). Balanced u s x.0 e x.1) k (balances u s (happens at u s e))
