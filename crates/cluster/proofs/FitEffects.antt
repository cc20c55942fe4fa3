-- What a replica with a fit page and record does with a fit message is fit. Assumes nothing.
use Rattle.std.proofs.Common.{◌≡◌, ℕ, ◌+◌, ◌<◌, ◌≤◌, Bool, true, false, cond, ◌||◌, eqb, leb, ltb, Some, None, Ok, Err, Option, Result, arith, lt-ltb, le-leb, leb-false, leb-true}
use borrow.Author.Tests.{eqb-false}
use Rattle.cluster.proofs.ReplicaCases as replica
use Rattle.cluster.proofs.ReplicaCases.{Receipt, Recovery}
use Rattle.cluster.specs.Fitness.{code_fits, message_fits, page_fits, record_fits, written_fits}
use Rattle.replica.specs.Effects.{Effect, Place}
use Rattle.replica.specs.Receipts.{Received}
use Rattle.replica.specs.Records.{hearing_report}
use Rattle.replica.specs.Recoveries.{Comeback, raised}
use Rattle.replica.specs.declared.message.Message.{Message}
use Rattle.replica.specs.declared.reaction.Reaction.{Reaction}
use Rattle.replica.specs.declared.reaction.Sending.{Sending}
use Rattle.replica.specs.declared.reaction.Sending.TheVariants.{One, All}
use Rattle.replica.specs.declared.record.Replica.{Replica}
use Rattle.std.proofs.lemmas.Bool.{and_from, and_parts}
use Rattle.storage.specs.Timestamps.{blank_stamped, later}
use Rattle.storage.specs.declared.page.Page.{Page}
use Rattle.storage.specs.declared.stamped.Stamped.{Stamped}

abbrev pub FitStore : ℕ → (ℕ → Bool) → Option Page → Type 0
FitStore n valid None = Unit {0}
FitStore n valid (Some p) = page_fits n valid p ≡ true

abbrev pub FitSending : ℕ → (ℕ → Bool) → Option Sending → Type 0
FitSending n valid None = Unit {0}
FitSending n valid (Some (One m)) = message_fits n valid m ≡ true
FitSending n valid (Some (All m)) = message_fits n valid m ≡ true

abbrev pub FitAnswer : {F : Type 0} → ℕ → (ℕ → Bool) → Result Reaction F → Type 0
FitAnswer n valid (Ok a) = FitSending n valid a.sending
FitAnswer n valid (Err f) = Unit {0}

-- the record, the page stored and the message sent are fit
pub record FitEffect {F : Type 0} (n : ℕ) (valid : ℕ → Bool) (x : Effect (Result Reaction F)) : Type 0 where
  pub holds : record_fits n valid x.replica ≡ true
  pub stores : FitStore n valid x.stores
  pub sends : FitAnswer n valid x.answer

module _ (n : ℕ) (valid : ℕ → Bool) where
  pub blank_fits : 0 < n → valid 0 ≡ true → written_fits n valid blank_stamped ≡ true
  blank_fits l v = rw (lt-ltb 0 n l, v)

  intended_fits : (q c : ℕ) → 0 < q → q ≤ 999999 → valid c ≡ true → code_fits valid q c ≡ true
  intended_fits q c p m v = rw (le-leb q 999999 m, v, lt-ltb 0 q p)

  -- replica i may write at sequence q
  own_fits : (i q c : ℕ) → i < n → 0 < q → q ≤ 999999 → valid c ≡ true → written_fits n valid (record { timestamp = record { sequence = q; replica = i }; code = c }) ≡ true
  own_fits i q c l p m v = rw (lt-ltb i n l, intended_fits q c p m v, lt-ltb 0 q p)

  -- what a fit page holds
  page_parts : (p : Page) → page_fits n valid p ≡ true → (leb p.incarnation 9999 ≡ true) × (written_fits n valid p.written ≡ true) × (code_fits valid p.intended_sequence p.intended_code ≡ true)
  page_parts p h =
      let rest = and_parts (leb p.incarnation 9999) _ h in
      let place = and_parts (ltb p.written.timestamp.replica n) _ rest.1 in
      let coded = and_parts (code_fits valid p.written.timestamp.sequence p.written.code) _ place.1 in
      let last = and_parts (ltb 0 p.written.timestamp.sequence || eqb p.written.timestamp.replica 0) _ coded.1 in
      (rest.0, and_from _ _ place.0 (and_from _ _ coded.0 last.0), last.1)

  -- and a page that holds such parts is fit
  page_from : (i : ℕ) (w : Stamped) (q d : ℕ) → leb i 9999 ≡ true → written_fits n valid w ≡ true → code_fits valid q d ≡ true → page_fits n valid (record { incarnation = i; written = w; intended_sequence = q; intended_code = d }) ≡ true
  page_from i w q d l k h =
      let place = and_parts (ltb w.timestamp.replica n) _ k in
      let coded = and_parts (code_fits valid w.timestamp.sequence w.code) _ place.1 in
      and_from _ _ l (and_from _ _ place.0 (and_from _ _ coded.0 (and_from _ _ coded.1 h)))

  code_parts : (q c : ℕ) → code_fits valid q c ≡ true → (q ≤ 999999) × (valid c ≡ true)
  code_parts q c h =
      let rest = and_parts (leb q 999999) _ h in
      (leb-true q 999999 rest.0, (and_parts (valid c) _ rest.1).0)

  pub best_fits : (r : Replica) → record_fits n valid r ≡ true → written_fits n valid r.best ≡ true
  best_fits r h = (and_parts _ _ h).0

  pub wanted_fits : (r : Replica) → record_fits n valid r ≡ true → valid r.write_code ≡ true
  wanted_fits r h = (and_parts _ _ h).1

  heard_fits : (r : Replica) (m : Message) → record_fits n valid r ≡ true → message_fits n valid m ≡ true → record_fits n valid (hearing_report r m) ≡ true
  heard_fits r m h k = and_from _ _ (go (later m.content.timestamp r.best.timestamp)) (wanted_fits r h)
    where
      go : (b : Bool) → written_fits n valid (cond b m.content r.best) ≡ true
      go true = k
      go false = best_fits r h

  module _ (a : Place) (r : Replica) (own : a.own < n) (zero : valid 0 ≡ true) (page : page_fits n valid a.page ≡ true) (holds : record_fits n valid r ≡ true) where
    blank : written_fits n valid blank_stamped ≡ true
    blank = blank_fits (omega arith) zero

    -- the writer's next timestamp
    next : (q c : ℕ) → leb 999999 q ≡ false → valid c ≡ true → written_fits n valid (record { timestamp = record { sequence = q + 1; replica = a.own }; code = c }) ≡ true
    next q c l v = let below = leb-false 999999 q l in own_fits a.own (q + 1) c own (omega arith) (omega arith) v

    module _ (enough : (ℕ → Bool) → Bool) (m : Message) (carries : message_fits n valid m ≡ true) where
      pub receipt_fits : {x : Received} → Receipt enough a r m x → FitEffect n valid x
      receipt_fits replica.ignores = record { holds = holds; stores = tt; sends = tt }
      receipt_fits (replica.reports e) = record { holds = holds; stores = tt; sends = (page_parts a.page page).1 }
      receipt_fits (replica.acknowledges e) = record { holds = holds; stores = tt; sends = blank }
      receipt_fits (replica.keeps e k) = record {
        holds = holds;
        stores = page_from a.page.incarnation m.content a.page.intended_sequence a.page.intended_code (page_parts a.page page).0 carries (page_parts a.page page).2;
        sends = blank;
      }
      receipt_fits (replica.keeps_not f e k) = record { holds = holds; stores = tt; sends = tt }
      receipt_fits (replica.queries_on e q) = record { holds = heard_fits r m holds carries; stores = tt; sends = tt }
      receipt_fits (replica.read_updates e q w) = record {
        holds = heard_fits r m holds carries;
        stores = tt;
        sends = best_fits (hearing_report r m) (heard_fits r m holds carries);
      }
      receipt_fits (replica.write_ends e q w l) = record { holds = heard_fits r m holds carries; stores = tt; sends = tt }
      receipt_fits (replica.write_updates e q w l k) =
          let sequence = (hearing_report r m).best.timestamp.sequence in
          let code = r.write_code in
          let wanted = wanted_fits r holds in
          let below = leb-false 999999 sequence l in
          record {
            holds = and_from _ _ (next sequence code l wanted) wanted;
            stores = page_from a.page.incarnation a.page.written (sequence + 1) code (page_parts a.page page).0 (page_parts a.page page).1 (intended_fits (sequence + 1) code (omega arith) (omega arith) wanted);
            sends = next sequence code l wanted;
          }
      receipt_fits (replica.write_fails f e q w l k) = record { holds = heard_fits r m holds carries; stores = tt; sends = tt }
      receipt_fits (replica.updates_on e q) = record { holds = holds; stores = tt; sends = tt }
      receipt_fits (replica.finishes e q) = record { holds = holds; stores = tt; sends = tt }

    -- the page of the next incarnation
    raised_fits : leb 9999 a.page.incarnation ≡ false → page_fits n valid (raised a.page) ≡ true
    raised_fits l =
        let below = leb-false 9999 a.page.incarnation l in
        and_from _ _ (le-leb (a.page.incarnation + 1) 9999 (omega arith)) (and_parts (leb a.page.incarnation 9999) _ page).1

    pub recovery_fits : {x : Comeback} → Recovery a r x → FitEffect n valid x
    recovery_fits (replica.refuses f) = record { holds = holds; stores = tt; sends = tt }
    recovery_fits (replica.is_idle d l k z) = record { holds = and_from _ _ blank zero; stores = raised_fits l; sends = tt }
    recovery_fits (replica.recovers d l k z) =
        let sequence = a.page.intended_sequence in
        let code = a.page.intended_code in
        let intention = code_parts sequence code (page_parts a.page page).2 in
        let own_write = own_fits a.own sequence code own (omega (arith, eqb-false sequence 0 z)) intention.0 intention.1 in
        record { holds = and_from _ _ own_write zero; stores = raised_fits l; sends = own_write }
