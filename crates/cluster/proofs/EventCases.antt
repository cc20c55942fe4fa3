-- What an event may do to a cluster, case by case. Assumes nothing.
use Rattle.std.proofs.Common.{◌≡◌, ℕ, ◌+◌, ◌<◌, Bool, true, false, cond, ltb, length, get_or, Ok, Err, Result, sym, refl, ap, subst, ltb-true}
use lib.Seq.{set-get_or}
use Rattle.cluster.proofs.ReplicaCases as cases
use Rattle.cluster.proofs.ReplicaCases.{Receipt, Recovery, receipt, recovers_as}
use Rattle.cluster.proofs.StepCases.{Querying, Updating, a_read, a_write, recovering, to_read, to_write}
use Rattle.cluster.specs.Acts.{Acted, accepted, acted, acting, answering, broadcasted, calling, comeback, crashing, placed, reacting, refusing, resending, tried_if}
use Rattle.cluster.specs.Answers.{failed, quiet, refused}
use Rattle.cluster.specs.Fitness.{fitness}
use Rattle.cluster.specs.States.{Setup, State, place_at, record_at, with_effect, with_record, with_transit}
use Rattle.cluster.specs.Transits.{blank_record, no_message}
use Rattle.cluster.specs.declared.answer.Answer.{Answer}
use Rattle.cluster.specs.declared.event.Event.{Event}
use Rattle.cluster.specs.declared.event.Event.TheVariants.{Write, Read, Resend, Deliver, Lose, Crash, Recover}
use Rattle.cluster.specs.declared.refusal.Refusal.{Refusal}
use Rattle.cluster.specs.declared.refusal.Refusal.TheVariants.{NoMessage, NoSuchReplica, NotOfKind, Replica}
use Rattle.replica.specs.Messages.{query, ticket, update}
use Rattle.replica.specs.Operations.{begun, begun_by, crashed_by, resent_by}
use Rattle.replica.specs.Receipts.{Received, received}
use Rattle.replica.specs.Records.{down, opened}
use Rattle.replica.specs.Recoveries.{Comeback, is_down}
use Rattle.replica.specs.declared.fault.ReplicaFault.{ReplicaFault}
use Rattle.replica.specs.declared.message.Message.{Message}
use Rattle.replica.specs.declared.reaction.Reaction.{Reaction}
use Rattle.replica.specs.declared.record.Status.{Status}
use Rattle.replica.specs.declared.record.Status.TheVariants as status
use Rattle.replica.specs.declared.refusal.ReplicaRefusal.TheVariants as refusal
use Rattle.std.specs.List.{remove}
use Rattle.storage.specs.Timestamps.{blank_stamped}

-- replica i begins an operation of this status with code c
abbrev pub beginning : Setup → State → Status → ℕ → ℕ → State × Answer
beginning u s st i c =
    broadcasted u.replicas (with_record s i (opened st ((record_at s i).round + 1) blank_stamped c))
    (query i (ticket (s.page i).incarnation ((record_at s i).round + 1)))

-- the state without the message at place p; that message
abbrev pub without : State → ℕ → State
without s p = with_transit s (remove s.transit p)

abbrev pub message_in : State → ℕ → Message
message_in s p = get_or s.transit p no_message

-- an event, the state that it leads to and its answer
pub data Happens (at : ℕ) (u : Setup) (s : State) : Event → State × Answer → Type 0 where
  refuses : {e : Event} (f : Refusal) → Happens at u s e (s, refused f)
  writes : (i c : ℕ) → i < u.replicas → u.valid c ≡ true → (record_at s i).status ≡ status.Idle → ltb 999997 (record_at s i).round ≡ false → Happens at u s (Write i c) (beginning u s status.QueryingToWrite i c)
  reads : (i : ℕ) → i < u.replicas → (record_at s i).status ≡ status.Idle → ltb 999997 (record_at s i).round ≡ false → Happens at u s (Read i) (beginning u s status.QueryingToRead i 0)
  resends_query : (i : ℕ) → i < u.replicas → Querying (record_at s i).status → Happens at u s (Resend i) (broadcasted u.replicas s (query i (ticket (s.page i).incarnation (record_at s i).round)))
  resends_update : (i : ℕ) → i < u.replicas → Updating (record_at s i).status → Happens at u s (Resend i) (broadcasted u.replicas s (update i (ticket (s.page i).incarnation (record_at s i).round) (record_at s i).best))
  loses : (p : ℕ) → p < length s.transit → Happens at u s (Lose p) (without s p, quiet)
  crashes : (i : ℕ) → i < u.replicas → is_down (record_at s i).status ≡ false → Happens at u s (Crash i) (with_record s i down, quiet)
  comes_back : (i : ℕ) (a : Reaction) {x : Comeback} → i < u.replicas → Recovery (place_at u s i) (record_at s i) x → x.answer ≡ Ok a → Happens at u s (Recover i) (accepted u.replicas (with_effect s i x) a)
  goes_nowhere : (p : ℕ) → p < length s.transit → ltb (message_in s p).receiver u.replicas ≡ false → Happens at u s (Deliver p) (without s p, quiet)
  delivers : (p : ℕ) (a : Reaction) {x : Received} → p < length s.transit → (message_in s p).receiver < u.replicas → Receipt u.enough (place_at u s (message_in s p).receiver) (record_at s (message_in s p).receiver) (message_in s p) x → x.answer ≡ Ok a → Happens at u s (Deliver p) (accepted u.replicas (with_effect (without s p) (message_in s p).receiver x) a)
  fails : (p : ℕ) (f : ReplicaFault) {x : Received} → p < length s.transit → (message_in s p).receiver < u.replicas → Receipt u.enough (place_at u s (message_in s p).receiver) (record_at s (message_in s p).receiver) (message_in s p) x → x.answer ≡ Err f → Happens at u s (Deliver p) (with_effect (without s p) (message_in s p).receiver x, failed at f)

-- the cases are all that there are
module _ (at : ℕ) (u : Setup) (s : State) where
  -- a test that refuses
  guarded : {e : Event} (b : Bool) (x : Acted) (f : Refusal) → (b ≡ true → Happens at u s e (answering x)) → Happens at u s e (answering (cond b x (refusing s f)))
  guarded true x f h = h refl
  guarded false x f h = refuses f

  -- a replica that refuses keeps its record
  kept : {e : Event} (i : ℕ) (f : Refusal) → Happens at u s e (with_record s i (record_at s i), refused f)
  kept {e} i f = subst (λ (t : State). Happens at u s e (t, refused f)) (λ j. record { page = s.page; left = s.left; records = sym (set-get_or s.records i blank_record) j; transit = s.transit }) (refuses f)

  begins : {e : Event} (st : Status) (i c : ℕ) → ((record_at s i).status ≡ status.Idle → ltb 999997 (record_at s i).round ≡ false → Happens at u s e (beginning u s st i c)) → Happens at u s e (answering (calling u s i (begun st i (s.page i) (record_at s i) c)))
  begins {e} st i c h = go (record_at s i).status refl
    where
      rounds : (record_at s i).status ≡ status.Idle → (b : Bool) → ltb 999997 (record_at s i).round ≡ b → Happens at u s e (answering (calling u s i (cond b (record_at s i, Err refusal.RoundsUsedUp) (opened st ((record_at s i).round + 1) blank_stamped c, Ok (query i (ticket (s.page i).incarnation ((record_at s i).round + 1)))))))
      rounds k true l = kept i (Replica refusal.RoundsUsedUp)
      rounds k false l = h k l

      go : (x : Status) → (record_at s i).status ≡ x → Happens at u s e (answering (calling u s i (begun_by x st i (s.page i) (record_at s i) c)))
      go status.Down k = kept i (Replica refusal.Down)
      go status.Idle k = rounds k (ltb 999997 (record_at s i).round) refl
      go status.QueryingToWrite k = kept i (Replica refusal.NotIdle)
      go status.QueryingToRead k = kept i (Replica refusal.NotIdle)
      go status.UpdatingWrite k = kept i (Replica refusal.NotIdle)
      go status.UpdatingRead k = kept i (Replica refusal.NotIdle)
      go status.Recovering k = kept i (Replica refusal.NotIdle)

  calls_again : (i : ℕ) → i < u.replicas → (x : Status) → (record_at s i).status ≡ x → Happens at u s (Resend i) (answering (resending u s (resent_by x i (s.page i) (record_at s i))))
  calls_again i l status.Down k = refuses (Replica refusal.Down)
  calls_again i l status.Idle k = refuses (Replica refusal.NothingToResend)
  calls_again i l status.QueryingToWrite k = resends_query i l (subst Querying (sym k) to_write)
  calls_again i l status.QueryingToRead k = resends_query i l (subst Querying (sym k) to_read)
  calls_again i l status.UpdatingWrite k = resends_update i l (subst Updating (sym k) a_write)
  calls_again i l status.UpdatingRead k = resends_update i l (subst Updating (sym k) a_read)
  calls_again i l status.Recovering k = resends_update i l (subst Updating (sym k) recovering)

  goes_down : (i : ℕ) → i < u.replicas → (x : Status) → (record_at s i).status ≡ x → Happens at u s (Crash i) (answering (crashing s i (crashed_by x (record_at s i))))
  goes_down i l status.Down k = kept i (Replica refusal.Down)
  goes_down i l status.Idle k = crashes i l (ap is_down k)
  goes_down i l status.QueryingToWrite k = crashes i l (ap is_down k)
  goes_down i l status.QueryingToRead k = crashes i l (ap is_down k)
  goes_down i l status.UpdatingWrite k = crashes i l (ap is_down k)
  goes_down i l status.UpdatingRead k = crashes i l (ap is_down k)
  goes_down i l status.Recovering k = crashes i l (ap is_down k)

  rises : (i : ℕ) {x : Comeback} → i < u.replicas → Recovery (place_at u s i) (record_at s i) x → Happens at u s (Recover i) (answering (comeback u (with_effect s i x) x.answer))
  rises i l (cases.refuses f) = kept i (Replica f)
  rises i l (cases.is_idle d o k z) = comes_back i _ l (cases.is_idle d o k z) refl
  rises i l (cases.recovers d o k z) = comes_back i _ l (cases.recovers d o k z) refl

  abbrev got : ℕ → Received
  got p = received u.enough (place_at u s (message_in s p).receiver) (record_at s (message_in s p).receiver) (message_in s p)

  arrives : (p : ℕ) → p < length s.transit → (message_in s p).receiver < u.replicas → (x : Received) → Receipt u.enough (place_at u s (message_in s p).receiver) (record_at s (message_in s p).receiver) (message_in s p) x → (y : Result Reaction ReplicaFault) → x.answer ≡ y → Happens at u s (Deliver p) (answering (placed at (reacting u (with_effect (without s p) (message_in s p).receiver x) y)))
  arrives p l i x h (Ok a) k = delivers p a l i h k
  arrives p l i x h (Err f) k = fails p f l i h k

  addresses : (p : ℕ) → p < length s.transit → (b : Bool) → ltb (message_in s p).receiver u.replicas ≡ b → Happens at u s (Deliver p) (answering (placed at (cond b (reacting u (with_effect (without s p) (message_in s p).receiver (got p)) (got p).answer) (without s p, Ok quiet))))
  addresses p l true k = arrives p l (ltb-true _ _ k) (got p) (receipt _ _ _ _) (got p).answer refl
  addresses p l false k = goes_nowhere p l k

  acts : (e : Event) → Happens at u s e (answering (acting at u s e))
  acts (Write i c) = guarded (ltb i u.replicas) _ NoSuchReplica (λ l. guarded (u.valid c) _ NotOfKind (λ v. begins status.QueryingToWrite i c (writes i c (ltb-true _ _ l) v)))
  acts (Read i) = guarded (ltb i u.replicas) _ NoSuchReplica (λ l. begins status.QueryingToRead i 0 (reads i (ltb-true _ _ l)))
  acts (Resend i) = guarded (ltb i u.replicas) _ NoSuchReplica (λ l. calls_again i (ltb-true _ _ l) _ refl)
  acts (Deliver p) = guarded (ltb p (length s.transit)) _ NoMessage (λ l. addresses p (ltb-true _ _ l) _ refl)
  acts (Lose p) = guarded (ltb p (length s.transit)) _ NoMessage (λ l. loses p (ltb-true _ _ l))
  acts (Crash i) = guarded (ltb i u.replicas) _ NoSuchReplica (λ l. goes_down i (ltb-true _ _ l) _ refl)
  acts (Recover i) = guarded (ltb i u.replicas) _ NoSuchReplica (λ l. rises i (ltb-true _ _ l) (recovers_as _ _))

  pub happens : (e : Event) → Happens at u s e (acted at u s e)
  happens e = go (fitness u.replicas u.size u.valid s.page)
    where
      go : (x : Result (Unit {0}) Refusal) → Happens at u s e (answering (tried_if x at u s e))
      go (Ok x) = acts e
      go (Err f) = refuses f
