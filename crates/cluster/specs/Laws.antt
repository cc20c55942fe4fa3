-- What events keep. Assumes nothing.
use Rattle.std.specs.Prelude.{◌≡◌, ℕ, zero, suc, ◌+◌, true, length, All, Ok, Err, Option, Result}
use Rattle.cluster.specs.Fitness.{fitness, message_fits, record_fits}
use Rattle.cluster.specs.States.{Setup, State}
use Rattle.cluster.specs.declared.answer.Answer.{Answer}
use Rattle.cluster.specs.declared.answer.Failure.{Failure}
use Rattle.cluster.specs.declared.answer.Failure.TheVariants.{Fault, Refused}
use Rattle.cluster.specs.declared.event.Event.{Event}
use Rattle.cluster.specs.declared.event.Event.TheVariants.{Write, Read, Resend, Deliver, Lose, Crash, Recover}
use Rattle.replica.specs.declared.reaction.Outcome.{Outcome}

-- how many messages an event that is not refused takes out of transit
abbrev pub takes : Event → ℕ
takes (Write i c) = 0
takes (Read i) = 0
takes (Resend i) = 0
takes (Deliver p) = 1
takes (Lose p) = 1
takes (Crash i) = 0
takes (Recover i) = 0

-- how many messages an event with this outcome took out of transit
abbrev pub taken_out : Event → Result (Option Outcome) Failure → ℕ
taken_out e (Ok o) = takes e
taken_out e (Err (Fault f)) = takes e
taken_out e (Err (Refused r)) = 0

-- the sum of f over the numbers below n
abbrev pub total : (ℕ → ℕ) → ℕ → ℕ
total f zero = 0
total f (suc n) = total f n + f n

-- an event that leads from s to t balances: transit grows by what was sent less what was taken out,
-- and the stores left of all replicas together fall by the stores made
pub record Balanced (u : Setup) (s t : State) (e : Event) (a : Answer) : Type 0 where
  pub transit : length t.transit + taken_out e a.outcome ≡ length s.transit + a.sent
  pub stores : total t.left u.replicas + a.stored ≡ total s.left u.replicas

-- a cluster is fit: its storage and quorum are, code 0 is of the kind, and what records hold and
-- messages carry may go to a page
pub record Fit (u : Setup) (s : State) : Type 0 where
  pub storage : fitness u.replicas u.size u.valid s.page ≡ Ok tt
  pub blank : u.valid 0 ≡ true
  pub records : All (λ r. record_fits u.replicas u.valid r ≡ true) s.records
  pub transit : All (λ m. message_fits u.replicas u.valid m ≡ true) s.transit
