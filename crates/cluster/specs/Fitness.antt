-- Which storages and quorum rules are fit for a register. Assumes nothing.
use Rattle.std.specs.Prelude.{ℕ, zero, suc, ◌+◌, Bool, cond, ◌&&◌, ◌||◌, is_some, Some, None, Ok, Err, Option, Result, ◌==◌, nat_le, nat_lt}
use Rattle.cluster.specs.declared.refusal.Refusal.{Refusal}
use Rattle.cluster.specs.declared.refusal.Refusal.TheVariants.{ReplicaCount, Unfit}
use Rattle.replica.specs.declared.message.Message.{Message}
use Rattle.replica.specs.declared.record.Replica.{Replica}
use Rattle.storage.specs.Memories.{count_fits}
use Rattle.storage.specs.declared.entry.Entry.{Ghosts as EntryOf}
use Rattle.storage.specs.declared.page.Page.{Page}
use Rattle.storage.specs.declared.stamped.Stamped.{Stamped}

-- whether a code is of a kind of entry
abbrev pub of_kind : {E : Type 0} → EntryOf E → ℕ → Bool
of_kind k code = is_some (k.decoded code)

-- a sequence in its range with a code of the kind; at sequence 0 the code is 0
abbrev pub code_fits : (ℕ → Bool) → ℕ → ℕ → Bool
code_fits valid sequence code = nat_le sequence 999999 && (valid code && (nat_lt 0 sequence || code == 0))

-- a timestamp of a register of n replicas, with the code that was written at it; the blank one is of replica 0
abbrev pub written_fits : ℕ → (ℕ → Bool) → Stamped → Bool
written_fits n valid w =
    nat_lt w.timestamp.replica n && (code_fits valid w.timestamp.sequence w.code && (nat_lt 0 w.timestamp.sequence || w.timestamp.replica == 0))

-- a page that a register of n replicas can have stored, by codes that are valid
abbrev pub page_fits : ℕ → (ℕ → Bool) → Page → Bool
page_fits n valid p =
    nat_le p.incarnation 9999
    && (nat_lt p.written.timestamp.replica n
    && (code_fits valid p.written.timestamp.sequence p.written.code
    && ((nat_lt 0 p.written.timestamp.sequence || p.written.timestamp.replica == 0)
    && code_fits valid p.intended_sequence p.intended_code)))

-- a record whose best and whose code to write may go to a page
abbrev pub record_fits : ℕ → (ℕ → Bool) → Replica → Bool
record_fits n valid r = written_fits n valid r.best && valid r.write_code

-- a message that carries what may go to a page
abbrev pub message_fits : ℕ → (ℕ → Bool) → Message → Bool
message_fits n valid m = written_fits n valid m.content

-- the lowest of the m replicas from i on whose page is unfit
abbrev pub lowest_unfit : ℕ → (ℕ → Bool) → (ℕ → Page) → ℕ → ℕ → Option ℕ
lowest_unfit n valid pages i zero = None
lowest_unfit n valid pages i (suc m) = cond (page_fits n valid (pages i)) (lowest_unfit n valid pages (i + 1) m) (Some i)

abbrev pub by_page : Option ℕ → Result (Unit {0}) Refusal
by_page None = Ok tt
by_page (Some i) = Err (Unfit i)

-- 5 where the number of replicas is not 1 to 15 or not the quorum's; then 6 where a page is unfit
abbrev pub fitness : ℕ → ℕ → (ℕ → Bool) → (ℕ → Page) → Result (Unit {0}) Refusal
fitness n size valid pages =
    cond (count_fits n && n == size) (by_page (lowest_unfit n valid pages 0 n)) (Err ReplicaCount)
