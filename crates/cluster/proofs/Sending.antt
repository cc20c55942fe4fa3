-- Sending to all, one after another. Assumes nothing.
use Rattle.std.proofs.Common.{ℕ, zero, suc, ◌+◌, ◌≤◌, Bool, true, false, cond, List, [], ◌∷◌, ◌++◌, length, arith, length-append}
use Rattle.cluster.specs.Transits.{addressed, room_in, sent_to_all, with_sent}
use Rattle.replica.specs.declared.message.Message.{Message}

-- one message more at most
pub one_more : (ms : List Message) (m : Message) → (length ms ≤ length (with_sent ms m)) × (length (with_sent ms m) ≤ length ms + 1)
one_more ms m = go (room_in ms)
  where
    go : (b : Bool) → (length ms ≤ length (cond b (ms ++ m ∷ []) ms)) × (length (cond b (ms ++ m ∷ []) ms) ≤ length ms + 1)
    go true = (simp length-append (omega arith), simp length-append (omega arith))
    go false = (omega arith, omega arith)

-- as many more as there are replicas at most
pub all_more : (n : ℕ) (ms : List Message) (m : Message) → (length ms ≤ length (sent_to_all n ms m)) × (length (sent_to_all n ms m) ≤ length ms + n)
all_more zero ms m = (omega arith, omega arith)
all_more (suc n) ms m =
    let before = all_more n ms m in
    let last = one_more (sent_to_all n ms m) (addressed m n) in
    (omega arith, omega arith)
