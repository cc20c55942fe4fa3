-- What a line asks for. Assumes nothing.
use Rattle.std.specs.Prelude.{ℕ, cond, List, [], ◌∷◌, length, Some, None, Option, ◌==◌, nat_lt}
use Rattle.cluster.specs.declared.event.Event.{Event}
use Rattle.cluster.specs.declared.event.Event.TheVariants.{Write, Read, Resend, Deliver, Lose, Crash, Recover}
use Rattle.rehearsal.specs.Numbers.{number_of}
use Rattle.rehearsal.specs.Parts.{after_space, before_space}

-- f at the number, if there is one
abbrev pub with_number : {X : Type 0} → Option ℕ → (ℕ → Option X) → Option X
with_number (Some n) f = f n
with_number None f = None

-- "i c": the write of code c at replica i
abbrev pub write_of : List ℕ → Option Event
write_of bs = with_number (number_of (before_space bs)) (λ i. with_number (number_of (after_space bs)) (λ c. Some (Write i c)))

-- the event of a letter with one number
abbrev pub event_by : ℕ → ℕ → Option Event
event_by letter n =
    -- R, A, D, L, F, B
    cond (letter == 82) (Some (Read n))
    (cond (letter == 65) (Some (Resend n))
    (cond (letter == 68) (Some (Deliver n))
    (cond (letter == 76) (Some (Lose n))
    (cond (letter == 70) (Some (Crash n))
    (cond (letter == 66) (Some (Recover n)) None)))))

-- a letter, a space, and the rest: W has two numbers, every other letter one
abbrev pub command_by : ℕ → List ℕ → Option Event
command_by letter rest = cond (letter == 87) (write_of rest) (with_number (number_of rest) (λ n. event_by letter n))

abbrev pub command_of : List ℕ → Option Event
command_of [] = None
command_of (letter ∷ []) = None
command_of (letter ∷ (b ∷ rest)) = cond (b == 32) (command_by letter rest) None

-- a line over 4,096 bytes is not understood
abbrev pub event_of : List ℕ → Option Event
event_of line = cond (nat_lt 4096 (length line)) None (command_of line)
