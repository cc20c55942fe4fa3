-- A rehearsal fed byte by byte. Assumes nothing.
use Rattle.std.specs.Prelude.{ℕ, Bool, true, false, cond, not, ◌&&◌, List, [], ◌∷◌, ◌++◌, length, None, vec_items, Option, ◌==◌, nat_lt}
use Rattle.rehearsal.specs.Rehearsals.{Stage, waiting, heard, is_waiting, printed, stage_of}
use Rattle.rehearsal.specs.declared.reply.Reply.{Reply}
use Rattle.rehearsal.specs.declared.session.Session.{Session}

-- how far the rehearsal is, and what was read of the present line
pub record Reading : Type 0 where
  pub stage : Stage
  pub line : List ℕ

abbrev pub session_of : Session → Reading
session_of s = record { stage = stage_of s.rehearsal; line = vec_items s.line }

-- nothing has been read
abbrev pub begun : Reading
begun = record { stage = waiting; line = [] }

-- a byte of the line; past 4,097 bytes none is held, since the line is too long with them
abbrev pub with_byte : List ℕ → ℕ → List ℕ
with_byte line b = cond (nat_lt (length line) 4097) (line ++ b ∷ []) line

abbrev pub line_ended : Stage × Option Reply → Reading × Option Reply
line_ended x = (record { stage = x.0; line = [] }, x.1)

-- a line feed ends a line
abbrev pub fed : Reading → ℕ → Reading × Option Reply
fed r b = cond (b == 10) (line_ended (heard r.stage r.line)) (record { stage = r.stage; line = with_byte r.line b }, None)

-- the end of the input ends a line that has begun, and the first line even if it has not
abbrev pub ended : Reading → Option Reply
ended r = cond (length r.line == 0 && not (is_waiting r.stage)) None (heard r.stage r.line).1

-- what bytes print, and at last the end of the input
abbrev pub session_lines : Reading → List ℕ → List (List ℕ)
session_lines r [] = printed (ended r)
session_lines r (b ∷ bs) = printed (fed r b).1 ++ session_lines (fed r b).0 bs

-- the lines of an input, after what was read of the present line, which may be the first: a line feed
-- ends a line; what follows the last one is a line too, unless it is nothing and there was a line before
abbrev pub lines_after : Bool → List ℕ → List ℕ → List (List ℕ)
lines_after first line [] = cond (length line == 0 && not first) [] (line ∷ [])
lines_after first line (b ∷ bs) = cond (b == 10) (line ∷ lines_after false [] bs) (lines_after first (line ++ b ∷ []) bs)

abbrev pub input_lines : List ℕ → List (List ℕ)
input_lines bs = lines_after true [] bs
