-- What bytes print is what their lines print. Assumes nothing.
use Rattle.std.proofs.Common.{◌≡◌, ℕ, ◌<◌, Bool, true, false, cond, not, ◌&&◌, eqb, ltb, ◌⊎◌, List, [], ◌∷◌, ◌++◌, length, Some, None, Option, sym, refl, ap, ◌∙◌, inl, inr, arith, length-append, ltb-false, lt-ltb, ne_eqb}
use Rattle.cluster.specs.declared.event.Event.{Event}
use Rattle.rehearsal.specs.Rehearsals.{Stage, waiting, running, over, heard, is_waiting, opened_by, printed, rehearsed, replied_by}
use Rattle.rehearsal.specs.Commands.{event_of}
use Rattle.rehearsal.specs.Openings.{opening_of}
use Rattle.rehearsal.specs.Sessions.{Reading, begun, input_lines, line_ended, lines_after, session_lines, with_byte}
use Rattle.rehearsal.specs.declared.opening.Opening.{Opening}
use Rattle.rehearsal.specs.declared.reply.Reply.{Reply}
use Rattle.std.proofs.lemmas.List.{append-nil}

-- what is held of a line: all of it, or enough to tell that it is too long
abbrev Held : List ℕ → List ℕ → Type 0
Held line held = (held ≡ line) ⊎ ((4096 < length held) × (4096 < length line))

-- a line that is too long means nothing
long_event : (line : List ℕ) → 4096 < length line → event_of line ≡ None
long_event line long = rw (lt-ltb 4096 (length line) long)

long_opening : (line : List ℕ) → 4096 < length line → opening_of line ≡ None
long_opening line long = rw (lt-ltb 4096 (length line) long)

-- a line is heard alike by what is held of it
heard_held : (s : Stage) (line held : List ℕ) → Held line held → heard s held ≡ heard s line
heard_held s line held (inl e) = ap (heard s) e
heard_held waiting line held (inr (h, l)) = ap opened_by (long_opening held h ∙ sym (long_opening line l))
heard_held (running u s) line held (inr (h, l)) =
    ap (λ (o : Option Event). (running u (replied_by u s o).0, Some (replied_by u s o).1)) (long_event held h ∙ sym (long_event line l))
heard_held over line held (inr e) = refl

-- one byte more
held_more : (line held : List ℕ) (b : ℕ) → Held line held → Held (line ++ b ∷ []) (with_byte held b)
held_more line held b (inl e) = go (ltb (length held) 4097) refl
  where
    go : (t : Bool) → ltb (length held) 4097 ≡ t → Held (line ++ b ∷ []) (cond t (held ++ b ∷ []) held)
    go true k = inl (ap (λ (l : List ℕ). l ++ b ∷ []) e)
    go false k = let long = ltb-false (length held) 4097 k in let same = ap length e in inr (omega arith, simp length-append (omega arith))
held_more line held b (inr (h, l)) = go (ltb (length held) 4097)
  where
    go : (t : Bool) → Held (line ++ b ∷ []) (cond t (held ++ b ∷ []) held)
    go true = inr (simp length-append (omega arith), simp length-append (omega arith))
    go false = inr (h, simp length-append (omega arith))

-- nothing is held only of an empty line
same_end : (line held : List ℕ) → Held line held → eqb (length held) 0 ≡ eqb (length line) 0
same_end line held (inl e) = ap (λ (l : List ℕ). eqb (length l) 0) e
same_end line held (inr (h, l)) = ne_eqb (length held) 0 (λ e. omega arith) ∙ sym (ne_eqb (length line) 0 (λ e. omega arith))

-- once a line was heard, the first is no more awaited
heard_first : (s : Stage) (line : List ℕ) → is_waiting (heard s line).0 ≡ false
heard_first waiting line = go (opening_of line)
  where
    go : (o : Option Opening) → is_waiting (opened_by o).0 ≡ false
    go (Some o) = refl
    go None = refl
heard_first (running u s) line = refl
heard_first over line = refl

-- the lines of what is left are those that the bytes make, after what is held
fed_lines : (s : Stage) (line held bs : List ℕ) → Held line held → session_lines (record { stage = s; line = held }) bs ≡ rehearsed s (lines_after (is_waiting s) line bs)
fed_lines s line held [] h = ap (λ (t : Bool). printed (cond (t && not (is_waiting s)) None (heard s held).1)) (same_end line held h) ∙ go (eqb (length line) 0 && not (is_waiting s))
  where
    go : (t : Bool) → printed (cond t None (heard s held).1) ≡ rehearsed s (cond t [] (line ∷ []))
    go true = refl
    go false = ap (λ (x : Stage × Option Reply). printed x.1) (heard_held s line held h) ∙ sym (append-nil (printed (heard s line).1))
fed_lines s line held (b ∷ bs) h = go (eqb b 10) (fed_lines (heard s line).0 [] [] bs (inl refl)) (fed_lines s (line ++ b ∷ []) (with_byte held b) bs (held_more line held b h))
  where
    next : Bool → Reading × Option Reply
    next t = cond t (line_ended (heard s held)) (record { stage = s; line = with_byte held b }, None)

    go : (t : Bool) → session_lines (record { stage = (heard s line).0; line = [] }) bs ≡ rehearsed (heard s line).0 (lines_after (is_waiting (heard s line).0) [] bs) → session_lines (record { stage = s; line = with_byte held b }) bs ≡ rehearsed s (lines_after (is_waiting s) (line ++ b ∷ []) bs) → printed (next t).1 ++ session_lines (next t).0 bs ≡ rehearsed s (cond t (line ∷ lines_after false [] bs) (lines_after (is_waiting s) (line ++ b ∷ []) bs))
    go true again more =
        ap (λ (x : Stage × Option Reply). printed x.1 ++ session_lines (record { stage = x.0; line = [] }) bs) (heard_held s line held h)
        ∙ ap (λ (l : List (List ℕ)). printed (heard s line).1 ++ l) (again ∙ ap (λ (first : Bool). rehearsed (heard s line).0 (lines_after first [] bs)) (heard_first s line))
    go false again more = more

pub lines_rehearsed : (input : List ℕ) → session_lines begun input ≡ rehearsed waiting (input_lines input)
lines_rehearsed input = fed_lines waiting [] [] input (inl refl)
