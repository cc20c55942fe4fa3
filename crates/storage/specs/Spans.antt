-- A place in the catalogue text, and its codes. Assumes nothing.
use Rattle.std.specs.Prelude.{◌≡◌, ℕ, ◌+◌, ◌*◌, ◌/◌, ◌%◌, ◌^◌, ◌≤◌, Option, refl}
use Rattle.std.proofs.Math.Decide.{dec_le}
use Rattle.std.proofs.Common.{arith}
use Rattle.storage.specs.Ranges.{where_both}
use Rattle.storage.specs.declared.entry.span.Span.{Span}

-- whether an empty span starts at 0, decided
abbrev pub plainly : (o l : ℕ) → Dec (l ≤ 0) → Dec (o ≤ 0) → Dec (l ≡ 0 → o ≡ 0)
plainly o l (no f) z = yes (λ e. absurd (f (omega arith)))
plainly o l (yes e) (yes z) = yes (λ f. omega arith)
plainly o l (yes e) (no z) = no (λ f. z (omega (arith, f (omega arith))))

-- the span that starts at o and is l long, if it ends by 4,294,967,295 and is not an empty one past 0
abbrev pub span_of : ℕ → ℕ → Option Span
span_of o l = where_both (λ e p. record { offset = o; length = l; ends = e; plain = p }) (dec_le (o + l) 4294967295) (plainly o l (dec_le l 0) (dec_le o 0))

-- a register that was never written holds the empty span
abbrev pub no_span : Span
no_span = record { offset = 0; length = 0; ends = omega arith; plain = λ e. refl }

abbrev pub span_code : Span → ℕ
span_code s = s.offset * 2 ^ 32 + s.length

abbrev pub span_decoded : ℕ → Option Span
span_decoded c = span_of (c / 2 ^ 32) (c % 2 ^ 32)
