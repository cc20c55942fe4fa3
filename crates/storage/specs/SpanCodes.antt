-- The code of a span decodes to that span. Assumes nothing.
use mathlib.Core.HLevel.{→_prop}
use Rattle.std.specs.Prelude.{◌≡◌, ◌+◌, ◌/◌, ◌%◌, ◌^◌, Some}
use Rattle.std.proofs.Common.{◌∙◌, ap₂, arith}
use Rattle.std.proofs.Math.Bridge.{le_prop}
use Rattle.std.proofs.Math.Decide.{dec_le}
use Rattle.std.proofs.Math.Nat.{ℕ_set}
use Rattle.storage.specs.Existence.{made}
use Rattle.storage.specs.Spans.{plainly, span_of, span_code, span_decoded}
use Rattle.storage.specs.declared.entry.span.Span.{Span}

-- a span is the span of its offset and length
pub span_back : (s : Span) → span_of s.offset s.length ≡ Some s
span_back s =
    made le_prop (→_prop (ℕ_set s.offset 0)) (λ e p. record { offset = s.offset; length = s.length; ends = e; plain = p }) s.ends s.plain
    (dec_le (s.offset + s.length) 4294967295) (plainly s.offset s.length (dec_le s.length 0) (dec_le s.offset 0))

pub reads : (s : Span) → span_decoded (span_code s) ≡ Some s
reads s =
    let start : span_code s / 2 ^ 32 ≡ s.offset = omega (arith, s.ends) in
    let size : span_code s % 2 ^ 32 ≡ s.length = omega (arith, s.ends) in
    ap₂ span_of start size ∙ span_back s
