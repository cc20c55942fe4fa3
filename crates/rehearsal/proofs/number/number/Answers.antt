use Rattle.std.proofs.Common.{sym, ◌∙◌, arith}
use Rattle.rehearsal.proofs.DigitByDigit.{digit_at, digits_end}
use Rattle.rehearsal.proofs.number.number.Goals as goal

pub returns-in_err-value : goal.returns-in_err-value
returns-in_err-value c =
    let none = digit_at c.args.digits.now c.loop-digit.digit-index c.loop-digit.value (omega arith) (sym c.append.ensures ∙ c.in_err-value.was) in
    c.from_residual.ensures ∙ sym (c.loop-digit.invariant.0 ∙ none)

pub loop-digit-preserved : goal.loop-digit-preserved
loop-digit-preserved c =
    let more = digit_at c.args.digits.now c.loop-digit.digit-index c.loop-digit.value (omega arith) (sym c.append.ensures ∙ c.in_ok-value.was) in
    (c.loop-digit.invariant.0 ∙ more.0, more.1)

pub returns : goal.returns
returns c =
    sym (c.loop-digit.invariant.0 ∙ digits_end c.args.digits.now c.loop-digit.digit-index c.loop-digit.value (omega arith) c.loop-digit.invariant.1)
