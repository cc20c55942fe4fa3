use Rattle.std.proofs.Common.{◌≡◌, ◌^◌, ◌<◌, drop}
use Rattle.rehearsal.specs.Numbers.{number_after, number_of}
use Rattle.rehearsal.proofs.number.number.Given as goal

abbrev pub invariant-loop-digit : goal.invariant-loop-digit
invariant-loop-digit l =
    (number_of l.digits ≡ number_after l.value (drop l.digit-index l.digits)) × (l.value < 2 ^ 64)
