use Rattle.std.proofs.Common.{map, refl}
use native.Mathlib.Decide.{dec_le}
use Rattle.std.proofs.lemmas.List.Elements.{All-cons, All-map}
use Rattle.std.specs.Fmt.{digits}
use Rattle.rehearsal.specs.WorkedCases.{Holds, below, write_and_read}
use Rattle.storage.specs.WorkedCases as storage
use Rattle.rehearsal.proofs.worked_cases.worked_cases.Goals as goal

pub returns-clause-hold : goal.returns-clause-hold
unfolding dec_le digits
returns-clause-hold c = All-cons Holds write_and_read (map below storage.cases) refl (All-map Holds below storage.cases c.worked_cases.ensures.hold)
