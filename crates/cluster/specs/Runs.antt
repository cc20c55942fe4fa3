-- Lists of events. Assumes nothing.
use Rattle.std.specs.Prelude.{ℕ, ◌+◌, List, [], ◌∷◌}
use Rattle.cluster.specs.Acts.{acted}
use Rattle.cluster.specs.States.{Setup, State}
use Rattle.cluster.specs.declared.answer.Answer.{Answer}
use Rattle.cluster.specs.declared.event.Event.{Event}

-- where events lead, the first of which is at place k of the list
abbrev pub ran : ℕ → Setup → State → List Event → State
ran k u s [] = s
ran k u s (e ∷ es) = ran (k + 1) u (acted k u s e).0 es

-- what they answer, one by one
abbrev pub answers_of : ℕ → Setup → State → List Event → List Answer
answers_of k u s [] = []
answers_of k u s (e ∷ es) = (acted k u s e).1 ∷ answers_of (k + 1) u (acted k u s e).0 es
