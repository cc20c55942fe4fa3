use Rattle.cluster.proofs.Running.{Running}
use Rattle.cluster.specs.States.{setup_of, state_of}
use Rattle.cluster.proofs.cluster.Cluster.run.Given as goal

abbrev pub invariant-loop-k : goal.invariant-loop-k
invariant-loop-k g l =
    Running
    (setup_of g.S.Storage g.Q.Quorum g.E.Entry l.initial.self)
    (setup_of g.S.Storage g.Q.Quorum g.E.Entry l.self)
    (state_of g.S.Storage l.initial.self)
    (state_of g.S.Storage l.self)
    l.events l.initial.answers l.answers l.k
