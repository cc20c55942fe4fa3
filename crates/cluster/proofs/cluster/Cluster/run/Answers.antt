use Rattle.std.proofs.Common.{arith}
use Rattle.cluster.proofs.Running.{run_leads}
use Rattle.cluster.proofs.StaysFit.{runs_fit}
use Rattle.cluster.proofs.cluster.Cluster.run.Goals as goal

pub returns-clause-fit : goal.returns-clause-fit
returns-clause-fit g c = runs_fit _ _ _ _ c.args.events.now (run_leads c.loop-k.invariant (omega arith) (omega arith)) c.loop-k.invariant.same
