use Rattle.cluster.proofs.Balance.{balanced}
use Rattle.cluster.proofs.StaysFit.{stays_fit}
use Rattle.cluster.proofs.cluster.Cluster.act.Goals as goal

pub returns-clause-balance : goal.returns-clause-balance
returns-clause-balance g c = balanced _ _ _ _ _ _ c.act_at.ensures.after

pub returns-clause-fit : goal.returns-clause-fit
returns-clause-fit g c = stays_fit _ _ _ _ _ _ _ c.act_at.ensures.after c.act_at.ensures.setup
