use Rattle.std.proofs.Common.{◌≡◌, vec_items}
use Rattle.cluster.specs.Transits.{sent_to_all}
use Rattle.cluster.proofs.transit.Transit.send_all.Given as goal

abbrev pub invariant-loop-receiver : goal.invariant-loop-receiver
invariant-loop-receiver l = vec_items l.self.messages ≡ sent_to_all l.receiver (vec_items l.initial.self.messages) l.message
