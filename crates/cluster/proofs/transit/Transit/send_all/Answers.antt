use Rattle.std.proofs.Common.{length, vec_items, ap, arith}
use Rattle.cluster.proofs.Sending.{all_more}
use Rattle.cluster.proofs.transit.Transit.send_all.Goals as goal

pub overflow_sub-result : goal.overflow_sub-result
overflow_sub-result c =
    omega (arith, all_more c.loop-receiver.receiver (vec_items c.args.self.now.messages) c.args.message.now, ap length c.loop-receiver.invariant, c.count.ensures, c.count-before.ensures)

pub returns-clause-most : goal.returns-clause-most
returns-clause-most c =
    omega (arith, all_more c.loop-receiver.receiver (vec_items c.args.self.now.messages) c.args.message.now, ap length c.loop-receiver.invariant, c.count.ensures, c.count-before.ensures)
