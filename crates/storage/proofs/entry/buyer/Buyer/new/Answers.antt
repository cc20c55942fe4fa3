use Rattle.std.proofs.Common.{sym}
use Rattle.storage.specs.BidCodes.{buyer_back}
use Rattle.storage.proofs.entry.buyer.Buyer.new.Goals as goal

pub returns-then-contains : goal.returns-then-contains
returns-then-contains c = sym (buyer_back _)
