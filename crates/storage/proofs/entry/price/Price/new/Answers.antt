use Rattle.std.proofs.Common.{sym}
use Rattle.storage.specs.BidCodes.{price_back}
use Rattle.storage.proofs.entry.price.Price.new.Goals as goal

pub returns-then-contains : goal.returns-then-contains
returns-then-contains c = sym (price_back _)
