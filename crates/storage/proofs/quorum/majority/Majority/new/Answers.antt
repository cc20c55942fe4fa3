use Rattle.std.proofs.Common.{sym}
use Rattle.storage.proofs.QuorumMaking.{majority_made}
use Rattle.storage.proofs.quorum.majority.Majority.new.Goals as goal

pub returns : goal.returns
returns c = sym (majority_made _)
