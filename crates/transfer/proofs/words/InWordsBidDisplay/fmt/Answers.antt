use Rattle.transfer.proofs.words.InWordsBidDisplay.fmt.Goals as goal

pub returns-in-Offer-clause-writes : goal.returns-in-Offer-clause-writes
returns-in-Offer-clause-writes g c = rw c.in-Offer.is c.write.ensures.writes
