-- What the walk over one lot stores. Assumes nothing.
use Rattle.std.specs.Prelude.{ℕ}
use Rattle.std.specs.Option.{unwrap_or}
use Rattle.storage.specs.Bids.{buyer_of, offer_of, open_bid, price_of}
use Rattle.storage.specs.declared.entry.bid.Bid.{Bid}
use Rattle.storage.specs.declared.page.Page.{Page}

-- the offer of so many cents by this buyer, and an open bid where there is none
abbrev pub offer_or_open : ℕ → ℕ → Bid
offer_or_open cents buyer = unwrap_or (offer_of (price_of cents) (buyer_of buyer)) open_bid

-- a page with another newest entry
abbrev pub with_written : Page → ℕ → ℕ → ℕ → Page
with_written p sequence replica code = record {
  incarnation = p.incarnation;
  written = record { timestamp = record { sequence = sequence; replica = replica }; code = code };
  intended_sequence = p.intended_sequence;
  intended_code = p.intended_code;
}
