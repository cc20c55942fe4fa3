-- The bid that stands for a lot, and its codes. Assumes nothing.
use Rattle.std.specs.Prelude.{ℕ, ◌+◌, ◌*◌, ◌/◌, ◌%◌, ◌^◌, cond, Some, None, Option, ◌==◌}
use Rattle.std.proofs.Math.Decide.{dec_le}
use Rattle.storage.specs.Ranges.{where_both}
use Rattle.storage.specs.declared.entry.price.Price.{Price}
use Rattle.storage.specs.declared.entry.buyer.Buyer.{Buyer}
use Rattle.storage.specs.declared.entry.bid.Bid.{Bid}
use Rattle.storage.specs.declared.entry.bid.Bid.TheVariants.{Open, Offer, PassedIn, Withdrawn}

-- the price of n cents, if n is 1 to 99,999
abbrev pub price_of : ℕ → Option Price
price_of n = where_both (λ l m. record { value = n; least = l; most = m }) (dec_le 1 n) (dec_le n 99999)

-- the buyer of number n, if n is 1 to 999
abbrev pub buyer_of : ℕ → Option Buyer
buyer_of n = where_both (λ l m. record { value = n; least = l; most = m }) (dec_le 1 n) (dec_le n 999)

-- a register that was never written holds no bid
abbrev pub open_bid : Bid
open_bid = Open

abbrev pub bid_code : Bid → ℕ
bid_code Open = 0
bid_code (Offer p b) = 2 ^ 56 + p.value * 65536 + b.value
bid_code PassedIn = 2 * 2 ^ 56
bid_code Withdrawn = 3 * 2 ^ 56

-- an offer, if there are such a price and such a buyer
abbrev pub offer_of : Option Price → Option Buyer → Option Bid
offer_of (Some p) (Some b) = Some (Offer p b)
offer_of (Some p) None = None
offer_of None (Some b) = None
offer_of None None = None

-- a code of 2^56 and more, below 2 * 2^56, is an offer's: price * 65,536 + buyer is left above 2^56
abbrev pub bid_decoded : ℕ → Option Bid
bid_decoded c =
    cond (c / 2 ^ 56 == 1) (offer_of (price_of (c % 2 ^ 56 / 65536)) (buyer_of (c % 2 ^ 56 % 65536)))
    (cond (c == 0) (Some Open)
    (cond (c == 2 * 2 ^ 56) (Some PassedIn)
    (cond (c == 3 * 2 ^ 56) (Some Withdrawn) None)))
