-- The code of a bid decodes to that bid. Assumes nothing.
use Rattle.std.specs.Prelude.{◌≡◌, ℕ, ◌+◌, ◌*◌, ◌/◌, ◌%◌, ◌^◌, Some, refl}
use Rattle.std.proofs.Common.{◌∙◌, ap, arith}
use Rattle.std.proofs.Math.Bridge.{le_prop}
use Rattle.std.proofs.Math.Decide.{dec_le}
use Rattle.std.proofs.lemmas.Bool.{eq-eqb}
use Rattle.storage.specs.Existence.{made}
use Rattle.storage.specs.Bids.{price_of, buyer_of, bid_code, bid_decoded}
use Rattle.storage.specs.declared.entry.price.Price.{Price}
use Rattle.storage.specs.declared.entry.buyer.Buyer.{Buyer}
use Rattle.storage.specs.declared.entry.bid.Bid.{Bid}
use Rattle.storage.specs.declared.entry.bid.Bid.TheVariants.{Open, Offer, PassedIn, Withdrawn}

-- a price is the price of its number, and so is a buyer
pub price_back : (p : Price) → price_of p.value ≡ Some p
price_back p = made le_prop le_prop (λ l m. record { value = p.value; least = l; most = m }) p.least p.most (dec_le 1 p.value) (dec_le p.value 99999)

pub buyer_back : (b : Buyer) → buyer_of b.value ≡ Some b
buyer_back b = made le_prop le_prop (λ l m. record { value = b.value; least = l; most = m }) b.least b.most (dec_le 1 b.value) (dec_le b.value 999)

-- a code of the offers' sort whose rest is this price and this buyer is that offer's
offer_is : (c : ℕ) (p : Price) (b : Buyer) → c / 2 ^ 56 ≡ 1 → c % 2 ^ 56 / 65536 ≡ p.value → c % 2 ^ 56 % 65536 ≡ b.value → bid_decoded c ≡ Some (Offer p b)
offer_is c p b s hp hb = rw (eq-eqb (c / 2 ^ 56) 1 s, ap price_of hp ∙ price_back p, ap buyer_of hb ∙ buyer_back b)

pub reads : (e : Bid) → bid_decoded (bid_code e) ≡ Some e
reads Open = refl
reads (Offer p b) = offer_is (2 ^ 56 + p.value * 65536 + b.value) p b (omega arith) (omega arith) (omega arith)
reads PassedIn = refl
reads Withdrawn = refl
