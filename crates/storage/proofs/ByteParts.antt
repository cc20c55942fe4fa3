-- Parts of bytes. Assumes nothing.
use Rattle.std.proofs.Common.{◌≡◌, ℕ, ◌+◌, ◌-◌, ◌<◌, ◌≤◌, List, ◌++◌, length, get_or, take, drop, sym, ap, ◌∙◌, inl, inr, arith, length-drop, length-take-le, get_or-drop, get_or-take, take-take, drop-drop, take-add}
use Rattle.std.proofs.lemmas.List.{drop-take, get_or_past, length-take}
use Rattle.std.proofs.lemmas.Bool.{cases_lt}
use Rattle.storage.specs.ByteNumbers.{number_at, number_of, part}

pub length_part : (bs : List ℕ) (k w : ℕ) → k + w ≤ length bs → length (part bs k w) ≡ w
length_part bs k w h = length-take-le w (drop k bs) (omega (arith, length-drop k bs))

-- two parts, the second where the first ends, are one
pub part-part : (bs : List ℕ) (k v m w : ℕ) → m ≡ k + v → part bs k v ++ part bs m w ≡ part bs k (v + w)
part-part bs k v m w e = ap (λ (r : List ℕ). take v (drop k bs) ++ take w r) (ap (λ (n : ℕ). drop n bs) e ∙ sym (drop-drop v k bs)) ∙ sym (take-add v w (drop k bs))

-- a part of a part
pub sub_part : (bs : List ℕ) (k w d v m : ℕ) → m ≡ k + d → d + v ≤ w → part (part bs k w) d v ≡ part bs m v
sub_part bs k w d v m e h =
    let split : w ≡ d + (w - d) = omega arith in
    ap (λ (n : ℕ). take v (drop d (take n (drop k bs)))) split
    ∙ ap (take v) (drop-take d (w - d) (drop k bs))
    ∙ take-take v (w - d) (drop d (drop k bs)) (omega arith)
    ∙ ap (take v) (drop-drop d k bs)
    ∙ ap (λ (n : ℕ). take v (drop n bs)) (sym e)

pub number_in_part : (bs : List ℕ) (k w d v m : ℕ) → m ≡ k + d → d + v ≤ w → number_at bs m v ≡ number_at (part bs k w) d v
number_in_part bs k w d v m e h = ap number_of (sym (sub_part bs k w d v m e h))

-- a part of bytes is of bytes
pub small_part : (bs : List ℕ) (k w : ℕ) → ((i : ℕ) → get_or bs i 0 < 256) → (i : ℕ) → get_or (part bs k w) i 0 < 256
small_part bs k w small i =
    elim (cases_lt i w) [
      | inl h ↦ rw (get_or-take w (drop k bs) i 0 h, get_or-drop k bs i 0) (small (k + i))
      | inr h ↦ rw (get_or_past (part bs k w) i 0 (omega (arith, length-take w (drop k bs)))) (omega arith)
    ]
