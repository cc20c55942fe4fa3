-- Pieces of one width, one after the other. Assumes nothing.
use Rattle.std.proofs.Common.{◌≡◌, ℕ, zero, suc, ◌+◌, ◌*◌, ◌<◌, List, [], ◌++◌, map, length, take, drop, sym, refl, ap, ◌∙◌, ap₂, append_assoc, mul-suc, arith, length-append, drop-drop, take_at, drop_at}
use Rattle.std.proofs.lemmas.List.{flat_map_more}
use Rattle.std.proofs.lemmas.List.Folds.{flat_map-map}
use Rattle.std.proofs.lemmas.List.FromFn.{map-range_with_len_more}
use Rattle.std.specs.List.{range_with_len, flat_map}
use Rattle.storage.proofs.ByteParts.{part-part}
use Rattle.storage.specs.ByteNumbers.{part}

-- one piece more
pub joined_more : (f : ℕ → List ℕ) (n : ℕ) → flat_map f (range_with_len 0 n) ++ f n ≡ flat_map f (range_with_len 0 (n + 1))
joined_more f n =
    let join : List (List ℕ) → List ℕ = flat_map (λ (l : List ℕ). l) in
    ap (λ (l : List ℕ). l ++ f n) (sym (flat_map-map (λ (l : List ℕ). l) f (range_with_len 0 n)))
    ∙ flat_map_more (λ (l : List ℕ). l) [] (map f (range_with_len 0 n)) (f n)
    ∙ ap join (sym (map-range_with_len_more f 0 n n (omega arith)))
    ∙ flat_map-map (λ (l : List ℕ). l) f (range_with_len 0 (n + 1))

module _ (f : ℕ → List ℕ) (w : ℕ) where
  length_from : ((i : ℕ) → length (f i) ≡ w) → (a n : ℕ) → length (flat_map f (range_with_len a n)) ≡ w * n
  length_from len a zero = omega arith
  length_from len a (suc n) = length-append (f a) (flat_map f (range_with_len (a + 1) n)) ∙ omega (arith, len a, length_from len (a + 1) n, mul-suc w n)

  pub length_joined : ((i : ℕ) → length (f i) ≡ w) → (n : ℕ) → length (flat_map f (range_with_len 0 n)) ≡ w * n
  length_joined len n = length_from len 0 n

  part_from : ((i : ℕ) → length (f i) ≡ w) → (a n i : ℕ) (rest : List ℕ) → i < n → part (flat_map f (range_with_len a n) ++ rest) (w * i) w ≡ f (a + i)
  part_from len a zero i rest h = absurd (omega arith)
  part_from len a (suc n) zero rest h =
      let tail = flat_map f (range_with_len (a + 1) n) in
      let start : w * 0 ≡ 0 = omega arith in
      ap (λ (k : ℕ). part ((f a ++ tail) ++ rest) k w) start
      ∙ ap (take w) (append_assoc (f a) tail rest)
      ∙ take_at (f a) (tail ++ rest) w (len a)
      ∙ ap f (omega arith)
  part_from len a (suc n) (suc i) rest h =
      let tail = flat_map f (range_with_len (a + 1) n) in
      ap (λ (k : ℕ). part ((f a ++ tail) ++ rest) k w) (omega (arith, mul-suc w i))
      ∙ ap (take w) (sym (drop-drop (w * i) w ((f a ++ tail) ++ rest)))
      ∙ ap (λ (l : List ℕ). take w (drop (w * i) l)) (ap (drop w) (append_assoc (f a) tail rest) ∙ drop_at (f a) (tail ++ rest) w (len a))
      ∙ part_from len (a + 1) n i rest (omega arith)
      ∙ ap f (omega arith)

  -- piece i is read where it lies
  pub part_joined : ((i : ℕ) → length (f i) ≡ w) → (n i : ℕ) (rest : List ℕ) → i < n → part (flat_map f (range_with_len 0 n) ++ rest) (w * i) w ≡ f i
  part_joined len n i rest h = part_from len 0 n i rest h ∙ ap f (omega arith)

  parts_from : (bs : List ℕ) (k a n : ℕ) → ((i : ℕ) → i < n → f (a + i) ≡ part bs (k + w * i) w) → flat_map f (range_with_len a n) ≡ part bs k (w * n)
  parts_from bs k a zero h = let none : 0 ≡ w * 0 = omega arith in ap (part bs k) none
  parts_from bs k a (suc n) h =
      let first : f a ≡ part bs k w = ap f (omega arith) ∙ h 0 (omega arith) ∙ ap (λ (m : ℕ). part bs m w) (omega arith) in
      let others = parts_from bs (k + w) (a + 1) n (λ i l. ap f (omega arith) ∙ h (suc i) (omega arith) ∙ ap (λ (m : ℕ). part bs m w) (omega (arith, mul-suc w i))) in
      ap₂ (λ (x y : List ℕ). x ++ y) first others ∙ part-part bs k w (k + w) (w * n) refl ∙ ap (part bs k) (omega (arith, mul-suc w n))

  -- pieces that are parts of bs, one after the other, make one part of it
  pub joined_parts : (bs : List ℕ) (k n : ℕ) → ((i : ℕ) → i < n → f i ≡ part bs (k + w * i) w) → flat_map f (range_with_len 0 n) ≡ part bs k (w * n)
  joined_parts bs k n h = parts_from bs k 0 n (λ i l. ap f (omega arith) ∙ h i l)
