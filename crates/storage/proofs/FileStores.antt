-- A record stored in a file: what it then holds, and that it is the file of that. Assumes nothing.
use mathlib.Core.Path.{fun_ext}
use Rattle.std.proofs.Common.{◌≡◌, ℕ, ◌+◌, ◌*◌, ◌<◌, ◌≤◌, eqb, false, ◌⊎◌, List, ◌++◌, length, get_or, take, sym, ap, ◌∙◌, subst, ap₂, inl, inr, arith, take_all, get_or-take, take_at, Vec}
use Rattle.std.proofs.lemmas.Bool.{cases_order, cond-false, cond-true, eq-eqb, ne_eqb}
use Rattle.std.proofs.lemmas.List.{with_items_is}
use Rattle.std.specs.Vec.{with_items}
use Rattle.storage.proofs.ByteParts.{part-part}
use Rattle.storage.proofs.ByteWrites.{length-overwritten, part_above, part_below, part_written}
use Rattle.storage.proofs.FileLayout.{length_file, length_pairs, record_there}
use Rattle.storage.proofs.JoinedParts.{joined_parts}
use Rattle.storage.proofs.RecordBytes.{length_record, record_back}
use Rattle.storage.specs.ByteNumbers.{overwritten, part}
use Rattle.storage.specs.Files.{file_held, file_length, file_of, head_bytes, kind_in, pairs_bytes, place, record_in, records_bytes}
use Rattle.storage.specs.Records.{Fit, record_bytes, record_of}
use Rattle.storage.specs.Storages.{updated}
use Rattle.storage.specs.declared.stable.memory.Cell.{Cell}

-- what a Vec holds once its bytes, lent to a write, are given back
pub given_back : {Z : Type 0} (v : Vec ℕ Z) (lent ws zs : List ℕ) (k m : ℕ) → lent ≡ v.items → length ws ≡ length lent → ws ≡ overwritten lent m zs → m ≡ k → (with_items v ws).items ≡ overwritten v.items k zs
given_back v lent ws zs k m e len w at = with_items_is v ws (len ∙ ap length e ∙ sym v.ok.0) ∙ w ∙ ap₂ (λ (l : List ℕ) (j : ℕ). overwritten l j zs) e at

module _ (bs next : List ℕ) (n i : ℕ) (c : Cell) (fit : Fit c) (inside : i < n) (room : file_length n ≤ length bs) (is : next ≡ overwritten bs (place n i) (record_bytes c)) where
  fits : place n i + length (record_bytes c) ≤ length bs
  fits = omega (arith, length_record c)

  here : part next (place n i) 36 ≡ record_bytes c
  here = ap₂ (λ (l : List ℕ) (w : ℕ). part l (place n i) w) is (sym (length_record c)) ∙ part_written bs (place n i) (record_bytes c) fits

  apart : (j : ℕ) → (j < i) ⊎ (i < j) → part next (place n j) 36 ≡ part bs (place n j) 36
  apart j (inl h) = ap (λ (l : List ℕ). part l (place n j) 36) is ∙ part_below bs (place n i) (record_bytes c) fits (place n j) 36 (omega arith)
  apart j (inr h) = ap (λ (l : List ℕ). part l (place n j) 36) is ∙ part_above bs (place n i) (record_bytes c) fits (place n j) 36 (omega (arith, length_record c))

  differ : (j : ℕ) → (j < i) ⊎ (i < j) → eqb j i ≡ false
  differ j (inl h) = ne_eqb j i (omega arith)
  differ j (inr h) = ne_eqb j i (omega arith)

  -- of each record, the whole or a part: that of the new one at i, and of the old ones elsewhere
  pub after : {X : Type 0} (f : Cell → X) → (λ j. f (record_in next n j)) ≡ updated (λ j. f (record_in bs n j)) i (f c)
  after f =
      fun_ext (λ j.
      elim (cases_order j i) [
        | inl same ↦
            ap (λ (m : ℕ). f (record_in next n m)) same
            ∙ ap f (ap record_of here ∙ record_back c fit)
            ∙ sym (cond-true (eqb j i) (f c) (f (record_in bs n j)) (eq-eqb j i same))
        | inr d ↦ ap (λ (l : List ℕ). f (record_of l)) (apart j d) ∙ sym (cond-false (eqb j i) (f c) (f (record_in bs n j)) (differ j d))
      ])

  -- if bs was the file of its records, so are the new bytes of theirs
  module _ (whole : file_held bs n ≡ bs) where
    coded : (j : ℕ) → j < n → record_bytes (record_in next n j) ≡ part next (place n j) 36
    coded j h =
        elim (cases_order j i) [
          | inl same ↦
              let at_i : record_bytes (record_in next n i) ≡ part next (place n i) 36 = ap record_bytes (ap record_of here ∙ record_back c fit) ∙ sym here in
              subst (λ (m : ℕ). record_bytes (record_in next n m) ≡ part next (place n m) 36) (sym same) at_i
          | inr d ↦
              let before : record_bytes (record_in bs n j) ≡ part bs (place n j) 36 =
              sym (record_there n (kind_in bs) (record_in bs n) j h) ∙ ap (λ (l : List ℕ). part l (place n j) 36) whole in
              subst (λ (l : List ℕ). record_bytes (record_of l) ≡ l) (sym (apart j d)) before
        ]

    front : part next 0 (4 + 8 * n) ≡ part bs 0 (4 + 8 * n)
    front = ap (λ (l : List ℕ). part l 0 (4 + 8 * n)) is ∙ part_below bs (place n i) (record_bytes c) fits 0 (4 + 8 * n) (omega arith)

    front_is : part bs 0 (4 + 8 * n) ≡ head_bytes n (kind_in bs) ++ pairs_bytes n
    front_is =
        let cell = record_in bs n in
        let pairs = length_pairs n (kind_in bs) cell in
        ap (take (4 + 8 * n)) (sym whole) ∙ take_at (head_bytes n (kind_in bs) ++ pairs_bytes n) (records_bytes cell n) (4 + 8 * n) (omega arith)

    kind_after : kind_in next ≡ kind_in bs
    kind_after = sym (get_or-take (4 + 8 * n) next 1 0 (omega arith)) ∙ ap (λ (l : List ℕ). get_or l 1 0) front ∙ get_or-take (4 + 8 * n) bs 1 0 (omega arith)

    pub held_after : file_held next n ≡ next
    held_after =
        let size : length next ≡ file_length n = ap length is ∙ length-overwritten bs (place n i) (record_bytes c) fits ∙ ap length (sym whole) ∙ length_file n (kind_in bs) (record_in bs n) in
        ap (λ (k : ℕ). file_of n k (record_in next n)) kind_after
        ∙ ap₂ (λ (x y : List ℕ). x ++ y) (sym (front ∙ front_is)) (joined_parts (λ j. record_bytes (record_in next n j)) 36 next (4 + 8 * n) n coded)
        ∙ part-part next 0 (4 + 8 * n) (4 + 8 * n) (36 * n) (omega arith)
        ∙ take_all (4 + 8 * n + 36 * n) next (omega arith)
