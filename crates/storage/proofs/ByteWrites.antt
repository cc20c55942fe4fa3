-- Bytes written over others: what is read of them. Assumes nothing.
use Rattle.std.proofs.Common.{◌≡◌, ℕ, ◌+◌, ◌-◌, ◌≤◌, List, ◌++◌, length, take, drop, sym, refl, ap, ◌∙◌, ap₂, append-nil, arith, length-append, length-take-le, drop-drop, take_at, drop_at}
use Rattle.std.proofs.Math.Seq.{paste}
use Rattle.std.proofs.lemmas.List.{drop_all}
use Rattle.std.proofs.lemmas.List.Edits.{drop-paste, length-paste, paste-paste, paste_all}
use Rattle.storage.proofs.ByteParts.{sub_part}
use Rattle.storage.specs.ByteNumbers.{overwritten, part}

module _ (bs : List ℕ) (k : ℕ) (ys : List ℕ) (fits : k + length ys ≤ length bs) where
  -- in the library's word
  pasted : overwritten bs k ys ≡ paste bs k ys (length ys)
  pasted = sym (paste_all bs k ys (length ys) refl)

  pub length-overwritten : length (overwritten bs k ys) ≡ length bs
  length-overwritten = ap length pasted ∙ length-paste bs k ys (length ys) fits (omega arith)

  -- what was written is read
  pub part_written : part (overwritten bs k ys) k (length ys) ≡ ys
  part_written = ap (take (length ys)) (drop_at (take k bs) (ys ++ drop (k + length ys) bs) k (length-take-le k bs (omega arith))) ∙ take_at ys (drop (k + length ys) bs) (length ys) refl

  -- what lies before is as it was
  pub part_below : (j w : ℕ) → j + w ≤ k → part (overwritten bs k ys) j w ≡ part bs j w
  part_below j w h =
      sym (sub_part (overwritten bs k ys) 0 k j w j (omega arith) h)
      ∙ ap (λ (l : List ℕ). part l j w) (take_at (take k bs) (ys ++ drop (k + length ys) bs) k (length-take-le k bs (omega arith)))
      ∙ sub_part bs 0 k j w j (omega arith) h

  -- and so is what lies behind
  pub part_above : (j w : ℕ) → k + length ys ≤ j → part (overwritten bs k ys) j w ≡ part bs j w
  part_above j w h =
      let m = k + length ys in
      let at : m + (j - m) ≡ j = omega arith in
      let behind : drop m (overwritten bs k ys) ≡ drop m bs = ap (drop m) pasted ∙ drop-paste bs k ys (length ys) (omega arith) (omega arith) in
      ap (λ (n : ℕ). take w (drop n (overwritten bs k ys))) (sym at)
      ∙ ap (take w) (sym (drop-drop (j - m) m (overwritten bs k ys)) ∙ ap (drop (j - m)) behind ∙ drop-drop (j - m) m bs)
      ∙ ap (λ (n : ℕ). take w (drop n bs)) at

  -- two writes, the second where the first ends, are one
  write_write : (m : ℕ) (zs : List ℕ) → m ≡ k + length ys → overwritten (overwritten bs k ys) m zs ≡ overwritten bs k (ys ++ zs)
  write_write m zs e =
      ap₂ (λ (l : List ℕ) (j : ℕ). overwritten l j zs) pasted e
      ∙ sym (paste_all (paste bs k ys (length ys)) (k + length ys) zs (length zs) refl)
      ∙ paste-paste bs k ys zs (length ys) (length zs) refl refl (omega arith)
      ∙ ap (paste bs k (ys ++ zs)) (sym (length-append ys zs))
      ∙ paste_all bs k (ys ++ zs) (length (ys ++ zs)) refl

-- now is bs with ys written over it from k on
pub record Wrote (bs : List ℕ) (k : ℕ) (ys now : List ℕ) : Type 0 where
  pub is : now ≡ overwritten bs k ys

pub wrote : {bs ys : List ℕ} {k : ℕ} (xs now : List ℕ) → now ≡ overwritten bs k xs → xs ≡ ys → Wrote bs k ys now
wrote {bs} {ys} {k} xs now e f = record { is = e ∙ ap (overwritten bs k) f }

-- one more write, where those before it end
pub wrote_more : {bs ys was zs : List ℕ} {k : ℕ} → Wrote bs k ys was → (m : ℕ) (xs next : List ℕ) → next ≡ overwritten was m xs → xs ≡ zs → m ≡ k + length ys → k + length ys ≤ length bs → Wrote bs k (ys ++ zs) next
wrote_more {bs} {ys} {was} {zs} {k} w m xs next e f at fits = record { is = e ∙ ap₂ (λ (l r : List ℕ). overwritten l m r) w.is f ∙ write_write bs k ys fits m zs at }

-- as many bytes as there are, written from the first on, are what is there then
pub write_all : (bs ys : List ℕ) → length bs ≡ length ys → overwritten bs 0 ys ≡ ys
write_all bs ys e = ap (λ (l : List ℕ). ys ++ l) (drop_all (0 + length ys) bs (omega arith)) ∙ append-nil ys
