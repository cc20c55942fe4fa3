-- The words of a command line, by how many they are. Assumes nothing.
use Rattle.std.proofs.Common.{◌≡◌, ℕ, List, [], ◌∷◌, length, get_or, map, None, refl, arith}
use Rattle.transfer.specs.Commands.{blank_order, order_in}

module _ {S : Type 0} (f : S → List ℕ) where
  pub six_words : (ws : List S) (verb replicas kind stores path : S) → length ws ≡ 6 → verb ≡ get_or ws 1 verb → replicas ≡ get_or ws 2 replicas → kind ≡ get_or ws 3 kind → stores ≡ get_or ws 4 stores → path ≡ get_or ws 5 path → order_in (map f ws) ≡ blank_order (f verb) (f replicas) (f kind) (f stores) (f path)
  six_words [] v r k s p e = absurd (omega arith)
  six_words (a ∷ []) v r k s p e = absurd (omega arith)
  six_words (a ∷ (b ∷ [])) v r k s p e = absurd (omega arith)
  six_words (a ∷ (b ∷ (c ∷ []))) v r k s p e = absurd (omega arith)
  six_words (a ∷ (b ∷ (c ∷ (d ∷ [])))) v r k s p e = absurd (omega arith)
  six_words (a ∷ (b ∷ (c ∷ (d ∷ (g ∷ []))))) v r k s p e = absurd (omega arith)
  six_words (a ∷ (b ∷ (c ∷ (d ∷ (g ∷ (h ∷ [])))))) v r k s p e = λ is_v is_r is_k is_s is_p. rw (is_v, is_r, is_k, is_s, is_p) refl
  six_words (a ∷ (b ∷ (c ∷ (d ∷ (g ∷ (h ∷ (i ∷ more))))))) v r k s p e = absurd (omega arith)

  pub other_words : (ws : List S) → (length ws ≡ 1 → ⊥) → (length ws ≡ 3 → ⊥) → (length ws ≡ 6 → ⊥) → None ≡ order_in (map f ws)
  other_words [] one three six = refl
  other_words (a ∷ []) one three six = absurd (one refl)
  other_words (a ∷ (b ∷ [])) one three six = refl
  other_words (a ∷ (b ∷ (c ∷ []))) one three six = absurd (three refl)
  other_words (a ∷ (b ∷ (c ∷ (d ∷ [])))) one three six = refl
  other_words (a ∷ (b ∷ (c ∷ (d ∷ (g ∷ []))))) one three six = refl
  other_words (a ∷ (b ∷ (c ∷ (d ∷ (g ∷ (h ∷ [])))))) one three six = absurd (six refl)
  other_words (a ∷ (b ∷ (c ∷ (d ∷ (g ∷ (h ∷ (i ∷ more))))))) one three six = refl
