-- A value that exists under two conditions exists exactly where both hold. Assumes nothing.
use Rattle.std.specs.Prelude.{◌≡◌, Some, None, refl}
use Rattle.std.proofs.Common.{ap₂}
use Rattle.storage.specs.Ranges.{where_both}

-- where both hold it is made, and of any proofs of them alike
pub made : {P Q X : Type 0} → IsProp P → IsProp Q → (make : P → Q → X) (p : P) (q : Q) (d : Dec P) (e : Dec Q) → where_both make d e ≡ Some (make p q)
made one-p one-q make p q (yes p') (yes q') = ap₂ (λ (x : _) (y : _). Some (make x y)) (one-p p' p) (one-q q' q)
made one-p one-q make p q (yes p') (no f) = absurd (f q)
made one-p one-q make p q (no f) (yes q') = absurd (f p)
made one-p one-q make p q (no f) (no g) = absurd (f p)

-- where they do not both hold there is none
pub none : {P Q X : Type 0} (make : P → Q → X) → (P → Q → ⊥) → (d : Dec P) (e : Dec Q) → where_both make d e ≡ None
none make f (yes p) (yes q) = absurd (f p q)
none make f (yes p) (no q) = refl
none make f (no p) (yes q) = refl
none make f (no p) (no q) = refl
