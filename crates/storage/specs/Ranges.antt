-- A value that exists only under two conditions. Assumes nothing.
use Rattle.std.specs.Prelude.{Some, None, Option}

-- what `make` gives where P and Q hold, and nothing elsewhere
abbrev pub where_both : {P Q X : Type 0} → (P → Q → X) → Dec P → Dec Q → Option X
where_both make (yes p) (yes q) = Some (make p q)
where_both make (yes p) (no q) = None
where_both make (no p) (yes q) = None
where_both make (no p) (no q) = None
