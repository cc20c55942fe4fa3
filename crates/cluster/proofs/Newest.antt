-- The last message to a replica is the first in the list turned round. Assumes nothing.
use Rattle.std.proofs.Common.{◌≡◌, ℕ, Bool, true, false, cond, eqb, List, [], ◌∷◌, Some, None, Option, reverse, refl, ap, ◌∙◌}
use Rattle.cluster.specs.Transits.{newest_of}
use Rattle.replica.specs.declared.message.Message.{Message}
use Rattle.std.proofs.lemmas.List.{reverse-append}
use Rattle.std.proofs.lemmas.List.Folds.{find-append}
use Rattle.std.specs.List.{find}
use Rattle.std.specs.Option.{option_or}

module _ (i : ℕ) where
  abbrev pub to_it : Message → Bool
  to_it m = eqb m.receiver i

  -- what is found of a list and then of one message, or else before both
  one_more : (found before : Option Message) (b : Bool) (m : Message) → option_or (option_or found (cond b (Some m) None)) before ≡ option_or found (cond b (Some m) before)
  one_more (Some n) before b m = refl
  one_more None before true m = refl
  one_more None before false m = refl

  pub last_to_it : (before : Option Message) (ms : List Message) → option_or (find to_it (reverse ms)) before ≡ newest_of i before ms
  last_to_it before [] = refl
  last_to_it before (m ∷ ms) =
      ap (λ (x : List Message). option_or (find to_it x) before) (reverse-append (m ∷ []) ms)
      ∙ ap (λ (x : Option Message). option_or x before) (find-append to_it (reverse ms) (m ∷ []))
      ∙ one_more (find to_it (reverse ms)) before (to_it m) m
      ∙ last_to_it (cond (to_it m) (Some m) before) ms

  pub newest_is : (ms : List Message) → find to_it (reverse ms) ≡ newest_of i None ms
  newest_is ms = or_none (find to_it (reverse ms)) ∙ last_to_it None ms
    where
      or_none : (x : Option Message) → x ≡ option_or x None
      or_none (Some m) = refl
      or_none None = refl
