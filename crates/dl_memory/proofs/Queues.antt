-- One more at the end of a list, seen entry by entry.
use Rattle.std.proofs.Common.{◌≡◌, false, cond, List, [], ◌∷◌, ◌++◌, ap, ◌∙◌}
use Rattle.std.specs.Prelude.{map, Result, Ok, Err, is_err, is_ok}
use Rattle.std.proofs.lemmas.List.{map-append}

pub pushed : {X Y A E : Type 0} (f : X → Y) (r : Result A E) (old new : List X) (x : X) → is_err r ≡ false → new ≡ cond (is_ok r) (old ++ x ∷ []) old → map f new ≡ map f old ++ f x ∷ []
pushed f (Ok a) old new x sound is = ap (map f) is ∙ map-append f old (x ∷ [])
pushed f (Err e) old new x sound is = absurd cc
