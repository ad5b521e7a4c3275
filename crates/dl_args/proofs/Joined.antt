-- Fields one after the other, as a loop over them meets them.
use Rattle.std.proofs.Common.{◌≡◌, ℕ, ◌+◌, ◌<◌, List, ◌++◌, length, get_or, drop, ◌∙◌}
use Rattle.std.specs.Borrow.{Bor}
use Rattle.std.proofs.lemmas.List.{at_drop_more, length-append}
use Rattle.dl_args.specs.Argument.{joined}

pub joined_drop : (fields : List (Bor (List ℕ))) (i : ℕ) (d : Bor (List ℕ)) → i < length fields → joined (drop i fields) ≡ (get_or fields i d).now ++ joined (drop (i + 1) fields)
joined_drop fields i d below = at_drop_more joined fields i d below

pub length_joined : (fields : List (Bor (List ℕ))) (i : ℕ) (d : Bor (List ℕ)) → i < length fields → length (joined (drop i fields)) ≡ length (get_or fields i d).now + length (joined (drop (i + 1) fields))
length_joined fields i d below = at_drop_more (λ (xs : List (Bor (List ℕ))). length (joined xs)) fields i d below ∙ length-append (get_or fields i d).now (joined (drop (i + 1) fields))
