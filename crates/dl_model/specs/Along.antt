-- Lists read along: what each entry gives, after those before it.
use Rattle.std.specs.Prelude.{Bool, List, [], ◌∷◌, ◌++◌, reverse, Option}
use Rattle.std.specs.List.{find}

-- what the entries give one after the other, each after those before it, where some stand before them all
abbrev pub along_from : {E A : Type 0} → (List E → E → List A) → List E → List E → List A
along_from f before [] = []
along_from f before (e ∷ entries) = f before e ++ along_from f (before ++ e ∷ []) entries

-- the same from the first entry on
abbrev pub along : {E A : Type 0} → (List E → E → List A) → List E → List A
along f entries = along_from f [] entries

-- the last entry that passes a test
abbrev pub last_that : {E : Type 0} → (E → Bool) → List E → Option E
last_that test entries = find test (reverse entries)
