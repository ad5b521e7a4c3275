use Rattle.std.proofs.Common.{◌≡◌, ◌<◌, ◌≤◌, ℕ, List, [], ◌∷◌, length, map, None, refl, arith}
use Rattle.std.specs.String.{string_bytes}
use Rattle.std.proofs.lemmas.List.{length-map}
use Rattle.dl_replay.specs.Task.{task_of}
use Rattle.dl_replay.proofs.task.task_of.Goals as goal

-- three words name no task
three_words : (words : List (List ℕ)) → 3 ≤ length words → length words < 4 → None ≡ task_of words
three_words [] least most = refl
three_words (a ∷ []) least most = refl
three_words (a ∷ b ∷ []) least most = absurd (omega (arith, least))
three_words (a ∷ b ∷ c ∷ []) least most = refl
three_words (a ∷ b ∷ c ∷ d ∷ words) least most = absurd (omega (arith, most))

pub returns-in_default-2-clause-named : goal.returns-in_default-2-clause-named
returns-in_default-2-clause-named c =
    three_words (map string_bytes c.args.words.now) (omega (arith, length-map c.args.words.now string_bytes, c.in_default.len_at_least))
    (omega (arith, length-map c.args.words.now string_bytes, c.in_default.len_below))
