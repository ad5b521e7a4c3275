-- An answer begins with its word.
use Rattle.std.proofs.Common.{◌≡◌, ℕ, Bool, true, false, cond, eqb, List, ◌++◌, Option, Some, None, refl}
use Rattle.std.specs.Prelude.{codes}
use Rattle.std.specs.Fmt.{decimal}
use Rattle.std.specs.Option.{option_map_or}
use Rattle.dl_find_words.specs.Answer.{entry_line, hit_text, hits_text, said_text, several_text, several_words, spot_text, verdict_text, word_text}
use Rattle.dl_find_words.specs.Arguments.{message_text}
use Rattle.dl_find_words.specs.Verdict.{word_of}
use Rattle.dl_find_words.specs.declared.question.Question.{Question}
use Rattle.dl_find_words.specs.declared.seen.Hit.{Hit}
use Rattle.dl_find_words.specs.declared.verdict.Verdict.{Verdict}
use Rattle.dl_find_words.specs.declared.verdict.Word.{Word}
use Rattle.dl_find_words.specs.declared.verdict.Word.TheVariants as word
use Rattle.dl_find.specs.Answer.{BeginsWithItsWord, hits_word, verdict_of}
use Rattle.dl_find.specs.Finds.{Met, finding_of}

abbrev Begins : Word → List ℕ → Type 0
Begins w text = (rest : List ℕ) × (text ≡ word_text w ++ rest)

-- a message that is here, or several
hits_begin : (names : List (List ℕ)) (n : ℕ) (hit : Hit) → Begins (hits_word n) (hits_text names n hit)
hits_begin names n hit = by_test (eqb n 1) where
  by_test : (b : Bool) → Begins (cond b word.Here word.Unknown) (cond b (hit_text names hit) (several_text names n hit))
  by_test true = (spot_text names hit.seen.spot ++ entry_line hit.seen.entry ++ message_text hit.bytes ++ codes "\n", refl)
  by_test false = (decimal n ++ several_words ++ spot_text names hit.seen.spot ++ codes "\n", refl)

by_hit : (names : List (List ℕ)) (q : Question) (n : ℕ) (v : Verdict) (o : Option Hit) → Begins (option_map_or (λ hit. hits_word n) o (word_of v)) (option_map_or (hits_text names n) o (verdict_text names q v))
by_hit names q n v None = (said_text names q v, refl)
by_hit names q n v (Some hit) = hits_begin names n hit

pub begins : BeginsWithItsWord
begins names q mets = let f = finding_of q mets in by_hit names q f.hits (verdict_of names q f) f.hit
