-- The word that an answer begins with.
use Rattle.std.specs.Prelude.{Bool, true, false}
use Rattle.dl_find_words.specs.declared.verdict.Verdict.{Verdict}
use Rattle.dl_find_words.specs.declared.verdict.Verdict.TheVariants as verdict
use Rattle.dl_find_words.specs.declared.verdict.Word.{Word}
use Rattle.dl_find_words.specs.declared.verdict.Word.TheVariants as word

-- each verdict has one word; what leaves it open is unknown
abbrev pub word_of : Verdict → Word
word_of (verdict.Filtered book) = word.Filtered
word_of (verdict.Dropped book) = word.Lost
word_of (verdict.Unlogged book) = word.Unlogged
word_of (verdict.Lost gone) = word.Lost
word_of (verdict.Refused gone) = word.Refused
word_of (verdict.Unstored gone) = word.Unstored
word_of (verdict.Rotated first) = word.Rotated
word_of (verdict.Before first) = word.Before
word_of (verdict.Behind last) = word.Behind
word_of _ = word.Unknown

-- the bytes decide
abbrev pub decides : Word → Bool
decides word.Unknown = false
decides _ = true
