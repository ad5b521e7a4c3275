-- A line of a word and fields.
use Rattle.std.proofs.Common.{◌≡◌, ℕ, true, false, cond, List, ◌++◌, Option, Some, Result, Ok, Err, refl, ap, ◌∙◌}
use Rattle.std.specs.List.{list_all}
use Rattle.std.specs.Option.{ok_or}
use Rattle.std.specs.Str.{is_utf8}
use Rattle.dl_script_fields.specs.Fields.{worded, fields_of}
use Rattle.dl_script_fields.specs.Joined.{is_field, parted_by_blanks, is_plain}
use Rattle.dl_script_fields.specs.Kind.{◌>>=◌}
use Rattle.dl_script_fields.specs.Spells.{is_letter}
use Rattle.dl_script_fields.specs.declared.kind.ScriptKind.{ScriptKind}
use Rattle.dl_script_fields.specs.declared.kind.ScriptKind.TheVariants.{NotUtf8, Word, Fields}
use Rattle.dl_script_fields.proofs.Letters.{is_whole}
use Rattle.dl_script_lines.proofs.SpelledLines.{AreGood, are_fields, line_utf8, line_whole}
use Rattle.dl_script_fields.proofs.JoinedFields.{ends_behind, parted, word_first}
use Rattle.dl_script.specs.Line.{line_by, is_ignored}
use Rattle.dl_script.specs.declared.read.Read.{Read}

-- what is made of what was read
pub then : {A B : Type 0} (r : Result A ScriptKind) (x : A) (f : A → Result B ScriptKind) → r ≡ Ok x → (r >>= f) ≡ f x
then r x f e = ap (λ r. r >>= f) e

-- a word of letters, which stands for its kind and begins no comment
pub record IsWord {W : Type 0} (word_of : List ℕ → Option W) (text : List ℕ) (kind : W) : Type 0 where
  pub letters : list_all is_letter text ≡ true
  pub plain : is_plain text ≡ true
  pub known : word_of text ≡ Some kind
  pub noted : (more : List ℕ) → is_ignored (text ++ more) ≡ false

-- a line that says this, is no comment, and stays what it is where it ends with a line feed
pub record IsReadAs {A : Type 0} (line_of : List ℕ → Result (Read A) ScriptKind) (line : List ℕ) (said : Read A) : Type 0 where
  pub says : line_of line ≡ Ok said
  pub noted : is_ignored line ≡ false
  pub whole : is_whole line ≡ true

module _ {W A : Type 0} (word_of : List ℕ → Option W) (by_word : W → List (List ℕ) → Result (Read A) ScriptKind) where
  -- what a word and the text behind it say
  abbrev from_parts : List ℕ × List ℕ → Result (Read A) ScriptKind
  from_parts parts = ok_or (word_of parts.0) Word >>= λ w. ok_or (fields_of parts.1) Fields >>= λ fields. by_word w fields

  said_by : (word rest : List ℕ) (w : W) (fields : List (List ℕ)) → word_of word ≡ Some w → fields_of rest ≡ Some fields → from_parts (word, rest) ≡ by_word w fields
  said_by word rest w fields known cut = rw (known, cut) refl

  pub line_says : (word : List ℕ) (w : W) (fields : List (List ℕ)) → is_plain word ≡ true → list_all is_field fields ≡ true
      → is_utf8 (word ++ parted_by_blanks fields) ≡ true → word_of word ≡ Some w → line_by word_of by_word (word ++ parted_by_blanks fields) ≡ by_word w fields
  line_says word w fields plain are utf8 known =
      ap (λ text. cond text (from_parts (worded (word ++ parted_by_blanks fields))) (Err NotUtf8)) utf8
      ∙ ap from_parts (word_first word (parted_by_blanks fields) plain (ends_behind fields))
      ∙ said_by word (parted_by_blanks fields) w fields known (parted fields are)

  pub read_as_said : (word : List ℕ) (kind : W) → IsWord word_of word kind → (fields : List (List ℕ)) → AreGood fields → (line : List ℕ) (said : Read A)
      → line ≡ word ++ parted_by_blanks fields → by_word kind fields ≡ Ok said → IsReadAs (line_by word_of by_word) line said
  read_as_said word kind w fields good line said is says = record {
    says = ap (line_by word_of by_word) is ∙ line_says word kind fields w.plain (are_fields fields good) (line_utf8 word w.letters fields good) w.known ∙ says;
    noted = ap is_ignored is ∙ w.noted (parted_by_blanks fields);
    whole = ap is_whole is ∙ line_whole word w.letters fields good;
  }
