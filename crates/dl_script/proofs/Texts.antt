-- A line is read where it is text.
use Rattle.std.proofs.Common.{◌≡◌, ℕ, List, Option, Result, Err, refl, ap, inl, inr}
use Rattle.std.specs.Str.{IsUtf8, is_utf8}
use Rattle.std.proofs.lemmas.Bool.{cases_Bool}
use Rattle.std.proofs.lemmas.Str.{IsUtf8-from_is_utf8, is_utf8-from_IsUtf8}
use Rattle.dl_script.specs.Line.{line_of_text, line_by}
use Rattle.dl_script_fields.specs.declared.kind.ScriptKind.{ScriptKind}
use Rattle.dl_script_fields.specs.declared.kind.ScriptKind.TheVariants.{NotUtf8}
use Rattle.dl_script.specs.declared.read.Read.{Read}

module _ {W A : Type 0} (word_of : List ℕ → Option W) (by_word : W → List (List ℕ) → Result (Read A) ScriptKind) where
  pub no_text : (line : List ℕ) → ¬ (IsUtf8 line) → line_by word_of by_word line ≡ Err NotUtf8
  no_text line denied = elim (cases_Bool (is_utf8 line)) [
    | inl is ↦ absurd (denied (IsUtf8-from_is_utf8 line is))
    | inr is_not ↦ rw is_not refl
  ]

  pub text_says : (line text : List ℕ) → IsUtf8 line → text ≡ line → line_of_text word_of by_word text ≡ line_by word_of by_word line
  text_says line text utf8 same = rw (is_utf8-from_IsUtf8 line utf8) (ap (line_of_text word_of by_word) same)
