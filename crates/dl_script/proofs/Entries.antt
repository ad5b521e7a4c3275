-- Lines that were read, before those that are left.
use Rattle.std.proofs.Common.{◌≡◌, ℕ, ◌+◌, true, false, List, [], ◌∷◌, ◌++◌, Result, Ok, Err, refl, sym, ap, append_assoc}
use Rattle.dl_script.specs.Earlier.{Declared}
use Rattle.dl_script.specs.Line.{is_ignored}
use Rattle.dl_script.specs.Script.{judged, before, entries}
use Rattle.dl_script_fields.specs.declared.kind.ScriptKind.{ScriptKind}
use Rattle.dl_script.specs.declared.error.ScriptError.{ScriptError}
use Rattle.dl_script.specs.declared.error.ScriptError.TheVariants.{Fault}
use Rattle.dl_script.specs.declared.read.Read.{Read}

-- entries before those that follow, as far as these can be read
abbrev pub all_before : {A : Type 0} → List A → Result (List A) ScriptError → Result (List A) ScriptError
all_before front (Ok more) = Ok (front ++ more)
all_before front (Err error) = Err error

regroup : {A : Type 0} (front : List A) (entry : A) (more : Result (List A) ScriptError) → all_before front (before entry more) ≡ all_before (front ++ entry ∷ []) more
regroup front entry (Ok more) = ap Ok (sym (append_assoc front (entry ∷ []) more))
regroup front entry (Err error) = refl

module _ {A : Type 0} (line_of : List ℕ → Result (Read A) ScriptKind) (known : Declared) (number : ℕ) (line : List ℕ) (lines : List (List ℕ)) where
  pub passes_over : is_ignored line ≡ true → entries line_of known number (line ∷ lines) ≡ entries line_of known (number + 1) lines
  unfolding entries
  passes_over ignored = rw ignored refl

  pub stops : (front : List A) (kind : ScriptKind) → is_ignored line ≡ false → judged line_of known line ≡ Err kind
      → all_before front (entries line_of known number (line ∷ lines)) ≡ Err (Fault number kind)
  unfolding entries
  stops front kind says wrong = rw (says, wrong) refl

  pub goes_on : (front : List A) (entry : A) (next : Declared) → is_ignored line ≡ false → judged line_of known line ≡ Ok (entry, next)
      → all_before front (entries line_of known number (line ∷ lines)) ≡ all_before (front ++ entry ∷ []) (entries line_of next (number + 1) lines)
  unfolding entries
  goes_on front entry next says said = rw (says, said) (regroup front entry (entries line_of next (number + 1) lines))
