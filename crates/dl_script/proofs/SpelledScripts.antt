-- A text of lines that spell entries says these entries.
use Rattle.std.proofs.Common.{◌≡◌, ℕ, ◌+◌, ◌≤◌, true, List, [], ◌∷◌, length, None, Result, Ok, refl, ap, ◌∙◌}
use Rattle.std.specs.List.{AllByRecursion}
use Rattle.std.proofs.lemmas.Bool.{le-ltb}
use Rattle.dl_text.specs.Faults.{size_limit}
use Rattle.dl_script_fields.specs.declared.kind.ScriptKind.{ScriptKind}
use Rattle.dl_script_fields.proofs.Letters.{is_whole}
use Rattle.dl_script.specs.Earlier.{Declared, nothing, refusal, noted}
use Rattle.dl_script.specs.Line.{says}
use Rattle.dl_script.specs.Script.{judged, entries, script_of}
use Rattle.dl_script.specs.Spelled.{AreSpelled, MayFollow, text_of}
use Rattle.dl_script.specs.declared.claim.Claim.{Claim}
use Rattle.dl_script.specs.declared.read.Read.{Read}
use Rattle.dl_script.proofs.WholeLines.{lines_are}
use Rattle.dl_script.proofs.WordLines.{IsReadAs}

module _ {A : Type 0} (line_of : List ℕ → Result (Read A) ScriptKind) (Spells : List ℕ → A → Type 0) (claim_of : A → Claim)
    (read : (line : List ℕ) (entry : A) → Spells line entry → IsReadAs line_of line (says (claim_of entry) entry)) where
  judged_is : (known : Declared) (line : List ℕ) (entry : A) → Spells line entry → refusal known (claim_of entry) ≡ None
      → judged line_of known line ≡ Ok (entry, noted known (claim_of entry))
  unfolding judged
  judged_is known line entry is may = rw ((read line entry is).says, may) refl

  all_read : (lines : List (List ℕ)) (said : List A) (known : Declared) (number : ℕ) → AreSpelled Spells lines said → MayFollow claim_of known said
      → entries line_of known number lines ≡ Ok said
  unfolding entries
  all_read [] [] known number are may = refl
  all_read [] (entry ∷ said) known number are may = absurd are
  all_read (line ∷ lines) [] known number are may = absurd are
  all_read (line ∷ lines) (entry ∷ said) known number are may =
      rw ((read line entry are.0).noted, judged_is known line entry are.0 may.0, all_read lines said (noted known (claim_of entry)) (number + 1) are.1 may.1) refl

  all_whole : (lines : List (List ℕ)) (said : List A) → AreSpelled Spells lines said → AllByRecursion (λ line. is_whole line ≡ true) lines
  all_whole [] [] are = tt
  all_whole [] (entry ∷ said) are = absurd are
  all_whole (line ∷ lines) [] are = absurd are
  all_whole (line ∷ lines) (entry ∷ said) are = ((read line entry are.0).whole, all_whole lines said are.1)

  pub script_says : (lines : List (List ℕ)) (said : List A) → AreSpelled Spells lines said → MayFollow claim_of nothing said → length (text_of lines) ≤ size_limit
      → script_of line_of (text_of lines) ≡ Ok said
  unfolding script_of
  script_says lines said are may short =
      rw (le-ltb size_limit (length (text_of lines)) short)
      (ap (entries line_of nothing 1) (lines_are lines (all_whole lines said are)) ∙ all_read lines said nothing 1 are may)
