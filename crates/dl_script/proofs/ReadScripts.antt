-- What is read of a text can be played or run: each entry may follow those before it.
use Rattle.std.proofs.Common.{◌≡◌, ℕ, ◌+◌, ◌≤◌, ltb, cond, Bool, true, false, List, [], ◌∷◌, length, Option, Some, None, Result, Ok, Err, refl, subst, add-one, arith}
use Rattle.std.specs.Prelude.{IfSome}
use Rattle.std.specs.List.{AllByRecursion}
use Rattle.std.specs.Option.{ok_or}
use Rattle.std.proofs.Math.Dec.{lit≤}
use Rattle.std.proofs.lemmas.Bool.{ltb-false}
use Rattle.std.proofs.lemmas.Result.{IfOk-at_ok}
use Rattle.bstr.proofs.lemmas.LengthLemmas.{length-lines}
use Rattle.dl_script_model.specs.declared.scenario.ScenarioLine.{ScenarioLine}
use Rattle.dl_script_model.specs.declared.step.Step.{Step}
use Rattle.dl_text.specs.Faults.{size_limit}
use Rattle.dl_text.specs.Lines.{lines_of}
use Rattle.dl_script_fields.specs.Kind.{◌>>=◌}
use Rattle.dl_script_fields.specs.declared.kind.ScriptKind.{ScriptKind}
use Rattle.dl_script_fields.specs.declared.kind.ScriptKind.TheVariants.{Size, Payload}
use Rattle.dl_script.specs.Earlier.{Declared, nothing, refusal, noted}
use Rattle.dl_script.specs.Line.{step_of, scenario_line_of, is_ignored}
use Rattle.dl_script.specs.Script.{admitted, judged, either, before, entries, script_of, steps_of, scenario_of}
use Rattle.dl_script.specs.Spelled.{MayFollow, step_claim, scenario_claim}
use Rattle.dl_script.specs.declared.claim.Claim.{Claim}
use Rattle.dl_script.specs.declared.error.ScriptError.{ScriptError}
use Rattle.dl_script.specs.declared.error.ScriptError.TheVariants.{Fault}
use Rattle.dl_script.specs.declared.read.Read.{Read}
use Rattle.dl_script.specs.Playable.{IsInBounds, IsPlayable, IsInRange, IsRunnable}
use Rattle.dl_script.proofs.ReadResults.{Gives, given, refused, then_so, either_way}
use Rattle.dl_script.proofs.ReadSteps.{line_read}
use Rattle.dl_script.proofs.ReadScenarios.{scenario_line_read}

-- a claim that was admitted
record IsAdmitted (known : Declared) (claim : Claim) (next : Declared) : Type 0 where
  may : refusal known claim ≡ None
  noted_so : next ≡ noted known claim

admits : (known : Declared) (claim : Claim) → Gives (IsAdmitted known claim) (admitted known claim (refusal known claim))
admits known claim = by_refusal (refusal known claim) refl where
  by_refusal : (r : Option ScriptKind) → refusal known claim ≡ r → Gives (IsAdmitted known claim) (admitted known claim r)
  by_refusal None is = given (record { may = is; noted_so = refl })
  by_refusal (Some kind) is = refused

-- ---- entries of either script, each with its claim, and fine by itself

module _ {A : Type 0} (line_of : List ℕ → Result (Read A) ScriptKind) (claim_of : A → Claim) (Fine : A → Type 0)
    (is_read : (line : List ℕ) → Gives (λ said. IfSome said.line (λ entry. (said.claim ≡ claim_of entry) × Fine entry)) (line_of line)) where
  -- an entry that may follow, with what is declared then
  record Follows (known : Declared) (said : A × Declared) : Type 0 where
    may : refusal known (claim_of said.0) ≡ None
    next : said.1 ≡ noted known (claim_of said.0)
    fine : Fine said.0

  entry_follows : (known : Declared) (claim : Claim) (next : Declared) → IsAdmitted known claim next → (line : Option A) → IfSome line (λ entry. (claim ≡ claim_of entry) × Fine entry)
      → Gives (Follows known) (ok_or line Payload >>= λ entry. Ok (entry, next))
  entry_follows known claim next is None has = refused
  entry_follows known claim next is (Some s) has = given (record {
    may = subst (λ (c : Claim). refusal known c ≡ None) has.0 is.may;
    next = subst (λ (c : Claim). next ≡ noted known c) has.0 is.noted_so;
    fine = has.1;
  })

  judged_follows : (known : Declared) (line : List ℕ) → Gives (Follows known) (judged line_of known line)
  unfolding judged
  judged_follows known line =
      then_so (is_read line) (λ said is. then_so (admits known said.claim) (λ next may. entry_follows known said.claim next may said.line is))

  -- entries that may follow what is declared, of so many lines
  record GoOn (known : Declared) (lines : ℕ) (all : List A) : Type 0 where
    follow : MayFollow claim_of known all
    fine : AllByRecursion Fine all
    few : length all ≤ lines

  one_more : (known : Declared) (lines : ℕ) (said : A × Declared) → Follows known said → (r : Result (List A) ScriptError) → Gives (GoOn said.1 lines) r
      → Gives (GoOn known (lines + 1)) (before said.0 r)
  one_more known lines said is (Err error) go = refused
  one_more known lines said is (Ok all) go = given (record {
    follow = (is.may, subst (λ (next : Declared). MayFollow claim_of next all) is.next go.is.follow);
    fine = (is.fine, go.is.fine);
    few = omega (arith, go.is.few);
  })

  first_goes : (known : Declared) (number lines : ℕ) (goes : A × Declared → Result (List A) ScriptError)
      → ((said : A × Declared) → Gives (GoOn said.1 lines) (goes said)) → (said : Result (A × Declared) ScriptKind) → Gives (Follows known) said
      → Gives (GoOn known (lines + 1)) (either (λ x. before x.0 (goes x)) (λ kind. Err (Fault number kind)) said)
  first_goes known number lines goes go (Ok said) follows = one_more known lines said follows.is (goes said) (go said)
  first_goes known number lines goes go (Err kind) follows = refused

  more_lines : (known : Declared) (lines : ℕ) (r : Result (List A) ScriptError) → Gives (GoOn known lines) r → Gives (GoOn known (lines + 1)) r
  more_lines known lines (Ok all) go = given (record { follow = go.is.follow; fine = go.is.fine; few = omega (arith, go.is.few) })
  more_lines known lines (Err error) go = refused

  lines_go_on : (known : Declared) (number : ℕ) (lines : List (List ℕ)) → Gives (GoOn known (length lines)) (entries line_of known number lines)
  unfolding entries
  lines_go_on known number [] = given (record { follow = tt; fine = tt; few = lit≤ tt })
  lines_go_on known number (line ∷ lines) =
      let after_line : (next : Declared) → Gives (GoOn next (length lines)) (entries line_of next (number + 1) lines) = λ next. lines_go_on next (number + 1) lines in
      subst (λ (n : ℕ). Gives (GoOn known n) (entries line_of known number (line ∷ lines))) (add-one (length lines))
      (either_way (is_ignored line) (more_lines known (length lines) (entries line_of known (number + 1) lines) (after_line known))
      (first_goes known number (length lines) (λ said. entries line_of said.1 (number + 1) lines) (λ said. after_line said.1) (judged line_of known line)
      (judged_follows known line)))

  -- what a text of so many bytes is read as
  record IsTold (bytes : ℕ) (all : List A) : Type 0 where
    follow : MayFollow claim_of nothing all
    fine : AllByRecursion Fine all
    few : length all ≤ bytes
    short : bytes ≤ size_limit

  told : (text : List ℕ) → Gives (IsTold (length text)) (script_of line_of text)
  unfolding script_of
  told text = by_test (ltb size_limit (length text)) refl (entries line_of nothing 1 (lines_of text)) (lines_go_on nothing 1 (lines_of text)) where
    by_test : (b : Bool) → ltb size_limit (length text) ≡ b → (r : Result (List A) ScriptError) → Gives (GoOn nothing (length (lines_of text))) r
        → Gives (IsTold (length text)) (cond b (Err (Fault 0 Size)) r)
    by_test true is r go = refused
    by_test false is (Err error) go = refused
    by_test false is (Ok all) go = given (record {
      follow = go.is.follow;
      fine = go.is.fine;
      few = omega (arith, go.is.few, length-lines text);
      short = ltb-false size_limit (length text) is;
    })

  is_told : (text : List ℕ) (all : List A) → script_of line_of text ≡ Ok all → IsTold (length text) all
  is_told text all is = IfOk-at_ok (IsTold (length text)) is (told text).is

-- ---- step scripts

step_told : (text : List ℕ) (steps : List Step) → steps_of text ≡ Ok steps → IsTold step_of step_claim IsInBounds line_read (length text) steps
step_told text steps is = is_told step_of step_claim IsInBounds line_read text steps is

pub read_plays : (text : List ℕ) (steps : List Step) → steps_of text ≡ Ok steps → IsPlayable steps
read_plays text steps is = let t = step_told text steps is in record { follows = t.follow; bounds = t.fine }

pub read_bounded : (text : List ℕ) (steps : List Step) → steps_of text ≡ Ok steps → (length steps ≤ length text) × (length text ≤ size_limit)
read_bounded text steps is = let t = step_told text steps is in (t.few, t.short)

-- ---- scenarios

scenario_told : (text : List ℕ) (lines : List ScenarioLine) → scenario_of text ≡ Ok lines
    → IsTold scenario_line_of scenario_claim IsInRange scenario_line_read (length text) lines
scenario_told text lines is = is_told scenario_line_of scenario_claim IsInRange scenario_line_read text lines is

pub read_runs : (text : List ℕ) (lines : List ScenarioLine) → scenario_of text ≡ Ok lines → IsRunnable lines
read_runs text lines is = let t = scenario_told text lines is in record { follows = t.follow; ranges = t.fine }

pub scenario_bounded : (text : List ℕ) (lines : List ScenarioLine) → scenario_of text ≡ Ok lines → (length lines ≤ length text) × (length text ≤ size_limit)
scenario_bounded text lines is = let t = scenario_told text lines is in (t.few, t.short)
