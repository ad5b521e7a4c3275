-- What the clients do, one after the other.
use Rattle.std.proofs.Common.{◌≡◌, ℕ, suc, ◌+◌, List, [], ◌∷◌, ◌++◌, map, Option, Some, None, refl, sym, ap, ◌∙◌, arith}
use Rattle.std.specs.List.{range_with_len}
use Rattle.std.specs.Option.{option_or, option_to_list}
use Rattle.std.proofs.lemmas.List.{map-append}
use Rattle.dl_outside.specs.declared.client.ClientScript.{ClientScript}
use Rattle.dl_script_model.specs.declared.scenario.ScenarioLine.{ScenarioLine}
use Rattle.dl_account.proofs.InOrder.{range_more}
use Rattle.dl_opening.specs.Scenario.{first_of, script_of}

pub first_more : (counts : List ℕ) (o : Option ℕ) → option_or (first_of counts) o ≡ first_of (counts ++ option_to_list o)
first_more [] None = refl
first_more [] (Some count) = refl
first_more (first ∷ counts) o = refl

pub scripts_more : (lines : List ScenarioLine) (done : ℕ) (old new : List ClientScript) (script : ClientScript) → new ≡ old ++ script ∷ [] → script ≡ script_of lines (done + 1)
    → old ≡ map (script_of lines) (range_with_len 1 done) → new ≡ map (script_of lines) (range_with_len 1 (done + 1))
scripts_more lines done old new script added is so_far =
    let next : done + 1 ≡ 1 + done = omega arith in
    let more : suc done ≡ done + 1 = omega arith in
    added ∙ ap (λ (l : List ClientScript). l ++ script ∷ []) so_far
    ∙ ap (λ (s : ClientScript). map (script_of lines) (range_with_len 1 done) ++ s ∷ []) (is ∙ ap (script_of lines) next)
    ∙ sym (map-append (script_of lines) (range_with_len 1 done) ((1 + done) ∷ []))
    ∙ ap (map (script_of lines)) (sym (range_more 1 done) ∙ ap (range_with_len 1) more)
