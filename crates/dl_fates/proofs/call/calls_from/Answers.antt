use Rattle.std.proofs.Common.{◌≡◌, ℕ, ◌+◌, ◌-◌, List, [], ◌∷◌, ◌++◌, drop, sym, ap, subst, ◌∙◌, arith}
use Rattle.std.specs.Prelude.{reverse}
use Rattle.std.specs.Option.{option_map_or}
use Rattle.std.proofs.lemmas.List.{reverse-append}
use Rattle.dl_fates.specs.Lines.{StepAt, placed}
use Rattle.dl_fates.specs.Calls.{call_at, calls_from}
use Rattle.dl_fates.specs.Ahead.{Foretells}
use Rattle.dl_fates.specs.declared.call.CallAt.{CallAt}
use Rattle.dl_fates.proofs.Places.{none_left, one_back, one_reversed}
use Rattle.dl_fates.proofs.call.calls_from.Goals as goal

pub loop-place-init : goal.loop-place-init
loop-place-init c =
    let numbers = c.args.numbers.now in
    let steps = c.args.steps.now in
    let owners = c.args.owners.now in
    let m = c.count_of-place.result in
    let none : placed (drop m numbers) (drop m steps) ≡ [] =
    ap (λ (n : ℕ). placed (drop n numbers) (drop n steps)) c.count_of-place.ensures ∙ none_left numbers steps in
    record {
      calls = ap reverse c.new-calls.ensures.items ∙ sym (ap (calls_from owners) none);
      ahead = subst (λ (s : List StepAt). Foretells owners s c.new-ahead.result) (sym none) (c.new-ahead.ensures owners);
      numbers = omega (arith, c.count_of-place.ensures);
      steps = omega (arith, c.count_of-place.ensures);
    }

pub loop-place-preserved : goal.loop-place-preserved
loop-place-preserved c =
    let numbers = c.args.numbers.now in
    let steps = c.args.steps.now in
    let owners = c.args.owners.now in
    let i = c.loop-place.place - 1 in
    let line = c.number_at-line.result in
    let step = c.index-steps-place.result in
    let was = c.loop-place.invariant in
    let old = c.loop-place.calls.items in
    let found = c.call_at.result in
    let rest : List StepAt = placed (drop (i + 1) numbers) (drop (i + 1) steps) in
    let back : i + 1 ≡ c.loop-place.place = omega (arith, c.loop-place-test.true) in
    let here : placed (drop i numbers) (drop i steps) ≡ record { line = line; step = step } ∷ rest =
    one_back numbers steps i line step (omega (arith, back, was.numbers)) (omega (arith, back, was.steps)) c.number_at-line.ensures c.index-steps-place.is in
    let ahead : Foretells owners rest c.loop-place.ahead =
    subst (λ (n : ℕ). Foretells owners (placed (drop n numbers) (drop n steps)) c.loop-place.ahead) (sym back) was.ahead in
    let calls : reverse old ≡ calls_from owners rest = was.calls ∙ ap (λ (n : ℕ). calls_from owners (placed (drop n numbers) (drop n steps))) (sym back) in
    let one : option_map_or (λ (call : CallAt). call ∷ []) found [] ≡ call_at owners line step rest = c.call_at.ensures rest ahead in
    record {
      calls = ap reverse c.in_ok-push_call.ensures ∙ reverse-append old (option_map_or (λ (call : CallAt). call ∷ []) found [])
          ∙ ap (λ (l : List CallAt). l ++ reverse old) (one_reversed found ∙ one)
          ∙ ap (λ (l : List CallAt). call_at owners line step rest ++ l) calls ∙ sym (ap (calls_from owners) here);
      ahead = subst (λ (s : List StepAt). Foretells owners s c.note.new.self) (sym here) (c.in_ok-note.ensures rest ahead);
      numbers = omega (arith, was.numbers);
      steps = omega (arith, was.steps);
    }
