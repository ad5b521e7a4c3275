use Rattle.std.proofs.Common.{◌≡◌, ℕ, ◌+◌, ◌++◌, ◌∷◌, List, [], drop, sym, ap, ◌∙◌, append-nil, append_assoc, arith}
use Rattle.std.specs.Option.{option_map_or}
use Rattle.dl_fates.specs.ClaimLines.{claims_from}
use Rattle.dl_fates.specs.Lines.{StepAt, placed}
use Rattle.dl_fates.specs.declared.claim_lines.ClaimAt.{ClaimAt}
use Rattle.dl_fates.proofs.Places.{none_left, one_back}
use Rattle.dl_fates.proofs.claim_lines.claims_from.Goals as goal

pub loop-place-init : goal.loop-place-init
loop-place-init c = ap (λ (l : List ClaimAt). l ++ claims_from (placed c.args.numbers.now c.args.steps.now)) c.new-claims.ensures.items

pub loop-place-preserved : goal.loop-place-preserved
loop-place-preserved c =
    let numbers = c.args.numbers.now in
    let steps = c.args.steps.now in
    let i = c.loop-place.place in
    let line = c.number_at.result in
    let step = c.index-steps-place.result in
    let old = c.loop-place.claims.items in
    let rest : List StepAt = placed (drop (i + 1) numbers) (drop (i + 1) steps) in
    let one : List ClaimAt = option_map_or (λ (claim : ClaimAt). claim ∷ []) c.claim_at.result [] in
    let here : placed (drop i numbers) (drop i steps) ≡ record { line = line; step = step } ∷ rest =
    one_back numbers steps i line step (omega (arith, c.loop-place-test.true, c.count_of-place-end.ensures)) (omega (arith, c.loop-place-test.true, c.count_of-place-end.ensures)) c.number_at.ensures c.index-steps-place.is in
    ap (λ (l : List ClaimAt). l ++ claims_from rest) c.in_ok-push_claim.ensures ∙ append_assoc old one (claims_from rest)
    ∙ ap (λ (l : List ClaimAt). old ++ (l ++ claims_from rest)) c.claim_at.ensures
    ∙ sym (ap (λ (s : List StepAt). old ++ claims_from s) here) ∙ c.loop-place.invariant

pub returns : goal.returns
returns c =
    let numbers = c.args.numbers.now in
    let steps = c.args.steps.now in
    let last : c.loop-place.place ≡ c.count_of-place-end.result = omega (arith, c.loop-place-test.false, c.loop-place.auto.place-end) in
    let none : placed (drop c.loop-place.place numbers) (drop c.loop-place.place steps) ≡ [] =
    ap (λ (n : ℕ). placed (drop n numbers) (drop n steps)) (last ∙ c.count_of-place-end.ensures) ∙ none_left numbers steps in
    sym (append-nil c.loop-place.claims.items) ∙ sym (ap (λ (s : List StepAt). c.loop-place.claims.items ++ claims_from s) none) ∙ c.loop-place.invariant
