use Rattle.std.proofs.Common.{◌≡◌, ℕ, List, Bool, true, false, cond, Option, Some, take, refl, sym, ap, ◌∙◌}
use Rattle.std.specs.Option.{option_map}
use Rattle.dl_model.proofs.Lists.{last_that-one}
use Rattle.dl_model.specs.Along.{last_that}
use Rattle.dl_fates.specs.declared.claim_lines.ClaimAt.{ClaimAt}
use Rattle.dl_fates.proofs.Places.{one_more}
use Rattle.dl_fates.specs.Claims.{claim_line, is_named}
use Rattle.dl_fates.proofs.claims.claim_line.Goals as goal

either : (b : Bool) (claim : ClaimAt) (before : Option ClaimAt) → cond b (Some claim.line) (option_map (λ (c : ClaimAt). c.line) before) ≡ option_map (λ (c : ClaimAt). c.line) (cond b (Some claim) before)
either true claim before = refl
either false claim before = refl

pub loop-claim-preserved : goal.loop-claim-preserved
loop-claim-preserved c =
    let i = c.loop-claim.claim-index in
    let claims = c.args.claims.now in
    let claim = c.claim-item.result in
    let p : ClaimAt → Bool = is_named c.args.at.now c.args.call.now in
    let so_far = last_that p (take i claims) in
    c.line_behind-line.ensures ∙ ap (λ (line : Option ℕ). cond (p claim) (Some claim.line) line) c.loop-claim.invariant ∙ either (p claim) claim so_far
    ∙ ap (option_map (λ (one : ClaimAt). one.line)) (sym (last_that-one p (take i claims) claim))
    ∙ sym (ap (λ (some : List ClaimAt). claim_line some c.args.at.now c.args.call.now) (one_more claims i claim c.loop-claim-test.true c.claim-item.is))
