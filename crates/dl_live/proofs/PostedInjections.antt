-- What an account tells of injections.
use Rattle.std.proofs.Common.{◌≡◌, ℕ, ◌<◌, List, [], ◌++◌, length, ap, subst, ◌∙◌, arith}
use Rattle.dl_bytes.specs.declared.item.Injection.{Injection}
use Rattle.dl_desk.specs.Told.{ControlTold, told_by}
use Rattle.dl_account.specs.Settled.{IsSettled}
use Rattle.dl_account.specs.State.{AccountState}
use Rattle.dl_model.specs.Setting.{Setting}
use Rattle.dl_turns.specs.Injected.{AreRefusedFull, HasInjected, injected_by}
use Rattle.dl_live.specs.Injected.{IsInjected}

pub tells_injections : (setting : Setting) (account : AccountState) (first : ControlTold) (app : ℕ) → IsSettled account → app < length account.apps → first.pushed app ≡ [] → first.refusals app ≡ 0
    → HasInjected setting [] account.events app first (told_by (length account.apps) account.handles) → IsInjected setting account app
tells_injections setting account first app settled less none_pushed none_refused posted =
    let told = told_by (length account.apps) account.handles in
    let pushed : told.pushed app ≡ injected_by setting app [] account.events =
    posted.took ∙ ap (λ (items : List Injection). items ++ injected_by setting app [] account.events) none_pushed in
    let given = settled.given app less in
    let refused = posted.refused in
    let many = ap length pushed in
    let count = given.1.count in
    let room = given.1.room in
    record {
      pushed = pushed;
      refused = omega (arith, refused, none_refused);
      full = subst (λ (items : List Injection). AreRefusedFull setting app (length items) [] account.events) none_pushed posted.full;
      given = omega (arith, many, count);
      left = omega (arith, many, count, room);
    }
