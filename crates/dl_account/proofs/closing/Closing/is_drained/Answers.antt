use Rattle.std.proofs.Common.{ℕ, ◌+◌, ◌<◌, length, inl, inr, true≢false, sym, subst}
use Rattle.dl_account.specs.ClosingInside.{closing_state}
use Rattle.dl_account.specs.Known.{IsDrained, IsEmpty, IsTold}
use Rattle.dl_account.specs.State.{ClosingState}
use Rattle.dl_account.proofs.Stepping.{not_drained, one_drained}
use Rattle.dl_account.proofs.closing.Closing.is_drained.Goals.{then-self-app-ne0-via-then-self-app-ne0, then-self-app-ne0-via-else-self-app-ne0+then-self-app-ne0-2}
use Rattle.dl_account.proofs.closing.Closing.is_drained.Goals as goal

pub returns-then-self-app-ne0 : goal.returns-then-self-app-ne0
returns-then-self-app-ne0 c =
    let i = c.self.inside in
    let within : c.loop-app.app < length i.apps = subst (λ (n : ℕ). c.loop-app.app < n) c.len-app-end.ensures c.loop-app-test.true in (
      λ so. absurd (true≢false (sym so)),
      λ drained. absurd (not_drained (closing_state i) i.items i.losses i.injected.items i.entries c.self.invariant c.loop-app.app within
          (elim c.then-self-app-ne0.branch [ then-self-app-ne0-via-then-self-app-ne0 w ↦ inl w.if-self-app-ne0.true | then-self-app-ne0-via-else-self-app-ne0+then-self-app-ne0-2 w ↦ inr w.if-self-app-ne0-2.true ])
          (subst IsDrained (sym c.self.view_is) drained)),
    )

pub loop-app-preserved : goal.loop-app-preserved
loop-app-preserved c =
    let i = c.self.inside in
    let within : c.loop-app.app < length i.apps = subst (λ (n : ℕ). c.loop-app.app < n) c.len-app-end.ensures c.loop-app-test.true in
    subst (λ (s : ClosingState). (n : ℕ) → n < c.loop-app.app + 1 → IsEmpty s n × IsTold s n) c.self.view_is
    (one_drained (closing_state i) i.items i.losses i.injected.items i.entries c.self.invariant c.loop-app.app within c.if-self-app-ne0.false c.if-self-app-ne0-2.false
    (subst (λ (s : ClosingState). (n : ℕ) → n < c.loop-app.app → IsEmpty s n × IsTold s n) (sym c.self.view_is) c.loop-app.invariant))
