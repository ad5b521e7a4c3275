use Rattle.std.proofs.Common.{◌≡◌, ℕ, suc, ◌+◌, ◌-◌, ap, sym, subst, ◌∙◌, arith}
use Rattle.std.specs.Prelude.{not}
use Rattle.dl_script_model.specs.Steps.{announce_upto}
use Rattle.dl_world_calls.specs.Follows.{Does}
use Rattle.dl_world_calls.proofs.Acts.{announces_on, announces_no_more, announces_none, announces_all, unannounced_is}
use Rattle.dl_world_calls.proofs.calls.Calls.announce_all.Goals as goal

pub loop-claim-init : goal.loop-claim-init
loop-claim-init c = λ end rest.
    let all : c.unannounced-waiting.result - 0 ≡ c.unannounced-waiting.result = omega arith in
    subst (λ (k : ℕ). Does (announce_upto k c.args.writer) c.args.self.now end) all rest

pub loop-claim-preserved : goal.loop-claim-preserved
loop-claim-preserved c = λ end rest.
    let more : c.unannounced-waiting.result - c.loop-claim._claim ≡ suc (c.unannounced-waiting.result - (c.loop-claim._claim + 1)) = omega (arith, c.loop-claim-test.true) in
    c.loop-claim.invariant end (subst (λ (k : ℕ). Does (announce_upto k c.args.writer) c.loop-claim.self end) (sym more)
    (announces_on c.args.writer (c.unannounced-waiting.result - (c.loop-claim._claim + 1)) c.loop-claim.self c.announce.new.self end c.in_ok-went.ensures.does
    (λ done is. c.in_ok-went.ensures.refused done is ∙ ap not c.if-not-went.false) rest))

pub returns-then-not-went : goal.returns-then-not-went
returns-then-not-went c =
    let more : c.unannounced-waiting.result - c.loop-claim._claim ≡ suc (c.unannounced-waiting.result - (c.loop-claim._claim + 1)) = omega (arith, c.loop-claim-test.true) in
    announces_all c.args.writer c.unannounced-waiting.result c.args.self.now c.announce.new.self (unannounced_is c.args.self.now c.args.writer c.unannounced-waiting.result c.unannounced-waiting.ensures)
    (c.loop-claim.invariant c.announce.new.self (subst (λ (k : ℕ). Does (announce_upto k c.args.writer) c.loop-claim.self c.announce.new.self) (sym more)
    (announces_no_more c.args.writer (c.unannounced-waiting.result - (c.loop-claim._claim + 1)) c.loop-claim.self c.announce.new.self c.in_ok-went.ensures.does
    (λ done is. c.in_ok-went.ensures.refused done is ∙ ap not c.if-not-went.true))))

pub returns : goal.returns
returns c =
    let none : c.unannounced-waiting.result - c.loop-claim._claim ≡ 0 = omega (arith, c.loop-claim-test.false) in
    announces_all c.args.writer c.unannounced-waiting.result c.args.self.now c.loop-claim.self (unannounced_is c.args.self.now c.args.writer c.unannounced-waiting.result c.unannounced-waiting.ensures)
    (c.loop-claim.invariant c.loop-claim.self (subst (λ (k : ℕ). Does (announce_upto k c.args.writer) c.loop-claim.self c.loop-claim.self) (sym none) (announces_none c.args.writer c.loop-claim.self)))
