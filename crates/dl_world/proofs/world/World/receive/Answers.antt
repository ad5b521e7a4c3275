use Rattle.std.proofs.Common.{Bool, ℕ, List, refl, sym, subst}
use Rattle.std.specs.Prelude.{IfSome}
use Rattle.dl_events.specs.declared.event.Why.TheVariants as why
use Rattle.dl_script_model.specs.Steps.{close, when}
use Rattle.dl_world_calls.proofs.Acts.{on_ok}
use Rattle.dl_world.specs.Fed.{Asks, IsFedBy}
use Rattle.dl_world.specs.Follows.{Does}
use Rattle.dl_world.specs.State.{client_at}
use Rattle.dl_world.specs.declared.world.World.{World}
use Rattle.dl_world.proofs.Asking.{open_so, shut_so}
use Rattle.dl_world.proofs.Deeds.{does_nothing}
use Rattle.dl_core.proofs.LeftFiles.{leaves_alone}
use Rattle.dl_world.proofs.Receiving.{does_receive, receives_nothing}
use Rattle.dl_world.proofs.world.World.receive.Goals as goal

pub returns-then-not-is_open-clause-does : goal.returns-then-not-is_open-clause-does
returns-then-not-is_open-clause-does g c =
    receives_nothing c.args.client c.args.bytes.now c.args.self.now _ (shut_so c.args.self.now c.args.client c.is_open.result c.is_open.ensures.1 c.if-not-is_open.true)

pub returns-then-not-is_open-clause-leaves : goal.returns-then-not-is_open-clause-leaves
returns-then-not-is_open-clause-leaves g c = leaves_alone c.args.self.now.core c.args.self.now.core _ refl

pub returns-in_err-is_bad-clause-leaves : goal.returns-in_err-is_bad-clause-leaves
returns-in_err-is_bad-clause-leaves g c = leaves_alone c.args.self.now.core c.args.self.now.core _ refl

pub returns-then-is_bad-clause-does : goal.returns-then-is_bad-clause-does
returns-then-is_bad-clause-does g c =
    let old : World = c.args.self.now in
    let client = c.args.client in
    let told = (g.F.Folder.told c.args.folder.now) in
    let told_now = (g.F.Folder.told c.ask_each.new.folder) in
    let there = c.is_open.ensures.0 c.if-not-is_open.false in
    let asks_so = subst (λ (before : List (List ℕ)). (stream : List ℕ) → IfSome (client_at old.clients client) (λ k. IsFedBy stream k.cutter)
    → IfSome (client_at c.cut.new.self client) (λ k. Asks stream c.args.bytes.now c.in_ok-is_bad.is_bad before c.cut.new.requests.items k.cutter)) c.new-requests.ensures.items c.in_ok-is_bad.ensures.asks in
    let ends = subst (λ (bad : Bool). Does (λ setting answers. close setting client why.Malformed) c.ask_each.new.self c.close.new.self told_now told_now
    → Does (λ setting answers. when bad (close setting client why.Malformed)) c.ask_each.new.self c.close.new.self told_now told_now) (sym c.if-is_bad.true) (λ does. does) in
    on_ok c.close.result _ _
    (λ closes. does_receive client c.args.bytes.now c.cut.new.requests.items c.in_ok-is_bad.is_bad old c.cut.new.self (there.0, there.1) asks_so c.in_ok-is_bad.ensures.others
    c.ask_each.new.self c.close.new.self told told_now (open_so old client there) c.in_ok-ask_each.ensures.does (ends (closes told_now)))
    c.close.ensures.does

pub returns-clause-does : goal.returns-clause-does
returns-clause-does g c =
    let old : World = c.args.self.now in
    let client = c.args.client in
    let told = (g.F.Folder.told c.args.folder.now) in
    let told_now = (g.F.Folder.told c.ask_each.new.folder) in
    let there = c.is_open.ensures.0 c.if-not-is_open.false in
    let asks_so = subst (λ (before : List (List ℕ)). (stream : List ℕ) → IfSome (client_at old.clients client) (λ k. IsFedBy stream k.cutter)
    → IfSome (client_at c.cut.new.self client) (λ k. Asks stream c.args.bytes.now c.in_ok-is_bad.is_bad before c.cut.new.requests.items k.cutter)) c.new-requests.ensures.items c.in_ok-is_bad.ensures.asks in
    let ends = subst (λ (bad : Bool). Does (λ setting answers. when bad (close setting client why.Malformed)) c.ask_each.new.self c.ask_each.new.self told_now told_now) (sym c.if-is_bad.false)
    (does_nothing c.ask_each.new.self told_now) in
    does_receive client c.args.bytes.now c.cut.new.requests.items c.in_ok-is_bad.is_bad old c.cut.new.self (there.0, there.1) asks_so c.in_ok-is_bad.ensures.others
    c.ask_each.new.self c.ask_each.new.self told told_now (open_so old client there) c.in_ok-ask_each.ensures.does ends
