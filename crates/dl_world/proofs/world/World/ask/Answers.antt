use Rattle.std.proofs.Common.{◌≡◌, ap, refl, subst, arith}
use Rattle.std.specs.Prelude.{IsSomeAnd}
use Rattle.dl_hub.specs.State as hub
use Rattle.dl_hub.specs.State.{client_of}
use Rattle.dl_world_calls.proofs.Acts.{on_ok}
use Rattle.dl_world.specs.declared.world.World.{World}
use Rattle.dl_world.proofs.Asking.{asks, asks_nothing, asks_too_many, came_so, shut_so}
use Rattle.dl_core.proofs.LeftFiles.{leaves_alone}
use Rattle.dl_world.proofs.world.World.ask.Goals as goal

pub returns-then-not-is_open-clause-does : goal.returns-then-not-is_open-clause-does
returns-then-not-is_open-clause-does g c =
    asks_nothing c.args.client c.args.frame c.args.self.now _ (shut_so c.args.self.now c.args.client c.is_open.result c.is_open.ensures.1 c.if-not-is_open.true)

pub returns-then-not-is_open-clause-leaves : goal.returns-then-not-is_open-clause-leaves
returns-then-not-is_open-clause-leaves g c = leaves_alone c.args.self.now.core c.args.self.now.core _ refl

pub replies-requires : goal.replies-requires
replies-requires g c = came_so c.args.self.now c.args.client c.hub.result.now c.hub.ensures (c.is_open.ensures.0 c.if-not-is_open.false)

pub returns-then-replies-ge-REQUEST_LIMIT-clause-does : goal.returns-then-replies-ge-REQUEST_LIMIT-clause-does
returns-then-replies-ge-REQUEST_LIMIT-clause-does g c =
    let told = (g.F.Folder.told c.args.folder.now) in
    let counted = subst (λ (h : hub.Hub). IsSomeAnd (client_of h c.args.client) (λ client. c.replies.result ≡ client.replies)) c.hub.ensures c.replies.ensures in
    on_ok c.close.result _ _ (asks_too_many c.args.client c.args.frame c.replies.result c.args.self.now c.close.new.self told counted (omega (arith, c.if-replies-ge-REQUEST_LIMIT.true))) c.close.ensures.does

pub returns-then-replies-ge-REQUEST_LIMIT-clause-leaves : goal.returns-then-replies-ge-REQUEST_LIMIT-clause-leaves
returns-then-replies-ge-REQUEST_LIMIT-clause-leaves g c = leaves_alone c.args.self.now.core c.close.new.self.core _ c.close.ensures.trace

pub returns-in_err-note_levels-clause-leaves : goal.returns-in_err-note_levels-clause-leaves
returns-in_err-note_levels-clause-leaves g c = leaves_alone c.args.self.now.core c.note_levels.new.self.core _ (ap (λ (world : World). world.core.trace) c.note_levels.ensures.rest)

pub returns-clause-does : goal.returns-clause-does
returns-clause-does g c =
    let told = (g.F.Folder.told c.args.folder.now) in
    let told_now = (g.F.Folder.told c.serve.new.folder) in
    let counted = subst (λ (h : hub.Hub). IsSomeAnd (client_of h c.args.client) (λ client. c.replies.result ≡ client.replies)) c.hub.ensures c.replies.ensures in
    on_ok c.note_levels_now.result _ _
    (asks c.args.client c.args.frame c.replies.result c.args.self.now c.note_levels.new.self c.serve.new.self c.note_levels_now.new.self told told_now
    (c.is_open.ensures.0 c.if-not-is_open.false) counted (omega (arith, c.if-replies-ge-REQUEST_LIMIT.false)) c.in_ok-note_levels.ensures.does c.in_ok-serve.ensures.does)
    c.note_levels_now.ensures.does
