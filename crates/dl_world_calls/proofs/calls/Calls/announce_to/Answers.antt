use Rattle.std.proofs.Common.{◌≡◌, ◌+◌, ◌-◌, sym, ap, ◌∙◌, get_or, arith}
use Rattle.std.specs.Prelude.{nat_le}
use Rattle.dl_world_calls.specs.Queue.{waiting}
use Rattle.dl_world_calls.specs.State.{App, Writer}
use Rattle.dl_world_calls.specs.Follows.{no_writer}
use Rattle.dl_world_calls.proofs.Places.{any_default}
use Rattle.dl_world_calls.proofs.Acts.{is_announced, app_of_claim, one_waits, announce-full, announce-room, refused-full, refused-room, fits-app, fits-writer}
use Rattle.dl_world_calls.proofs.calls.Calls.announce_to.Goals as goal

pub returns-then-is_full-clause-does : goal.returns-then-is_full-clause-does
returns-then-is_full-clause-does c =
    announce-full c.self.inside.apps.items c.self.inside.writers.items c.args.self.now c.self.view_is c.self.invariant c.args.writer c.args.app c.requires
    c.index.result.now c.index.result.now c.index.ensures (sym c.is_full.ensures ∙ c.if-is_full.true)

pub returns-then-is_full-clause-refused : goal.returns-then-is_full-clause-refused
returns-then-is_full-clause-refused c =
    refused-full c.self.inside.apps.items c.self.inside.writers.items c.args.self.now c.self.view_is c.self.invariant c.args.writer c.args.app c.requires
    c.index.result.now c.index.result.now c.index.ensures (sym c.is_full.ensures ∙ c.if-is_full.true)

pub index-requires-2 : goal.index-requires-2
index-requires-2 c =
    let at = (is_announced c.self.inside.apps.items c.self.inside.writers.items c.args.self.now c.self.view_is c.self.invariant c.args.writer c.args.app c.requires).below in
    omega (arith, at, c.self.inside.writers.ok.0)

pub index_mut-requires : goal.index_mut-requires
index_mut-requires c =
    let at = app_of_claim c.self.inside.apps.items c.self.inside.writers.items c.args.self.now c.self.view_is c.self.invariant c.args.writer c.args.app c.requires in
    omega (arith, at, c.self.inside.apps.ok.0)

pub index_mut-requires-2 : goal.index_mut-requires-2
index_mut-requires-2 c =
    let at = (is_announced c.self.inside.apps.items c.self.inside.writers.items c.args.self.now c.self.view_is c.self.invariant c.args.writer c.args.app c.requires).below in
    omega (arith, at, c.self.inside.writers.ok.0)

pub announce-requires : goal.announce-requires
announce-requires c = one_waits c.self.inside.apps.items c.self.inside.writers.items c.args.self.now c.self.view_is c.self.invariant c.args.writer c.args.app c.requires c.index_mut-2.result.now c.index_mut-2.ensures.value

pub invariant_of-self-2 : goal.invariant_of-self-2
invariant_of-self-2 c =
    let at = (is_announced c.self.inside.apps.items c.self.inside.writers.items c.args.self.now c.self.view_is c.self.invariant c.args.writer c.args.app c.requires).below in
    let same : c.announce.new.self.app ≡ (get_or c.self.inside.writers.items (c.args.writer - 1) no_writer).app =
    ap (λ (w : Writer). w.app) (c.announce.ensures ∙ ap (λ (w : Writer). record w { announced = w.announced + 1 }) (c.index_mut-2.ensures.value ∙ any_default c.self.inside.writers.items (c.args.writer - 1) c.index_mut-2.result.now no_writer at)) in
    fits-writer _ c.self.inside.writers.items (c.args.writer - 1) c.announce.new.self (fits-app c.self.inside.apps.items c.self.inside.writers.items c.args.app c.queue.new.self c.self.invariant) at same

pub returns-clause-does : goal.returns-clause-does
returns-clause-does c =
    announce-room c.self.inside.apps.items c.self.inside.writers.items c.args.self.now c.self.view_is c.self.invariant c.args.writer c.args.app c.requires
    c.index_mut.result.now c.index_mut.result.now c.index_mut.ensures.value c.index-2.result.now c.index_mut-2.result.now c.announced-place.result c.queue.new.self c.announce.new.self
    (ap (λ (x : App). nat_le x.spec.capacity (waiting x.ring)) (c.index_mut.ensures.value ∙ any_default c.self.inside.apps.items c.args.app c.index_mut.result.now c.index.result.now
    (app_of_claim c.self.inside.apps.items c.self.inside.writers.items c.args.self.now c.self.view_is c.self.invariant c.args.writer c.args.app c.requires) ∙ sym c.index.ensures)
    ∙ sym c.is_full.ensures ∙ c.if-is_full.false)
    c.index-2.ensures c.announced-place.ensures.value c.index_mut-2.ensures.value c.in_ok-queue.ensures c.announce.ensures

pub returns-clause-refused : goal.returns-clause-refused
returns-clause-refused c =
    refused-room c.self.inside.apps.items c.self.inside.writers.items c.args.self.now c.self.view_is c.self.invariant c.args.writer c.args.app c.requires
    c.index_mut.result.now c.index_mut.result.now c.index_mut.ensures.value
    (ap (λ (x : App). nat_le x.spec.capacity (waiting x.ring)) (c.index_mut.ensures.value ∙ any_default c.self.inside.apps.items c.args.app c.index_mut.result.now c.index.result.now
    (app_of_claim c.self.inside.apps.items c.self.inside.writers.items c.args.self.now c.self.view_is c.self.invariant c.args.writer c.args.app c.requires) ∙ sym c.index.ensures)
    ∙ sym c.is_full.ensures ∙ c.if-is_full.false)
