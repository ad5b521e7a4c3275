use Rattle.std.proofs.Common.{◌≡◌, ◌-◌, sym, ap, ◌∙◌, get_or, arith}
use Rattle.std.specs.Prelude.{nat_le}
use Rattle.dl_world_calls.specs.Queue.{waiting}
use Rattle.dl_world_calls.specs.State.{App, Writer}
use Rattle.dl_world_calls.specs.Follows.{no_writer}
use Rattle.dl_world_calls.proofs.Places.{any_default}
use Rattle.dl_world_calls.proofs.Acts.{is_pushed, app_there, push-full, push-room-as, fits-app, fits-writer}
use Rattle.dl_world_calls.proofs.calls.Calls.push_into.Goals as goal

pub returns-then-is_full : goal.returns-then-is_full
returns-then-is_full c =
    rw c.refuse.ensures
    (push-full c.self.inside.apps.items c.self.inside.writers.items c.args.self.now c.self.view_is c.self.invariant c.args.writer c.args.app c.requires
    c.index_mut.result.now c.index_mut.result.now c.index.result.now c.index.result.now c.index_mut.ensures.value c.index.ensures (sym c.is_full.ensures ∙ c.if-is_full.true))

pub index-requires-2 : goal.index-requires-2
index-requires-2 c =
    let at = (is_pushed c.self.inside.apps.items c.self.inside.writers.items c.args.self.now c.self.view_is c.self.invariant c.args.writer c.args.app c.requires).below in
    omega (arith, at, c.self.inside.writers.ok.0)

pub index_mut-requires-2 : goal.index_mut-requires-2
index_mut-requires-2 c =
    let at = app_there c.self.inside.apps.items c.self.inside.writers.items c.args.self.now c.self.view_is c.self.invariant c.args.writer c.args.app c.requires in
    omega (arith, at, c.self.inside.apps.ok.0)

pub index_mut-requires-3 : goal.index_mut-requires-3
index_mut-requires-3 c =
    let at = (is_pushed c.self.inside.apps.items c.self.inside.writers.items c.args.self.now c.self.view_is c.self.invariant c.args.writer c.args.app c.requires).below in
    omega (arith, at, c.self.inside.writers.ok.0)

pub invariant_of-self-2 : goal.invariant_of-self-2
invariant_of-self-2 c =
    let at = (is_pushed c.self.inside.apps.items c.self.inside.writers.items c.args.self.now c.self.view_is c.self.invariant c.args.writer c.args.app c.requires).below in
    let same : c.queue-2.new.self.app ≡ (get_or c.self.inside.writers.items (c.args.writer - 1) no_writer).app =
    c.queue-2.ensures.app ∙ ap (λ (w : Writer). w.app) (c.index_mut-3.ensures.value ∙ any_default c.self.inside.writers.items (c.args.writer - 1) c.index_mut-3.result.now no_writer at) in
    fits-writer _ c.self.inside.writers.items (c.args.writer - 1) c.queue-2.new.self (fits-app c.self.inside.apps.items c.self.inside.writers.items c.args.app c.queue.new.self c.self.invariant) at same

pub returns : goal.returns
returns c =
    push-room-as c.self.inside.apps.items c.self.inside.writers.items c.args.self.now c.self.view_is c.self.invariant c.args.writer c.args.app c.requires
    c.index-2.result.now c.index_mut-3.result.now c.index_mut-2.result.now c.recorded-place.result c.queue.new.self c.queue-2.new.self
    c.index-2.ensures c.recorded-place.ensures.value c.index_mut-3.ensures.value c.index_mut-2.ensures.value
    (ap (λ (x : App). nat_le x.spec.capacity (waiting x.ring)) (c.index_mut-2.ensures.value ∙ any_default c.self.inside.apps.items c.args.app c.index_mut-2.result.now c.index.result.now
    (app_there c.self.inside.apps.items c.self.inside.writers.items c.args.self.now c.self.view_is c.self.invariant c.args.writer c.args.app c.requires) ∙ sym c.index.ensures)
    ∙ sym c.is_full.ensures ∙ c.if-is_full.false) c.in_ok-queue.ensures c.queue-2.ensures.made
