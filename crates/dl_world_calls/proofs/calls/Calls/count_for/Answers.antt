use Rattle.dl_world_calls.specs.declared.queue.Entry.TheVariants as entry
use Rattle.dl_world_calls.proofs.Acts.{count-does-as}
use Rattle.dl_world_calls.proofs.calls.Calls.count_for.Goals as goal

pub returns : goal.returns
returns c =
    count-does-as c.self.inside.apps.items c.self.inside.writers.items c.args.self.now c.self.view_is c.self.invariant c.args.writer c.args.app c.requires
    c.index_mut-2.result.now c.index_mut.result.now (entry.Call (record { writer = c.args.writer; place = c.recorded-place.result })) c.lose.new.self c.count.new.self
    c.index_mut-2.ensures.value c.index_mut.ensures.value c.in_ok-lose.ensures c.count.ensures.made
