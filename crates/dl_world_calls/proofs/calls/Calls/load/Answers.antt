use Rattle.std.proofs.Common.{◌≡◌, ◌+◌, None, ap}
use Rattle.dl_world_calls.specs.Stages.{call_of, filled}
use Rattle.dl_world_calls.specs.State.{begun}
use Rattle.dl_world_calls.proofs.Acts.{on_ok}
use Rattle.dl_world_calls.proofs.Loading.{load-does}
use Rattle.dl_world_calls.proofs.calls.Calls.load.Goals as goal

pub returns : goal.returns
returns c =
    let made = λ (is : c.index_mut-writer.result.now.to_push ≡ None → c.index_mut-writer.result.now.to_count ≡ None → c.begin.new.self ≡ begun c.index_mut-writer.result.now (call_of (filled c.loaded_call-record.result c.args.call.now.payload))).
    load-does c.self.inside.apps.items c.self.inside.writers.items c.args.self.now c.self.view_is c.args.call.now c.args.context c.args.seen c.requires
    c.index_mut-writer.result.now c.begin.new.self (c.recorded.result + 1) c.mcnt-mcnt.result (call_of (filled c.loaded_call-record.result c.args.call.now.payload)) c.index_mut-writer.ensures.value
    (ap (λ n. n + 1) c.recorded.ensures.value) c.mcnt-mcnt.ensures c.loaded_call-record.ensures.call is in
    on_ok c.begin.result _ _ made c.begin.ensures.made
