use Rattle.std.proofs.Common.{length, ap, sym, ◌∙◌}
use Rattle.dl_core.specs.State.{Core}
use Rattle.dl_core.proofs.Asked.{needs_fit, needs_seen}
use Rattle.dl_core.proofs.daemon.Core.request_need.Goals as goal

pub returns-clause-size : goal.returns-clause-size
returns-clause-size c =
    let id = ap (λ (core : Core). length core.ecu) (sym c.self.view_is) ∙ c.bytes-id.ensures.len in
    needs_seen c.args.self.now c.args.frame.now c.asked_by-request.result.0 c.asked_by-request.result.1 c.reply_need.result id
    c.asked_by-request.ensures.request c.asked_by-request.ensures.target c.reply_need.ensures

pub returns-clause-limit : goal.returns-clause-limit
returns-clause-limit c = needs_fit c.args.self.now c.asked_by-request.result.0 c.asked_by-request.result.1 c.reply_need.result c.reply_need.ensures
