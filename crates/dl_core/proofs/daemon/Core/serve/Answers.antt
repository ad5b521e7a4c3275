use Rattle.std.proofs.Common.{ap, sym}
use Rattle.dl_core.specs.State.{Core}
use Rattle.dl_core.proofs.Asked.{replies_seen, body_seen}
use Rattle.dl_core.proofs.daemon.Core.serve.Goals as goal

pub returns-clause-reply : goal.returns-clause-reply
returns-clause-reply c =
    let is = sym c.self.view_is in
    replies_seen c.args.self.now c.self.inside.software c.self.inside.injection c.self.inside.level c.self.inside.registry c.args.target c.args.request.now c.args.done c.serve.result
    (ap (λ (core : Core). core.software) is) (ap (λ (core : Core). core.injection) is) (ap (λ (core : Core). core.level) is) (ap (λ (core : Core). core.registry) is) c.serve.ensures.reply

pub returns-clause-memory : goal.returns-clause-memory
returns-clause-memory c =
    let is = sym c.self.view_is in
    body_seen c.args.self.now c.self.inside.software c.self.inside.injection c.self.inside.level c.self.inside.registry c.args.target c.args.request.now c.args.done c.serve.result
    (ap (λ (core : Core). core.software) is) (ap (λ (core : Core). core.injection) is) (ap (λ (core : Core). core.level) is) (ap (λ (core : Core). core.registry) is) c.serve.ensures.memory
