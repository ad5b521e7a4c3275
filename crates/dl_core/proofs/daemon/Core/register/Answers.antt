use Rattle.std.proofs.Common.{◌+◌, ◌≤◌, ap, ◌∙◌, arith}
use Rattle.dl_registry.specs.Kept.{owed_change}
use Rattle.dl_core.specs.State.{Core}
use Rattle.dl_core.specs.Waiting.{changes_by, waiting}
use Rattle.dl_core.proofs.Leveled.{message_waits}
use Rattle.dl_core.proofs.Messaged.{always}
use Rattle.dl_core.proofs.daemon.Core.register.Goals as goal

pub returns-clause-reserved : goal.returns-clause-reserved
returns-clause-reserved g c =
    let few : waiting c.apply.new.self ≤ changes_by c.args.msg.now =
    message_waits c.args.channel c.args.msg.now c.self.inside.registry c.apply.new.self c.apply.result c.slots_are_apart.ensures.order (ap (λ (core : Core). owed_change core.registry) c.self.view_is ∙ c.requires.settled) c.apply.ensures in
    always (g.J.Journal.spare c.args.journal.now + 1 + waiting c.apply.new.self ≤ g.J.Journal.spare c.reserve.new.self) c.match-apply.result
    (omega (arith, few, c.spare.ensures, c.changes_of.ensures, c.in-Some.ensures, c.in_ok-reserve.ensures.room))
