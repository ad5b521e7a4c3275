use Rattle.std.proofs.Common.{sym, ◌∙◌}
use Rattle.dl_world_calls.specs.Stages.{filled}
use Rattle.dl_world_calls.proofs.OpenCalls.{begins_passing, begins_filtered}
use Rattle.dl_world_calls.proofs.writer.Writer.begin.Goals as goal

pub returns-then-passes-clause-made : goal.returns-then-passes-clause-made
returns-then-passes-clause-made c =
    begins_passing c.self.inside.app c.self.inside.apid c.self.inside.passed c.self.inside.stage c.self.inside.records.items c.self.inside.claims.items c.self.inside.announced c.args.self.now c.self.view_is c.self.invariant.0
    (filled c.args.call c.args.arguments.now) c.push_filled.new.records.items c.in_ok-push_filled.ensures.added (sym c.passes-passes.ensures ∙ c.if-passes.true)

pub returns-else-passes-clause-made : goal.returns-else-passes-clause-made
returns-else-passes-clause-made c =
    begins_filtered c.self.inside.app c.self.inside.apid c.self.inside.passed c.self.inside.stage c.self.inside.records.items c.self.inside.claims.items c.self.inside.announced c.args.self.now c.self.view_is c.self.invariant.0
    (filled c.args.call c.args.arguments.now) c.push_filled.new.records.items c.in_ok-push_filled.ensures.added c.requires.answer (sym c.passes-passes.ensures ∙ c.if-passes.false)
