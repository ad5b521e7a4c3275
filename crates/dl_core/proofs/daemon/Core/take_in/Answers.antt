use Rattle.std.proofs.Common.{sym, ap, ◌∙◌}
use Rattle.dl_core.specs.State.{Core}
use Rattle.dl_core.proofs.Messaged.{takes_nothing}
use Rattle.dl_core.proofs.daemon.Core.take_in.Goals as goal

pub returns-else-has_frames_in-clause-admits : goal.returns-else-has_frames_in-clause-admits
returns-else-has_frames_in-clause-admits g c =
    takes_nothing c.args.moment c.args.msg.now c.args.self.now c.register.new.self (g.F.Folder.told c.args.folder.now) (sym c.has_frames_in.ensures ∙ c.if-has_frames_in.false)
    (ap (λ (core : Core). core.hub) c.register.ensures.rest) (ap (λ (core : Core). core.trace) c.register.ensures.rest)
