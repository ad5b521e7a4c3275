use Rattle.std.proofs.Common.{sym, ap, ◌∙◌}
use Rattle.dl_bytes.specs.declared.user.UserMsg.{UserMsg}
use Rattle.dl_model.specs.Backlog.{size_of}
use Rattle.dl_model.specs.Frames.{user_frames}
use Rattle.dl_core.proofs.daemon.Core.user_need.Goals as goal

pub returns-in-Overflow : goal.returns-in-Overflow
returns-in-Overflow c = c.report_need.ensures ∙ ap (λ (m : UserMsg). size_of (user_frames c.args.self.now.ecu m)) (sym c.in-Overflow.is)
