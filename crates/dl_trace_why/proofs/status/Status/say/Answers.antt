use Rattle.std.proofs.Common.{sym, ◌∙◌}
use Rattle.dl_trace_why.proofs.Ending.{says_line}
use Rattle.dl_trace_why.proofs.status.Status.say.Goals as goal

pub returns : goal.returns
returns g c = says_line c.args.self.now (g.E.Sink.told c.args.err.now) (g.E.Sink.told c.say_line.new.err) (sym c.is_ok.ensures ∙ c.if-is_ok.false) c.say_line.ensures
