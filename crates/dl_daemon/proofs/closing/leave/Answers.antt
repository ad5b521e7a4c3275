use Rattle.std.proofs.Common.{refl, rules}
use Rattle.dl_daemon.proofs.closing.leave.Goals as goal

pub returns : goal.returns
returns g c = record {
  server = c.args.server;
  its = refl;
  passed = c.args.passed;
  figures = c.figures_of-figures.ensures;
  events = refl;
  trace = search rules;
  clients = refl;
  users = refl;
  ends = search rules;
}
