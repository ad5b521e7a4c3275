use Rattle.dl_trace.proofs.Joined.{unchanged}
use Rattle.dl_trace.proofs.trace.Trace.keep.Goals as goal

pub returns-then-is_some-clause-others : goal.returns-then-is_some-clause-others
returns-then-is_some-clause-others g c = unchanged c.args.self.now.directory (g.F.Folder.told c.args.folder.now).files
