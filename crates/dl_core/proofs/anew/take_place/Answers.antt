use Rattle.dl_trace.proofs.Joined.{unchanged}
use Rattle.dl_core.proofs.anew.take_place.Goals as goal

pub returns-in_default-clause-others : goal.returns-in_default-clause-others
returns-in_default-clause-others g c = unchanged c.args.trace.directory (g.F.Folder.told c.args.folder.now).files
