use Rattle.dl_replay.proofs.Folders.{all_stay}
use Rattle.dl_replay.proofs.program.ask.Goals as goal

pub returns-in-None-clause-others : goal.returns-in-None-clause-others
returns-in-None-clause-others g c = all_stay (g.F.Folder.told c.args.folder.now).files
