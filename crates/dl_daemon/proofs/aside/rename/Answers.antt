use Rattle.dl_daemon.proofs.Renamed.{not_put, put_so}
use Rattle.dl_daemon.proofs.aside.rename.Goals as goal

pub returns-in-Ok-clause-renamed : goal.returns-in-Ok-clause-renamed
returns-in-Ok-clause-renamed g c =
    put_so c.args.text.now (g.F.Folder.told c.args.folder.now).files (g.F.Folder.told c.put.new.self).files (g.F.Folder.told c.remove.new.self).files
    c.remove.result c.in-Ok.ensures.files c.remove.ensures.files

pub returns-in-Err-clause-renamed : goal.returns-in-Err-clause-renamed
returns-in-Err-clause-renamed g c =
    not_put c.args.text.now (g.F.Folder.told c.args.folder.now).files (g.F.Folder.told c.put.new.self).files c.in-Err.fault c.in-Err.ensures.files c.in-Err.ensures.whole
