use Rattle.dl_daemon.proofs.Renamed.{fault_kept, good_stands, is_aside, none_stands, stays_kept}
use Rattle.dl_startup.proofs.Told.{quiet}
use Rattle.dl_daemon.proofs.aside.set_aside.Goals as goal

pub returns-in-Ok-None-clause-aside : goal.returns-in-Ok-None-clause-aside
returns-in-Ok-None-clause-aside g c =
    let old = g.F.Folder.told c.args.folder.now in
    let read = c.in-Ok-None.ensures in
    (none_stands old.files c.in-Ok-None.field-0 read.found c.in-Ok-None.field-0-is, quiet old (g.F.Folder.told c.read.new.self) read.stays read.unchanged read.cause)

pub returns-in-Err-clause-aside : goal.returns-in-Err-clause-aside
returns-in-Err-clause-aside g c = stays_kept (g.F.Folder.told c.args.folder.now).files (g.F.Folder.told c.read.new.self).files c.in-Err.ensures.stays

pub returns-in-Ok-None-fault_of-clause-aside : goal.returns-in-Ok-None-fault_of-clause-aside
returns-in-Ok-None-fault_of-clause-aside g c =
    let old = g.F.Folder.told c.args.folder.now in
    let some = c.in-Ok-Some in
    let read = some.ensures in
    let good = rw c.in-Ok-None-fault_of.field-0-is at c.in-Ok-None-fault_of.ensures in (
      good_stands old.files some.field-0 some.text c.all-bytes.result.now read.found some.field-0-is c.all-bytes.ensures good,
      quiet old (g.F.Folder.told c.read.new.self) read.stays read.unchanged read.cause,
    )

pub returns-in-Err-fault_of-clause-aside : goal.returns-in-Err-fault_of-clause-aside
returns-in-Err-fault_of-clause-aside g c = stays_kept (g.F.Folder.told c.args.folder.now).files (g.F.Folder.told c.read.new.self).files c.in-Ok-Some.ensures.stays

pub returns-in-Ok-clause-aside : goal.returns-in-Ok-clause-aside
returns-in-Ok-clause-aside g c =
    let some = c.in-Ok-Some in
    let read = some.ensures in
    let bad = c.in-Ok-Some-fault_of in
    let said = rw bad.field-0-is at bad.ensures in
    is_aside (g.F.Folder.told c.args.folder.now).files (g.F.Folder.told c.read.new.self).files (g.F.Folder.told c.rename.new.folder).files some.field-0 some.text c.all-bytes.result.now bad.bad
    read.stays read.found some.field-0-is c.all-bytes.ensures said c.in-Ok.ensures.renamed

pub returns-clause-aside : goal.returns-clause-aside
returns-clause-aside g c =
    let some = c.in-Ok-Some in
    let read = some.ensures in
    fault_kept (g.F.Folder.told c.args.folder.now).files (g.F.Folder.told c.read.new.self).files (g.F.Folder.told c.rename.new.folder).files some.field-0 some.text c.all-bytes.result.now
    c.in-Err-rename.fault read.stays read.found some.field-0-is c.all-bytes.ensures c.in-Err-rename.ensures.renamed
