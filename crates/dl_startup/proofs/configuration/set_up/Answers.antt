use Rattle.dl_conf.specs.Outcome.{values_of}
use Rattle.dl_startup.proofs.Told.{both_said, quiet, quiet_on, stored_is_bad}
use Rattle.dl_outside.specs.Told.{FolderTold}
use Rattle.dl_startup.proofs.configuration.set_up.Goals as goal

pub returns-in-Ok-stored_in : goal.returns-in-Ok-stored_in
returns-in-Ok-stored_in g c =
    let old : FolderTold = g.F.Folder.told c.args.folder.now in
    let mid : FolderTold = g.F.Folder.told c.conf_in.new.folder in
    let new : FolderTold = g.F.Folder.told c.stored_in.new.folder in
    let first = c.in-Ok.ensures in
    let second = c.in-Ok-stored_in.ensures in (
      both_said c.args.name.now old.files mid.files (record { conf = c.in-Ok.conf; stored = c.in-Ok-stored_in.stored }) first.said first.stays second.said,
      quiet_on old mid new (quiet old mid first.stays first.unchanged first.cause) (quiet mid new second.stays second.unchanged second.cause),
    )

pub returns-in-Err-Fault-stored_in : goal.returns-in-Err-Fault-stored_in
returns-in-Err-Fault-stored_in g c =
    let old : FolderTold = g.F.Folder.told c.args.folder.now in
    let mid : FolderTold = g.F.Folder.told c.conf_in.new.folder in
    let new : FolderTold = g.F.Folder.told c.stored_in.new.folder in
    let first = c.in-Ok.ensures in
    let second = c.in-Err-Fault-stored_in.ensures in
    let said = rw c.in-Err-Fault-stored_in.field-0-is at second.said in
    let cause = rw c.in-Err-Fault-stored_in.field-0-is at second.cause in (
      stored_is_bad c.args.name.now old.files mid.files (values_of c.in-Ok.conf) (c.in-Err-Fault-stored_in.line, c.in-Err-Fault-stored_in.kind) first.said first.stays said,
      quiet_on old mid new (quiet old mid first.stays first.unchanged first.cause) (quiet mid new second.stays second.unchanged cause),
    )
