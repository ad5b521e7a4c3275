use Rattle.std.proofs.Common.{sym, subst}
use Rattle.dl_storage.specs.Ended.{EndHasCause}
use Rattle.dl_storage.specs.Passing.{directory_of, frames_for}
use Rattle.dl_storage.specs.Storing.{IsStored}
use Rattle.dl_storage.specs.declared.ends.StoreEnd.{StoreEnd}
use Rattle.dl_storage.proofs.Alone.{stored_alone}
use Rattle.dl_storage.proofs.Changes.{stayed}
use Rattle.dl_storage.proofs.storing.store_one.Goals as goal

pub returns-in-Ok-clause-stored : goal.returns-in-Ok-clause-stored
returns-in-Ok-clause-stored g c =
    let frames = frames_for c.args.ecu c.args.filter.now c.args.calls.now.records.now c.args.events.now in
    let start = g.F.Folder.told c.args.folder.now in
    let last = g.F.Folder.told c.write_events.new.folder in
    let fit = c.in-Ok.ensures.begun in
    subst (λ (e : StoreEnd). IsStored c.args.filter.now frames start.files last.files e) (sym c.end.ensures)
    (stored_alone c.args.filter.now c.in-Ok.trace frames start last c.write_events.result fit
    (c.write_events.ensures fit.stood start fit.begins (record { files = c.in-Ok.ensures.stays; faults = c.in-Ok.ensures.cause })))

pub returns-in-Ok-clause-cause : goal.returns-in-Ok-clause-cause
returns-in-Ok-clause-cause g c =
    let start = g.F.Folder.told c.args.folder.now in
    let last = g.F.Folder.told c.write_events.new.folder in
    let fit = c.in-Ok.ensures.begun in
    subst (λ (e : StoreEnd). EndHasCause start.faults last.faults e.end) (sym c.end.ensures)
    (c.write_events.ensures fit.stood start fit.begins (record { files = c.in-Ok.ensures.stays; faults = c.in-Ok.ensures.cause })).cause

pub returns-in-Err-Failed-clause-others : goal.returns-in-Err-Failed-clause-others
returns-in-Err-Failed-clause-others g c =
    stayed (directory_of c.args.filter.now) (g.F.Folder.told c.args.folder.now).files (g.F.Folder.told c.trace_of.new.folder).files c.in-Err-Failed.ensures.stays

pub returns-in-Err-OutOfMemory-clause-others : goal.returns-in-Err-OutOfMemory-clause-others
returns-in-Err-OutOfMemory-clause-others g c =
    stayed (directory_of c.args.filter.now) (g.F.Folder.told c.args.folder.now).files (g.F.Folder.told c.trace_of.new.folder).files c.in-Err-OutOfMemory.ensures.stays
