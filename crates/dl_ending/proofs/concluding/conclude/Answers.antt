use Rattle.std.proofs.Common.{ℕ, List, refl, sym, ap, subst}
use Rattle.dl_ending.specs.Ending.{records_of}
use Rattle.dl_events.specs.declared.event.Event.{Event}
use Rattle.dl_events.specs.declared.record.Record.{Record}
use Rattle.dl_outside.specs.Told.{FolderTold}
use Rattle.dl_storage.specs.Storing.{AreStored}
use Rattle.dl_ending.proofs.concluding.conclude.Goals as goal

pub returns-in-Ok-clause-concludes : goal.returns-in-Ok-clause-concludes
returns-in-Ok-clause-concludes g c = λ setting is.
    let old : FolderTold = g.F.Folder.told c.args.folder.now in
    let new : FolderTold = g.F.Folder.told c.store-stored.new.folder in
    let filters = c.args.filters.now in
    let ends = c.in-Ok.ends.filters in (
      subst (λ (ecu : List ℕ). AreStored ecu (records_of c.args.account.now) c.args.account.now.events old.files new.files old.faults new.faults filters ends) (sym is.ecu)
          (subst (λ (rs : List (List Record)). AreStored c.args.conf.now.ecu rs c.args.account.now.events old.files new.files old.faults new.faults filters ends) c.records.ensures.value
          (subst (λ (es : List Event). AreStored c.args.conf.now.ecu c.records.result.now es old.files new.files old.faults new.faults filters ends) c.events.ensures c.in-Ok.ensures.stored)),
      c.finish.ensures setting is,
    )

pub returns-in-Err-clause-concludes : goal.returns-in-Err-clause-concludes
returns-in-Err-clause-concludes g c = λ setting is. (refl, refl, ap (λ f. g.F.Folder.told f) c.in-Err.ensures.refused)
