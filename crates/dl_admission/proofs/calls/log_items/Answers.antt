use Rattle.dl_admission.specs.Part.{part}
use Rattle.dl_admission.proofs.Entries.{batch_admits, uses_noted}
use Rattle.dl_admission.proofs.calls.log_items.Goals as goal

pub returns-then-each_has_room-clause-logs : goal.returns-then-each_has_room-clause-logs
returns-then-each_has_room-clause-logs g c =
    batch_admits c.args.items.now c.args.moment (part c.args.core.now (g.J.Journal.events c.args.journal.now) (g.F.Folder.told c.args.folder.now))
    (part c.log_batch.new.self (g.J.Journal.events c.log_batch.new.journal) (g.F.Folder.told c.log_batch.new.folder)) c.requires.settled c.log_batch.ensures.notes c.log_batch.ensures.rest

pub returns-then-each_has_room-clause-uses : goal.returns-then-each_has_room-clause-uses
returns-then-each_has_room-clause-uses g c = uses_noted _ _ _ _ _ _ _ c.log_batch.ensures.notes.still_open c.log_batch.ensures.noted c.log_batch.ensures.spare
