use Rattle.dl_admission.specs.Part.{part}
use Rattle.dl_admission.proofs.AllForwarded.{all_admitted, messages_admit}
use Rattle.dl_admission.proofs.Entries.{uses_noted}
use Rattle.dl_admission.proofs.messages.admit_messages.Goals as goal

pub returns-then-each_has_room-clause-forwards : goal.returns-then-each_has_room-clause-forwards
returns-then-each_has_room-clause-forwards g c =
    messages_admit c.args.moment c.args.channel c.args.msgs.now.items (part c.args.core.now (g.J.Journal.events c.args.journal.now) (g.F.Folder.told c.args.folder.now))
    (part c.user_batch.new.self (g.J.Journal.events c.user_batch.new.journal) (g.F.Folder.told c.user_batch.new.folder)) c.requires.logs c.requires.settled c.user_batch.ensures.notes c.user_batch.ensures.rest

pub returns-then-each_has_room-clause-uses : goal.returns-then-each_has_room-clause-uses
returns-then-each_has_room-clause-uses g c = uses_noted _ _ _ _ _ _ _ c.user_batch.ensures.notes.still_open c.user_batch.ensures.noted c.user_batch.ensures.spare

pub returns-then-each_has_room-clause-admitted : goal.returns-then-each_has_room-clause-admitted
returns-then-each_has_room-clause-admitted g c = all_admitted c.args.msgs.now.items c.args.core.now.ecu _ _ c.requires.logs c.user_batch.ensures.notes.admitted

pub returns-else-each_has_room-clause-admitted : goal.returns-else-each_has_room-clause-admitted
returns-else-each_has_room-clause-admitted g c = all_admitted c.args.msgs.now.items c.args.core.now.ecu _ _ c.requires.logs c.admit_each.ensures.forwards.admitted
