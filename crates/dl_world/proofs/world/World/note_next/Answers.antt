use Rattle.std.proofs.Common.{sym, ◌∙◌}
use Rattle.dl_world_calls.specs.State.{next_claim}
use Rattle.dl_world_calls.proofs.Acts.{on_ok}
use Rattle.dl_core.proofs.LeftFiles.{leaves_alone}
use Rattle.dl_world.proofs.Takes.{is_there, is_not_there, notes_claim, notes_call}
use Rattle.dl_world.proofs.world.World.note_next.Goals as goal

pub returns-then-is_some-clause-does : goal.returns-then-is_some-clause-does
returns-then-is_some-clause-does g c =
    let old = c.args.self.now in
    let there = is_there _ c.next_claim.result (next_claim old.calls c.args.app) c.next_claim.ensures (sym c.is_some.ensures ∙ c.if-is_some.true) in
    on_ok c.note_claim.result _ _ (notes_claim c.args.app old c.note_claim.new.self (g.F.Folder.told c.args.folder.now) there) c.note_claim.ensures.does

pub returns-then-is_some-clause-leaves : goal.returns-then-is_some-clause-leaves
returns-then-is_some-clause-leaves g c = leaves_alone c.args.self.now.core c.note_claim.new.self.core (g.F.Folder.told c.args.folder.now) c.note_claim.ensures.trace

pub returns-clause-does : goal.returns-clause-does
returns-clause-does g c =
    let old = c.args.self.now in
    let none = is_not_there _ c.next_claim.result (next_claim old.calls c.args.app) c.next_claim.ensures (sym c.is_some.ensures ∙ c.if-is_some.false) in
    on_ok c.note_log.result _ _ (notes_call c.args.app old c.note_log.new.self (g.F.Folder.told c.args.folder.now) (g.F.Folder.told c.note_log.new.folder) none) c.note_log.ensures.does
