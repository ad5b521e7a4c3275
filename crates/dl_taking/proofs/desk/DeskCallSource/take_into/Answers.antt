use Rattle.std.proofs.Common.{ℕ, ◌<◌, length, sym, subst}
use Rattle.dl_ring.specs.Items.{took as put}
use Rattle.dl_taking.proofs.Tooks.{desk_empty, desk_full, desk_same, desk_told, desk_took, desk_took_none}
use Rattle.dl_taking.proofs.desk.DeskCallSource.take_into.Goals as goal

pub returns-clause-taken : goal.returns-clause-taken
returns-clause-taken g c =
    let within : c.args.app < length c.args.self.now.handles.apps = subst (λ (n : ℕ). c.args.app < n) (sym c.have_handles.ensures) c.requires in
    desk_took c.args.self.now c.take_into.new.self c.args.app within (put c.take_into.result c.take_into.new.item) c.take_into.ensures.taken

pub returns-clause-none : goal.returns-clause-none
returns-clause-none g c = desk_took_none c.args.self.now c.take_into.new.self c.args.app (put c.take_into.result c.take_into.new.item) c.take_into.ensures.none

pub returns-clause-empty : goal.returns-clause-empty
returns-clause-empty g c =
    let within : c.args.app < length c.args.self.now.handles.apps = subst (λ (n : ℕ). c.args.app < n) (sym c.have_handles.ensures) c.requires in
    desk_empty c.args.self.now c.take_into.new.self c.args.app within (put c.take_into.result c.take_into.new.item) c.take_into.ensures.none

pub returns-clause-full : goal.returns-clause-full
returns-clause-full g c = desk_full c.args.self.now c.take_into.new.self c.args.app (put c.take_into.result c.take_into.new.item) c.take_into.ensures.taken

pub returns-clause-told : goal.returns-clause-told
returns-clause-told g c = desk_told c.args.self.now c.take_into.new.self c.args.app (put c.take_into.result c.take_into.new.item) c.take_into.ensures.taken c.take_into.ensures.none

pub returns-clause-rest : goal.returns-clause-rest
returns-clause-rest g c = desk_same c.args.self.now c.take_into.new.self c.args.app (put c.take_into.result c.take_into.new.item) c.take_into.ensures.taken c.take_into.ensures.none
