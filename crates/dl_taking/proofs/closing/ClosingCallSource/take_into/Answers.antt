use Rattle.std.proofs.Common.{ℕ, ◌<◌, length, sym, subst}
use Rattle.dl_ring.specs.Items.{took as put}
use Rattle.dl_taking.proofs.Tooks.{closing_empty, closing_full, closing_same, closing_told, closing_took_item, closing_took_none, empty_now}
use Rattle.dl_taking.proofs.closing.ClosingCallSource.take_into.Goals as goal

pub returns-clause-taken : goal.returns-clause-taken
returns-clause-taken g c =
    let within : c.args.app < length c.args.self.now.handles.apps = subst (λ (n : ℕ). c.args.app < n) (sym c.have_handles.ensures) c.requires in
    closing_took_item c.args.self.now c.take_into.new.self c.args.app within (put c.take_into.result c.take_into.new.item) c.take_into.ensures.taken

pub returns-clause-none : goal.returns-clause-none
returns-clause-none g c = closing_took_none c.args.self.now c.take_into.new.self c.args.app (put c.take_into.result c.take_into.new.item) c.take_into.ensures.none

pub returns-clause-empty : goal.returns-clause-empty
returns-clause-empty g c =
    let within : c.args.app < length c.args.self.now.handles.apps = subst (λ (n : ℕ). c.args.app < n) (sym c.have_handles.ensures) c.requires in
    closing_empty c.args.self.now c.take_into.new.self c.args.app within (put c.take_into.result c.take_into.new.item) c.take_into.ensures.none

pub returns-clause-given : goal.returns-clause-given
returns-clause-given g c = empty_now c.args.self.now c.take_into.new.self c.args.app (put c.take_into.result c.take_into.new.item) c.take_into.ensures.none c.take_into.ensures.empty

pub returns-clause-full : goal.returns-clause-full
returns-clause-full g c = closing_full c.args.self.now c.take_into.new.self c.args.app (put c.take_into.result c.take_into.new.item) c.take_into.ensures.taken

pub returns-clause-told : goal.returns-clause-told
returns-clause-told g c = closing_told c.args.self.now c.take_into.new.self c.args.app (put c.take_into.result c.take_into.new.item) c.take_into.ensures.taken c.take_into.ensures.none

pub returns-clause-rest : goal.returns-clause-rest
returns-clause-rest g c = closing_same c.args.self.now c.take_into.new.self c.args.app (put c.take_into.result c.take_into.new.item) c.take_into.ensures.taken c.take_into.ensures.none
