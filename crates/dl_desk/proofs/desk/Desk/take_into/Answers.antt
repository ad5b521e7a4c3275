use Rattle.std.proofs.Common.{subst}
use Rattle.dl_ring.specs.Items.{took as put}
use Rattle.dl_desk.specs.DeskInside.{desk_state}
use Rattle.dl_desk.specs.Made.{IsLater}
use Rattle.dl_desk.specs.State.{DeskState}
use Rattle.dl_desk.proofs.Desks.{took}
use Rattle.dl_desk.proofs.desk.Desk.take_into.Goals as goal

pub invariant_of-self : goal.invariant_of-self
invariant_of-self g c = (took (desk_state c.self.inside) c.self.invariant c.args.app (put c.take_into.result c.take_into.new.item) c.take_into.new.self c.take_into.ensures.taken c.take_into.ensures.none).0

pub returns-clause-later : goal.returns-clause-later
returns-clause-later g c =
    let old = desk_state c.self.inside in
    subst (λ (s : DeskState). IsLater s (record old { handles = c.take_into.new.self })) c.self.view_is
    (took old c.self.invariant c.args.app (put c.take_into.result c.take_into.new.item) c.take_into.new.self c.take_into.ensures.taken c.take_into.ensures.none).1
