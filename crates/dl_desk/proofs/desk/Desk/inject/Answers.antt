use Rattle.std.proofs.Common.{subst}
use Rattle.dl_desk.specs.DeskInside.{desk_state}
use Rattle.dl_desk.specs.Made.{IsLater}
use Rattle.dl_desk.specs.State.{DeskState}
use Rattle.dl_desk.proofs.Desks.{injected}
use Rattle.dl_desk.proofs.desk.Desk.inject.Goals as goal

pub invariant_of-self : goal.invariant_of-self
invariant_of-self g c = (injected (desk_state c.self.inside) c.self.invariant c.args.app c.inject.result c.args.item c.inject.new.self c.inject.ensures.pushed c.inject.ensures.refused).0

pub returns-clause-later : goal.returns-clause-later
returns-clause-later g c =
    let old = desk_state c.self.inside in
    subst (λ (s : DeskState). IsLater s (record old { handles = c.inject.new.self })) c.self.view_is
    (injected old c.self.invariant c.args.app c.inject.result c.args.item c.inject.new.self c.inject.ensures.pushed c.inject.ensures.refused).1
