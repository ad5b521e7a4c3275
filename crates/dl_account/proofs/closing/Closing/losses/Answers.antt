use Rattle.dl_account.specs.ClosingInside.{closing_state}
use Rattle.dl_account.proofs.Stepping.{reports}
use Rattle.dl_account.proofs.closing.Closing.losses.Goals as goal

pub invariant_of-self : goal.invariant_of-self
invariant_of-self c =
    let i = c.self.inside in
    reports (closing_state i) i.items i.losses i.injected.items i.entries c.self.invariant c.args.app c.from.result c.losses.result c.losses.new.self c.from.ensures c.losses.ensures.reported c.losses.ensures.all
