use Rattle.dl_account.specs.ClosingInside.{closing_state}
use Rattle.dl_account.proofs.Stepping.{sets}
use Rattle.dl_account.proofs.closing.Closing.set.Goals as goal

pub invariant_of-self : goal.invariant_of-self
invariant_of-self c =
    let i = c.self.inside in
    sets (closing_state i) i.items i.losses i.injected.items i.entries c.self.invariant c.set.result c.args.slot c.args.level c.set.new.self c.set.ensures.set c.set.ensures.kept
