use Rattle.std.proofs.Common.{◌++◌, sym, subst}
use Rattle.dl_world.specs.Fed.{IsFedBy}
use Rattle.dl_world.specs.State.{Client}
use Rattle.dl_world.proofs.clients.Client.cut.Goals as goal

pub returns-clause-asks : goal.returns-clause-asks
returns-clause-asks c = λ stream fed.
    let before = subst (λ (client : Client). IsFedBy stream client.cutter) (sym c.self.view_is) fed in
    let behind = c.in_ok-feed.ensures.fed stream before in
    record {
      fed = c.is_bad.ensures.stands (stream ++ c.args.bytes.now) behind;
      asked = c.in_ok-feed.ensures.asks stream before;
      bad_is = c.is_bad.ensures.bad (stream ++ c.args.bytes.now) behind;
    }
