use Rattle.std.proofs.Common.{refl}
use Rattle.dl_sessions.specs.declared.follower.Follower.{Follower}
use Rattle.dl_sessions.proofs.Following.{closed}
use Rattle.dl_sessions.proofs.follower.Follower.close.Goals as goal

pub returns : goal.returns
returns c = λ before bytes follows.
    let old = c.args.self.now in
    let new : Follower = record old { held = c.clear.new.self } in
    closed before bytes old.held.items old new follows refl c.clear.ensures.items
