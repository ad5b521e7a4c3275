use Rattle.std.proofs.Common.{inl, refl}
use Rattle.dl_loop.proofs.SeenDaemons.{accepts_seen}
use Rattle.dl_loop.proofs.daemon.Daemon.accept.Goals as goal

pub invariant_of-self : goal.invariant_of-self
invariant_of-self g c =
    let made = c.accept_one-came.ensures in
    c.a_daemon_goes_on.ensures.accepted c.accept_one-came.result _ _ _ _ c.self.invariant (record {
      arrives = made.arrives;
      connects = made.connects;
      listens = made.listens;
      launched = made.launched;
      failed = c.is_failure-self-inside.ensures;
      wanted = c.is_want-self-inside.ensures;
      linked = made.linked;
      heard = made.heard _ _ c.self.invariant.heard;
      spare = made.spare;
      unused = made.unused;
      rest = refl;
    })

pub returns : goal.returns
returns g c =
    let made = c.accept_one-came.ensures in
    accepts_seen g.L.Link.told _ _ _ c.self.view_is c.accept_one-came.result _ _ (inl (
      c.if-self.false,
      c.if-self-2.false,
      record {
        arrives = made.arrives;
        connects = made.connects;
        listens = made.listens;
        launched = made.launched;
        failed = c.is_failure-self-inside.ensures;
        wanted = c.is_want-self-inside.ensures;
        linked = made.linked;
        heard = made.heard _ _ c.self.invariant.heard;
        spare = made.spare;
        unused = made.unused;
        rest = refl;
      },
    ))
