use Rattle.std.proofs.Common.{◌≡◌, ◌⊎◌, inl, inr, refl, Bool, true, false, ◌+◌, ◌∙◌}
use Rattle.dl_loop.specs.Coming.{TellsAccept, came_in}
use Rattle.dl_loop.specs.Scene.{scene}
use Rattle.dl_live.proofs.workers.rounds.Goals as goal

pub round-wanted-requires : goal.round-wanted-requires
round-wanted-requires g c = record { greeted = c.loop-round.invariant.0.goes.greeted ∙ c.requires.greeted }

pub loop-round-preserved : goal.loop-round-preserved
loop-round-preserved g c =
    let first = scene c.args.daemon.now (g.F.Folder.told c.args.folder.now) in
    let was = scene c.loop-round.daemon (g.F.Folder.told c.loop-round.folder) in
    let now = scene c.round-wanted.new.self (g.F.Folder.told c.round-wanted.new.folder) in
    let net = g.N.Net.told c.args.net.now in
    let between = g.N.Net.told c.loop-round.net in
    let last = g.N.Net.told c.round-wanted.new.net in
    let tells = c.what_an_answer_tells.ensures.tells c.round-wanted.result between last was now c.round-wanted.ensures.round in (
      record {
        goes = c.rounds_go_on.ensures.both net between last first was now c.loop-round.invariant.0.goes c.round-wanted.ensures.goes;
        came = c.loop-round.invariant.0.came + came_in c.round-wanted.result;
        come = c.connections_add_up.ensures.both c.loop-round.invariant.0.came (came_in c.round-wanted.result) net between last c.args.daemon.now c.loop-round.daemon c.round-wanted.new.self
            c.loop-round.invariant.0.come (c.what_an_answer_tells.ensures.came c.round-wanted.result between last was now c.round-wanted.ensures.round);
      },
      record {
        wanted_so = tells.wanted;
        none = λ none old. none_wanted c.round-wanted.result.failed none refl tells;
      },
    ) where
      none_wanted : (failed : Bool) → c.round-wanted.result.wanted ≡ false → c.round-wanted.result.failed ≡ failed
          → TellsAccept c.round-wanted.result (g.N.Net.told c.loop-round.net) (g.N.Net.told c.round-wanted.new.net) c.round-wanted.new.self
          → (c.round-wanted.new.self.failed ≡ true) ⊎ (c.round-wanted.new.self.wanted ≡ false)
      none_wanted true none failed tells = inl (tells.failed failed)
      none_wanted false none well tells = inr (tells.well well none).1
