use Rattle.std.proofs.Common.{Bool, refl, sym, ap, subst, ◌∙◌}
use Rattle.std.specs.Prelude.{◌||◌}
use Rattle.dl_outside.specs.Told.{NetTold}
use Rattle.dl_loop.specs.Later.{GoesRound}
use Rattle.dl_loop.specs.Scene.{scene}
use Rattle.dl_loop.proofs.GoneRounds.{goes_accepts, goes_both, goes_hears, goes_pumps}
use Rattle.dl_loop.proofs.RestedNets.{rested_so}
use Rattle.dl_loop.proofs.SeenDaemons.{accepts_then}
use Rattle.dl_loop.proofs.daemon.Daemon.serve_all.Goals as goal

pub returns-clause-serves : goal.returns-clause-serves
returns-clause-serves g c =
    let rest = c.rest_if_idle-moved.ensures in (
      record {
        came = c.accept-came.result;
        answers = c.answer_of-answer.ensures;
        accepted = c.accept-came.new.self;
        accepts = accepts_then g.L.Link.told c.accept-came.result _ _ _ c.args.self.now c.accept-came.new.self (sym (rested_so g.N.Net.told _ _ _ rest.rests rest.leaves)) c.accept-came.ensures;
        heard = scene c.listen-heard.new.self (g.F.Folder.told c.listen-heard.new.folder);
        hears = (c.listen-heard.result, c.listen-heard.ensures);
        taken = scene c.take_all-taken.new.self (g.F.Folder.told c.take_all-taken.new.folder);
        takes = c.take_all-taken.ensures.takes;
        pumps = (c.pump-sent.result, c.pump-sent.ensures);
        folder = refl;
      },
      rest.answer ∙ ap (λ (b : Bool). c.answer_of-answer.result.accepted || c.listen-heard.result || b || c.pump-sent.result) c.take_all-taken.ensures.moved,
    )

pub returns-clause-goes : goal.returns-clause-goes
returns-clause-goes g c =
    let told = g.L.Link.told in
    let n0 = g.N.Net.told c.args.net.now in
    let n1 = g.N.Net.told c.accept-came.new.net in
    let f0 = g.F.Folder.told c.args.folder.now in
    let f1 = g.F.Folder.told c.listen-heard.new.folder in
    let f2 = g.F.Folder.told c.take_all-taken.new.folder in
    let d0 = c.args.self.now in
    let d1 = c.accept-came.new.self in
    let d2 = c.listen-heard.new.self in
    let d3 = c.take_all-taken.new.self in
    let d4 = c.pump-sent.new.self in
    let events = c.a_round_is_its_events.ensures in
    subst (λ (n : NetTold g.row.L.Denot). GoesRound n0 n (scene d0 f0) (scene d4 f2)) (sym (rested_so g.N.Net.told _ _ _ c.rest_if_idle-moved.ensures.rests c.rest_if_idle-moved.ensures.leaves))
    (goes_both n0 n1 n1 (scene d0 f0) (scene d1 f0) (scene d4 f2) (goes_accepts told n0 d0 c.is_daemon.ensures c.accept-came.result n1 f0 d1 c.accept-came.ensures)
    (goes_both n1 n1 n1 (scene d1 f0) (scene d2 f1) (scene d4 f2) (goes_hears told n1 d1 c.is_daemon-2.ensures events.heard c.listen-heard.result f0 f1 d2 c.listen-heard.ensures)
    (goes_both n1 n1 n1 (scene d2 f1) (scene d3 f2) (scene d4 f2) (c.take_all-taken.ensures.goes n1) (goes_pumps told n1 d3 c.is_daemon-3.ensures c.what_links_take.ensures events.pumped c.pump-sent.result f2 d4 c.pump-sent.ensures))))
