use Rattle.std.proofs.Common.{◌≡◌, ℕ, ◌+◌, ◌-◌, ◌<◌, arith, List, length, refl, sym, ap, subst, ◌∙◌}
use Rattle.dl_bytes.specs.declared.conf.AppSpec.{AppSpec}
use Rattle.dl_loop.specs.Scene.{scene}
use Rattle.dl_loop.specs.State.{DaemonState}
use Rattle.dl_loop.specs.Takes.{TakesTurns}
use Rattle.dl_loop.proofs.GoneRounds.{goes_both, goes_none, goes_losses}
use Rattle.dl_loop.proofs.TakesCounted.{none_taken, still_taken}
use Rattle.dl_loop.proofs.TakesTurned.{calls_same, turn_same, turns_next}
use Rattle.dl_loop.proofs.daemon.Daemon.take_all.Goals as goal

pub take_calls-calls-requires-clause-app : goal.take_calls-calls-requires-clause-app
take_calls-calls-requires-clause-app g c =
    subst (λ (specs : List AppSpec). c.loop-app.app < length specs) (c.apps.ensures ∙ ap (λ (d : DaemonState g.row.L.Denot). d.desk.apps) c.self.view_is ∙ sym c.loop-app.invariant.apps) c.loop-app-test.true

pub take_losses-losses-requires-clause-app : goal.take_losses-losses-requires-clause-app
take_losses-losses-requires-clause-app g c =
    let was = scene c.loop-app.self (g.F.Folder.told c.loop-app.folder) in
    let mid = scene c.take_calls-calls.new.self (g.F.Folder.told c.take_calls-calls.new.folder) in
    let one = calls_same c.loop-app.app was mid c.take_calls-calls.ensures.takes in
    subst (λ (specs : List AppSpec). c.loop-app.app < length specs) (c.apps.ensures ∙ ap (λ (d : DaemonState g.row.L.Denot). d.desk.apps) c.self.view_is ∙ sym (one.apps ∙ c.loop-app.invariant.apps)) c.loop-app-test.true

pub take_losses-losses-requires-clause-greeted : goal.take_losses-losses-requires-clause-greeted
take_losses-losses-requires-clause-greeted g c =
    let was = scene c.loop-app.self (g.F.Folder.told c.loop-app.folder) in
    let mid = scene c.take_calls-calls.new.self (g.F.Folder.told c.take_calls-calls.new.folder) in
    (calls_same c.loop-app.app was mid c.take_calls-calls.ensures.takes).greeted ∙ c.loop-app.invariant.greeted

pub loop-app-preserved : goal.loop-app-preserved
loop-app-preserved g c =
    let was = scene c.loop-app.self (g.F.Folder.told c.loop-app.folder) in
    let mid = scene c.take_calls-calls.new.self (g.F.Folder.told c.take_calls-calls.new.folder) in
    let now = scene c.take_losses-losses.new.self (g.F.Folder.told c.take_losses-losses.new.folder) in
    let calls = c.take_calls-calls.ensures.takes in
    let losses = c.take_losses-losses.ensures.takes in
    let so = c.loop-app.invariant in
    let within : c.loop-app.app < length c.args.self.now.desk.apps =
    subst (λ (specs : List AppSpec). c.loop-app.app < length specs) (c.apps.ensures ∙ ap (λ (d : DaemonState g.row.L.Denot). d.desk.apps) c.self.view_is) c.loop-app-test.true in
    let one = calls_same c.loop-app.app was mid calls in
    let then : c.loop-app.app < length c.take_calls-calls.new.self.desk.apps = subst (λ (specs : List AppSpec). c.loop-app.app < length specs) (sym (one.apps ∙ so.apps)) within in
    let turn = turn_same c.loop-app.app was mid now calls losses in record {
      behind = λ end rest. so.behind end (turns_next c.loop-app.app was mid now calls losses (length c.args.self.now.desk.apps) end within rest);
      goes = λ net. goes_both net net net (scene c.args.self.now (g.F.Folder.told c.args.folder.now)) was now (so.goes net)
          (goes_both net net net was mid now (c.take_calls-calls.ensures.goes net)
          (goes_losses g.L.Link.told net c.take_calls-calls.new.self c.is_daemon.ensures c.loop-app.app (g.F.Folder.told c.take_calls-calls.new.folder) (g.F.Folder.told c.take_losses-losses.new.folder)
          c.take_losses-losses.new.self (one.greeted ∙ so.greeted) then losses));
      apps = turn.apps ∙ so.apps;
      greeted = turn.greeted ∙ so.greeted;
      on = omega (arith, so.on, c.take_calls-calls.ensures.count, c.take_losses-losses.ensures.count);
      moved = still_taken (c.args.self.now.noted + c.args.self.now.claimed) (c.loop-app.self.noted + c.loop-app.self.claimed)
          (c.take_calls-calls.new.self.noted + c.take_calls-calls.new.self.claimed) (c.take_losses-losses.new.self.noted + c.take_losses-losses.new.self.claimed)
          c.take_calls-calls.result c.take_losses-losses.result c.loop-app.moved so.on so.moved c.take_calls-calls.ensures.count c.take_losses-losses.ensures.count;
    }

pub loop-app-init : goal.loop-app-init
loop-app-init g c =
    let first = scene c.args.self.now (g.F.Folder.told c.args.folder.now) in
    let all : length c.args.self.now.desk.apps - 0 ≡ length c.args.self.now.desk.apps = omega arith in
    let sum = c.args.self.now.noted + c.args.self.now.claimed in
    record {
      behind = λ end rest. subst (λ (n : ℕ). TakesTurns 0 n first end) all rest;
      goes = λ net. goes_none net first;
      apps = refl;
      greeted = c.requires.greeted;
      on = omega arith;
      moved = none_taken sum;
    }
