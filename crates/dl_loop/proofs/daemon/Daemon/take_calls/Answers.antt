use Rattle.std.proofs.Common.{◌≡◌, ℕ, ◌+◌, ◌<◌, Bool, false, List, [], ◌∷◌, length, refl, sym, ap, subst, ◌∙◌, arith}
use Rattle.dl_bytes.specs.declared.conf.AppSpec.{AppSpec}
use Rattle.dl_loop.specs.Scene.{scene}
use Rattle.dl_taking.specs.Takes.{found_none, gave}
use Rattle.dl_cells.specs.Views.{bit}
use Rattle.dl_loop.specs.Takes.{TakesOn, TakesSomeOf, is_over, most_of}
use Rattle.dl_loop.proofs.GoneRounds.{goes_both, goes_none, goes_some}
use Rattle.dl_loop.proofs.TakesTurned.{GoOn, go_on, some_same}
use Rattle.dl_loop.proofs.daemon.Daemon.take_calls.Goals as goal

pub loop-empty-init : goal.loop-empty-init
loop-empty-init g c = record {
  behind = λ end gots rest. (gots, rest);
  goes = λ net. goes_none net (scene c.args.self.now (g.F.Folder.told c.args.folder.now));
  apps = refl;
  greeted = c.requires.greeted;
  few = omega arith;
  count = omega arith;
}

pub take_some_of-got-requires-clause-app : goal.take_some_of-got-requires-clause-app
take_some_of-got-requires-clause-app g c = subst (λ (specs : List AppSpec). c.args.app < length specs) (sym c.loop-empty.invariant.apps) c.requires.app

pub take_some_of-got-requires-clause-calls : goal.take_some_of-got-requires-clause-calls
take_some_of-got-requires-clause-calls g c = omega (arith, c.most-most.ensures, c.is_daemon.ensures.room.few)

pub take_some_of-got-requires-clause-claims : goal.take_some_of-got-requires-clause-claims
take_some_of-got-requires-clause-claims g c =
    let so : GoOn c.loop-empty.done c.loop-empty.empty c.loop-empty.self = go_on c.loop-empty.done c.loop-empty.empty c.loop-empty.self (sym c.is_over.ensures ∙ c.loop-empty-test.true) in
    omega (arith, so.claims, c.is_daemon.ensures.room.few_claims)

pub loop-empty-preserved : goal.loop-empty-preserved
loop-empty-preserved g c =
    let so = c.loop-empty.invariant in
    let first = scene c.args.self.now (g.F.Folder.told c.args.folder.now) in
    let was = scene c.loop-empty.self (g.F.Folder.told c.loop-empty.folder) in
    let now = scene c.take_some_of-got.new.self (g.F.Folder.told c.take_some_of-got.new.folder) in
    let got = c.take_some_of-got.result in
    let most = c.most-most.result in
    let takes = c.take_some_of-got.ensures in
    let same = some_same c.args.app most got was now takes in
    let not_over : is_over c.loop-empty.done c.loop-empty.empty c.loop-empty.self ≡ false = sym c.is_over.ensures ∙ c.loop-empty-test.true in
    let on : GoOn c.loop-empty.done c.loop-empty.empty c.loop-empty.self = go_on c.loop-empty.done c.loop-empty.empty c.loop-empty.self not_over in
    let app : c.args.app < length c.loop-empty.self.desk.apps = subst (λ (specs : List AppSpec). c.args.app < length specs) (sym so.apps) c.requires.app in
    let found : c.found_none-empty.result ≡ found_none (most_of c.loop-empty.done c.loop-empty.self) got = c.found_none-empty.ensures ∙ ap (λ (n : ℕ). found_none n got) c.most-most.ensures in
    let given : c.gave-done.result ≡ got.calls + bit got.claimed = c.gave-done.ensures in
    record {
      behind = λ end gots rest. so.behind end (got ∷ gots) (
        not_over,
        now,
        subst (λ (n : ℕ). TakesSomeOf c.args.app n got was now) c.most-most.ensures takes,
        subst (λ (b : Bool). TakesOn c.args.app (c.loop-empty.done + gave got) b gots now end) found
            (subst (λ (n : ℕ). TakesOn c.args.app (c.loop-empty.done + n) c.found_none-empty.result gots now end) c.gave-done.ensures rest),
      );
      goes = λ net. goes_both net net net first was now (so.goes net)
          (goes_some g.L.Link.told net c.loop-empty.self c.is_daemon.ensures c.args.app most got (g.F.Folder.told c.loop-empty.folder) (g.F.Folder.told c.take_some_of-got.new.folder) c.take_some_of-got.new.self so.greeted app
          (omega (arith, c.most-most.ensures, c.is_daemon.ensures.room.few)) (omega (arith, on.claims, c.is_daemon.ensures.room.few_claims)) takes);
      apps = same.apps ∙ so.apps;
      greeted = same.greeted ∙ so.greeted;
      few = omega (arith, c.gave-done.ensures, takes.takes.few, c.most-most.ensures, so.few);
      count = omega (arith, takes.noted, takes.claimed, given, so.count);
    }

pub returns-clause-takes : goal.returns-clause-takes
returns-clause-takes g c =
    c.loop-empty.invariant.behind (scene c.loop-empty.self (g.F.Folder.told c.loop-empty.folder)) [] (sym c.is_over.ensures ∙ c.loop-empty-test.false, refl)
