use Rattle.std.proofs.Common.{◌≡◌, ◌+◌, ◌++◌, ◌∷◌, [], List, take, drop, refl, sym, ap, subst, ◌∙◌, arith}
use Rattle.std.specs.List.{AllByRecursion, sum_by}
use Rattle.std.proofs.lemmas.List.Sums.{sum_by-cons}
use Rattle.dl_lemmas.proofs.Lists.{item_here}
use Rattle.dl_bytes.specs.declared.user.UserMsg.{UserMsg}
use Rattle.dl_turns.specs.State.{Side, side}
use Rattle.dl_rounds.specs.Greetings.{GreetsEach, GreetsFirst, IsRegistration, apps_in}
use Rattle.dl_rounds.proofs.GreetedAll.{each_one, first_of, introduced, on_err}
use Rattle.dl_rounds.proofs.greeting.greet_app.Goals as goal

pub loop-msg-init : goal.loop-msg-init
loop-msg-init g c =
    let is = introduced c.args.app.now c.requires.introduced in
    record {
      greets = refl;
      others = is.0;
      may = c.requires.may;
      place = omega (arith, is.1);
      apps = refl;
      spare = omega arith;
      same = g.met.D.WriterControl.rest_refl c.args.desk.now;
    }

pub returns-in_err-greet_one-clause-first : goal.returns-in_err-greet_one-clause-first
returns-in_err-greet_one-clause-first g c =
    let was = c.loop-msg in
    let same = c.in_err-greet_one.ensures.unnoted in
    let start : Side = side c.args.core.now (g.D.WriterControl.told c.args.desk.now) (g.J.Journal.events c.args.journal.now) (g.F.Folder.told c.args.folder.now) in
    let done = first_of c.args.moment c.args.app.now.hello was.msg-index start _ was.invariant.greets in
    on_err _ c.from_residual.result (subst (λ (s : Side). GreetsFirst c.args.moment c.args.app.now.hello start s) (sym (λ i. side (same.0 i) (same.1 i) (same.2 i) (g.F.Folder.told (same.3 i)))) done)

pub loop-msg-preserved : goal.loop-msg-preserved
loop-msg-preserved g c =
    let was = c.loop-msg in
    let now = c.greet_one.new in
    let so = was.invariant in
    let k = was.msg-index in
    let hello = c.args.app.now.hello in
    let msg = c.msg-item.result in
    let here = subst (λ (xs : List UserMsg). (take (k + 1) xs ≡ take k xs ++ msg ∷ []) × (drop k xs ≡ msg ∷ drop (k + 1) xs)) c.hello-msg-items.ensures.value
    (item_here c.hello-msg-items.result.now k msg c.loop-msg-test.true c.msg-item.is) in
    let start : Side = side c.args.core.now (g.D.WriterControl.told c.args.desk.now) (g.J.Journal.events c.args.journal.now) (g.F.Folder.told c.args.folder.now) in
    let between : Side = side was.core (g.D.WriterControl.told was.desk) (g.J.Journal.events was.journal) (g.F.Folder.told was.folder) in
    let new : Side = side now.core (g.D.WriterControl.told now.desk) (g.J.Journal.events now.journal) (g.F.Folder.told now.folder) in
    record {
      greets = subst (λ (xs : List UserMsg). GreetsEach c.args.moment xs start new) (sym here.0) (each_one c.args.moment (take k hello) msg start between new so.greets c.in_ok-greet_one.ensures.greets);
      others = (subst (λ (xs : List UserMsg). AllByRecursion IsRegistration xs) here.1 so.others).1;
      may = c.greet_one.ensures.may;
      place = omega (arith, so.place, ap (λ (xs : List UserMsg). sum_by apps_in xs) here.1, sum_by-cons apps_in msg (drop (k + 1) hello), c.greet_one.ensures.place);
      apps = c.greet_one.ensures.apps ∙ so.apps;
      spare = omega (arith, so.spare, c.greet_one.ensures.spare);
      same = g.met.D.WriterControl.rest_trans c.args.desk.now was.desk now.desk so.same c.greet_one.ensures.rest;
    }
