use Rattle.std.proofs.Common.{◌∙◌, arith}
use Rattle.dl_rounds.proofs.GreetedAll.{hello_first, hello_one, on_err}
use Rattle.dl_rounds.proofs.greeting.greet.Goals as goal

pub returns-in_err-greet_app-clause-first : goal.returns-in_err-greet_app-clause-first
returns-in_err-greet_app-clause-first g c =
    let was = c.loop-place in
    on_err _ c.from_residual.result (hello_first c.args.moment c.args.apps.now was.place c.of.result.now _ _ _ c.of.ensures was.invariant.greets c.in_err-greet_app.ensures.first)

pub loop-place-preserved : goal.loop-place-preserved
loop-place-preserved g c =
    let was = c.loop-place in
    let now = c.greet_app.new in
    let so = was.invariant in
    record {
      greets = hello_one c.args.moment c.args.apps.now was.place c.of.result.now _ _ _ c.of.ensures so.greets c.in_ok-greet_app.ensures.greets;
      may = c.greet_app.ensures.may;
      place = omega (arith, so.place, c.greet_app.ensures.place);
      apps = c.greet_app.ensures.apps ∙ so.apps;
      spare = omega (arith, so.spare, c.greet_app.ensures.spare);
      same = g.met.D.WriterControl.rest_trans c.args.desk.now was.desk now.desk so.same c.greet_app.ensures.rest;
    }
