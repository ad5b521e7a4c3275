use Rattle.std.proofs.Common.{◌≡◌, ◌++◌, List, [], length, drop, sym, ap, ◌∙◌, append-nil, arith}
use Rattle.std.proofs.lemmas.List.{drop_all, length-map}
use Rattle.dl_bytes.specs.Context.{Context}
use Rattle.dl_script_model.specs.declared.line.AppLine.{AppLine}
use Rattle.dl_desk.specs.Apps.{AppState}
use Rattle.dl_opening.specs.Scenario.{apps, handles_from, spec_of}
use Rattle.dl_opening.proofs.Declared.{all_opened, apps_more, few_places, given_is, handles_more, many_opened, none_opened, spec_at}
use Rattle.dl_opening.proofs.applications.contexts.Goals as goal
use Rattle.dl_lemmas.proofs.Lists.{there}

pub loop-place-init : goal.loop-place-init
loop-place-init c = record {
  handles = ap (λ (l : List Context). l ++ handles_from c.args.lines.now 0 (apps c.args.lines.now)) c.new-contexts.ensures.items;
  apps = c.requires.new ∙ sym (none_opened c.args.lines.now 0 (apps c.args.lines.now));
}

pub bounds-specs-place : goal.bounds-specs-place
bounds-specs-place c =
    let many = few_places c.args.lines.now c.args.list.now c.requires.new in
    let specs = ap length c.requires.specs ∙ length-map (apps c.args.lines.now) spec_of in
    omega (arith, many, specs, c.loop-place-test.true, c.len-place-end.ensures)

pub bounds-specs-place-in-loop-place : goal.bounds-specs-place-in-loop-place
bounds-specs-place-in-loop-place c =
    let many = few_places c.args.lines.now c.args.list.now c.requires.new in
    let specs = ap length c.requires.specs ∙ length-map (apps c.args.lines.now) spec_of in
    omega (arith, many, specs, c.loop-place-test.true, c.len-place-end.ensures)

pub of_mut-requires : goal.of_mut-requires
of_mut-requires c =
    let many = few_places c.args.lines.now c.args.list.now c.requires.new in
    let now = ap length c.loop-place.invariant.apps ∙ many_opened c.args.lines.now 0 c.loop-place.place (apps c.args.lines.now) in
    omega (arith, many, now, c.loop-place-test.true, c.len-place-end.ensures)

pub declare-requires-clause-own : goal.declare-requires-clause-own
declare-requires-clause-own c =
    let lines = c.args.lines.now in
    let place = c.loop-place.place in
    let many = few_places lines c.args.list.now c.requires.new in
    let app = there (apps lines) place (omega (arith, many, c.loop-place-test.true, c.len-place-end.ensures)) in
    let given = given_is lines place app.0 app.1 c.loop-place.list c.of_mut.result.now c.loop-place.invariant.apps c.of_mut.ensures.value in
    ap (λ (a : AppState). a.apid) given ∙ sym (spec_at lines place app.0 app.1 c.args.specs.now c.index-specs-place.result c.requires.specs)

pub declare-requires-clause-some : goal.declare-requires-clause-some
declare-requires-clause-some c =
    let lines = c.args.lines.now in
    let place = c.loop-place.place in
    let many = few_places lines c.args.list.now c.requires.new in
    let app = there (apps lines) place (omega (arith, many, c.loop-place-test.true, c.len-place-end.ensures)) in
    let given = given_is lines place app.0 app.1 c.loop-place.list c.of_mut.result.now c.loop-place.invariant.apps c.of_mut.ensures.value in
    let one = ap (λ (a : AppState). length a.hello) given in
    omega (arith, one)

pub loop-place-preserved : goal.loop-place-preserved
loop-place-preserved c =
    let lines = c.args.lines.now in
    let l = c.loop-place in
    let many = few_places lines c.args.list.now c.requires.new in
    let app = there (apps lines) l.place (omega (arith, many, c.loop-place-test.true, c.len-place-end.ensures)) in
    let given = given_is lines l.place app.0 app.1 l.list c.of_mut.result.now l.invariant.apps c.of_mut.ensures.value in
    let named = spec_at lines l.place app.0 app.1 c.args.specs.now c.index-specs-place.result c.requires.specs in
    record {
      handles = handles_more lines l.place app.0 app.1 c.of_mut.result.now _ l.contexts.items c.declare.new.contexts.items given named c.in_ok-declare.ensures.handles l.invariant.handles;
      apps = apps_more lines l.place app.0 app.1 c.of_mut.result.now c.declare.new.app _ l.list given named c.in_ok-declare.ensures.hello l.invariant.apps;
    }

pub returns-clause-handles : goal.returns-clause-handles
returns-clause-handles c =
    let lines = c.args.lines.now in
    let l = c.loop-place in
    let many = few_places lines c.args.list.now c.requires.new in
    let none : drop l.place (apps lines) ≡ [] = drop_all l.place (apps lines) (omega (arith, many, c.loop-place-test.false, c.len-place-end.ensures)) in
    sym (append-nil l.contexts.items) ∙ ap (λ (rest : List AppLine). l.contexts.items ++ handles_from lines l.place rest) (sym none) ∙ l.invariant.handles

pub returns-clause-apps : goal.returns-clause-apps
returns-clause-apps c =
    let lines = c.args.lines.now in
    let l = c.loop-place in
    let many = few_places lines c.args.list.now c.requires.new in
    l.invariant.apps ∙ all_opened lines 0 (apps lines) l.place (omega (arith, many, c.loop-place-test.false, c.len-place-end.ensures, l.auto.place-end))
