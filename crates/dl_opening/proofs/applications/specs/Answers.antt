use Rattle.std.proofs.Common.{List, map, take, ◌++◌, sym, ap, ◌∙◌, refl}
use Rattle.std.specs.Option.{option_to_list}
use Rattle.std.proofs.lemmas.List.{map-append}
use Rattle.dl_bytes.specs.declared.conf.AppSpec.{AppSpec}
use Rattle.dl_opening.specs.Scenario.{app_in, apps, spec_of}
use Rattle.dl_opening.proofs.Taken.{filter_map_taken}
use Rattle.dl_opening.proofs.applications.specs.Goals as goal

pub loop-line-preserved : goal.loop-line-preserved
loop-line-preserved c =
    let l = c.loop-line in
    let line = c.line-item.result in
    c.in_ok-add_spec.ensures ∙ ap (λ (xs : List AppSpec). xs ++ map spec_of (option_to_list (app_in line))) l.invariant
    ∙ sym (ap (map spec_of) (filter_map_taken c.args.lines.now l.line-index line c.loop-line-test.true c.line-item.is app_in (app_in line) refl)
    ∙ map-append spec_of (apps (take l.line-index c.args.lines.now)) (option_to_list (app_in line)))
