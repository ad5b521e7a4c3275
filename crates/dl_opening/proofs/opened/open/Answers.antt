use Rattle.std.proofs.Common.{◌≤◌, List, sym, ap, ◌∙◌, subst, arith}
use Rattle.dl_bytes.specs.declared.conf.AppSpec.{AppSpec}
use Rattle.dl_script_model.specs.declared.scenario.ScenarioLine.{ScenarioLine}
use Rattle.dl_desk.specs.Made.{AreFit}
use Rattle.dl_opening.specs.Opening.{HasRoomFor}
use Rattle.dl_opening.specs.Scenario.{clients, specs_of}
use Rattle.dl_opening.proofs.Runnable.{are_fit, few_clients, room_for}
use Rattle.dl_opening.proofs.opened.open.Goals as goal

pub make-requires : goal.make-requires
make-requires c =
    subst (λ (specs : List AppSpec). AreFit specs) (sym (c.as_slice.ensures.value ∙ c.in_ok-specs.ensures ∙ ap specs_of c.all-lines.ensures)) (are_fit c.args.scenario c.requires)

pub books-requires-clause-few : goal.books-requires-clause-few
books-requires-clause-few c = subst (λ (lines : List ScenarioLine). HasRoomFor lines) (sym c.all-lines.ensures) (room_for c.args.scenario c.requires)

pub scripts-requires : goal.scripts-requires
scripts-requires c =
    let few = subst (λ (lines : List ScenarioLine). clients lines ≤ 32) (sym c.all-lines.ensures) (few_clients c.args.scenario c.requires) in
    omega (arith, few)
