use Rattle.std.proofs.Common.{◌≡◌, ℕ, List, Some, None, ap, sym, ◌∙◌}
use Rattle.std.specs.Prelude.{◌==◌, slice_get}
use Rattle.std.specs.List.{position}
use Rattle.std.specs.Map.{values_of}
use Rattle.std.specs.Option.{option_and_then, option_map}
use Rattle.dl_model.specs.Registry.{App}
use Rattle.dl_apps.proofs.Entries.{at_first_place}
use Rattle.dl_apps.proofs.apps.apid_numbered.Goals as goal

pub returns-in-Some : goal.returns-in-Some
returns-in-Some c =
    let es = c.args.apps.now.entries in
    let at : position (λ (app : App). app.number == c.args.number) (values_of es) ≡ Some c.in-Some.place = sym c.place_numbered.ensures ∙ c.in-Some.is in
    c.id_at.ensures.id
    ∙ ap (option_map (λ (entry : List ℕ × App). entry.0)) (ap (option_and_then (slice_get es)) (sym at) ∙ at_first_place (λ (app : App). app.number == c.args.number) es)

pub returns-in-None : goal.returns-in-None
returns-in-None c =
    let es = c.args.apps.now.entries in
    let at : position (λ (app : App). app.number == c.args.number) (values_of es) ≡ None = sym c.place_numbered.ensures ∙ c.in-None.is in
    ap (option_map (λ (entry : List ℕ × App). entry.0)) (ap (option_and_then (slice_get es)) (sym at) ∙ at_first_place (λ (app : App). app.number == c.args.number) es)
