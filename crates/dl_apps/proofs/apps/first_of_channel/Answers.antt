use Rattle.std.proofs.Common.{◌≡◌, ℕ, List, Some, None, ap, sym, ◌∙◌}
use Rattle.std.specs.Prelude.{◌==◌, slice_get}
use Rattle.std.specs.List.{position}
use Rattle.std.specs.Map.{values_of}
use Rattle.std.specs.Option.{option_and_then, option_map}
use Rattle.dl_model.specs.Registry.{App}
use Rattle.dl_apps.proofs.Entries.{at_first_place, first_is_there}
use Rattle.dl_apps.proofs.apps.first_of_channel.Goals as goal

pub returns-in-Some-clause-first : goal.returns-in-Some-clause-first
returns-in-Some-clause-first c =
    let es = c.args.apps.now.entries in
    let at : position (λ (app : App). app.channel == c.args.channel) (values_of es) ≡ Some c.in-Some.place = sym c.first_place.ensures ∙ c.in-Some.is in
    c.id_at.ensures.id
    ∙ ap (option_map (λ (entry : List ℕ × App). entry.0)) (ap (option_and_then (slice_get es)) (sym at) ∙ at_first_place (λ (app : App). app.channel == c.args.channel) es)

pub returns-in-Some-clause-there : goal.returns-in-Some-clause-there
returns-in-Some-clause-there c =
    let es = c.args.apps.now.entries in
    first_is_there c.args.channel es c.in-Some.place c.id_at.result (sym c.first_place.ensures ∙ c.in-Some.is) c.id_at.ensures.id c.id_at.ensures.leads

pub returns-in-None-clause-first : goal.returns-in-None-clause-first
returns-in-None-clause-first c =
    let es = c.args.apps.now.entries in
    let at : position (λ (app : App). app.channel == c.args.channel) (values_of es) ≡ None = sym c.first_place.ensures ∙ c.in-None.is in
    ap (option_map (λ (entry : List ℕ × App). entry.0)) (ap (option_and_then (slice_get es)) (sym at) ∙ at_first_place (λ (app : App). app.channel == c.args.channel) es)
