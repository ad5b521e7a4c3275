use Rattle.std.proofs.Common.{◌≡◌, ℕ, List, Some, ap, sym, ◌∙◌}
use Rattle.std.specs.Prelude.{slice_get}
use Rattle.std.specs.Option.{option_map}
use Rattle.std.proofs.lemmas.Option.{slice_get-map}
use Rattle.dl_model.specs.Registry.{App, releveled_app}
use Rattle.dl_apps.specs.Change.{relevel_of}
use Rattle.dl_apps.proofs.Entries.{changed_at}
use Rattle.dl_apps.proofs.apps.relevel_at.Goals as goal

pub returns-in-Some-get_index_mut : goal.returns-in-Some-get_index_mut
returns-in-Some-get_index_mut c =
    let entry : slice_get c.args.apps.now.entries c.args.place ≡ Some (c.in-Some.apid.now, c.in-Some.field-0-1.now) = sym c.in-Some.ensures.entry in
    let value : Some c.in-Some-get_index_mut.app.now ≡ Some c.in-Some.field-0-1.now =
    c.in-Some-get_index_mut.ensures.value ∙ (slice_get-map (λ (e : List ℕ × App). e.1) c.args.apps.now.entries c.args.place ∙ ap (option_map (λ (e : List ℕ × App). e.1)) entry) in
    let same : c.in-Some-get_index_mut.app.now ≡ c.in-Some.field-0-1.now = cc value in
    changed_at (releveled_app (relevel_of c.args.levels.now)) c.args.apps.now.entries c.args.place (c.in-Some.apid.now, c.in-Some-get_index_mut.app.now) _
    (entry ∙ ap (λ (v : App). Some (c.in-Some.apid.now, v)) (sym same))
    (ap (λ (a : App). (c.in-Some.apid.now, a)) (sym c.relevel.ensures))
