use Rattle.std.proofs.Common.{◌≡◌, ℕ, List, Some, ap, sym, ◌∙◌}
use Rattle.std.specs.Prelude.{slice_get}
use Rattle.std.specs.Option.{option_map}
use Rattle.std.proofs.lemmas.Option.{slice_get-map}
use Rattle.dl_model.specs.declared.context.Context.{Context}
use Rattle.dl_model.specs.Registry.{releveled_context}
use Rattle.dl_apps.specs.Change.{relevel_of}
use Rattle.dl_apps.proofs.Entries.{changed_at}
use Rattle.dl_apps.proofs.application.relevel_at.Goals as goal

pub returns-in-Some-get_index_mut-clause-levels : goal.returns-in-Some-get_index_mut-clause-levels
returns-in-Some-get_index_mut-clause-levels c =
    let entry : slice_get c.args.contexts.now.entries c.args.place ≡ Some (c.in-Some.ctid.now, c.in-Some.field-0-1.now) = sym c.in-Some.ensures.entry in
    let value : Some c.in-Some-get_index_mut.context.now ≡ Some c.in-Some.field-0-1.now =
    c.in-Some-get_index_mut.ensures.value ∙ (slice_get-map (λ (e : List ℕ × Context). e.1) c.args.contexts.now.entries c.args.place ∙ ap (option_map (λ (e : List ℕ × Context). e.1)) entry) in
    let same : c.in-Some-get_index_mut.context.now ≡ c.in-Some.field-0-1.now = cc value in
    changed_at (releveled_context (relevel_of c.args.levels.now) c.args.apid) c.args.contexts.now.entries c.args.place (c.in-Some.ctid.now, c.in-Some-get_index_mut.context.now) _
    (entry ∙ ap (λ (v : Context). Some (c.in-Some.ctid.now, v)) (sym same))
    (ap (λ o. (c.in-Some.ctid.now, record c.in-Some-get_index_mut.context.now { own = o })) (sym c.own-context.ensures))
