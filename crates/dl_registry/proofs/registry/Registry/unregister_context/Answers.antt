use Rattle.std.proofs.Common.{◌≡◌, ℕ, List, cond, false, not, Option, Some, None, Result, Ok, Err, IfSome, IsOk, ap, subst, sym, ◌∙◌, refl, rules}
use Rattle.std.specs.Map.{lookup, remove_entry, set_value}
use Rattle.std.specs.Option.{option_and_then, option_map_or}
use Rattle.std.specs.Str.{bytes_eq}
use Rattle.dl_model.specs.declared.context.Context.{Context}
use Rattle.dl_model.specs.declared.registry.RegistryFault.{RegistryFault}
use Rattle.dl_model.specs.declared.registry.RegistryFault.TheVariants as fault
use Rattle.dl_model.specs.Registry.{App, Registry, app_of, context_of, context_unregistered, for_app, with_app, without}
use Rattle.dl_model.proofs.Order.{app_of_found}
use Rattle.dl_apps.specs.Change.{without_context}
use Rattle.dl_registry.specs.Kept.{Kept, Applies, Fits, kept_of}
use Rattle.dl_registry.specs.Refresh.{has_slot}
use Rattle.dl_registry.specs.Table.{wanted_at}
use Rattle.dl_registry.proofs.Messages.{changed_app-same, context_goes, fits-remove_context, there_is}
use Rattle.dl_registry.proofs.registry.Registry.unregister_context.Goals as goal

-- the outcome, where the context is there
abbrev outcome : ℕ → List ℕ → List ℕ → Kept → Result Registry RegistryFault
outcome channel apid ctid kept = for_app (app_of kept.registry channel apid) (λ app. context_unregistered kept.registry apid ctid app (context_of app ctid))

-- what the call ensures, where this is kept before it
abbrev Goes : ℕ → List ℕ → List ℕ → Kept → Result (Unit {0}) RegistryFault → Kept → Kept → Type 0
Goes channel apid ctid before result new old = Applies (outcome channel apid ctid before) old result new

ok_is : (r : Registry) → IsOk (let o : Result Registry RegistryFault = Ok r in o)
ok_is r = refl

pub invariant_of-self : goal.invariant_of-self
invariant_of-self c =
    let r : Registry = record { level = c.self.inside.level; stored = c.self.inside.stored; apps = c.self.inside.apps.entries } in
    subst (λ es. Fits (record r { apps = es }) c.self.inside.table) (sym (c.in_err-gone.ensures.unchanged ∙ changed_app-same c.args.apid r.apps)) c.self.invariant

pub returns-in_err-gone : goal.returns-in_err-gone
returns-in_err-gone c =
    let r : Registry = record { level = c.self.inside.level; stored = c.self.inside.stored; apps = c.self.inside.apps.entries } in
    let app = c.in-Some.app.now in
    let own : app_of r c.args.channel c.args.apid ≡ Some app = ap (λ (k : Kept). app_of k.registry c.args.channel c.args.apid) c.self.view_is ∙ sym c.in-Some.ensures in
    let found : lookup (bytes_eq c.args.apid) r.apps ≡ Some app = app_of_found r c.args.channel c.args.apid app own in
    let there = there_is _ c.context.result (context_of app c.args.ctid) c.context.ensures (c.is_none.ensures ∙ ap not c.if-is_none.false) in
    let t = c.self.inside.table in
    let refusal : c.from_residual.result ≡ Err fault.OutOfMemory = search rules in
    let same = c.in_err-gone.ensures.unchanged ∙ changed_app-same c.args.apid r.apps in
    subst (λ es. Goes c.args.channel c.args.apid c.args.ctid c.args.self.now c.from_residual.result (kept_of (record r { apps = es }) t) c.args.self.now) (sym same)
    (subst (λ res. Goes c.args.channel c.args.apid c.args.ctid c.args.self.now res (kept_of r t) c.args.self.now) (sym refusal)
    (subst (λ (k : Kept). Goes c.args.channel c.args.apid c.args.ctid k (Err fault.OutOfMemory) (kept_of r t) k) c.self.view_is
    (subst IsOk (sym (context_goes r c.args.channel c.args.apid c.args.ctid app there.0 own there.1)) (ok_is (with_app r c.args.apid (without_context c.args.ctid app))), refl)))

pub invariant_of-self-2 : goal.invariant_of-self-2
invariant_of-self-2 c =
    let r : Registry = record { level = c.self.inside.level; stored = c.self.inside.stored; apps = c.self.inside.apps.entries } in
    let app = c.in-Some.app.now in
    let own : app_of r c.args.channel c.args.apid ≡ Some app = ap (λ (k : Kept). app_of k.registry c.args.channel c.args.apid) c.self.view_is ∙ sym c.in-Some.ensures in
    let found : lookup (bytes_eq c.args.apid) r.apps ≡ Some app = app_of_found r c.args.channel c.args.apid app own in
    let there = there_is _ c.context.result (context_of app c.args.ctid) c.context.ensures (c.is_none.ensures ∙ ap not c.if-is_none.false) in
    let once : remove_entry (bytes_eq c.args.ctid) app.contexts ≡ without c.args.ctid app.contexts =
    subst (λ o. IfSome o (λ (a : App). remove_entry (bytes_eq c.args.ctid) a.contexts ≡ without c.args.ctid a.contexts)) found c.in_ok-gone.ensures.once in
    let gone = c.in_ok-gone.ensures.gone ∙ ap (λ o. option_map_or (λ a. set_value (bytes_eq c.args.apid) r.apps (without_context c.args.ctid a)) o r.apps) found in
    let is : c.in_ok-gone.gone ≡ Some there.0 = c.in_ok-gone.ensures.context ∙ (ap (option_and_then (λ (a : App). context_of a c.args.ctid)) found ∙ there.1) in
    subst (λ es. Fits (record r { apps = es }) c.clear_gone.new.table) (sym gone)
    (fits-remove_context r c.self.inside.table c.clear_gone.new.table c.args.apid c.args.ctid app there.0 c.self.invariant found there.1 once c.clear_gone.ensures.first c.clear_gone.ensures.held
    (λ slot. c.clear_gone.ensures.levels slot
    ∙ (ap (λ (o : Option Context). cond (option_map_or (has_slot c.number-number.result slot) o false) None (wanted_at c.self.inside.table slot)) is
    ∙ ap (λ n. cond (has_slot n slot there.0) None (wanted_at c.self.inside.table slot)) c.number-number.ensures)))

pub returns : goal.returns
returns c =
    let r : Registry = record { level = c.self.inside.level; stored = c.self.inside.stored; apps = c.self.inside.apps.entries } in
    let app = c.in-Some.app.now in
    let own : app_of r c.args.channel c.args.apid ≡ Some app = ap (λ (k : Kept). app_of k.registry c.args.channel c.args.apid) c.self.view_is ∙ sym c.in-Some.ensures in
    let found : lookup (bytes_eq c.args.apid) r.apps ≡ Some app = app_of_found r c.args.channel c.args.apid app own in
    let there = there_is _ c.context.result (context_of app c.args.ctid) c.context.ensures (c.is_none.ensures ∙ ap not c.if-is_none.false) in
    let once : remove_entry (bytes_eq c.args.ctid) app.contexts ≡ without c.args.ctid app.contexts =
    subst (λ o. IfSome o (λ (a : App). remove_entry (bytes_eq c.args.ctid) a.contexts ≡ without c.args.ctid a.contexts)) found c.in_ok-gone.ensures.once in
    let gone = c.in_ok-gone.ensures.gone ∙ ap (λ o. option_map_or (λ a. set_value (bytes_eq c.args.apid) r.apps (without_context c.args.ctid a)) o r.apps) found in
    let t = c.self.inside.table in
    let first = c.clear_gone.ensures.first in
    let held = c.clear_gone.ensures.held in
    subst (λ es. Goes c.args.channel c.args.apid c.args.ctid c.args.self.now (Ok tt) (kept_of (record r { apps = es }) c.clear_gone.new.table) c.args.self.now) (sym gone)
    (subst (λ (k : Kept). Goes c.args.channel c.args.apid c.args.ctid k (Ok tt) (kept_of (with_app r c.args.apid (without_context c.args.ctid app)) c.clear_gone.new.table) k) c.self.view_is
    (context_goes r c.args.channel c.args.apid c.args.ctid app there.0 own there.1, λ i. record { registry = with_app r c.args.apid (without_context c.args.ctid app); first = first i; held = held i }))
