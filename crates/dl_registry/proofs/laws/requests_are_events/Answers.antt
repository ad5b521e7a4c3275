use Rattle.std.proofs.Common.{ℕ, cond, Bool, Option, None, Result, unwrap_or, refl, sym, ap, ◌∙◌}
use Rattle.std.specs.Option.{option_and_then}
use Rattle.std.specs.Result.{result_ok}
use Rattle.std.proofs.lemmas.Bool.{le-leb}
use Rattle.dl_bytes.specs.Id.{zero_id}
use Rattle.dl_bytes.specs.declared.outcome.Done.TheVariants as done
use Rattle.dl_control.specs.declared.request.Request.{Request as Asked}
use Rattle.dl_control.specs.declared.request.RequestFault.{RequestFault}
use Rattle.dl_events.specs.declared.event.Event.TheVariants.{Request}
use Rattle.dl_model.specs.Registry.{own_set, default_set, reset}
use Rattle.dl_model.specs.Reply.{served, now_stored}
use Rattle.dl_registry.specs.Kept.{slots, with_registry}
use Rattle.dl_registry.proofs.Following.{after_event, request_follows}
use Rattle.dl_registry.proofs.laws.requests_are_events.Goals as goal

pub returns-clause-own : goal.returns-clause-own
returns-clause-own c = λ setting events client frame apid ctid level own answer result old new asks is_own is call.
    request_follows setting events client frame answer (own_set (slots old) old.registry apid ctid own) result old new is call
    (sym (ap (λ (a : Result Asked RequestFault). served setting (slots old) old.registry a answer) asks
    ∙ ap (λ (o : Option (Option ℕ)). unwrap_or (option_and_then (λ level. result_ok (own_set (slots old) old.registry apid ctid level)) o) old.registry) is_own))

pub returns-clause-all : goal.returns-clause-all
returns-clause-all c = λ setting events client frame level own answer result old new asks is_own is call.
    request_follows setting events client frame answer (own_set (slots old) old.registry zero_id zero_id own) result old new is call
    (sym (ap (λ (a : Result Asked RequestFault). served setting (slots old) old.registry a answer) asks
    ∙ ap (λ (o : Option (Option ℕ)). unwrap_or (option_and_then (λ level. result_ok (own_set (slots old) old.registry zero_id zero_id level)) o) old.registry) is_own))

pub returns-clause-default : goal.returns-clause-default
returns-clause-default c = λ setting events client frame level answer result old new asks below is call.
    request_follows setting events client frame answer (default_set (slots old) old.registry level) result old new is call
    (sym (ap (λ (a : Result Asked RequestFault). served setting (slots old) old.registry a answer) asks
    ∙ ap (λ (b : Bool). unwrap_or (cond b (result_ok (default_set (slots old) old.registry level)) None) old.registry) (le-leb level 6 below)))

pub returns-clause-reset : goal.returns-clause-reset
returns-clause-reset c = λ setting events client frame result old new asks is call.
    request_follows setting events client frame done.Yes (reset (slots old) old.registry setting.level) result old new is call
    (sym (ap (λ (a : Result Asked RequestFault). served setting (slots old) old.registry a done.Yes) asks))

pub returns-clause-store : goal.returns-clause-store
returns-clause-store c = λ setting events client frame kept asks is.
    after_event setting events (Request client frame done.Yes) kept (with_registry kept (now_stored kept.registry)) is (λ slot. refl) refl refl
    (sym (ap (λ (a : Result Asked RequestFault). served setting (slots kept) kept.registry a done.Yes) asks))
