use Rattle.std.proofs.Common.{◌≢◌, cond, length, Option, is_some, true≢false, sym, ap, ◌∙◌}
use Rattle.std.specs.List.{filter}
use Rattle.dl_bytes.specs.Id.{zero_id}
use Rattle.dl_model.specs.declared.context.Context.{Context}
use Rattle.dl_model.specs.Registry.{App, names}
use Rattle.dl_apps.proofs.OneNamed.{all-named, one-named}
use Rattle.dl_apps.proofs.application.Application.named.Goals as goal

pub returns-then-is_zero : goal.returns-then-is_zero
returns-then-is_zero c =
    c.len.ensures.len
    ∙ (sym (all-named c.args.ctid (c.is_zero.ensures.0 c.if-is_zero.true) c.self.inside.contexts.entries)
    ∙ ap (λ (a : App). length (filter (λ x. names c.args.ctid x.0) a.contexts)) c.self.view_is)

pub returns-in-Some : goal.returns-in-Some
returns-in-Some c =
    let some : c.args.ctid ≢ zero_id = λ zero. true≢false (sym (c.is_zero.ensures.1 zero) ∙ c.if-is_zero.false) in
    ap (λ (o : Option Context). cond (is_some o) 1 0) c.in-Some.ensures.value
    ∙ (sym (one-named c.args.ctid some c.self.inside.contexts.entries c.named.ensures.apart) ∙ ap (λ (a : App). length (filter (λ x. names c.args.ctid x.0) a.contexts)) c.self.view_is)

pub returns-in-None : goal.returns-in-None
returns-in-None c =
    let some : c.args.ctid ≢ zero_id = λ zero. true≢false (sym (c.is_zero.ensures.1 zero) ∙ c.if-is_zero.false) in
    ap (λ (o : Option Context). cond (is_some o) 1 0) c.in-None.ensures.value
    ∙ (sym (one-named c.args.ctid some c.self.inside.contexts.entries c.named.ensures.apart) ∙ ap (λ (a : App). length (filter (λ x. names c.args.ctid x.0) a.contexts)) c.self.view_is)
