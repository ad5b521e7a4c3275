use Rattle.std.proofs.Common.{ℕ, List, ap, sym, ◌∙◌}
use Rattle.std.specs.Map.{lookup, remove_entry}
use Rattle.std.specs.Str.{bytes_eq}
use Rattle.dl_model.specs.declared.context.Context.{Context}
use Rattle.dl_model.specs.Registry.{App, context_of, without}
use Rattle.dl_apps.specs.Change.{without_context}
use Rattle.dl_apps.proofs.application.Application.remove_context.Goals as goal

pub returns-clause-context : goal.returns-clause-context
returns-clause-context c =
    c.take_out.ensures.context ∙ (ap (lookup (bytes_eq c.args.ctid)) c.in_ok-make_room.ensures.same ∙ ap (λ (a : App). context_of a c.args.ctid) c.self.view_is)

pub returns-clause-gone : goal.returns-clause-gone
returns-clause-gone c =
    let with_contexts : List (List ℕ × Context) → App =
    λ es. record { channel = c.self.inside.channel; number = c.self.inside.number; pid = c.self.inside.pid; text = c.self.inside.text; contexts = es } in
    ap with_contexts (c.take_out.ensures.gone ∙ ap (without c.args.ctid) c.in_ok-make_room.ensures.same) ∙ ap (without_context c.args.ctid) c.self.view_is

pub returns-clause-once : goal.returns-clause-once
returns-clause-once c =
    ap (λ (a : App). remove_entry (bytes_eq c.args.ctid) a.contexts) (sym c.self.view_is)
    ∙ (ap (remove_entry (bytes_eq c.args.ctid)) (sym c.in_ok-make_room.ensures.same)
    ∙ (c.take_out.ensures.once ∙ (ap (without c.args.ctid) c.in_ok-make_room.ensures.same ∙ ap (λ (a : App). without c.args.ctid a.contexts) c.self.view_is)))
