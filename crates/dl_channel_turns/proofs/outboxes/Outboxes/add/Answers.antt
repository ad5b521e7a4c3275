use Rattle.std.proofs.Common.{◌≡◌, ◌++◌, ◌∷◌, [], ℕ, List, None, nat_eq, sym, ap, subst, ◌∙◌}
use Rattle.indexmap.proofs.CallerLemmas.{insert_entry-new}
use Rattle.dl_channel.specs.State.{Outbox}
use Rattle.dl_channel_turns.specs.State.{outbox_of}
use Rattle.dl_channel_turns.proofs.outboxes.Outboxes.add.Goals as goal

pub returns-clause-added : goal.returns-clause-added
returns-clause-added c =
    c.in_ok-insert.ensures.entries
    ∙ insert_entry-new nat_eq c.self.inside.boxes c.args.channel c.args.outbox (subst (λ (es : List (ℕ × Outbox)). outbox_of es c.args.channel ≡ None) (sym c.self.view_is) c.requires)
    ∙ ap (λ (es : List (ℕ × Outbox)). es ++ (c.args.channel, c.args.outbox) ∷ []) c.self.view_is
