use Rattle.std.proofs.Common.{nat_eq, sym, ap, ◌∙◌}
use Rattle.std.specs.Map.{lookup}
use Rattle.dl_apps.proofs.Entries.{removed_is_filter}
use Rattle.dl_channel_turns.specs.State.{without}
use Rattle.dl_channel_turns.proofs.outboxes.Outboxes.remove.Goals as goal

pub returns : goal.returns
returns c =
    c.shift_remove.ensures.entries
    ∙ removed_is_filter (nat_eq c.args.channel) c.self.inside.boxes.entries (ap (lookup (nat_eq c.args.channel)) (sym c.shift_remove.ensures.entries) ∙ c.shift_remove.ensures.updates.1)
    ∙ ap (without c.args.channel) c.self.view_is
