use Rattle.std.proofs.Common.{ap, sym, ◌∙◌}
use Rattle.std.specs.Map.{lookup}
use Rattle.std.specs.Str.{bytes_eq}
use Rattle.dl_apps.proofs.Entries.{removed_is_filter}
use Rattle.dl_apps.proofs.apps.remove_app.Goals as goal

pub returns-clause-gone : goal.returns-clause-gone
returns-clause-gone c =
    c.shift_remove.ensures.entries
    ∙ removed_is_filter (bytes_eq c.args.apid) c.args.apps.now.entries (ap (lookup (bytes_eq c.args.apid)) (sym c.shift_remove.ensures.entries) ∙ c.shift_remove.ensures.updates.1)

pub returns-clause-once : goal.returns-clause-once
returns-clause-once c =
    removed_is_filter (bytes_eq c.args.apid) c.args.apps.now.entries (ap (lookup (bytes_eq c.args.apid)) (sym c.shift_remove.ensures.entries) ∙ c.shift_remove.ensures.updates.1)
