use Rattle.std.proofs.Common.{◌∙◌}
use Rattle.std.specs.Str.{bytes_eq}
use Rattle.indexmap.proofs.CallerLemmas.{insert_entry-new}
use Rattle.dl_apps.proofs.apps.add_app.Goals as goal

pub returns-clause-added : goal.returns-clause-added
returns-clause-added c = c.in_ok-insert.ensures.entries ∙ insert_entry-new bytes_eq c.args.apps.now c.args.apid c.args.app c.requires
