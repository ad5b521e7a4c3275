use Rattle.std.proofs.Common.{ap, ◌∙◌, arith}
use Rattle.dl_model.specs.Registry.{releveled_app}
use Rattle.dl_apps.specs.Change.{changed_entry, relevel_of}
use Rattle.dl_apps.proofs.Entries.{changed_first-more, changed_first-all}
use Rattle.dl_apps.proofs.apps.relevel.Goals as goal

pub loop-place-preserved : goal.loop-place-preserved
loop-place-preserved c =
    let change = releveled_app (relevel_of c.args.levels.now) in
    c.relevel_at.ensures ∙ (ap (λ es. changed_entry change es c.loop-place.place) c.loop-place.invariant ∙ changed_first-more change c.args.apps.now.entries c.loop-place.place)

pub returns : goal.returns
returns c = c.loop-place.invariant ∙ changed_first-all (releveled_app (relevel_of c.args.levels.now)) c.args.apps.now.entries c.loop-place.place (omega arith)
