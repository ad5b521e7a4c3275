use Rattle.std.proofs.Common.{◌≡◌, List, ◌++◌, None, sym, ap, ◌∙◌}
use Rattle.dl_model.specs.Setting.{Setting}
use Rattle.dl_model.specs.Registry.{slot_of}
use Rattle.dl_model.specs.Journal.{slots_of}
use Rattle.dl_script_model.specs.Marks.{Mark, journal, to_push, to_count}
use Rattle.dl_script_model.specs.Steps.{load}
use Rattle.dl_world_calls.specs.Follows as calls
use Rattle.dl_world_calls.proofs.Acts.{on_ok}
use Rattle.dl_registry.specs.Kept.{Kept, slots}
use Rattle.dl_world.proofs.Loads.{loads_nothing, loads_one}
use Rattle.dl_world.proofs.world.World.load.Goals as goal

pub returns-in_default-clause-loads : goal.returns-in_default-clause-loads
returns-in_default-clause-loads c = loads_nothing c.args.call.now c.args.self.now (sym c.context_of.ensures ∙ c.in_default.is)

pub returns-clause-loads : goal.returns-clause-loads
returns-clause-loads c =
    let line = c.args.call.now in
    let slot = slot_of c.in-Some.context.app c.in-Some.context.place in
    let same : c.slot-slot.result ≡ slot = c.slot-slot.ensures.value in
    let seen : c.held-seen.result ≡ slots c.args.self.now.core.registry slot = c.held-seen.ensures ∙ ap (slots c.registry.result.now) same ∙ ap (λ (k : Kept). slots k slot) c.registry.ensures in
    let made = λ (does : (setting : Setting) (done : List Mark) → calls.IsAfter done c.args.self.now.calls → slots_of setting (journal done) slot ≡ c.held-seen.result
    → to_push line.writer done ≡ None → to_count line.writer done ≡ None → calls.IsAfter (done ++ load setting line done) c.load.new.self).
    loads_one line c.args.self.now c.load.new.self slot c.held-seen.result seen does in
    on_ok c.load.result _ _ made c.load.ensures
