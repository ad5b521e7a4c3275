-- The load of a log call.
use Rattle.std.proofs.Common.{◌≡◌, ℕ, List, [], ◌++◌, None, refl, sym, ap, subst, ◌∙◌}
use Rattle.std.proofs.lemmas.List.{append-nil}
use Rattle.dl_script_model.specs.declared.line.CallLine.{CallLine}
use Rattle.dl_model.specs.declared.registry.Slot.{Slot}
use Rattle.dl_model.specs.Setting.{Setting}
use Rattle.dl_model.specs.Journal.{slots_of}
use Rattle.dl_script_model.specs.Marks.{Mark, journal, to_push, to_count}
use Rattle.dl_script_model.specs.Steps.{load}
use Rattle.dl_world_calls.specs.Follows as calls
use Rattle.dl_world_calls.specs.State.{Calls, named}
use Rattle.dl_world_calls.proofs.Loading.{nothing_named}
use Rattle.dl_registry.specs.Kept.{slots}
use Rattle.dl_world.specs.Follows.{IsAfter, Loads}
use Rattle.dl_world.specs.declared.world.World.{World}
use Rattle.dl_world.proofs.CallSteps.{load_steps, steps_after}

-- what names nothing loads nothing
pub loads_nothing : (call : CallLine) (old : World) → named old.calls call ≡ None → Loads call old old
loads_nothing call old none run done after no_push no_count =
    let empty : load run.setting call done ≡ [] = rw (nothing_named run.setting done old.calls call after.so_far.calls_so none) refl in
    subst (λ (ms : List Mark). IsAfter run ms old) (sym (append-nil done) ∙ ap (λ (more : List Mark). done ++ more) (sym empty)) after

pub loads_one : (call : CallLine) (old : World) (now : Calls) (slot : ℕ) (seen : Slot) → seen ≡ slots old.core.registry slot
    → ((setting : Setting) (done : List Mark) → calls.IsAfter done old.calls → slots_of setting (journal done) slot ≡ seen → to_push call.writer done ≡ None → to_count call.writer done ≡ None
    → calls.IsAfter (done ++ load setting call done) now)
    → Loads call old (record old { calls = now })
loads_one call old now slot seen seen_is does run done after no_push no_count =
    let held : slots_of run.setting (journal done) slot ≡ seen = ap (λ (f : ℕ → Slot). f slot) (sym after.so_far.core_so.registry.slots) ∙ sym seen_is in
    steps_after run done (load run.setting call done) old now (load_steps run.setting call done) (does run.setting done after.so_far.calls_so held no_push no_count) after
