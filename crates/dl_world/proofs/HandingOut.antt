-- Level events that are handed out one after the other.
use Rattle.std.proofs.Common.{◌≡◌, true, false, List, [], ◌∷◌, ◌++◌, map, Some, None, refl, sym, ap, ◌∙◌}
use Rattle.std.specs.Prelude.{slice_get, take}
use Rattle.std.proofs.lemmas.List.{append-nil}
use Rattle.dl_events.specs.declared.event.Event.{Event}
use Rattle.dl_model.specs.declared.registry.LevelChange.{LevelChange}
use Rattle.dl_model.specs.Setting.{Setting}
use Rattle.dl_model.specs.Journal.{owed}
use Rattle.dl_script_model.specs.Marks.{Mark, journal, is_later}
use Rattle.dl_script_model.specs.Steps.{changes, level_noted, note_levels, note_levels_now}
use Rattle.dl_runs.proofs.Owed.{owed_first}
use Rattle.dl_registry.specs.Kept.{owed_change}
use Rattle.dl_registry.proofs.Following.{change_is_owed}
use Rattle.dl_world.specs.Follows.{Doing, next_level}
use Rattle.dl_world.specs.declared.world.World.{World}
use Rattle.dl_world.proofs.Composing.{both, does_both}
use Rattle.dl_world.proofs.Changes.{changes-rest, changes-none}
use Rattle.dl_world.proofs.Deeds.{does_as, does_none}
use Rattle.dl_world.proofs.Noting.{journal_noted}

-- the next one, and then all others, are all
next_and_others : (setting : Setting) (done : List Mark) → next_level setting done ++ note_levels setting (done ++ next_level setting done) ≡ note_levels setting done
next_and_others setting done = by (changes setting (journal done)) refl where
  by : (cs : List LevelChange) → changes setting (journal done) ≡ cs → take 1 (map level_noted cs) ++ note_levels setting (done ++ take 1 (map level_noted cs)) ≡ map level_noted cs
  by [] none = ap (note_levels setting) (append-nil done) ∙ ap (map level_noted) none
  by (c ∷ cs) is =
      let owes : owed setting (journal done) ≡ Some c = owed_first setting (journal done) ∙ ap (λ (xs : List LevelChange). slice_get xs 0) is in
      let tail = tails c cs (changes setting (journal done ++ _)) (sym is ∙ changes-rest setting (journal done) c owes) in
      ap (λ (ms : List Mark). level_noted c ∷ ms) (ap (λ (es : List Event). map level_noted (changes setting es)) (journal_noted done _) ∙ ap (map level_noted) (sym tail)) where
        tails : (c : LevelChange) (xs ys : List LevelChange) → c ∷ xs ≡ c ∷ ys → xs ≡ ys
        tails c xs ys e = cc

-- one call that notes the next, and another that hands out the others
pub hands_next : (old mid new : World) → Doing next_level old mid → Doing note_levels mid new → Doing note_levels old new
hands_next old mid new one rest told =
    does_as (both (λ setting answers. next_level setting) (λ setting answers. note_levels setting)) (λ setting answers. note_levels setting) old new told told
    (λ run done answers after. sym (next_and_others run.setting done))
    (does_both (λ setting answers. next_level setting) (λ setting answers. note_levels setting) old mid new told told told (one told) (rest told))

-- none waits
pub hands_none : (old new : World) → Doing next_level old new → owed_change new.core.registry ≡ None → Doing note_levels old new
hands_none old new last settled =
    hands_next old new new last (λ told. does_none (λ setting answers. note_levels setting) new told
    (λ run done answers after. ap (map level_noted) (changes-none run.setting (journal done) (sym (change_is_owed run.setting (journal done) new.core.registry after.so_far.core_so.registry) ∙ settled))))

-- where Level events are to wait
pub hands_later : (world : World) → world.later ≡ true → Doing note_levels_now world world
hands_later world later told = does_none (λ setting answers. note_levels_now setting) world told
    (λ run done answers after. let waits : is_later done ≡ true = sym after.so_far.later_so ∙ later in rw waits refl)

-- and where they aren't
pub hands_now : (old new : World) → old.later ≡ false → Doing note_levels old new → Doing note_levels_now old new
hands_now old new later all told = does_as (λ setting answers. note_levels setting) (λ setting answers. note_levels_now setting) old new told told
    (λ run done answers after. let waits : is_later done ≡ false = sym after.so_far.later_so ∙ later in rw waits refl) (all told)

-- ---- what such calls leave as it was

abbrev OnlyLevels : World → World → Type 0
OnlyLevels old new = new ≡ record old { core = record old.core { registry = new.core.registry }; journal = new.journal }

pub rest_both : (old mid new : World) → OnlyLevels old mid → OnlyLevels mid new → OnlyLevels old new
rest_both old mid new one two = two ∙ ap (λ (w : World). record w { core = record w.core { registry = new.core.registry }; journal = new.journal }) one
