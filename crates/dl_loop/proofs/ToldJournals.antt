-- A journal that tells what the daemon took, reported and set is the journal of its account.
use Rattle.std.proofs.Common.{◌≡◌, ℕ, ◌+◌, ◌==◌, ◌≤◌, Bool, true, false, List, [], ◌∷◌, ◌++◌, length, map, refl, ap, sym, ◌∙◌}
use Rattle.std.proofs.lemmas.List.Elements.{filter_map-append}
use Rattle.std.proofs.lemmas.List.Sums.{sum_by-append}
use Rattle.std.specs.List.{filter_map}
use Rattle.dl_events.specs.declared.event.Event.{Event}
use Rattle.dl_events.specs.declared.event.Event.TheVariants as event
use Rattle.dl_cells.specs.LevelHistory.{levels_set}
use Rattle.dl_model.specs.History.{level_for}
use Rattle.dl_cells.specs.Losses.{reported_of}
use Rattle.dl_model.specs.Accounts.{takes, took_of}
use Rattle.dl_model.specs.Report.{lost_of, reported}
use Rattle.dl_desk.specs.Handles.{HandlesState}
use Rattle.dl_account.specs.Known.{taken_of, told_as}
use Rattle.dl_account.specs.Settled.{IsJournalOf}
use Rattle.dl_account.specs.State.{AccountState}
use Rattle.dl_turns.specs.Later.{level_in}
use Rattle.dl_loop.specs.Told.{IsToldBy}

-- one level more, with those behind it
one_level : (slot other level : ℕ) (events : List Event) (b : Bool) → (other == slot) ≡ b
    → filter_map (level_for slot) events ≡ levels_set slot (filter_map level_in events)
    → filter_map (level_for slot) (event.Level other level ∷ events) ≡ levels_set slot (filter_map level_in (event.Level other level ∷ events))
one_level slot other level events true is alike = rw is (ap (λ ls. level ∷ ls) alike)
one_level slot other level events false is alike = rw is alike

-- the levels of a slot, read of the events or of the levels that they set
set_alike : (slot : ℕ) (events : List Event) → filter_map (level_for slot) events ≡ levels_set slot (filter_map level_in events)
set_alike slot [] = refl
set_alike slot (event.Log app writer call moment ∷ events) = set_alike slot events
set_alike slot (event.Claim claim moment ∷ events) = set_alike slot events
set_alike slot (event.Lost app count moment ∷ events) = set_alike slot events
set_alike slot (event.User channel msg moment ∷ events) = set_alike slot events
set_alike slot (event.Level other level ∷ events) = one_level slot other level events (other == slot) refl (set_alike slot events)
set_alike slot (event.Connect client ∷ events) = set_alike slot events
set_alike slot (event.Request client frame answer ∷ events) = set_alike slot events
set_alike slot (event.Close client why ∷ events) = set_alike slot events

pub told_journal : (events : List Event) (s : AccountState) → IsToldBy events (length s.apps) s.handles → IsJournalOf events s
told_journal events s told = record {
  set = λ slot. ap (λ ls. 0 ∷ ls) (set_alike slot events ∙ ap (levels_set slot) (sym told.levels));
  admitted = λ app within. told.admitted app;
  losses = λ app within. told.losses app;
  alone = told.alone;
}

-- what a journal tells goes on with more events: with the calls and claims that they tell, the losses and the levels that they set
pub told_more : (events more : List Event) (apps : ℕ) (old new : HandlesState) → IsToldBy events apps old
    → ((app : ℕ) → map (told_as app) (taken_of new app) ≡ map (told_as app) (taken_of old app) ++ takes app more)
    → ((app : ℕ) → reported_of app new.losses.reported ≡ reported_of app old.losses.reported + reported app more)
    → ((app : ℕ) → apps ≤ app → (takes app more ≡ []) × (reported app more ≡ 0))
    → new.levels.first ≡ old.levels.first → new.levels.sets ≡ old.levels.sets ++ filter_map level_in more
    → IsToldBy (events ++ more) apps new
told_more events more apps old new told taken losses alone first sets = record {
  admitted = λ app. filter_map-append (took_of app) events more ∙ ap (λ xs. xs ++ takes app more) (told.admitted app) ∙ sym (taken app);
  losses = λ app. sum_by-append (lost_of app) events more ∙ ap (λ n. n + reported app more) (told.losses app) ∙ sym (losses app);
  alone = λ app beyond. (
    filter_map-append (took_of app) events more ∙ ap (λ xs. xs ++ takes app more) (told.alone app beyond).0 ∙ (alone app beyond).0,
    sum_by-append (lost_of app) events more ∙ ap (λ n. n + reported app more) (told.alone app beyond).1 ∙ ap (λ n. 0 + n) (alone app beyond).1,
  );
  first = first ∙ told.first;
  levels = sets ∙ ap (λ xs. xs ++ filter_map level_in more) told.levels ∙ sym (filter_map-append level_in events more);
}
