-- What a call of a world owes, by what it does to the parts.
use Rattle.std.proofs.Common.{◌≡◌, ℕ, List, [], ◌∷◌, ◌++◌, map, Option, Some, None, refl, sym, ap, subst, ◌∙◌, arith}
use Rattle.std.specs.Prelude.{IfSome, IfNone, slice_get, take}
use Rattle.std.proofs.lemmas.List.{append-nil}
use Rattle.std.proofs.lemmas.List.Elements.{filter_map-append}
use Rattle.dl_bytes.specs.declared.outcome.Done.{Done}
use Rattle.dl_events.specs.declared.event.Event.{Event}
use Rattle.dl_events.specs.declared.event.Event.TheVariants as event
use Rattle.dl_events.specs.Journal as notes
use Rattle.dl_events.specs.Journal.{Journaled}
use Rattle.dl_outside.specs.Folder.{Files}
use Rattle.dl_outside.specs.Told.{FolderTold}
use Rattle.dl_model.specs.declared.registry.LevelChange.{LevelChange}
use Rattle.dl_model.specs.Setting.{Setting}
use Rattle.dl_script_model.specs.Marks.{Mark, Noted, journal}
use Rattle.dl_script_model.specs.Steps.{Act, changes, level_noted}
use Rattle.dl_model.specs.ClientStream.{traffic, stream}
use Rattle.dl_runs.proofs.Owed.{owed_first}
use Rattle.dl_registry.specs.Kept.{owed_change}
use Rattle.dl_registry.proofs.Following.{change_is_owed}
use Rattle.dl_world_calls.proofs.Changing.{no-call-stays}
use Rattle.dl_laws.proofs.FramesBehind.{traffic-append}
use Rattle.dl_trace.specs.State.{Trace}
use Rattle.dl_core.specs.Follows.{Run, HoldsTrace, HoldsFiles, AddsAlone, source_of, stored_by}
use Rattle.dl_core.specs.State.{Core}
use Rattle.dl_core.specs.Standing.{KeepsTrace}
use Rattle.dl_core.proofs.StandingFiles.{keeps_quiet, kept_same}
use Rattle.dl_world.specs.Follows.{IsRunOf, IsSoFar, IsAfter, answer_of, answers_in, Doing, next_level, stream_in}
use Rattle.dl_world.specs.State.{Client, client_at, taken_by}
use Rattle.dl_world.specs.declared.world.World.{World}
use Rattle.dl_world.proofs.Quiet.{goes_on, held}
use Rattle.dl_world.proofs.StoredFiles.{asked_in, holds_same, stored_unasked, unanswered}
use Rattle.dl_world.proofs.Noting.{IsNoTurn, noted_before, journal_noted}
use Rattle.dl_lemmas.proofs.Options.{if_some}

-- a folder that tells nothing
abbrev pub nothing_told : FolderTold
nothing_told = record { files = None; faults = 0; changes = 0; appends = 0 }

-- ---- calls that are handed no folder

-- What a call comes to: marks after which the world is, and what holds of the folder goes on holding. No request is among them.
pub record ComesTo (run : Run) (done more : List Mark) (old new : World) : Type 0 where
  pub after : IsAfter run (done ++ more) new
  pub holds : (told : FolderTold) → HoldsTrace run (journal done) old.core told → HoldsTrace run (journal (done ++ more)) new.core told
  pub stands : (told : FolderTold) (first : Option Files) → KeepsTrace run first (journal done) old.core told → KeepsTrace run first (journal (done ++ more)) new.core told
  pub unasked : asked_in more ≡ []

pub no_answers : (done more : List Mark) → answers_in more ≡ [] → answers_in (done ++ more) ≡ answers_in done ++ []
no_answers done more none = filter_map-append answer_of done more ∙ ap (λ (xs : List Done). answers_in done ++ xs) none

pub doing_by : (act : Setting → Act) (old new : World) → new.core.trace ≡ old.core.trace
    → ((run : Run) (done : List Mark) → IsAfter run done old → IsRunOf run (done ++ act run.setting done) → ComesTo run done (act run.setting done) old new)
    → Doing act old new
doing_by act old new same comes told = record {
  answered = [];
  goes = λ run done answers begins after is_run.
      let to = comes run done after is_run in
      let more = act run.setting done in
      record {
        after = to.after;
        holds = to.holds told;
        stands = to.stands told;
        stored = λ first fine. holds_same run.setting first (journal done) (journal (done ++ more)) told.files (stored_unasked run.setting first done more to.unasked);
        answers = no_answers done more (unanswered more to.unasked);
      };
  trace_failed = 0;
  failures = rw same (omega arith);
  rose = omega arith;
}

-- what a core's trace holds, another one with the same trace holds
pub holds_by : (run : Run) (done : List Mark) (one other : Core) (told : FolderTold) → other.trace ≡ one.trace → HoldsTrace run (journal done) one told → HoldsTrace run (journal done) other told
holds_by run done one other told same held =
    subst (λ (trace : Option Trace). IfSome trace (λ kept. kept.state.end ≡ None → HoldsFiles run (stored_by run (journal done)) told.files)) (sym same) held

-- the events with the one that was noted
pub the_events : (xs ys zs : List Event) (e : Event) → xs ≡ zs → Some ys ≡ Some (xs ++ e ∷ []) → ys ≡ zs ++ e ∷ []
the_events xs ys zs e same is = let out : ys ≡ xs ++ e ∷ [] = cc in out ∙ ap (λ (es : List Event). es ++ e ∷ []) same

-- nothing comes of it, though the journal may have made room
pub comes_to_nothing : (run : Run) (done : List Mark) (old new : World) → new.core ≡ old.core → new.journal.events ≡ old.journal.events → new.clients ≡ old.clients
    → new.calls ≡ old.calls → new.injections ≡ old.injections → new.channels ≡ old.channels → new.moment ≡ old.moment → new.later ≡ old.later
    → IsAfter run done old → ComesTo run done [] old new
comes_to_nothing run done old new core_is events_are clients_are calls_are injections_are channels_are moment_is later_is after =
    let all : done ++ [] ≡ done = append-nil done in
    record {
      after = goes_on run done [] old new after refl (rw all (record {
        calls_held = rw calls_are after.so_far.calls_so;
        few_held = after.so_far.few_so;
        injections_held = rw injections_are after.so_far.injections_so;
        fed_held = rw clients_are after.so_far.fed_so;
        unfed_held = rw clients_are after.so_far.unfed_so;
        heard_held = rw channels_are after.so_far.heard_so;
        moment_held = moment_is ∙ after.so_far.moment_so;
        later_held = later_is ∙ after.so_far.later_so;
      })) core_is events_are clients_are;
      holds = λ told (held : HoldsTrace run (journal done) old.core told). rw (all, core_is) held;
      stands = λ told first (kept : KeepsTrace run first (journal done) old.core told). rw (all, core_is) kept;
      unasked = refl;
    }

-- ---- a Level event

-- what is noted next, by what the registry owes
abbrev next_mark : Option LevelChange → List Mark
next_mark None = []
next_mark (Some change) = level_noted change ∷ []

take_first : (cs : List LevelChange) → take 1 (map level_noted cs) ≡ next_mark (slice_get cs 0)
take_first [] = refl
take_first (c ∷ cs) = refl

pub next_is : (run : Run) (done : List Mark) (old : World) → IsAfter run done old → next_level run.setting done ≡ next_mark (owed_change old.core.registry)
next_is run done old after =
    take_first (changes run.setting (journal done))
    ∙ ap next_mark (sym (owed_first run.setting (journal done)) ∙ sym (change_is_owed run.setting (journal done) old.core.registry after.so_far.core_so.registry))

-- a Level event puts nothing into any stream
level_stream : (run : Run) (events : List Event) (slot level number : ℕ)
    → stream (source_of run) run.setting.buffer number (events ++ event.Level slot level ∷ []) ≡ stream (source_of run) run.setting.buffer number events
level_stream run events slot level number =
    ap (Rattle.dl_model.specs.ClientStream.sent run.setting.ecu run.setting.buffer number)
    (traffic-append (source_of run) events (event.Level slot level ∷ []) ∙ append-nil (traffic (source_of run) events))

-- where the links took all of their streams before, and the event puts nothing into them
pub after_quiet_event : (run : Run) (done : List Mark) (e : Event) (old new : World) → new.clients ≡ old.clients → IsAfter run done old
    → ((number : ℕ) → stream (source_of run) run.setting.buffer number (journal done ++ e ∷ []) ≡ stream (source_of run) run.setting.buffer number (journal done))
    → IsSoFar run (done ++ Noted e ∷ []) new → IsAfter run (done ++ Noted e ∷ []) new
after_quiet_event run done e old new clients_are after same so_far = record {
  so_far = so_far;
  taken = λ number.
      let stream_is : stream_in run (done ++ Noted e ∷ []) number ≡ stream_in run done number =
      ap (λ (es : List Event). stream (source_of run) run.setting.buffer number es) (journal_noted done e) ∙ same number in
      if_some (λ client. client.frames ≡ stream_in run done number) (λ client. client.frames ≡ stream_in run (done ++ Noted e ∷ []) number) (client_at new.clients number)
      (λ client was. was ∙ sym stream_is)
      (subst (λ (cs : List Client). IfSome (client_at cs number) (λ client. client.frames ≡ stream_in run done number)) (sym clients_are) (after.taken number));
}

no_turn_level : (slot level : ℕ) → IsNoTurn (event.Level slot level)
no_turn_level slot level = record { connects = refl; closes = refl; nobody = λ number. refl }

module _ (old : World) (now : Core) (kept kept_now : Journaled) (events_kept : kept.events ≡ old.journal.events) where
  abbrev new : World
  new = record old { core = now; journal = kept_now }

  comes_level : (slot level : ℕ) → now.trace ≡ old.core.trace → AddsAlone (event.Level slot level ∷ []) old.core now → notes.Adds (Some kept.events) (Some kept_now.events) (event.Level slot level)
      → (run : Run) (done : List Mark) → IsAfter run done old → ComesTo run done (Noted (event.Level slot level) ∷ []) old new
  comes_level slot level still adds noted run done after =
      let e = event.Level slot level in
      let core_noted = λ (told : FolderTold). adds told run (journal done) (taken_by old.clients) tt after.so_far.core_so in
      let events_noted : kept_now.events ≡ old.journal.events ++ e ∷ [] = the_events kept.events kept_now.events old.journal.events e events_kept noted in
      let before = noted_before run done e old new (no_turn_level slot level) after (record {
        core_noted = (core_noted nothing_told).0;
        gives = tt;
        calls_noted = no-call-stays done (Noted e) old.calls refl after.so_far.calls_so;
        events_noted = events_noted;
        rest = record { injections_rest = refl; clients_rest = refl; channels_rest = refl; moment_rest = refl; later_rest = refl };
      }) in
      record {
        after = after_quiet_event run done e old new refl after (level_stream run (journal done) slot level) before.so_far;
        holds = λ told held. subst (λ (es : List Event). HoldsTrace run es now told) (sym (journal_noted done e)) ((core_noted told).1 held);
        stands = λ told first kept. subst (λ (es : List Event). KeepsTrace run first es now told) (sym (journal_noted done e))
            (keeps_quiet run first (journal done) e old.core now told told still refl (kept_same told.files) kept);
        unasked = refl;
      }

  pub next_level_does : (change : Option LevelChange) → change ≡ owed_change old.core.registry → now.trace ≡ old.core.trace
      → IfNone change ((now ≡ old.core) × (kept_now ≡ kept))
      → IfSome change (λ c. AddsAlone (event.Level c.slot c.level ∷ []) old.core now)
      → IfSome change (λ c. notes.Adds (Some kept.events) (Some kept_now.events) (event.Level c.slot c.level))
      → Doing next_level old new
  next_level_does change owes same none adds noted =
      doing_by next_level old new same
      (λ run done after is_run.
      subst (λ (more : List Mark). ComesTo run done more old new) (sym (next_is run done old after ∙ ap next_mark (sym owes))) (by_change change none adds noted run done after)) where
        by_change : (o : Option LevelChange) → IfNone o ((now ≡ old.core) × (kept_now ≡ kept)) → IfSome o (λ c. AddsAlone (event.Level c.slot c.level ∷ []) old.core now)
            → IfSome o (λ c. notes.Adds (Some kept.events) (Some kept_now.events) (event.Level c.slot c.level))
            → (run : Run) (done : List Mark) → IsAfter run done old → ComesTo run done (next_mark o) old new
        by_change None none adds noted run done after =
            comes_to_nothing run done old new none.0 (ap (λ (k : Journaled). k.events) none.1 ∙ events_kept) refl refl refl refl refl refl after
        by_change (Some c) none adds noted run done after = comes_level c.slot c.level same adds noted run done after
