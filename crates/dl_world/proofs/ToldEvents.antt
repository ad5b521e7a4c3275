-- A user message is noted.
use Rattle.std.proofs.Common.{◌≡◌, ℕ, List, [], ◌∷◌, ◌++◌, map, Some, refl, sym, ap, subst, ◌∙◌}
use Rattle.dl_bytes.specs.declared.moment.Moment.{Moment}
use Rattle.dl_bytes.specs.declared.user.UserMsg.{UserMsg}
use Rattle.dl_events.specs.declared.event.Event.{Event}
use Rattle.dl_events.specs.declared.event.Event.TheVariants as event
use Rattle.dl_events.specs.Journal as notes
use Rattle.dl_events.specs.Journal.{Journaled}
use Rattle.dl_model.specs.Frames.{stored, user_frames}
use Rattle.dl_script_model.specs.Marks.{Mark, Noted, journal, moment}
use Rattle.dl_world_calls.proofs.Changing.{no-call-stays}
use Rattle.dl_core.specs.Follows as core
use Rattle.dl_core.specs.Follows.{Run, Adds, HoldsTrace}
use Rattle.dl_core.specs.State.{Core}
use Rattle.dl_world.specs.Fed.{CanBeTold}
use Rattle.dl_outside.specs.Told.{FolderTold}
use Rattle.dl_world.specs.Follows.{IsRunOf, IsAfter, IsBefore, Does, noting}
use Rattle.dl_world.specs.State.{taken_by}
use Rattle.dl_world.specs.declared.world.World.{World}
use Rattle.dl_world.proofs.Doings.{the_events}
use Rattle.dl_world.proofs.Failing.{Fails}
use Rattle.dl_world.proofs.LoggedEvents.{IsPutBy, does_event, no_turn_user}
use Rattle.dl_world.proofs.Noting.{noted_before}
use Rattle.dl_core.specs.Files.{KeepsStored}

module _ (old new : World) (channel : ℕ) (msg : UserMsg) (core_now : Core) (made kept : Journaled) (told told_now : FolderTold) (fit : CanBeTold msg) (made_is : made.events ≡ old.journal.events)
    (adds : Adds (event.User channel msg old.moment ∷ []) (λ run. Unit {0}) old.core core_now told told_now)
    (noted : notes.Adds (Some made.events) (Some kept.events) (event.User channel msg old.moment))
    (fails : Fails (map (stored old.core.ecu old.moment) (user_frames old.core.ecu msg)) old.core.trace core_now.trace told told_now) (keeps : KeepsStored told.files told_now.files) (still : new.core.trace ≡ core_now.trace)
    (takes : (run : Run) (done : List Mark) → IsBefore run done (record old { core = core_now; journal = kept }) → IsAfter run done new) where
  abbrev mid : World
  mid = record old { core = core_now; journal = kept }

  message_put : (run : Run) (done : List Mark) → IsAfter run done old → IsRunOf run (done ++ Noted (event.User channel msg (moment done)) ∷ [])
      → IsPutBy run done (event.User channel msg (moment done)) (map (stored old.core.ecu old.moment) (user_frames old.core.ecu msg)) old.core mid told told_now
  message_put run done after is_run =
      let e = event.User channel msg (moment done) in
      let same : event.User channel msg old.moment ≡ e = ap (λ (at : Moment). event.User channel msg at) after.so_far.moment_so in
      let core_noted = adds run (journal done) (taken_by old.clients) tt after.so_far.core_so in
      record {
        before = noted_before run done e old mid (no_turn_user channel msg (moment done)) after (record {
          core_noted = subst (λ (x : Event). core.IsAfter run (journal done ++ x ∷ []) (taken_by old.clients) core_now) same core_noted.0;
          gives = fit;
          calls_noted = no-call-stays done (Noted e) old.calls refl after.so_far.calls_so;
          events_noted = the_events made.events kept.events old.journal.events e made_is (subst (λ (x : Event). Some kept.events ≡ Some (made.events ++ x ∷ [])) same noted);
          rest = record { injections_rest = refl; clients_rest = refl; channels_rest = refl; moment_rest = refl; later_rest = refl };
        });
        holds = λ held. subst (λ (x : Event). HoldsTrace run (journal done ++ x ∷ []) core_now told_now) same (core_noted.1 held);
        frames_are = ap (λ (id : List ℕ). map (stored id (moment done)) (user_frames id msg)) (sym after.so_far.core_so.set_to.ecu)
            ∙ ap (λ (at : Moment). map (stored old.core.ecu at) (user_frames old.core.ecu msg)) (sym after.so_far.moment_so);
        unasked = refl;
      }

  pub message_does : Does (λ setting answers. noting (λ now. event.User channel msg (moment now)) setting) old new told told_now
  message_does = does_event (λ now. event.User channel msg (moment now)) (map (stored old.core.ecu old.moment) (user_frames old.core.ecu msg)) old mid new told told_now fails keeps still message_put takes
