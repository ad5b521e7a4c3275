-- What marks without an event leave of a world.
use Rattle.std.proofs.Common.{◌≡◌, ℕ, ◌≤◌, Bool, true, false, List, [], ◌∷◌, ◌++◌, length, Option, None, refl, sym, ap, subst, ◌∙◌}
use Rattle.std.specs.Prelude.{IfSome, unwrap_or}
use Rattle.std.specs.List.{filter_map, flat_map}
use Rattle.std.proofs.lemmas.Grind.{flat_map-append}
use Rattle.std.proofs.lemmas.List.{append-nil}
use Rattle.std.proofs.lemmas.List.Elements.{filter_map-append}
use Rattle.dl_bytes.specs.declared.moment.Moment.{Moment}
use Rattle.dl_bytes.specs.declared.outcome.Done.{Done}
use Rattle.dl_events.specs.declared.event.Event.{Event}
use Rattle.dl_model.specs.Along.{last_that}
use Rattle.dl_script_model.specs.Marks.{Mark, Clocked, LevelsWait, Answered, Injected, Handed, event_of, app_of, clocked, waits_of, fed_of, heard_of, journal, apps, moment, moment_at, is_later, fed, heard}
use Rattle.dl_model.proofs.Lists.{last_that-one}
use Rattle.dl_world_calls.specs.Follows as calls
use Rattle.dl_world_calls.specs.Injections.{AreAfter}
use Rattle.dl_world_calls.proofs.Changing.{no-call-stays}
use Rattle.dl_world_calls.proofs.InjectionCounts.{no-injection-stays}
use Rattle.dl_core.specs.Follows.{Run}
use Rattle.dl_world.specs.Fed.{IsFedBy, IsHeardBy}
use Rattle.dl_world.specs.Follows.{IsAfter, stream_in}
use Rattle.dl_world.specs.State.{Client, client_at, channel_at, taken_by}
use Rattle.dl_world.specs.declared.world.World.{World}

-- ---- part by part

pub journal_same : (done more : List Mark) → filter_map event_of more ≡ [] → journal (done ++ more) ≡ journal done
journal_same done more none = filter_map-append event_of done more ∙ ap (λ (es : List Event). journal done ++ es) none ∙ append-nil (journal done)

pub apps_same : (done more : List Mark) → filter_map app_of more ≡ [] → apps (done ++ more) ≡ apps done
apps_same done more none = filter_map-append app_of done more ∙ rw none (append-nil (apps done))

pub fed_same : (number : ℕ) (done more : List Mark) → flat_map (fed_of number) more ≡ [] → fed number (done ++ more) ≡ fed number done
fed_same number done more none = flat_map-append (fed_of number) done more ∙ rw none (append-nil (fed number done))

pub heard_same : (channel : ℕ) (done more : List Mark) → flat_map (heard_of channel) more ≡ [] → heard channel (done ++ more) ≡ heard channel done
heard_same channel done more none = flat_map-append (heard_of channel) done more ∙ rw none (append-nil (heard channel done))

pub moment_same : (done more : List Mark) → filter_map clocked more ≡ [] → moment (done ++ more) ≡ moment done
moment_same done more none =
    ap (λ (ms : List Moment). unwrap_or (last_that (λ _. true) ms) (moment_at 0 0)) (filter_map-append clocked done more ∙ ap (λ (ms : List Moment). filter_map clocked done ++ ms) none ∙ append-nil (filter_map clocked done))

pub later_same : (done more : List Mark) → filter_map waits_of more ≡ [] → is_later (done ++ more) ≡ is_later done
later_same done more none =
    ap (λ (bs : List Bool). unwrap_or (last_that (λ _. true) bs) false) (filter_map-append waits_of done more ∙ ap (λ (bs : List Bool). filter_map waits_of done ++ bs) none ∙ append-nil (filter_map waits_of done))

-- ---- a world, where no event is among the marks

-- what clients, channels and the clock tell, after these marks
pub record IsHeld (done : List Mark) (world : World) : Type 0 where
  pub calls_held : calls.IsAfter done world.calls
  pub few_held : length (apps done) ≤ 16
  pub injections_held : AreAfter done world.injections
  pub fed_held : (number : ℕ) → IfSome (client_at world.clients number) (λ client. IsFedBy (fed number done) client.cutter)
  pub unfed_held : (number : ℕ) → client_at world.clients number ≡ None → fed number done ≡ []
  pub heard_held : (channel : ℕ) → IsHeardBy (heard channel done) (channel_at world.channels channel)
  pub moment_held : world.moment ≡ moment done
  pub later_held : world.later ≡ is_later done

pub held : {run : Run} {done : List Mark} {world : World} → IsAfter run done world → IsHeld done world
held is = record {
  calls_held = is.so_far.calls_so;
  few_held = is.so_far.few_so;
  injections_held = is.so_far.injections_so;
  fed_held = is.so_far.fed_so;
  unfed_held = is.so_far.unfed_so;
  heard_held = is.so_far.heard_so;
  moment_held = is.so_far.moment_so;
  later_held = is.so_far.later_so;
}

-- Marks without an event, after which the core, the journal and the frames of each client are as they were.
module _ (run : Run) (done more : List Mark) (old new : World) (is : IsAfter run done old) (none : filter_map event_of more ≡ []) (kept : IsHeld (done ++ more) new) where
  abbrev same_events : journal (done ++ more) ≡ journal done
  same_events = journal_same done more none

  pub goes_on_where : new.core ≡ old.core → new.journal.events ≡ old.journal.events → length new.clients ≡ length old.clients → taken_by new.clients ≡ taken_by old.clients
      → ((number : ℕ) → IfSome (client_at new.clients number) (λ client. client.frames ≡ stream_in run done number)) → IsAfter run (done ++ more) new
  goes_on_where core_is journal_is came_is taken_is frames_are = record {
    so_far = record {
      ecu_so = is.so_far.ecu_so;
      limit_so = is.so_far.limit_so;
      calls_so = kept.calls_held;
      few_so = kept.few_held;
      injections_so = kept.injections_held;
      events_so = journal_is ∙ is.so_far.events_so ∙ sym same_events;
      core_so = rw (same_events, taken_is, core_is) is.so_far.core_so;
      lengths_so = rw same_events is.so_far.lengths_so;
      came_so = came_is ∙ is.so_far.came_so ∙ ap (λ c. length c.hub.clients) (sym core_is);
      gone_so = rw (same_events, core_is) is.so_far.gone_so;
      fed_so = kept.fed_held;
      unfed_so = kept.unfed_held;
      heard_so = kept.heard_held;
      moment_so = kept.moment_held;
      later_so = kept.later_held;
    };
    taken = λ number. rw same_events (frames_are number);
  }

-- the same where the clients are as they were
pub goes_on : (run : Run) (done more : List Mark) (old new : World) → IsAfter run done old → filter_map event_of more ≡ [] → IsHeld (done ++ more) new
    → new.core ≡ old.core → new.journal.events ≡ old.journal.events → new.clients ≡ old.clients → IsAfter run (done ++ more) new
goes_on run done more old new is none kept core_is journal_is clients_are =
    goes_on_where run done more old new is none kept core_is journal_is (ap length clients_are) (ap taken_by clients_are)
    (λ number. subst (λ (cs : List Client). IfSome (client_at cs number) (λ client. client.frames ≡ stream_in run done number)) (sym clients_are) (is.taken number))

-- ---- one kind of mark after the other

module _ (run : Run) (done : List Mark) (world : World) (is : IsAfter run done world) where
  abbrev was : IsHeld done world
  was = held is

  -- the clock
  pub clocked_after : (moment : Moment) → IsAfter run (done ++ Clocked moment ∷ []) (record world { moment = moment })
  clocked_after moment = goes_on run done (Clocked moment ∷ []) world (record world { moment = moment }) is refl (record {
    calls_held = no-call-stays done (Clocked moment) world.calls refl was.calls_held;
    few_held = rw (apps_same done (Clocked moment ∷ []) refl) was.few_held;
    injections_held = no-injection-stays done (Clocked moment) world.injections refl was.injections_held;
    fed_held = λ number. rw (fed_same number done (Clocked moment ∷ []) refl) (was.fed_held number);
    unfed_held = λ number nobody. fed_same number done (Clocked moment ∷ []) refl ∙ was.unfed_held number nobody;
    heard_held = λ channel. rw (heard_same channel done (Clocked moment ∷ []) refl) (was.heard_held channel);
    moment_held = sym (ap (λ (ms : List Moment). unwrap_or (last_that (λ _. true) ms) (moment_at 0 0)) (filter_map-append clocked done (Clocked moment ∷ []))
        ∙ ap (λ (o : Option Moment). unwrap_or o (moment_at 0 0)) (last_that-one (λ _. true) (filter_map clocked done) moment));
    later_held = was.later_held ∙ sym (later_same done (Clocked moment ∷ []) refl);
  }) refl refl refl

  -- whether Level events wait
  pub levels_wait_after : (later : Bool) → IsAfter run (done ++ LevelsWait later ∷ []) (record world { later = later })
  levels_wait_after later = goes_on run done (LevelsWait later ∷ []) world (record world { later = later }) is refl (record {
    calls_held = no-call-stays done (LevelsWait later) world.calls refl was.calls_held;
    few_held = rw (apps_same done (LevelsWait later ∷ []) refl) was.few_held;
    injections_held = no-injection-stays done (LevelsWait later) world.injections refl was.injections_held;
    fed_held = λ number. rw (fed_same number done (LevelsWait later ∷ []) refl) (was.fed_held number);
    unfed_held = λ number nobody. fed_same number done (LevelsWait later ∷ []) refl ∙ was.unfed_held number nobody;
    heard_held = λ channel. rw (heard_same channel done (LevelsWait later ∷ []) refl) (was.heard_held channel);
    moment_held = was.moment_held ∙ sym (moment_same done (LevelsWait later ∷ []) refl);
    later_held = sym (ap (λ (bs : List Bool). unwrap_or (last_that (λ _. true) bs) false) (filter_map-append waits_of done (LevelsWait later ∷ []))
        ∙ ap (λ (o : Option Bool). unwrap_or o false) (last_that-one (λ _. true) (filter_map waits_of done) later));
  }) refl refl refl

  -- what the folder answered to a request
  pub answered_after : (what : Done) → IsAfter run (done ++ Answered what ∷ []) world
  answered_after what = goes_on run done (Answered what ∷ []) world world is refl (record {
    calls_held = no-call-stays done (Answered what) world.calls refl was.calls_held;
    few_held = rw (apps_same done (Answered what ∷ []) refl) was.few_held;
    injections_held = no-injection-stays done (Answered what) world.injections refl was.injections_held;
    fed_held = λ number. rw (fed_same number done (Answered what ∷ []) refl) (was.fed_held number);
    unfed_held = λ number nobody. fed_same number done (Answered what ∷ []) refl ∙ was.unfed_held number nobody;
    heard_held = λ channel. rw (heard_same channel done (Answered what ∷ []) refl) (was.heard_held channel);
    moment_held = was.moment_held ∙ sym (moment_same done (Answered what ∷ []) refl);
    later_held = was.later_held ∙ sym (later_same done (Answered what ∷ []) refl);
  }) refl refl refl

  -- an injection that came, and one that was taken
  pub injected_after : (app : ℕ) (waiting : List ℕ) → AreAfter (done ++ Injected app ∷ []) waiting → IsAfter run (done ++ Injected app ∷ []) (record world { injections = waiting })
  injected_after app waiting now = goes_on run done (Injected app ∷ []) world (record world { injections = waiting }) is refl (record {
    calls_held = no-call-stays done (Injected app) world.calls refl was.calls_held;
    few_held = rw (apps_same done (Injected app ∷ []) refl) was.few_held;
    injections_held = now;
    fed_held = λ number. rw (fed_same number done (Injected app ∷ []) refl) (was.fed_held number);
    unfed_held = λ number nobody. fed_same number done (Injected app ∷ []) refl ∙ was.unfed_held number nobody;
    heard_held = λ channel. rw (heard_same channel done (Injected app ∷ []) refl) (was.heard_held channel);
    moment_held = was.moment_held ∙ sym (moment_same done (Injected app ∷ []) refl);
    later_held = was.later_held ∙ sym (later_same done (Injected app ∷ []) refl);
  }) refl refl refl

  pub handed_after : (app : ℕ) (waiting : List ℕ) → AreAfter (done ++ Handed app ∷ []) waiting → IsAfter run (done ++ Handed app ∷ []) (record world { injections = waiting })
  handed_after app waiting now = goes_on run done (Handed app ∷ []) world (record world { injections = waiting }) is refl (record {
    calls_held = no-call-stays done (Handed app) world.calls refl was.calls_held;
    few_held = rw (apps_same done (Handed app ∷ []) refl) was.few_held;
    injections_held = now;
    fed_held = λ number. rw (fed_same number done (Handed app ∷ []) refl) (was.fed_held number);
    unfed_held = λ number nobody. fed_same number done (Handed app ∷ []) refl ∙ was.unfed_held number nobody;
    heard_held = λ channel. rw (heard_same channel done (Handed app ∷ []) refl) (was.heard_held channel);
    moment_held = was.moment_held ∙ sym (moment_same done (Handed app ∷ []) refl);
    later_held = was.later_held ∙ sym (later_same done (Handed app ∷ []) refl);
  }) refl refl refl
