-- Events that store frames: log calls, reports of lost ones, and user messages.
use Rattle.std.proofs.Common.{◌≡◌, ◌≢◌, ◌⊎◌, inl, inr, ℕ, zero, suc, ◌<◌, ◌≤◌, Bool, true, false, cond, eqb, get_or, List, [], ◌∷◌, ◌++◌, length, map, Option, Some, None, refl, sym, ap, subst, ◌∙◌, arith}
use Rattle.std.specs.Prelude.{slice_get}
use Rattle.std.specs.List.{cons_option}
use Rattle.std.specs.Option.{option_and_then, option_map, option_map_or}
use Rattle.std.proofs.lemmas.Option.{slice_get-map}
use Rattle.std.proofs.lemmas.List.{length-map}
use Rattle.std.proofs.lemmas.Bool.Decides.{eqb_tells}
use Rattle.dl_lemmas.proofs.Options.{some_is}
use Rattle.dl_bytes.specs.Limits.{payload_limit}
use Rattle.dl_bytes.specs.declared.item.Item.{Item}
use Rattle.dl_bytes.specs.declared.moment.Moment.{Moment}
use Rattle.dl_bytes.specs.declared.user.UserMsg.{UserMsg}
use Rattle.dl_events.specs.declared.event.Event.{Event}
use Rattle.dl_events.specs.declared.event.Event.TheVariants as event
use Rattle.dl_events.specs.Journal as notes
use Rattle.dl_events.specs.Journal.{Journaled}
use Rattle.dl_message.specs.Frames.{log_message}
use Rattle.dl_script_model.specs.Marks.{Mark, Queued, Announced, Noted, Pushed, OfCall, OfClaim, pushed_of, pushes, taken, journal, moment, apps, apid_of}
use Rattle.dl_model.specs.Frames.{stored, stored_of}
use Rattle.dl_script_model.specs.Steps.{just}
use Rattle.dl_laws.specs.Frames.{TellsLen}
use Rattle.dl_world_calls.specs.State.{Calls, as_held, item_held, next_item}
use Rattle.dl_world_calls.specs.Follows as calls
use Rattle.dl_world_calls.proofs.Places.{there}
use Rattle.dl_script_model.specs.declared.line.AppLine.{AppLine}
use Rattle.dl_world_calls.proofs.Changing.{next_tells}
use Rattle.dl_runs.proofs.OneCall.{given_in_rings}
use Rattle.dl_laws.proofs.Spellings.{log_tells}
use Rattle.dl_core.specs.Admission.{log_event, lost_frames, GivesFrame, GivesApid}
use Rattle.dl_core.specs.Follows.{Run, Adds, HoldsTrace, source_of, stored_by}
use Rattle.dl_core.specs.State.{Core}
use Rattle.dl_core.specs.Standing.{KeepsTrace}
use Rattle.dl_core.proofs.StandingFiles.{keeps_by, keeps_storing}
use Rattle.dl_outside.specs.Told.{FolderTold}
use Rattle.dl_world.specs.Follows.{IsRunOf, IsAfter, IsBefore, Does, noting}
use Rattle.dl_world.specs.State.{taken_by}
use Rattle.dl_world.specs.declared.world.World.{World}
use Rattle.dl_world.proofs.Composing.{run_before}
use Rattle.dl_world.proofs.Doings.{holds_by, the_events, no_answers}
use Rattle.dl_world.proofs.Failing.{Fails}
use Rattle.dl_world.proofs.Noting.{IsNoTurn, noted_before, journal_noted}
use Rattle.dl_core.specs.Files.{KeepsStored}
use Rattle.dl_world.proofs.StoredFiles.{asked_in, holds_on, stored_unasked}

-- ---- an event that the folder may see

-- what is known once it is noted and these frames were to be stored for it, and before the links took what it put
pub record IsPutBy (run : Run) (done : List Mark) (e : Event) (frames : List (List ℕ)) (old : Core) (mid : World) (told told_now : FolderTold) : Type 0 where
  pub before : IsBefore run (done ++ Noted e ∷ []) mid
  pub holds : HoldsTrace run (journal done) old told → HoldsTrace run (journal done ++ e ∷ []) mid.core told_now
  pub frames_are : stored_of (source_of run) e ≡ frames
  pub unasked : asked_in (Noted e ∷ []) ≡ []

pub does_event : (make : List Mark → Event) (frames : List (List ℕ)) (old mid new : World) (told told_now : FolderTold) → Fails frames old.core.trace mid.core.trace told told_now → KeepsStored told.files told_now.files → new.core.trace ≡ mid.core.trace
    → ((run : Run) (done : List Mark) → IsAfter run done old → IsRunOf run (done ++ Noted (make done) ∷ []) → IsPutBy run done (make done) frames old.core mid told told_now)
    → ((run : Run) (done : List Mark) → IsBefore run done mid → IsAfter run done new)
    → Does (λ setting answers. noting make setting) old new told told_now
does_event make frames old mid new told told_now fails keeps still puts takes = record {
  answered = [];
  goes = λ run done answers begins after is_run.
      let put = puts run done after is_run in
      record {
        after = takes run (done ++ Noted (make done) ∷ []) put.before;
        holds = λ held. holds_by run (done ++ Noted (make done) ∷ []) mid.core new.core told_now still
            (subst (λ (es : List Event). HoldsTrace run es mid.core told_now) (sym (journal_noted done (make done))) (put.holds held));
        stands = λ first kept. keeps_by run first (journal (done ++ Noted (make done) ∷ [])) mid.core new.core told_now still
            (subst (λ (es : List Event). KeepsTrace run first es mid.core told_now) (sym (journal_noted done (make done)))
            (keeps_storing run first (journal done) (make done) frames old.core mid.core told told_now after.so_far.core_so.begun put.frames_are (fails.goes_on run first (stored_by run (journal done))) kept));
        stored = λ first fine. holds_on run.setting first (journal done) (journal (done ++ Noted (make done) ∷ [])) told.files told_now.files
            (stored_unasked run.setting first done (Noted (make done) ∷ []) put.unasked) keeps;
        answers = no_answers done (Noted (make done) ∷ []) refl;
      };
  trace_failed = fails.trace_failed;
  failures = rw still fails.failures;
  rose = omega (arith, fails.rose);
}

-- ---- log calls

-- the application of what a ring took
abbrev pub app_pushed : Pushed → ℕ
app_pushed (OfCall call) = call.item.app
app_pushed (OfClaim claim) = claim.app

-- what is put where a number is this one
one_if : (n app : ℕ) (what got : Pushed) → app_pushed what ≡ n → cond (eqb n app) (Some what) None ≡ Some got → app_pushed got ≡ app
one_if n app what got is e = by (eqb_tells n app) where
  by : ((eqb n app ≡ true) × (n ≡ app)) ⊎ ((eqb n app ≡ false) × (n ≢ app)) → app_pushed got ≡ app
  by (inl same) = let it : what ≡ got = some_is (ap (λ (b : Bool). cond b (Some what) None) (sym same.0) ∙ e) in ap app_pushed (sym it) ∙ is ∙ same.1
  by (inr apart) = absurd (let bad : ◌≡◌ {A = Option Pushed} None (Some got) = ap (λ (b : Bool). cond b (Some what) None) (sym apart.0) ∙ e in cc)

pushed_here : (app : ℕ) (mark : Mark) (what : Pushed) → pushed_of app mark ≡ Some what → app_pushed what ≡ app
pushed_here app (Queued call) what e = one_if call.item.app app (OfCall call) what refl e
pushed_here app (Announced claim) what e = one_if claim.app app (OfClaim claim) what refl e
pushed_here app _ what e = absurd cc

-- what a ring took is of its application
pub pushed_at : (app : ℕ) (done : List Mark) (place : ℕ) (what : Pushed) → slice_get (pushes app done) place ≡ Some what → app_pushed what ≡ app
pushed_at app [] place what e = absurd cc
pushed_at app (mark ∷ done) place what e = by (pushed_of app mark) refl place e (λ later. pushed_at app done later what) where
  by : (o : Option Pushed) → pushed_of app mark ≡ o → (place : ℕ) → slice_get (cons_option o (pushes app done)) place ≡ Some what
      → ((later : ℕ) → slice_get (pushes app done) later ≡ Some what → app_pushed what ≡ app) → app_pushed what ≡ app
  by None is place e again = again place e
  by (Some d) is zero e again = pushed_here app mark what (is ∙ e)
  by (Some d) is (suc place) e again = again place e

no_turn_log : (app writer call : ℕ) (at : Moment) → IsNoTurn (event.Log app writer call at)
no_turn_log app writer call at = record { connects = refl; closes = refl; nobody = λ number. refl }

-- the sizes of a log call
pub record HasSizes (item : Item) : Type 0 where
  pub apid_long : length item.apid ≡ 4
  pub ctid_long : length item.ctid ≡ 4
  pub payload_within : length item.payload.bytes ≤ payload_limit

-- the call that the daemon takes next, as the marks have it
record IsNextCall (run : Run) (done : List Mark) (app : ℕ) (item : Item) : Type 0 where
  app_is : item.app ≡ app
  frame_is : run.frame item.writer item.call ≡ log_message run.setting.ecu item

next_call : (run : Run) (done : List Mark) (old : World) (app : ℕ) (item : Item) → IsAfter run done old → IsRunOf run done → app < length old.calls.apps → next_item old.calls app ≡ Some item → IsNextCall run done app item
next_call run done old app item after is_run known next =
    by (slice_get (pushes app done) (taken app done)) refl (sym (ap (option_and_then item_held) (next_tells done old.calls app known after.so_far.calls_so)) ∙ next) where
      by : (o : Option Pushed) → slice_get (pushes app done) (taken app done) ≡ o → option_and_then item_held (option_map as_held o) ≡ Some item → IsNextCall run done app item
      by None at is = absurd cc
      by (Some (OfClaim claim)) at is = absurd cc
      by (Some (OfCall call)) at is =
          let same : call.item ≡ item = some_is is in
          subst (λ (i : Item). IsNextCall run done app i) same
          (record { app_is = pushed_at app done (taken app done) (OfCall call) at; frame_is = given_in_rings run.setting.ecu run.frame done is_run.frames app (taken app done) call at })

module _ (old new : World) (app : ℕ) (item : Item) (core_now : Core) (made kept : Journaled) (calls_now : Calls) (told told_now : FolderTold)
    (known : app < length old.calls.apps) (next : next_item old.calls app ≡ Some item) (sizes : HasSizes item) (made_is : made.events ≡ old.journal.events)
    (adds : Adds (log_event old.moment item ∷ []) (GivesFrame item) old.core core_now told told_now)
    (noted : notes.Adds (Some made.events) (Some kept.events) (log_event old.moment item))
    (took : (writer call : ℕ) (at : Moment) → calls.Does (just (Noted (event.Log app writer call at))) old.calls calls_now)
    (fails : Fails (stored old.core.ecu old.moment (log_message old.core.ecu item) ∷ []) old.core.trace core_now.trace told told_now) (keeps : KeepsStored told.files told_now.files) (still : new.core.trace ≡ core_now.trace)
    (takes : (run : Run) (done : List Mark) → IsBefore run done (record old { core = core_now; journal = kept; calls = calls_now }) → IsAfter run done new) where
  abbrev mid : World
  mid = record old { core = core_now; journal = kept; calls = calls_now }

  log_put : (run : Run) (done : List Mark) → IsAfter run done old → IsRunOf run (done ++ Noted (event.Log app item.writer item.call (moment done)) ∷ [])
      → IsPutBy run done (event.Log app item.writer item.call (moment done)) (stored old.core.ecu old.moment (log_message old.core.ecu item) ∷ []) old.core mid told told_now
  log_put run done after is_run =
      let e = event.Log app item.writer item.call (moment done) in
      let call = next_call run done old app item after (run_before run done (Noted e ∷ []) is_run) known next in
      let same : log_event old.moment item ≡ e = λ i. event.Log (call.app_is i) item.writer item.call (after.so_far.moment_so i) in
      let core_noted = adds run (journal done) (taken_by old.clients) call.frame_is after.so_far.core_so in
      let ecu = after.so_far.core_so.set_to.ecu in
      record {
        before = noted_before run done e old mid (no_turn_log app item.writer item.call (moment done)) after (record {
          core_noted = subst (λ (x : Event). Rattle.dl_core.specs.Follows.IsAfter run (journal done ++ x ∷ []) (taken_by old.clients) core_now) same core_noted.0;
          gives = subst TellsLen (sym call.frame_is) (log_tells run.setting.ecu item after.so_far.ecu_so sizes.apid_long sizes.ctid_long sizes.payload_within);
          calls_noted = took item.writer item.call (moment done) done after.so_far.calls_so;
          events_noted = the_events made.events kept.events old.journal.events e made_is (subst (λ (x : Event). Some kept.events ≡ Some (made.events ++ x ∷ [])) same noted);
          rest = record { injections_rest = refl; clients_rest = refl; channels_rest = refl; moment_rest = refl; later_rest = refl };
        });
        holds = λ held. subst (λ (x : Event). HoldsTrace run (journal done ++ x ∷ []) core_now told_now) same (core_noted.1 held);
        frames_are = ap (λ (f : List ℕ). stored run.setting.ecu (moment done) f ∷ []) call.frame_is
            ∙ ap (λ (id : List ℕ). stored id (moment done) (log_message id item) ∷ []) (sym ecu)
            ∙ ap (λ (at : Moment). stored old.core.ecu at (log_message old.core.ecu item) ∷ []) (sym after.so_far.moment_so);
        unasked = refl;
      }

  pub log_does : (other : Item) → next_item old.calls app ≡ Some other → Does (λ setting answers. noting (λ now. event.Log app other.writer other.call (moment now)) setting) old new told told_now
  log_does other is =
      subst (λ (i : Item). Does (λ setting answers. noting (λ now. event.Log app i.writer i.call (moment now)) setting) old new told told_now) (some_is (sym next ∙ is))
      (does_event (λ now. event.Log app item.writer item.call (moment now)) (stored old.core.ecu old.moment (log_message old.core.ecu item) ∷ []) old mid new told told_now fails keeps still log_put takes)

-- ---- lost calls

no_turn_lost : (app count : ℕ) (at : Moment) → IsNoTurn (event.Lost app count at)
no_turn_lost app count at = record { connects = refl; closes = refl; nobody = λ number. refl }

-- the id of an application is that of the marks
apid_there : (done : List Mark) (all : Calls) (app : ℕ) → calls.IsAfter done all → app < length all.apps → (app < length (apps done)) × (apid_of done app ≡ (get_or all.apps app calls.no_app).spec.apid)
apid_there done all app is known = (
  omega (arith, known, ap length is.apps_are, length-map all.apps calls.line_of),
  ap (λ (o : Option AppLine). option_map_or (λ (line : AppLine). line.apid) o [])
      (ap (λ (lines : List AppLine). slice_get lines app) (sym is.apps_are) ∙ slice_get-map calls.line_of all.apps app ∙ ap (option_map calls.line_of) (there all.apps app calls.no_app known)),
)

module _ (old new : World) (app count : ℕ) (apid : List ℕ) (core_now : Core) (made kept : Journaled) (calls_now : Calls) (told told_now : FolderTold)
    (known : app < length old.calls.apps) (apid_is : apid ≡ (get_or old.calls.apps app calls.no_app).spec.apid) (long : length apid ≡ 4) (made_is : made.events ≡ old.journal.events)
    (adds : Adds (event.Lost app count old.moment ∷ []) (GivesApid app apid) old.core core_now told told_now)
    (noted : notes.Adds (Some made.events) (Some kept.events) (event.Lost app count old.moment))
    (tells : (lost : ℕ) (at : Moment) → calls.Does (just (Noted (event.Lost app lost at))) old.calls calls_now)
    (fails : Fails (map (stored old.core.ecu old.moment) (lost_frames old.core.ecu apid count)) old.core.trace core_now.trace told told_now) (keeps : KeepsStored told.files told_now.files) (still : new.core.trace ≡ core_now.trace)
    (takes : (run : Run) (done : List Mark) → IsBefore run done (record old { core = core_now; journal = kept; calls = calls_now }) → IsAfter run done new) where
  losses_put : (run : Run) (done : List Mark) → IsAfter run done old → IsRunOf run (done ++ Noted (event.Lost app count (moment done)) ∷ [])
      → IsPutBy run done (event.Lost app count (moment done)) (map (stored old.core.ecu old.moment) (lost_frames old.core.ecu apid count)) old.core (record old { core = core_now; journal = kept; calls = calls_now }) told told_now
  losses_put run done after is_run =
      let e = event.Lost app count (moment done) in
      let at = apid_there done old.calls app after.so_far.calls_so known in
      let gives : run.apid app ≡ apid = (run_before run done (Noted e ∷ []) is_run).apids app at.0 ∙ at.1 ∙ sym apid_is in
      let same : event.Lost app count old.moment ≡ e = ap (event.Lost app count) after.so_far.moment_so in
      let core_noted = adds run (journal done) (taken_by old.clients) gives after.so_far.core_so in
      record {
        before = noted_before run done e old (record old { core = core_now; journal = kept; calls = calls_now }) (no_turn_lost app count (moment done)) after (record {
          core_noted = subst (λ (x : Event). Rattle.dl_core.specs.Follows.IsAfter run (journal done ++ x ∷ []) (taken_by old.clients) core_now) same core_noted.0;
          gives = ap length gives ∙ long;
          calls_noted = tells count (moment done) done after.so_far.calls_so;
          events_noted = the_events made.events kept.events old.journal.events e made_is (subst (λ (x : Event). Some kept.events ≡ Some (made.events ++ x ∷ [])) same noted);
          rest = record { injections_rest = refl; clients_rest = refl; channels_rest = refl; moment_rest = refl; later_rest = refl };
        });
        holds = λ held. subst (λ (x : Event). HoldsTrace run (journal done ++ x ∷ []) core_now told_now) same (core_noted.1 held);
        frames_are = ap (λ (id : List ℕ). map (stored run.setting.ecu (moment done)) (lost_frames run.setting.ecu id count)) gives
            ∙ ap (λ (id : List ℕ). map (stored id (moment done)) (lost_frames id apid count)) (sym after.so_far.core_so.set_to.ecu)
            ∙ ap (λ (at : Moment). map (stored old.core.ecu at) (lost_frames old.core.ecu apid count)) (sym after.so_far.moment_so);
        unasked = refl;
      }

  pub losses_does : Does (λ setting answers. noting (λ now. event.Lost app count (moment now)) setting) old new told told_now
  losses_does = does_event (λ now. event.Lost app count (moment now)) (map (stored old.core.ecu old.moment) (lost_frames old.core.ecu apid count)) old (record old { core = core_now; journal = kept; calls = calls_now }) new told told_now fails keeps still losses_put takes

-- ---- user messages

pub no_turn_user : (channel : ℕ) (msg : UserMsg) (at : Moment) → IsNoTurn (event.User channel msg at)
no_turn_user channel msg at = record { connects = refl; closes = refl; nobody = λ number. refl }
