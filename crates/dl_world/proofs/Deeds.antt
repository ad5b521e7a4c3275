-- Deeds that come to the same marks, and marks that the daemon's core and its clients don't see.
use Rattle.std.proofs.Common.{◌≡◌, ℕ, ◌≤◌, List, [], ◌++◌, length, None, sym, ap, subst, ◌∙◌, arith}
use Rattle.std.proofs.lemmas.List.{append-nil}
use Rattle.std.proofs.lemmas.List.Elements.{filter_map-append}
use Rattle.std.proofs.lemmas.Grind.{flat_map-append}
use Rattle.dl_bytes.specs.declared.outcome.Done.{Done}
use Rattle.dl_events.specs.declared.event.Event.{Event}
use Rattle.dl_model.specs.Setting.{Setting}
use Rattle.dl_script_model.specs.Marks.{Mark, event_of, apps, journal, moment, is_later, fed, fed_of, heard, heard_of}
use Rattle.dl_script_model.specs.Steps.{Act}
use Rattle.dl_world_calls.specs.Follows as calls
use Rattle.dl_world_calls.specs.Injections.{AreAfter}
use Rattle.dl_core.specs.Follows as core
use Rattle.dl_core.specs.Follows.{Run, HoldsTrace}
use Rattle.dl_outside.specs.Told.{FolderTold}
use Rattle.dl_core.specs.Standing.{KeepsTrace}
use Rattle.dl_world.specs.Follows.{IsRunOf, IsSoFar, IsAfter, answer_of, answers_in, Deed, Goes, Does, Doing}
use Rattle.dl_world.specs.Stored.{HoldsStored}
use Rattle.dl_world.specs.State.{Client, client_at, taken_by}
use Rattle.dl_world.specs.declared.world.World.{World}

-- ---- deeds

-- a deed that comes to the same marks
pub does_as : (first second : Deed) (old new : World) (told told_now : FolderTold)
    → ((run : Run) (done : List Mark) (answers : List Done) → IsAfter run done old → second run.setting answers done ≡ first run.setting answers done)
    → Does first old new told told_now → Does second old new told told_now
does_as first second old new told told_now same does = record {
  answered = does.answered;
  goes = λ run done answers begins after is_run.
      let is = same run done answers after in
      subst (λ (more : List Mark). Goes run done more old new told told_now does.answered) (sym is)
      (does.goes run done answers begins after (subst (λ (more : List Mark). IsRunOf run (done ++ more)) is is_run));
  trace_failed = does.trace_failed;
  failures = does.failures;
  rose = does.rose;
}

-- nothing comes of it
pub does_nothing : (world : World) (told : FolderTold) → Does (λ setting answers done. []) world world told told
does_nothing world told = record {
  answered = [];
  goes = λ run done answers begins after is_run.
      let same : done ≡ done ++ [] = sym (append-nil done) in
      record {
        after = subst (λ (ms : List Mark). IsAfter run ms world) same after;
        holds = λ holds. subst (λ (ms : List Mark). HoldsTrace run (journal ms) world.core told) same holds;
        stands = λ first kept. subst (λ (ms : List Mark). KeepsTrace run first (journal ms) world.core told) same kept;
        stored = λ first fine holds. subst (λ (ms : List Mark). HoldsStored run.setting first (journal ms) told.files) same holds;
        answers = ap answers_in (append-nil done) ∙ sym (append-nil (answers_in done));
      };
  trace_failed = 0;
  failures = omega arith;
  rose = omega arith;
}

-- where a deed comes to nothing here
pub does_none : (deed : Deed) (world : World) (told : FolderTold)
    → ((run : Run) (done : List Mark) (answers : List Done) → IsAfter run done world → deed run.setting answers done ≡ [])
    → Does deed world world told told
does_none deed world told none = does_as (λ setting answers done. []) deed world world told told none (does_nothing world told)

-- ---- marks that are no events

-- marks that are no events, and no answers of the folder
pub record AreQuiet (more : List Mark) : Type 0 where
  pub no_events : journal more ≡ []
  pub no_answers : answers_in more ≡ []

pub same_journal : (done more : List Mark) → AreQuiet more → journal (done ++ more) ≡ journal done
same_journal done more quiet = filter_map-append event_of done more ∙ ap (λ (es : List Event). journal done ++ es) quiet.no_events ∙ append-nil (journal done)

pub same_answers : (done more : List Mark) → AreQuiet more → answers_in (done ++ more) ≡ answers_in done
same_answers done more quiet = filter_map-append answer_of done more ∙ ap (λ (xs : List Done). answers_in done ++ xs) quiet.no_answers ∙ append-nil (answers_in done)

pub same_fed : (number : ℕ) (done more : List Mark) → fed number more ≡ [] → fed number (done ++ more) ≡ fed number done
same_fed number done more none = flat_map-append (fed_of number) done more ∙ ap (λ (xs : List ℕ). fed number done ++ xs) none ∙ append-nil (fed number done)

pub same_heard : (channel : ℕ) (done more : List Mark) → heard channel more ≡ [] → heard channel (done ++ more) ≡ heard channel done
same_heard channel done more none = flat_map-append (heard_of channel) done more ∙ ap (λ (xs : List ℕ). heard channel done ++ xs) none ∙ append-nil (heard channel done)

-- what these marks leave as it was
pub record LeavesAlone (more : List Mark) : Type 0 where
  pub quiet : AreQuiet more
  pub unfed : (number : ℕ) → fed number more ≡ []
  pub unheard : (channel : ℕ) → heard channel more ≡ []

-- a call that changes neither the core nor what came from clients and on channels
pub record StaysBut (old new : World) : Type 0 where
  pub core_is : new.core ≡ old.core
  pub journal_is : new.journal ≡ old.journal
  pub clients_are : new.clients ≡ old.clients
  pub channels_are : new.channels ≡ old.channels

-- what it changes is that of the marks
pub record Turns (done more : List Mark) (new : World) : Type 0 where
  pub calls_now : calls.IsAfter (done ++ more) new.calls
  pub few_now : length (apps (done ++ more)) ≤ 16
  pub injections_now : AreAfter (done ++ more) new.injections
  pub moment_now : new.moment ≡ moment (done ++ more)
  pub later_now : new.later ≡ is_later (done ++ more)

module _ (run : Run) (done more : List Mark) (old new : World) (alone : LeavesAlone more) (stays : StaysBut old new) (turns : Turns done more new) (after : IsAfter run done old) where
  events_same : journal (done ++ more) ≡ journal done
  events_same = same_journal done more alone.quiet

  core_now : core.IsAfter run (journal (done ++ more)) (taken_by new.clients) new.core
  core_now = rw (events_same, stays.clients_are, stays.core_is) after.so_far.core_so

  so_far_now : IsSoFar run (done ++ more) new
  so_far_now = record {
    ecu_so = after.so_far.ecu_so;
    limit_so = after.so_far.limit_so;
    calls_so = turns.calls_now;
    few_so = turns.few_now;
    injections_so = turns.injections_now;
    events_so = rw (events_same, stays.journal_is) after.so_far.events_so;
    core_so = core_now;
    lengths_so = rw events_same after.so_far.lengths_so;
    came_so = rw (stays.clients_are, stays.core_is) after.so_far.came_so;
    gone_so = rw (events_same, stays.core_is) after.so_far.gone_so;
    fed_so = λ number. rw (stays.clients_are, same_fed number done more (alone.unfed number)) (after.so_far.fed_so number);
    unfed_so = λ number none. same_fed number done more (alone.unfed number) ∙ after.so_far.unfed_so number (subst (λ (cs : List Client). client_at cs number ≡ None) stays.clients_are none);
    heard_so = λ channel. rw (stays.channels_are, same_heard channel done more (alone.unheard channel)) (after.so_far.heard_so channel);
    moment_so = turns.moment_now;
    later_so = turns.later_now;
  }

  pub quiet_after : IsAfter run (done ++ more) new
  quiet_after = record {
    so_far = so_far_now;
    taken = λ number. rw (events_same, stays.clients_are) (after.taken number);
  }

-- an act of such marks
pub quiet_does : (act : Setting → Act) (old new : World) → StaysBut old new
    → ((run : Run) (done : List Mark) → IsAfter run done old → LeavesAlone (act run.setting done))
    → ((run : Run) (done : List Mark) → IsAfter run done old → Turns done (act run.setting done) new)
    → Doing act old new
quiet_does act old new stays alone turns told = record {
  answered = [];
  goes = λ run done answers begins after is_run.
      let more = act run.setting done in
      let left = alone run done after in
      let events_same : journal (done ++ more) ≡ journal done = same_journal done more left.quiet in
      record {
        after = quiet_after run done more old new left stays (turns run done after) after;
        holds = λ (held : HoldsTrace run (journal done) old.core told). rw (events_same, stays.core_is) held;
        stands = λ first (kept : KeepsTrace run first (journal done) old.core told). rw (events_same, stays.core_is) kept;
        stored = λ first fine holds. subst (λ (es : List Event). HoldsStored run.setting first es told.files) (sym events_same) holds;
        answers = same_answers done more left.quiet ∙ sym (append-nil (answers_in done));
      };
  trace_failed = 0;
  failures = rw stays.core_is (omega arith);
  rose = omega arith;
}
