-- The steps of log calls and claims up to their rings and counts: marks that the daemon, the clients and the clock don't see.
use Rattle.std.proofs.Common.{◌≡◌, ℕ, zero, suc, Bool, true, false, cond, List, [], ◌∷◌, ◌++◌, Option, Some, None, refl, sym, ap, subst, ◌∙◌, append_assoc}
use Rattle.std.specs.Prelude.{if◌then◌else◌}
use Rattle.std.specs.List.{filter_map, flat_map, AllByRecursion}
use Rattle.std.proofs.lemmas.List.{append-nil}
use Rattle.dl_bytes.specs.Level.{passes}
use Rattle.dl_bytes.specs.Claim.{Claimed}
use Rattle.dl_script_model.specs.declared.line.CallLine.{CallLine}
use Rattle.dl_script_model.specs.declared.line.ClaimLine.{ClaimLine}
use Rattle.dl_model.specs.Setting.{Setting}
use Rattle.dl_script_model.specs.Marks.{Call, Mark, Filtered, Passed, Queued, Refused, Counted, HasClaim, Announced, HeldBack, event_of, app_of, clocked, waits_of, fed_of, heard_of, journal, to_push, to_count, to_announce, unannounced, is_full}
use Rattle.dl_script_model.specs.Steps.{Act, just, for_some, loaded, load, push, count, finish, begin_call, claim_made, claim, announce, announce_upto, announce_all, is_held_back}
use Rattle.dl_runs.proofs.Founded.{finished}
use Rattle.dl_world_calls.specs.Follows as calls
use Rattle.dl_world_calls.specs.Injections.{AreAfter, is_no_injection}
use Rattle.dl_world_calls.specs.State.{Calls}
use Rattle.dl_world_calls.proofs.InjectionCounts.{no-injection-stays}
use Rattle.dl_core.specs.Follows.{Run, HoldsTrace}
use Rattle.dl_core.specs.Standing.{KeepsTrace}
use Rattle.dl_world.specs.Follows.{IsAfter, Doing, Loads}
use Rattle.dl_world.specs.declared.world.World.{World}
use Rattle.dl_world.proofs.Doings.{ComesTo, doing_by}
use Rattle.dl_world.proofs.StoredFiles.{asked_by}
use Rattle.dl_world.proofs.Quiet.{journal_same, apps_same, fed_same, heard_same, moment_same, later_same, goes_on}

-- ---- one mark, and many

pub record IsStep (mark : Mark) : Type 0 where
  pub no_event : event_of mark ≡ None
  pub no_app : app_of mark ≡ None
  pub no_clock : clocked mark ≡ None
  pub no_wait : waits_of mark ≡ None
  pub no_request : asked_by mark ≡ None
  pub unfed : (number : ℕ) → fed_of number mark ≡ []
  pub unheard : (channel : ℕ) → heard_of channel mark ≡ []
  pub no_injection : is_no_injection mark ≡ true

abbrev pub AreSteps : List Mark → Type 0
AreSteps more = AllByRecursion IsStep more

none_given : {B : Type 0} (f : Mark → Option B) → ((mark : Mark) → IsStep mark → f mark ≡ None) → (more : List Mark) → AreSteps more → filter_map f more ≡ []
none_given f none [] steps = refl
none_given f none (mark ∷ more) steps = rw (none mark steps.0) (none_given f none more steps.1)

none_put : (f : Mark → List ℕ) → ((mark : Mark) → IsStep mark → f mark ≡ []) → (more : List Mark) → AreSteps more → flat_map f more ≡ []
none_put f none [] steps = refl
none_put f none (mark ∷ more) steps = rw (none mark steps.0) (none_put f none more steps.1)

injections_stay : (done more : List Mark) (waiting : List ℕ) → AreSteps more → AreAfter done waiting → AreAfter (done ++ more) waiting
injections_stay done [] waiting steps is = subst (λ (ms : List Mark). AreAfter ms waiting) (sym (append-nil done)) is
injections_stay done (mark ∷ more) waiting steps is =
    subst (λ (ms : List Mark). AreAfter ms waiting) (append_assoc done (mark ∷ []) more)
    (injections_stay (done ++ mark ∷ []) more waiting steps.1 (no-injection-stays done mark waiting steps.0.no_injection is))

both_steps : (xs ys : List Mark) → AreSteps xs → AreSteps ys → AreSteps (xs ++ ys)
both_steps [] ys first second = second
both_steps (x ∷ xs) ys first second = (first.0, both_steps xs ys first.1 second)

-- ---- acts

asked : {A : Type 0} (o : Option A) (act : A → Act) (done : List Mark) → ((x : A) → AreSteps (act x done)) → AreSteps (for_some o act done)
asked None act done steps = tt
asked (Some x) act done steps = steps x

of_filtered : (c : Call) → IsStep (Filtered c)
of_filtered c = record { no_event = refl; no_app = refl; no_clock = refl; no_wait = refl; no_request = refl; unfed = λ number. refl; unheard = λ channel. refl; no_injection = refl }

of_passed : (c : Call) → IsStep (Passed c)
of_passed c = record { no_event = refl; no_app = refl; no_clock = refl; no_wait = refl; no_request = refl; unfed = λ number. refl; unheard = λ channel. refl; no_injection = refl }

of_queued : (c : Call) → IsStep (Queued c)
of_queued c = record { no_event = refl; no_app = refl; no_clock = refl; no_wait = refl; no_request = refl; unfed = λ number. refl; unheard = λ channel. refl; no_injection = refl }

of_refused : (c : Call) → IsStep (Refused c)
of_refused c = record { no_event = refl; no_app = refl; no_clock = refl; no_wait = refl; no_request = refl; unfed = λ number. refl; unheard = λ channel. refl; no_injection = refl }

of_counted : (c : Call) → IsStep (Counted c)
of_counted c = record { no_event = refl; no_app = refl; no_clock = refl; no_wait = refl; no_request = refl; unfed = λ number. refl; unheard = λ channel. refl; no_injection = refl }

pub push_steps : (writer : ℕ) (done : List Mark) → AreSteps (push writer done)
push_steps writer done = asked (to_push writer done) (λ c. just (if is_full c.item.app done then Refused c else Queued c)) done (λ c. (by_room c (is_full c.item.app done), tt)) where
  by_room : (c : Call) (b : Bool) → IsStep (cond b (Refused c) (Queued c))
  by_room c true = of_refused c
  by_room c false = of_queued c

pub count_steps : (writer : ℕ) (done : List Mark) → AreSteps (count writer done)
count_steps writer done = asked (to_count writer done) (λ c. just (Counted c)) done (λ c. (of_counted c, tt))

pub finish_steps : (writer : ℕ) (done : List Mark) → AreSteps (finish writer done)
finish_steps writer done =
    let later = done ++ push writer done in
    both_steps (push writer done) (count writer later ++ []) (push_steps writer done) (both_steps (count writer later) [] (count_steps writer later) tt)

pub load_steps : (setting : Setting) (call : CallLine) (done : List Mark) → AreSteps (load setting call done)
load_steps setting call done =
    asked (loaded setting call done) (λ c. just (if passes c.item.severity c.held then Passed c else Filtered c)) done (λ c. (by_level c (passes c.item.severity c.held), tt)) where
      by_level : (c : Call) (b : Bool) → IsStep (cond b (Passed c) (Filtered c))
      by_level c true = of_passed c
      by_level c false = of_filtered c

-- ---- claims

of_claim : (c : Claimed) → IsStep (HasClaim c)
of_claim c = record { no_event = refl; no_app = refl; no_clock = refl; no_wait = refl; no_request = refl; unfed = λ number. refl; unheard = λ channel. refl; no_injection = refl }

of_announced : (c : Claimed) → IsStep (Announced c)
of_announced c = record { no_event = refl; no_app = refl; no_clock = refl; no_wait = refl; no_request = refl; unfed = λ number. refl; unheard = λ channel. refl; no_injection = refl }

of_held_back : (c : Claimed) → IsStep (HeldBack c)
of_held_back c = record { no_event = refl; no_app = refl; no_clock = refl; no_wait = refl; no_request = refl; unfed = λ number. refl; unheard = λ channel. refl; no_injection = refl }

pub claim_steps : (line : ClaimLine) (done : List Mark) → AreSteps (claim line done)
claim_steps line done = asked (claim_made line done) (λ c. just (HasClaim c)) done (λ c. (of_claim c, tt))

pub announce_steps : (writer : ℕ) (done : List Mark) → AreSteps (announce writer done)
announce_steps writer done = asked (to_announce writer done) (λ c. just (if is_full c.app done then HeldBack c else Announced c)) done (λ c. (by_room c (is_full c.app done), tt)) where
  by_room : (c : Claimed) (b : Bool) → IsStep (cond b (HeldBack c) (Announced c))
  by_room c true = of_held_back c
  by_room c false = of_announced c

upto_steps : (count writer : ℕ) (done : List Mark) → AreSteps (announce_upto count writer done)
upto_steps zero writer done = tt
upto_steps (suc count) writer done =
    let step = announce writer done in
    both_steps step (cond (is_held_back step) [] (announce_upto count writer (done ++ step))) (announce_steps writer done) (by_refusal (is_held_back step) (upto_steps count writer (done ++ step))) where
      by_refusal : (b : Bool) → AreSteps (announce_upto count writer (done ++ announce writer done)) → AreSteps (cond b [] (announce_upto count writer (done ++ announce writer done)))
      by_refusal true later = tt
      by_refusal false later = later

pub announce_all_steps : (writer : ℕ) (done : List Mark) → AreSteps (announce_all writer done)
announce_all_steps writer done = upto_steps (unannounced writer done) writer done

-- ---- a world after such marks

module _ (run : Run) (done more : List Mark) (old : World) (now : Calls) (steps : AreSteps more) (calls_now : calls.IsAfter (done ++ more) now) (after : IsAfter run done old) where
  pub steps_after : IsAfter run (done ++ more) (record old { calls = now })
  steps_after =
      goes_on run done more old (record old { calls = now }) after (none_given event_of (λ mark is. is.no_event) more steps) (record {
        calls_held = calls_now;
        few_held = rw (apps_same done more (none_given app_of (λ mark is. is.no_app) more steps)) after.so_far.few_so;
        injections_held = injections_stay done more old.injections steps after.so_far.injections_so;
        fed_held = λ number. rw (fed_same number done more (none_put (fed_of number) (λ mark is. is.unfed number) more steps)) (after.so_far.fed_so number);
        unfed_held = λ number nobody. fed_same number done more (none_put (fed_of number) (λ mark is. is.unfed number) more steps) ∙ after.so_far.unfed_so number nobody;
        heard_held = λ channel. rw (heard_same channel done more (none_put (heard_of channel) (λ mark is. is.unheard channel) more steps)) (after.so_far.heard_so channel);
        moment_held = after.so_far.moment_so ∙ sym (moment_same done more (none_given clocked (λ mark is. is.no_clock) more steps));
        later_held = after.so_far.later_so ∙ sym (later_same done more (none_given waits_of (λ mark is. is.no_wait) more steps));
      }) refl refl refl

  pub steps_come : ComesTo run done more old (record old { calls = now })
  steps_come = record {
    after = steps_after;
    holds = λ told (held : HoldsTrace run (journal done) old.core told). rw (journal_same done more (none_given event_of (λ mark is. is.no_event) more steps)) held;
    stands = λ told first (kept : KeepsTrace run first (journal done) old.core told). rw (journal_same done more (none_given event_of (λ mark is. is.no_event) more steps)) kept;
    unasked = none_given asked_by (λ mark is. is.no_request) more steps;
  }

-- a call of the log calls alone
pub steps_doing : (act : Act) (old : World) (now : Calls) → ((done : List Mark) → AreSteps (act done)) → calls.Does act old.calls now → Doing (λ setting. act) old (record old { calls = now })
steps_doing act old now steps does =
    doing_by (λ setting. act) old (record old { calls = now }) refl
    (λ run done after is_run. steps_come run done (act done) old now (steps done) (does done after.so_far.calls_so) after)

-- ---- a new call

-- the load behind what the open call still needs
pub begins_call : (call : CallLine) (old : World) (mid : Calls) (new : World) → calls.Does (finish call.writer) old.calls mid → new.core ≡ old.core
    → Loads call (record old { calls = mid }) new → Doing (λ setting. begin_call setting call) old new
begins_call call old mid new finishes core_same loads =
    doing_by (λ setting. begin_call setting call) old new (ap (λ k. k.trace) core_same)
    (λ run done after is_run.
    let first = finish call.writer done in
    let here = done ++ first in
    let second = load run.setting call here in
    let no_open = finished call.writer done in
    let mid_after = steps_after run done first old mid (finish_steps call.writer done) (finishes done after.so_far.calls_so) after in
    let last : IsAfter run (here ++ second) new = loads run here mid_after no_open.0 no_open.1 in
    let all : begin_call run.setting call done ≡ first ++ second = ap (λ (ms : List Mark). first ++ ms) (append-nil second) in
    let steps : AreSteps (first ++ second) = both_steps first second (finish_steps call.writer done) (load_steps run.setting call here) in
    let none : filter_map event_of (first ++ second) ≡ [] = none_given event_of (λ mark is. is.no_event) (first ++ second) steps in
    subst (λ (more : List Mark). ComesTo run done more old new) (sym all) (record {
      after = subst (λ (ms : List Mark). IsAfter run ms new) (append_assoc done first second) last;
      holds = λ told (held : HoldsTrace run (journal done) old.core told). rw (journal_same done (first ++ second) none, core_same) held;
      stands = λ told before (kept : KeepsTrace run before (journal done) old.core told). rw (journal_same done (first ++ second) none, core_same) kept;
      unasked = none_given asked_by (λ mark is. is.no_request) (first ++ second) steps;
    }))
