-- A request that was served: what it wanted was asked of the folder or of a queue, and its event was noted.
use Rattle.std.proofs.Common.{◌≡◌, ℕ, ◌+◌, ◌-◌, ◌^◌, ◌<◌, ◌≤◌, min, Bool, true, false, cond, List, [], ◌∷◌, ◌++◌, length, length-append, Option, Some, None, Result, Ok, Err, refl, sym, ap, subst, ◌∙◌, append_assoc, arith}
use Rattle.std.specs.Prelude.{IfSome, IsSomeAnd, nat_lt, unwrap_or, slice_get, count_by, if◌then◌else◌}
use Rattle.std.specs.List.{filter_map}
use Rattle.std.specs.Option.{option_map}
use Rattle.std.proofs.lemmas.List.{append-nil}
use Rattle.std.proofs.lemmas.List.Elements.{filter_map-append}
use Rattle.dl_bytes.specs.declared.item.Injection.{Injection}
use Rattle.dl_bytes.specs.declared.outcome.Done.{Done}
use Rattle.dl_bytes.specs.declared.outcome.Done.TheVariants as did
use Rattle.dl_events.specs.declared.event.Event.{Event}
use Rattle.dl_events.specs.declared.event.Event.TheVariants as event
use Rattle.dl_outside.specs.Folder.{HasCause}
use Rattle.dl_outside.specs.declared.folder.FolderFault.{FolderFault}
use Rattle.dl_outside.specs.declared.folder.FolderFault.TheVariants as fault
use Rattle.dl_trace.specs.State.{Trace}
use Rattle.dl_model.specs.Journal.{registry_of, slots_of, need_after}
use Rattle.dl_model.specs.Reply.{apid_of, asked, ctid_of, Need, Folder}
use Rattle.dl_script_model.specs.Marks.{Mark, Noted, Answered, Injected, event_of, journal, injections, is_answer}
use Rattle.dl_script_model.specs.Steps.{request_now, served}
use Rattle.dl_model.proofs.Lists.{count_by-append}
use Rattle.dl_world_calls.proofs.Changing.{no-call-stays}
use Rattle.dl_registry.specs.Kept.{slots}
use Rattle.dl_hub.specs.State.{Hub, Waiting, HasRoom, outbox_of}
use Rattle.dl_services.specs.Wish.{needed, wanted}
use Rattle.dl_services.specs.declared.wish.Want.{Want}
use Rattle.dl_services.specs.declared.wish.Want.TheVariants as want
use Rattle.dl_laws.proofs.Answered.{every_reply_tells}
use Rattle.dl_core.specs.State.{Core}
use Rattle.dl_core.specs.Follows.{Run, Adds, HoldsTrace, HoldsFiles, stored_by}
use Rattle.dl_core.specs.Serving.{Answers, Ready, IsReady, Serves, done_by, injection_in, reply_now, wanted_now}
use Rattle.dl_core.specs.Settings.{seen}
use Rattle.dl_core.proofs.Requested.{KeepsTraces, answers_keep}
use Rattle.dl_outside.specs.Told.{FolderTold}
use Rattle.dl_core.specs.Standing.{KeepsTrace}
use Rattle.dl_core.proofs.StandingFiles.{keeps_by, keeps_quiet}
use Rattle.dl_world.specs.Follows.{IsAfter, IsBefore, BeginWith, answer_of, answers_in, is_failure, failures_of, Goes, Does, Queues}
use Rattle.dl_world.specs.State.{taken_by}
use Rattle.dl_world.specs.Stored.{HoldsStored}
use Rattle.dl_world.specs.declared.world.World.{World}
use Rattle.dl_world.proofs.Needs.{injection_below, wanted_is}
use Rattle.dl_world.proofs.Noting.{IsNoTurn, journal_noted, noted_before}
use Rattle.dl_world.proofs.Quiet.{journal_same, answered_after, injected_after}
use Rattle.dl_world.proofs.StoredFiles.{request_stored}
use Rattle.dl_lemmas.proofs.Lists.{get_end, get_more}
use Rattle.dl_services.proofs.Requests.{wants-needs}

-- ---- the trace alone counts for what the folder holds

pub holds_as : (run : Run) (events events_now : List Event) (old new : Core) (told : FolderTold) → events_now ≡ events → new.trace ≡ old.trace
    → HoldsTrace run events old told → HoldsTrace run events_now new told
holds_as run events events_now old new told same trace held =
    subst (λ (es : List Event). HoldsTrace run es new told) (sym same)
    (subst (λ (o : Option Trace). IfSome o (λ kept. kept.state.end ≡ None → HoldsFiles run (stored_by run events) told.files)) (sym trace) held)

-- ---- the event of a request

no_turn : (client : ℕ) (frame : List ℕ) (answer : Done) → IsNoTurn (event.Request client frame answer)
no_turn client frame answer = record { connects = refl; closes = refl; nobody = λ number. refl }

-- what serving a request did to the parts of a world, and what its delivery makes of them
pub record HasServed (client : ℕ) (frame : List ℕ) (answer : Done) (old mid new : World) (told told_now : FolderTold) : Type 0 where
  pub adds : Adds (event.Request client frame answer ∷ []) (λ run. Unit {0}) old.core mid.core told told_now
  pub keeps : KeepsTraces told.files told_now.files
  pub notes : mid.journal.events ≡ old.journal.events ++ event.Request client frame answer ∷ []
  pub calls_kept : mid.calls ≡ old.calls
  pub clients_kept : mid.clients ≡ old.clients
  pub channels_kept : mid.channels ≡ old.channels
  pub moment_kept : mid.moment ≡ old.moment
  pub later_kept : mid.later ≡ old.later
  pub delivers : (run : Run) (done : List Mark) → IsBefore run done mid → IsAfter run done new
  pub trace_mid : mid.core.trace ≡ old.core.trace
  pub trace_new : new.core.trace ≡ mid.core.trace

module _ (client : ℕ) (frame : List ℕ) (answer : Done) (old mid new : World) (told told_now : FolderTold) (is : HasServed client frame answer old mid new told told_now) where
  abbrev e : Event
  e = event.Request client frame answer

  abbrev between : World
  between = record old { injections = mid.injections }

  -- behind the marks of what was asked for
  pub goes_by : (run : Run) (done front : List Mark) (answered : List Done) → IsAfter run done old → filter_map event_of front ≡ [] → answers_in (front ++ Noted e ∷ []) ≡ answered
      → IsAfter run (done ++ front) between
      → ((first : Option (List ℕ)) → count_by is_failure answered ≡ 0 → HoldsStored run.setting first (journal done) told.files → HoldsStored run.setting first (journal done ++ e ∷ []) told_now.files)
      → Goes run done (front ++ Noted e ∷ []) old new told told_now answered
  goes_by run done front answered after none answered_is ahead stores =
      let events : journal (done ++ front) ≡ journal done = journal_same done front none in
      let core_noted = is.adds run (journal done) (taken_by old.clients) tt after.so_far.core_so in
      let before : IsBefore run ((done ++ front) ++ Noted e ∷ []) mid = noted_before run (done ++ front) e between mid (no_turn client frame answer) ahead (record {
        core_noted = rw events core_noted.0;
        gives = every_reply_tells run.setting (slots_of run.setting (journal (done ++ front))) (registry_of run.setting (journal (done ++ front))) frame answer after.so_far.ecu_so;
        calls_noted = rw is.calls_kept (no-call-stays (done ++ front) (Noted e) old.calls refl ahead.so_far.calls_so);
        events_noted = is.notes;
        rest = record { injections_rest = refl; clients_rest = is.clients_kept; channels_rest = is.channels_kept; moment_rest = is.moment_kept; later_rest = is.later_kept };
      }) in
      let all : (done ++ front) ++ Noted e ∷ [] ≡ done ++ (front ++ Noted e ∷ []) = append_assoc done front (Noted e ∷ []) in
      let whole : journal (done ++ (front ++ Noted e ∷ [])) ≡ journal done ++ e ∷ [] =
      ap journal (sym all) ∙ journal_noted (done ++ front) e ∙ ap (λ (es : List Event). es ++ e ∷ []) events in
      record {
        after = subst (λ (ms : List Mark). IsAfter run ms new) all (is.delivers run ((done ++ front) ++ Noted e ∷ []) before);
        holds = λ held. holds_as run (journal done ++ e ∷ []) (journal (done ++ (front ++ Noted e ∷ []))) mid.core new.core told_now whole is.trace_new (core_noted.1 held);
        stands = λ first kept. subst (λ (es : List Event). KeepsTrace run first es new.core told_now) (sym whole)
            (keeps_by run first (journal done ++ e ∷ []) mid.core new.core told_now is.trace_new (keeps_quiet run first (journal done) e old.core mid.core told told_now is.trace_mid refl is.keeps kept));
        stored = λ first fine holds. subst (λ (es : List Event). HoldsStored run.setting first es told_now.files) (sym whole) (stores first fine holds);
        answers = filter_map-append answer_of done (front ++ Noted e ∷ []) ∙ ap (λ (xs : List Done). answers_in done ++ xs) answered_is;
      }

  pub failed_none : failures_of new.core ≡ failures_of old.core + 0
  failed_none = rw (is.trace_new, is.trace_mid) (omega arith)

-- ---- what the folder answers next

one_answer : (mark : Mark) → length (answers_in (mark ∷ [])) ≡ cond (is_answer mark) 1 0
one_answer (Answered what) = refl
one_answer _ = refl

answers_count : (done : List Mark) → length (answers_in done) ≡ count_by is_answer done
answers_count [] = refl
answers_count (m ∷ ms) =
    let parts : length (answers_in (m ∷ ms)) ≡ length (answers_in (m ∷ [])) + length (answers_in ms) = ap length (filter_map-append answer_of (m ∷ []) ms) ∙ length-append (answers_in (m ∷ [])) (answers_in ms) in
    let one : count_by is_answer (m ∷ []) ≡ cond (is_answer m) 1 0 = omega arith in
    omega (arith, parts, one, one_answer m, count_by-append is_answer (m ∷ []) ms, answers_count ms)

pub next_answer : (done : List Mark) (answer : Done) (answers : List Done) → BeginWith (answers_in done ++ answer ∷ []) answers
    → unwrap_or (slice_get answers (count_by is_answer done)) did.Yes ≡ answer
next_answer done answer answers begins =
    let there : slice_get ((answers_in done ++ answer ∷ []) ++ begins.0) (length (answers_in done)) ≡ Some answer =
    get_more (answers_in done ++ answer ∷ []) begins.0 (length (answers_in done)) answer (get_end (answers_in done) answer) in
    ap (λ (o : Option Done). unwrap_or o did.Yes)
    (ap (λ (n : ℕ). slice_get answers n) (sym (answers_count done)) ∙ ap (λ (xs : List Done). slice_get xs (length (answers_in done))) begins.1 ∙ there)

-- the count of faults rose where the folder failed
pub rose_by : (result : Result (Unit {0}) FolderFault) (faults faults_now : ℕ) → HasCause faults faults_now result
    → min (faults + (count_by is_failure (done_by result ∷ []) + 0)) (2 ^ 64 - 1) ≤ faults_now
rose_by (Ok made) faults faults_now cause = omega (arith, cause)
rose_by (Err fault.Failed) faults faults_now cause = omega (arith, cause.1)
rose_by (Err fault.OutOfMemory) faults faults_now cause = omega (arith, cause)

-- where it failed at none, it did not fail at the one
none_failed : (answer : Done) → count_by is_failure (answer ∷ []) ≡ 0 → is_failure answer ≡ false
none_failed did.Yes fine = refl
none_failed did.Failed fine = absurd (omega (arith, fine))
none_failed did.NoMemory fine = refl

-- ---- by what the request wants

-- what is known of each run: what it asks for is what the request wants, and an injection is for one of 16 applications
pub record IsWanted (frame : List ℕ) (wants : Want) (old : World) : Type 0 where
  pub needs : (run : Run) (done : List Mark) → IsAfter run done old → need_after run.setting (journal done) frame ≡ needed wants
  pub is_what : (run : Run) (done : List Mark) → IsAfter run done old
      → wanted run.setting (slots_of run.setting (journal done)) (registry_of run.setting (journal done)) (apid_of frame) (ctid_of frame) (asked frame) ≡ wants
  pub below : (app : ℕ) (injection : Injection) (run : Run) (done : List Mark) → IsAfter run done old → wants ≡ want.Inject app injection → app < 16

module _ (client : ℕ) (frame : List ℕ) (answer : Done) (old mid new : World) (told told_now : FolderTold) (is : HasServed client frame answer old mid new told told_now) where
  abbrev noted : Done → Mark
  noted what = Noted (event.Request client frame what)

  -- what the journal with its event makes of the stored configuration, where the folder did not fail
  abbrev Stores : Want → Type 0
  Stores wants = (needed wants ≡ Folder → is_failure answer ≡ false) → (run : Run) (done : List Mark) → IsAfter run done old → (first : Option (List ℕ))
      → HoldsStored run.setting first (journal done) told.files → HoldsStored run.setting first (journal done ++ event.Request client frame answer ∷ []) told_now.files

  stores_so : (wants : Want) (pushed : Bool) → IsWanted frame wants old → Answers wants pushed answer told told_now → Stores wants
  stores_so wants pushed known acts fine run done after first =
      request_stored run.setting first (journal done) client frame answer wants pushed told told_now (known.is_what run done after) acts fine

  -- the queues are as they were
  same_queues : (run : Run) (done : List Mark) → mid.injections ≡ old.injections → IsAfter run done old → IsAfter run done (record old { injections = mid.injections })
  same_queues run done same after = subst (λ (waiting : List ℕ). IsAfter run done (record old { injections = waiting })) (sym same) after

  -- nothing is wanted
  does_alone : IsWanted frame want.Nothing old → Stores want.Nothing → answer ≡ did.Yes → told_now.faults ≡ told.faults → mid.injections ≡ old.injections
      → Does (λ setting answers. request_now setting answers client frame) old new told told_now
  does_alone known stores yes_is faults same = record {
    answered = [];
    goes = λ run done answers begins after is_run.
        let marks : request_now run.setting answers client frame done ≡ noted answer ∷ [] =
        ap (λ (need : Need). served answers client frame need done) (known.needs run done after) ∙ ap (λ (what : Done). noted what ∷ []) (sym yes_is) in
        let ahead : IsAfter run (done ++ []) (record old { injections = mid.injections }) =
        subst (λ (ms : List Mark). IsAfter run ms (record old { injections = mid.injections })) (sym (append-nil done)) (same_queues run done same after) in
        subst (λ (more : List Mark). Goes run done more old new told told_now []) (sym marks)
        (goes_by client frame answer old mid new told told_now is run done [] [] after refl refl ahead (λ first fine. stores (λ e. absurd cc) run done after first));
    trace_failed = 0;
    failures = failed_none client frame answer old mid new told told_now is;
    rose = omega (arith, faults);
  }

  -- the folder was asked
  does_asking : (wants : Want) → IsWanted frame wants old → Stores wants → needed wants ≡ Folder → (result : Result (Unit {0}) FolderFault) → answer ≡ done_by result
      → HasCause told.faults told_now.faults result → mid.injections ≡ old.injections
      → Does (λ setting answers. request_now setting answers client frame) old new told told_now
  does_asking wants known stores folder result answer_is cause same = record {
    answered = answer ∷ [];
    goes = λ run done answers begins after is_run.
        let marks : request_now run.setting answers client frame done ≡ Answered answer ∷ noted answer ∷ [] =
        ap (λ (need : Need). served answers client frame need done) (known.needs run done after ∙ folder)
        ∙ ap (λ (what : Done). Answered what ∷ noted what ∷ []) (next_answer done answer answers begins) in
        let ahead = same_queues_after run done after in
        subst (λ (more : List Mark). Goes run done more old new told told_now (answer ∷ [])) (sym marks)
        (goes_by client frame answer old mid new told told_now is run done (Answered answer ∷ []) (answer ∷ []) after refl refl ahead (λ first fine. stores (λ _. none_failed answer fine) run done after first));
    trace_failed = 0;
    failures = failed_none client frame answer old mid new told told_now is;
    rose = subst (λ (what : Done). min (told.faults + (count_by is_failure (what ∷ []) + 0)) (2 ^ 64 - 1) ≤ told_now.faults) (sym answer_is) (rose_by result told.faults told_now.faults cause);
  } where
    same_queues_after : (run : Run) (done : List Mark) → IsAfter run done old → IsAfter run (done ++ Answered answer ∷ []) (record old { injections = mid.injections })
    same_queues_after run done after =
        subst (λ (waiting : List ℕ). IsAfter run (done ++ Answered answer ∷ []) (record old { injections = waiting })) (sym same) (answered_after run done old after answer)

  -- a queue was asked
  does_sending : (app : ℕ) (injection : Injection) (pushed : Bool) → IsWanted frame (want.Inject app injection) old → Stores (want.Inject app injection) → answer ≡ (if pushed then did.Yes else did.Failed) → told_now.faults ≡ told.faults
      → Queues (Some app) pushed old.injections mid.injections
      → Does (λ setting answers. request_now setting answers client frame) old new told told_now
  does_sending app injection true known stores answer_is faults queues = record {
    answered = [];
    goes = λ run done answers begins after is_run.
        let room : nat_lt (injections app done) 16 ≡ true = (let count = after.so_far.injections_so.each app queues.0 in let few = queues.1 in grind (arith, count, few)) in
        let marks : request_now run.setting answers client frame done ≡ Injected app ∷ noted answer ∷ [] =
        ap (λ (need : Need). served answers client frame need done) (known.needs run done after)
        ∙ ap (λ (b : Bool). if b then Injected app ∷ noted did.Yes ∷ [] else noted did.Failed ∷ []) room
        ∙ ap (λ (what : Done). Injected app ∷ noted what ∷ []) (sym answer_is) in
        let ahead = injected_after run done old after app mid.injections (queues.2 done after.so_far.injections_so) in
        subst (λ (more : List Mark). Goes run done more old new told told_now []) (sym marks)
        (goes_by client frame answer old mid new told told_now is run done (Injected app ∷ []) [] after refl refl ahead (λ first fine. stores (λ e. absurd cc) run done after first));
    trace_failed = 0;
    failures = failed_none client frame answer old mid new told told_now is;
    rose = omega (arith, faults);
  }
  does_sending app injection false known stores answer_is faults queues = record {
    answered = [];
    goes = λ run done answers begins after is_run.
        let small = known.below app injection run done after refl in
        let full : nat_lt (injections app done) 16 ≡ false = (let count = after.so_far.injections_so.each app small in let most = queues.0 small in grind (arith, count, most)) in
        let marks : request_now run.setting answers client frame done ≡ noted answer ∷ [] =
        ap (λ (need : Need). served answers client frame need done) (known.needs run done after)
        ∙ ap (λ (b : Bool). if b then Injected app ∷ noted did.Yes ∷ [] else noted did.Failed ∷ []) full
        ∙ ap (λ (what : Done). noted what ∷ []) (sym answer_is) in
        let ahead : IsAfter run (done ++ []) (record old { injections = mid.injections }) =
        subst (λ (ms : List Mark). IsAfter run ms (record old { injections = mid.injections })) (sym (append-nil done)) (same_queues run done queues.1 after) in
        subst (λ (more : List Mark). Goes run done more old new told told_now []) (sym marks)
        (goes_by client frame answer old mid new told told_now is run done [] [] after refl refl ahead (λ first fine. stores (λ e. absurd cc) run done after first));
    trace_failed = 0;
    failures = failed_none client frame answer old mid new told told_now is;
    rose = omega (arith, faults);
  }

  -- whatever is wanted
  pub does_request : (wants : Want) (pushed : Bool) → IsWanted frame wants old → Answers wants pushed answer told told_now
      → Queues (option_map (λ (i : ℕ × Injection). i.0) (injection_in wants)) pushed old.injections mid.injections
      → Does (λ setting answers. request_now setting answers client frame) old new told told_now
  does_request want.Nothing pushed known acts queues = does_alone known (stores_so want.Nothing pushed known acts) acts.0 (ap (λ (f : FolderTold). f.faults) acts.1) queues.1
  does_request (want.Put text stored) pushed known acts queues =
      does_asking (want.Put text stored) known (stores_so (want.Put text stored) pushed known acts) refl acts.0 acts.1 acts.3 queues.1
  does_request want.Remove pushed known acts queues = does_asking want.Remove known (stores_so want.Remove pushed known acts) refl acts.0 acts.1 acts.3 queues.1
  does_request (want.Inject app injection) pushed known acts queues =
      does_sending app injection pushed known (stores_so (want.Inject app injection) pushed known acts) acts.0 (ap (λ (f : FolderTold). f.faults) acts.1) queues

-- ---- what the core's call tells

pub wanted_by : (frame : List ℕ) (ready : Ready) (old : World) → IsReady old.core ready → ready.frame ≡ frame → IsWanted frame ready.want old
wanted_by frame ready old is same = record {
  needs = λ run done after. wants-needs run.setting (slots_of run.setting (journal done)) (registry_of run.setting (journal done)) (apid_of frame) (ctid_of frame) (asked frame) ∙ ap needed (what run done after);
  is_what = what;
  below = λ app injection run done after here.
      injection_below run.setting (seen old.core) (journal done) (slots old.core.registry) old.core.registry.registry (apid_of frame) (ctid_of frame) (asked frame) app injection
      after.so_far.core_so.registry.registry (sym want_is ∙ here);
} where
  want_is : ready.want ≡ wanted_now old.core frame
  want_is = is.want ∙ ap (wanted_now old.core) same

  what : (run : Run) (done : List Mark) → IsAfter run done old
      → wanted run.setting (slots_of run.setting (journal done)) (registry_of run.setting (journal done)) (apid_of frame) (ctid_of frame) (asked frame) ≡ ready.want
  what run done after =
      let set_to = after.so_far.core_so.set_to in
      let kept = after.so_far.core_so.registry in
      wanted_is run.setting (seen old.core) (journal done) (slots old.core.registry) old.core.registry.registry frame (sym set_to.level) (sym set_to.injection) kept.slots kept.registry ∙ sym want_is

pub has_served : (client : ℕ) (frame : List ℕ) (ready : Ready) (pushed : Bool) (old mid new : World) (before : Core) (told told_now : FolderTold) (events : List Event)
    → (serves : Serves ready pushed before mid.core told told_now (Some events) (Some mid.journal.events))
    → before ≡ old.core → ready.client ≡ client → ready.frame ≡ frame → events ≡ old.journal.events → mid.core.trace ≡ before.trace
    → mid.calls ≡ old.calls → mid.clients ≡ old.clients → mid.channels ≡ old.channels → mid.moment ≡ old.moment → mid.later ≡ old.later
    → ((run : Run) (done : List Mark) → IsBefore run done mid → IsAfter run done new) → new.core.trace ≡ mid.core.trace
    → HasServed client frame serves.answer old mid new told told_now
has_served client frame ready pushed old mid new before told told_now events serves core_is client_is frame_is events_are trace calls_are clients_are channels_are moment_is later_is delivers delivered =
    record {
      adds = subst (λ (core : Core). Adds (event.Request client frame serves.answer ∷ []) (λ run. Unit {0}) core mid.core told told_now) core_is
          (subst (λ (e : Event). Adds (e ∷ []) (λ run. Unit {0}) before mid.core told told_now) same_event serves.after);
      keeps = answers_keep ready.want pushed serves.answer told told_now serves.acts;
      notes = the_events events mid.journal.events (event.Request ready.client ready.frame serves.answer) serves.notes ∙ ap (λ (es : List Event). es ++ event.Request ready.client ready.frame serves.answer ∷ []) events_are
          ∙ ap (λ (e : Event). old.journal.events ++ e ∷ []) same_event;
      calls_kept = calls_are;
      clients_kept = clients_are;
      channels_kept = channels_are;
      moment_kept = moment_is;
      later_kept = later_is;
      delivers = delivers;
      trace_mid = trace ∙ ap (λ (core : Core). core.trace) core_is;
      trace_new = delivered;
    } where
      same_event : event.Request ready.client ready.frame serves.answer ≡ event.Request client frame serves.answer
      same_event = λ i. event.Request (client_is i) (frame_is i) serves.answer

      the_events : (xs ys : List Event) (e : Event) → Some ys ≡ Some (xs ++ e ∷ []) → ys ≡ xs ++ e ∷ []
      the_events xs ys e is = cc

-- ---- room for the reply

has_room : (o : Option Waiting) (room need : ℕ) → need ≤ room → IsSomeAnd o (λ outbox. room + length outbox.bytes ≡ outbox.capacity) → IsSomeAnd o (λ outbox. length outbox.bytes + need ≤ outbox.capacity)
has_room None room need fits is = absurd is
has_room (Some outbox) room need fits is = omega (arith, fits, is)

pub room_for : (core before : Core) (client : ℕ) (frame read : List ℕ) (ready : Ready) (hub : Hub) (room need : ℕ) (answer : Done)
    → before ≡ core → ready.client ≡ client → ready.frame ≡ frame → read ≡ frame → hub ≡ core.hub
    → IsSomeAnd (outbox_of hub client) (λ outbox. room + length outbox.bytes ≡ outbox.capacity) → need ≤ room → need ≡ length (reply_now core read answer)
    → HasRoom (length (reply_now before ready.frame answer)) before.hub ready.client
room_for core before client frame read ready hub room need answer core_is client_is frame_is read_is hub_is value fits need_is =
    subst (λ (c : Core). HasRoom (length (reply_now c ready.frame answer)) c.hub ready.client) (sym core_is)
    (subst (λ (n : ℕ). HasRoom (length (reply_now core ready.frame answer)) core.hub n) (sym client_is)
    (subst (λ (f : List ℕ). HasRoom (length (reply_now core f answer)) core.hub client) (read_is ∙ sym frame_is)
    (subst (λ (n : ℕ). HasRoom n core.hub client) need_is
    (subst (λ (h : Hub). HasRoom need h client) hub_is (has_room (outbox_of hub client) room need fits value)))))
