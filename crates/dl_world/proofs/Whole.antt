-- A whole run: what its lines and its end come to is the run of the definitions.
use Rattle.std.proofs.Common.{◌≡◌, ℕ, zero, suc, ◌+◌, Bool, false, cond, List, [], ◌∷◌, ◌++◌, take, drop, Option, Some, None, refl, sym, ap, subst, ◌∙◌, arith}
use Rattle.std.specs.Prelude.{slice_get, count_by, IfSome, IsSomeAnd, Result, Ok, Err, IfOk}
use Rattle.std.specs.FinMap as map
use Rattle.std.specs.List.{filter_map, AllByRecursion}
use Rattle.std.specs.Option.{option_map, option_map_or}
use Rattle.std.proofs.lemmas.List.{append-nil}
use Rattle.std.proofs.lemmas.List.Sums.{sum_by-cons}
use Rattle.dl_lemmas.proofs.Lists.{all_at}
use Rattle.dl_bytes.specs.declared.conf.Conf.{Conf}
use Rattle.dl_bytes.specs.declared.conf.Stored.{Stored}
use Rattle.dl_bytes.specs.declared.outcome.Done.{Done}
use Rattle.dl_bytes.specs.declared.outcome.Done.TheVariants as did
use Rattle.dl_bytes.specs.declared.outcome.TraceState.{TraceState}
use Rattle.dl_script_model.specs.declared.step.Step.{Step}
use Rattle.dl_script.specs.Earlier.{nothing}
use Rattle.dl_model.specs.Setting.{Setting}
use Rattle.dl_script_model.specs.Marks.{Mark, HasApp, HasContext, HasWriter, Filtered, Passed, Queued, Refused, Counted, HasClaim, Announced, HeldBack, Noted, Clocked, LevelsWait, Fed, Heard, Answered, Injected, Handed, apid_of, call_of, journal}
use Rattle.dl_script_model.specs.Replay.{frame_of_call}
use Rattle.dl_script_model.specs.Steps.{after_lines, run}
use Rattle.dl_model.specs.TraceFiles.{StoredFile}
use Rattle.dl_runs.proofs.Founded.{lines_founded, run_founded}
use Rattle.dl_runs.specs.CallFrame.{HasItsFrame}
use Rattle.dl_runs.proofs.OneCall.{frames_now}
use Rattle.dl_outside.specs.Folder.{Files}
use Rattle.dl_trace.specs.Made.{IsMade}
use Rattle.dl_trace.specs.State as traces
use Rattle.dl_trace.specs.State.{Trace}
use Rattle.dl_core.specs.Settings.{setting_of}
use Rattle.dl_core.specs.Serving.{stored_name}
use Rattle.dl_core.specs.State.{Core}
use Rattle.dl_core.specs.Follows.{Run, IsTraceAfter, stored_by}
use Rattle.dl_outside.specs.Told.{FolderTold}
use Rattle.dl_core.specs.Files.{directory_of}
use Rattle.dl_core.specs.Standing.{IsKept}
use Rattle.dl_core.proofs.StandingFiles.{kept_first}
use Rattle.dl_world.specs.Follows.{IsRunOf, IsAfter, Goes, Does, BeginWith, answer_of, answers_in, is_failure, failures_of}
use Rattle.dl_world.specs.Known.{MayCome}
use Rattle.dl_world.specs.Left.{IsLeft, told_of}
use Rattle.dl_script.specs.Playable.{IsInBounds, IsPlayable}
use Rattle.dl_core.specs.Later.{trace_failures}
use Rattle.dl_world.specs.Played.{IsTraced, TellsOf, is_failed, IsPlayed}
use Rattle.dl_world.specs.Stored.{HoldsStored}
use Rattle.dl_world.specs.declared.played.Played.{Played}
use Rattle.dl_world.specs.declared.world.World.{World}
use Rattle.dl_world.proofs.Knowing.{known_after, lines_known, nothing_known, may_come}
use Rattle.dl_world.proofs.Lines.{lines, whole}

-- some files stood before
pub some_stood : (trace : Option Trace) → IfSome trace (λ made. (stood : List StoredFile) × traces.IsAfter stood [] made)
    → (stood : List StoredFile) × IfSome trace (traces.IsAfter stood [])
some_stood None stood = ([], tt)
some_stood (Some made) stood = stood

-- ---- failures

same_test : (what : Done) → is_failed (Answered what) ≡ is_failure what
same_test did.Yes = refl
same_test did.Failed = refl
same_test did.NoMemory = refl

by_answer : (mark : Mark) → is_failed mark ≡ option_map_or is_failure (answer_of mark) false
by_answer (HasApp app) = refl
by_answer (HasContext context) = refl
by_answer (HasWriter apid) = refl
by_answer (Filtered call) = refl
by_answer (Passed call) = refl
by_answer (Queued call) = refl
by_answer (Refused call) = refl
by_answer (Counted call) = refl
by_answer (HasClaim claim) = refl
by_answer (Announced claim) = refl
by_answer (HeldBack claim) = refl
by_answer (Noted e) = refl
by_answer (Clocked moment) = refl
by_answer (LevelsWait later) = refl
by_answer (Fed client bytes) = refl
by_answer (Heard channel bytes) = refl
by_answer (Answered what) = same_test what
by_answer (Injected app) = refl
by_answer (Handed app) = refl

abbrev one_if : Bool → ℕ
one_if b = cond b 1 0

count_failed : (done : List Mark) → count_by is_failed done ≡ count_by is_failure (answers_in done)
count_failed [] = refl
count_failed (mark ∷ done) = sum_by-cons (λ (m : Mark). cond (is_failed m) 1 0) mark done ∙ by_case (answer_of mark) (by_answer mark) refl (count_failed done) where
  by_case : (o : Option Done) → is_failed mark ≡ option_map_or is_failure o false → answer_of mark ≡ o → count_by is_failed done ≡ count_by is_failure (answers_in done)
      → one_if (is_failed mark) + count_by is_failed done ≡ count_by is_failure (answers_in (mark ∷ done))
  by_case None test is later =
      let here : one_if (is_failed mark) ≡ 0 = ap one_if test in
      let rest : answers_in (mark ∷ done) ≡ answers_in done = rw is refl in
      omega (arith, here, later, ap (count_by is_failure) rest)
  by_case (Some what) test is later =
      let here : one_if (is_failed mark) ≡ one_if (is_failure what) = ap one_if test in
      let rest : answers_in (mark ∷ done) ≡ what ∷ answers_in done = rw is refl in
      let more : count_by is_failure (what ∷ answers_in done) ≡ one_if (is_failure what) + count_by is_failure (answers_in done) = sum_by-cons (λ (x : Done). cond (is_failure x) 1 0) what (answers_in done) in
      omega (arith, here, later, more, ap (count_by is_failure) rest)

-- ---- the run of these lines

module _ (conf : Conf) (kept : Stored) (handed : Option Trace) (stood : List StoredFile) (first : World)
    (begins : (run : Run) → run.setting ≡ setting_of conf kept 0 → run.before ≡ 0 → IfSome handed (traces.IsAfter run.stood run.head) → IsAfter run [] first) (stood_so : IfSome handed (traces.IsAfter stood [])) where
  abbrev setting : Setting
  setting = setting_of conf kept 0

  -- the run that has the frames and the ids of these marks
  abbrev pub run_of : List Mark → Run
  run_of done = record { setting = setting; frame = frame_of_call setting done; apid = apid_of done; stood = stood; before = 0; head = [] }

  is_run : (done : List Mark) → AllByRecursion (HasItsFrame setting done) (filter_map call_of done) → IsRunOf (run_of done) done
  is_run done frames = record { frames = frames; apids = λ app below. refl }

  begin_with : (answered : List Done) → BeginWith (answers_in [] ++ answered) answered
  begin_with answered = ([], sym (append-nil answered))

  -- after lines
  pub after_some : (steps : List Step) (now : World) (told told_now : FolderTold) (does : Does (lines steps) first now told told_now)
      → IsAfter (run_of (after_lines setting does.answered steps)) (after_lines setting does.answered steps) now
  after_some steps now told told_now does =
      let done = after_lines setting does.answered steps in
      let goes = does.goes (run_of done) [] does.answered (begin_with does.answered) (begins (run_of done) refl refl stood_so) (is_run done (frames_now setting done (lines_founded setting does.answered steps))) in
      goes.after

  -- the next line may come
  pub next_comes : (steps : List Step) (place : ℕ) (step : Step) (now : World) (told told_now : FolderTold) → IsPlayable steps → slice_get steps place ≡ Some step
      → Does (lines (take place steps)) first now told told_now → MayCome step now
  next_comes steps place step now told told_now playable is does = record {
    run = run_of (after_lines setting does.answered (take place steps));
    done = after_lines setting does.answered (take place steps);
    after = after_some (take place steps) now told told_now does;
    known = known_after nothing (take place steps);
    is_known = lines_known setting does.answered (take place steps) nothing [] nothing_known;
    admitted = may_come steps nothing place step playable.follows is;
    bounds = all_at IsInBounds steps place step playable.bounds is;
  }

  -- after all
  pub after_all : (steps : List Step) (last : World) (told told_now : FolderTold) (does : Does (whole steps) first last told told_now)
      → Goes (run_of (run setting does.answered steps)) [] (run setting does.answered steps) first last told told_now does.answered
  after_all steps last told told_now does =
      let done = run setting does.answered steps in
      does.goes (run_of done) [] does.answered (begin_with does.answered) (begins (run_of done) refl refl stood_so) (is_run done (frames_now setting done (run_founded setting does.answered steps)))

  -- ---- the trace

  module _ (done : List Mark) where
    traced : (last : Trace) (told told_now : Option Files) → IsTraceAfter (run_of done) (stored_by (run_of done) (journal done)) last
        → IsKept (run_of done) told (stored_by (run_of done) (journal done)) last told_now → IsTraced setting stood done last.state told told_now
    traced last told told_now is kept = record {
      stored = kept.stored;
      later = kept.later;
      all = kept.all;
      files_are = kept.files.files ∙ rw (kept.directory, kept.file_size, kept.max_size) refl;
      whole = kept.whole;
      unspent = is.unspent;
      spent = is.spent;
      stands = kept.stands;
    }

    abbrev where_is : Trace → List ℕ
    where_is trace = trace.directory

    pub tells_of : (old last : Option Trace) (state : TraceState) (told told_now : Option Files) → option_map where_is last ≡ option_map where_is old
        → IfSome last (IsTraceAfter (run_of done) (stored_by (run_of done) (journal done)))
        → IfSome last (λ trace. IsKept (run_of done) told (stored_by (run_of done) (journal done)) trace told_now)
        → state ≡ told_of last → TellsOf setting stood done old state told told_now
    tells_of None None state told told_now same is kept left = left
    tells_of None (Some last) state told told_now same is kept left = absurd cc
    tells_of (Some old) None state told told_now same is kept left = absurd cc
    tells_of (Some old) (Some last) state told told_now same is kept left = subst (λ (s : TraceState). IsTraced setting stood done s told told_now) (sym left) (traced last told told_now is kept)

    -- before the first line nothing is stored, and just the files that stood stand
    begun_keeps : (old : Option Trace) (told : Option Files) → IfSome old (IsMade conf) → IfSome old (traces.IsAfter stood [])
        → IfSome old (λ trace. IsKept (run_of done) told (stored_by (run_of done) []) trace told)
    begun_keeps None told made after = tt
    begun_keeps (Some trace) told made after = kept_first (run_of done) told trace told made.directory made.file_size made.max_size made.goes_on after (λ held. held)

    -- the stored configuration, from the file that stood there
    stored_at_end : (told told_now : Option Files) → ((first : Option (List ℕ)) → HoldsStored setting first [] told → HoldsStored setting first (journal done) told_now)
        → IfSome told (λ folder. HoldsStored setting (map.get folder stored_name) (journal done) told_now)
    stored_at_end None told_now goes = tt
    stored_at_end (Some folder) told_now goes = goes (map.get folder stored_name) refl

  -- ---- all of it

  failures_left : (last : Option Trace) (state : TraceState) → state ≡ told_of last → option_map_or (λ (trace : Trace). trace_failures trace.state.end) last 0 ≡ trace_failures state.end
  failures_left None state is = ap (λ (s : TraceState). trace_failures s.end) (sym is)
  failures_left (Some last) state is = ap (λ (s : TraceState). trace_failures s.end) (sym is)

  none_failed : (old : Option Trace) → IfSome old (IsMade conf) → option_map_or (λ (trace : Trace). trace_failures trace.state.end) old 0 ≡ 0
  none_failed None made = refl
  none_failed (Some old) made = ap trace_failures made.goes_on

  pub is_played : (steps : List Step) (last : World) (told told_now : FolderTold) (does : Does (whole steps) first last told told_now)
      → first.core.trace ≡ handed → IfSome handed (IsMade conf) → directory_of last.core ≡ directory_of first.core
      → (played : Played) → ((r : Run) (done : List Mark) → IsAfter r done last → IsLeft r done last.core played)
      → IsPlayed setting stood steps handed played told told_now
  is_played steps last told told_now does handed_so made same played leaves =
      let done = run setting does.answered steps in
      let r = run_of done in
      let goes = after_all steps last told told_now does in
      let left = leaves r done goes.after in
      let directories : option_map (where_is done) last.core.trace ≡ option_map (where_is done) handed = same ∙ ap (option_map (where_is done)) handed_so in
      let traces_so : IfSome last.core.trace (IsTraceAfter r (stored_by r (journal done))) = goes.after.so_far.core_so.trace in
      let kept_first_so : IfSome first.core.trace (λ trace. IsKept r told.files (stored_by r []) trace told.files) =
      subst (λ (o : Option Trace). IfSome o (λ trace. IsKept r told.files (stored_by r []) trace told.files)) (sym handed_so) (begun_keeps done handed told.files made stood_so) in
      let zero_before : failures_of first.core ≡ 0 = ap (λ (o : Option Trace). option_map_or (λ (trace : Trace). trace_failures trace.state.end) o 0) handed_so ∙ none_failed handed made in
      let at_end : failures_of last.core ≡ trace_failures played.ends.trace.end = failures_left last.core.trace played.ends.trace left.trace_is in
      let failed : count_by is_failed done ≡ count_by is_failure does.answered = count_failed done ∙ ap (count_by is_failure) goes.answers in
      record {
        answers = does.answered;
        done = done;
        run_is = refl;
        records_are = left.records_are;
        claims_are = left.claims_are;
        events_are = left.events_are;
        streams_are = left.streams_are;
        specs_are = left.specs_are;
        ends_are = λ i. record { links = left.links_are i; dropped = left.none_dropped i; trace = played.ends.trace };
        backlog_is = left.backlog_is;
        trace_is = tells_of done handed last.core.trace played.ends.trace told.files told_now.files directories traces_so (goes.stands told.files kept_first_so) left.trace_is;
        stored = λ none. stored_at_end done told.files told_now.files (λ first. goes.stored first (sym failed ∙ none));
        faults_rose = omega (arith, does.rose, does.failures, zero_before, at_end, failed);
      }

-- what a call that went well tells of its value
pub if_ok : {T E : Type 0} (r : Result T E) (P Q : T → Type 0) → ((x : T) → P x → Q x) → IfOk r P → IfOk r Q
if_ok (Ok x) P Q goes is = goes x is
if_ok (Err e) P Q goes is = is
