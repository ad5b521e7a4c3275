-- A trace after a call that stored frames, or that stopped at one of them.
use Rattle.std.proofs.Common.{◌≡◌, ℕ, ◌+◌, true, false, List, [], ◌∷◌, ◌++◌, length, map, Option, Some, None, refl, sym, ap, subst, ◌∙◌, append_assoc, length-append, arith}
use Rattle.std.specs.Prelude.{IfSome}
use Rattle.std.proofs.lemmas.List.{append-nil}
use Rattle.dl_bytes.specs.declared.outcome.TraceEnd.{TraceEnd}
use Rattle.dl_bytes.specs.declared.outcome.TraceEnd.TheVariants.{Spent}
use Rattle.dl_outside.specs.Folder.{Files}
use Rattle.dl_outside.specs.Told.{FolderTold}
use Rattle.dl_model.specs.TraceFiles.{trace_files, is_spent}
use Rattle.dl_trace.specs.State.{Trace, IsAfter, counted, listed, missing}
use Rattle.dl_trace.specs.InFolder.{HasFiles}
use Rattle.dl_trace.specs.Pieces.{frames_in, room_of}
use Rattle.dl_trace.specs.Storing.{IsStored, Stops}
use Rattle.dl_trace.proofs.Spent.{spent_later}
use Rattle.dl_trace.proofs.Joined.{frames_in-append, frames_in_cut}
use Rattle.dl_core.specs.Follows.{Run, HoldsFiles, IsTraceAfter, files_with}
use Rattle.dl_trace.specs.Written.{StoresTill, Stores, StoresIn, StoresEach}

-- ---- a trace after more frames

-- what holds of the directory and the sizes of a trace holds of those of its run, and the other way
of_run : (P : List ℕ → ℕ → ℕ → Type 0) (run : Run) (frames : List (List ℕ)) (t : Trace) → IsTraceAfter run frames t
    → P t.directory t.file_size t.max_size → P run.setting.directory run.setting.file_size run.setting.max_size
of_run P run frames t is h =
    subst (λ (d : List ℕ). P d run.setting.file_size run.setting.max_size) is.directory
    (subst (λ (n : ℕ). P t.directory n run.setting.max_size) is.file_size (subst (λ (n : ℕ). P t.directory t.file_size n) is.max_size h))

-- a trace that goes on has stored all frames
all_stored : (run : Run) (frames : List (List ℕ)) (t : Trace) → IsTraceAfter run frames t → t.state.end ≡ None → IsAfter run.stood frames t
all_stored run frames t is goes_on =
    let same : is.stored ≡ frames = sym (append-nil is.stored) ∙ ap (λ (fs : List (List ℕ)). is.stored ++ fs) (sym (is.whole goes_on)) ∙ sym is.all in
    subst (λ (fs : List (List ℕ)). IsAfter run.stood fs t) same is.files

-- and so none is missing
none_missing : (run : Run) (frames : List (List ℕ)) (t : Trace) → IsTraceAfter run frames t → t.state.end ≡ None → t.unstored ≡ 0
none_missing run frames t is goes_on = is.unstored ∙ ap (λ (fs : List (List ℕ)). counted (length fs)) (is.whole goes_on)

-- counts go on
counted_with : (n a b all : ℕ) → n ≡ counted a → all ≡ a + b → counted (n + b) ≡ counted all
counted_with n a b all is sum = omega (arith, is, sum)

-- it had ended before
ended_follows : (run : Run) (frames more : List (List ℕ)) (t : Trace) (end : TraceEnd) → t.state.end ≡ Some end → IsTraceAfter run frames t → IsTraceAfter run (frames ++ more) (missing (length more) t)
ended_follows run frames more t end ended is = record {
  directory = is.directory;
  file_size = is.file_size;
  max_size = is.max_size;
  stored = is.stored;
  later = is.later ++ more;
  all = ap (λ (fs : List (List ℕ)). fs ++ more) is.all ∙ append_assoc is.stored is.later more;
  files = record { files = is.files.files; last = is.files.last; begun = is.files.begun };
  unstored = counted_with t.unstored (length is.later) (length more) (length (is.later ++ more)) is.unstored (length-append is.later more);
  whole = λ none. absurd (cc (ended, none));
  unspent = λ none some. absurd (cc (ended, none));
  spent = λ at. spent_later run.setting.file_size run.stood frames more (is.spent at);
}

-- all frames were stored
stored_follows : (run : Run) (frames more : List (List ℕ)) (old new : Trace) (told told_now : Option Files) → old.state.end ≡ None → IsTraceAfter run frames old
    → IsStored more old new told told_now → IsTraceAfter run (frames ++ more) new
stored_follows run frames more old new told told_now goes_on is does =
    let before = all_stored run frames old is goes_on in
    record {
      directory = does.same.directory ∙ is.directory;
      file_size = does.same.file_size ∙ is.file_size;
      max_size = does.same.max_size ∙ is.max_size;
      stored = frames ++ more;
      later = [];
      all = sym (append-nil (frames ++ more));
      files = does.state run.stood frames before;
      unstored = does.unstored ∙ none_missing run frames old is goes_on;
      whole = λ none. refl;
      unspent = λ none some. of_run (λ d n m. is_spent n run.stood (frames ++ more) ≡ false) run frames old is (does.unspent run.stood frames before);
      spent = λ at. absurd (cc (does.goes_on, at));
    }

-- and so the folder has their files
files_follow : (run : Run) (frames more : List (List ℕ)) (old new : Trace) (told told_now : Option Files) → old.state.end ≡ None → IsTraceAfter run frames old
    → IsStored more old new told told_now → HoldsFiles run frames told → HoldsFiles run (frames ++ more) told_now
files_follow run frames more old new told told_now goes_on is does holds =
    by_told told holds
    (of_run (λ d n m. IfSome told (λ folder. HasFiles d folder (trace_files n m run.stood frames) → (now : Files) × (told_now ≡ Some now) × HasFiles d now (trace_files n m run.stood (frames ++ more)))) run frames old is
    (does.folder run.stood frames (all_stored run frames old is goes_on))) where
      by_told : (told : Option Files) → HoldsFiles run frames told
          → IfSome told (λ folder. HasFiles run.setting.directory folder (files_with run frames) → (now : Files) × (told_now ≡ Some now) × HasFiles run.setting.directory now (files_with run (frames ++ more)))
          → HoldsFiles run (frames ++ more) told_now
      by_told None h step = absurd h
      by_told (Some folder) h step = let left = step h in subst (λ (o : Option Files). HoldsFiles run (frames ++ more) o) (sym left.1) left.2

-- the call stopped at a piece
stopped_follows : (run : Run) (frames more : List (List ℕ)) (old new : Trace) (told told_now : Option Files) (end : TraceEnd) → old.state.end ≡ None → IsTraceAfter run frames old
    → Stops end more old new told told_now → IsTraceAfter run (frames ++ more) new
stopped_follows run frames more old new told told_now end goes_on is does =
    let before = all_stored run frames old is goes_on in
    let first = frames_in does.stored in
    let rest = does.piece ++ frames_in does.later in
    let cut : more ≡ first ++ rest =
    sym (frames_in_cut old.file_size (room_of old) more) ∙ ap frames_in does.cut ∙ frames_in-append does.stored (does.piece ∷ does.later) in
    let whole : frames ++ more ≡ (frames ++ first) ++ rest = ap (λ (fs : List (List ℕ)). frames ++ fs) cut ∙ sym (append_assoc frames first rest) in
    let further : ((frames ++ first) ++ does.piece) ++ frames_in does.later ≡ frames ++ more = append_assoc (frames ++ first) does.piece (frames_in does.later) ∙ sym whole in
    record {
      directory = does.same.directory ∙ is.directory;
      file_size = does.same.file_size ∙ is.file_size;
      max_size = does.same.max_size ∙ is.max_size;
      stored = frames ++ first;
      later = rest;
      all = whole;
      files = does.state run.stood frames before;
      unstored = does.unstored ∙ counted_with old.unstored 0 (length rest) (length rest) (none_missing run frames old is goes_on) (omega arith);
      whole = λ none. absurd (cc (does.ended, none));
      unspent = λ none some. absurd (cc (does.ended, none));
      spent = λ at.
          let same : end ≡ Spent = cc (does.ended, at) in
          let here : is_spent old.file_size run.stood ((frames ++ first) ++ does.piece) ≡ true =
          (does.spent run.stood frames before).0 same in
          let there : is_spent run.setting.file_size run.stood ((frames ++ first) ++ does.piece) ≡ true =
          of_run (λ d n m. is_spent n run.stood ((frames ++ first) ++ does.piece) ≡ true) run frames old is here in
          subst (λ (fs : List (List ℕ)). is_spent run.setting.file_size run.stood fs ≡ true) further
          (spent_later run.setting.file_size run.stood ((frames ++ first) ++ does.piece) (frames_in does.later) there);
    }

-- whatever the call left
stores_follow : (run : Run) (frames more : List (List ℕ)) (old new : Trace) (told told_now : FolderTold)
    → Stores more old new told told_now → IsTraceAfter run frames old
    → IsTraceAfter run (frames ++ more) new
    × ((old.state.end ≡ None → HoldsFiles run frames told.files) → new.state.end ≡ None → HoldsFiles run (frames ++ more) told_now.files)
stores_follow run frames more old new told told_now call is = by_ends old.state.end new.state.end refl refl call where
  by_ends : (before after : Option TraceEnd) → old.state.end ≡ before → new.state.end ≡ after → StoresTill before after more old new told told_now
      → IsTraceAfter run (frames ++ more) new
      × ((old.state.end ≡ None → HoldsFiles run frames told.files) → new.state.end ≡ None → HoldsFiles run (frames ++ more) told_now.files)
  by_ends (Some end) after was now left = (
    subst (λ (t : Trace). IsTraceAfter run (frames ++ more) t) (sym left.0) (ended_follows run frames more old end was is),
    λ holds none. absurd (cc (was, none, ap (λ (t : Trace). t.state.end) left.0)),
  )
  by_ends None None was now left = (
    stored_follows run frames more old new told.files told_now.files was is left.0,
    λ holds none. files_follow run frames more old new told.files told_now.files was is left.0 (holds was),
  )
  by_ends None (Some end) was now left = (
    stopped_follows run frames more old new told.files told_now.files end was is left.0,
    λ holds none. absurd (cc (now, none)),
  )

-- what holds of a trace and a folder after some stored frames holds after these, of what they are now
abbrev pub Traced : Run → List (List ℕ) → List (List ℕ) → Option Trace → Option Trace → Option Files → Option Files → Type 0
Traced run before after old new told told_now =
    IfSome old (IsTraceAfter run before) → IfSome new (IsTraceAfter run after)
    × (IfSome old (λ t. t.state.end ≡ None → HoldsFiles run before told) → IfSome new (λ t. t.state.end ≡ None → HoldsFiles run after told_now))

-- the same where a trace is kept
pub trace_follows : (run : Run) (frames more : List (List ℕ)) (old new : Option Trace) (told told_now : FolderTold)
    → StoresIn more old new told told_now → Traced run frames (frames ++ more) old new told.files told_now.files
trace_follows run frames more None new told told_now call =
    subst (λ (o : Option Trace). Traced run frames (frames ++ more) None o told.files told_now.files) (sym call.0) (λ is. (tt {0}, λ holds. tt {0}))
trace_follows run frames more (Some old) None told told_now call = absurd call
trace_follows run frames more (Some old) (Some new) told told_now call = λ is. stores_follow run frames more old new told told_now call is

-- nothing was to be stored
pub trace_stays : (run : Run) (frames : List (List ℕ)) (kept : Option Trace) (told : Option Files) → Traced run frames (frames ++ []) kept kept told told
trace_stays run frames kept told = subst (λ (fs : List (List ℕ)). Traced run frames fs kept kept told told) (sym (append-nil frames)) (λ is. (is, λ holds. holds))

-- frames were stored one after the other
pub each_follows : (run : Run) (frames more : List (List ℕ)) (old new : Option Trace) (told told_now : FolderTold)
    → StoresEach more old new told told_now → Traced run frames (frames ++ more) old new told.files told_now.files
each_follows run frames [] old new told told_now call =
    subst (λ (o : Option Trace). Traced run frames (frames ++ []) old o told.files told_now.files) (sym call.0)
    (subst (λ (f : FolderTold). Traced run frames (frames ++ []) old old told.files f.files) (sym call.1) (trace_stays run frames old told.files))
each_follows run frames (x ∷ more) old new told told_now call =
    let first = trace_follows run frames (x ∷ []) old call.0 told call.1 call.2 in
    let later = each_follows run (frames ++ x ∷ []) more call.0 new call.1 told_now call.3 in
    subst (λ (fs : List (List ℕ)). Traced run frames fs old new told.files told_now.files) (append_assoc frames (x ∷ []) more)
    (λ is.
    let here = first is in
    let there = later here.0 in (there.0, λ holds. there.1 (here.1 holds)))

-- what a trace tells, with the directory and the sizes of its run
pub trace_tells : (run : Run) (frames : List (List ℕ)) (t : Trace) → IsTraceAfter run frames t
    → (stored later : List (List ℕ)) × (frames ≡ stored ++ later) × (t.state.end ≡ None → later ≡ []) × (t.unstored ≡ counted (length later)) × (t.state.files ≡ map (listed run.setting.directory) (files_with run stored))
trace_tells run frames t is = (
  is.stored,
  is.later,
  is.all,
  is.whole,
  is.unstored,
  of_run (λ d n m. t.state.files ≡ map (listed d) (trace_files n m run.stood is.stored)) run frames t is is.files.files,
)
