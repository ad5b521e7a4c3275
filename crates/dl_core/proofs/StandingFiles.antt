-- Which trace files stand goes on: with each call that stores frames, and with each that stores none.
use Rattle.std.proofs.Common.{◌≡◌, ℕ, ◌+◌, ◌-◌, ◌<◌, ◌≤◌, Bool, true, false, cond, leb, List, [], ◌∷◌, ◌++◌, drop, length, Option, Some, None, refl, sym, ap, subst, ◌∙◌, append_assoc, length-append, arith}
use Rattle.std.specs.Prelude.{IfSome, IsSomeAnd}
use Rattle.std.specs.FinMap as map
use Rattle.std.specs.List.{concat, AllByRecursion}
use Rattle.std.proofs.lemmas.List.{append-nil}
use Rattle.dl_bytes.specs.declared.outcome.TraceEnd.{TraceEnd}
use Rattle.dl_bytes.specs.declared.outcome.TraceEnd.TheVariants.{Failed, Spent, NoMemory}
use Rattle.dl_events.specs.declared.event.Event.{Event}
use Rattle.dl_model.specs.Frames.{stored_of, stored_frames}
use Rattle.dl_model.specs.TraceFiles.{greatest, segments, trace_files, trace_name}
use Rattle.dl_outside.specs.Folder.{Files}
use Rattle.dl_outside.specs.Told.{FolderTold}
use Rattle.dl_trace.specs.State.{IsAfter, Trace, missing}
use Rattle.dl_trace.specs.InFolder.{HasFiles}
use Rattle.dl_trace.specs.Pieces.{frames_in, pieces, pieces_from, pieces_of, room_of}
use Rattle.dl_trace.specs.Storing.{IsStored, Leaves, Stops}
use Rattle.dl_trace.proofs.Joined.{frames_in-append, frames_in_cut}
use Rattle.dl_core.specs.Follows.{Run, source_of, stored_by}
use Rattle.dl_core.specs.State.{Core}
use Rattle.dl_trace.specs.Written.{StoresEach, StoresIn, StoresTill}
use Rattle.dl_core.proofs.Journals.{stored-one, stored_more}
use Rattle.dl_core.proofs.Requested.{KeepsTraces}
use Rattle.dl_core.specs.Standing.{IsCutAt, IsKept, KeepsTrace, Stands, files_with, number_with}

-- ---- pieces are the frames

-- where a call's frames are cut, those of the pieces before, of the piece, and of the ones behind it are all of them
cut_at : (trace : Trace) (frames : List (List ℕ)) (stored : List (List (List ℕ))) (piece : List (List ℕ)) (later : List (List (List ℕ))) → pieces_of trace frames ≡ stored ++ piece ∷ later
    → frames ≡ frames_in stored ++ (piece ++ frames_in later)
cut_at trace frames stored piece later cut = sym (frames_in_cut trace.file_size (room_of trace) frames) ∙ ap frames_in cut ∙ frames_in-append stored (piece ∷ later)

-- each piece has a frame
abbrev HasFrame : List (List ℕ) → Type 0
HasFrame piece = 0 < length piece

some_from : (size room : ℕ) (piece frames : List (List ℕ)) → HasFrame piece → AllByRecursion HasFrame (pieces_from size room piece frames)
some_from size room piece [] some = (some, tt)
some_from size room piece (frame ∷ frames) some =
    by_test (leb (length frame) room) (some_from size (room - length frame) (piece ++ frame ∷ []) frames (omega (arith, length-append piece (frame ∷ [])))) (some_from size (size - length frame) (frame ∷ []) frames (omega arith)) where
      by_test : (b : Bool) → AllByRecursion HasFrame (pieces_from size (room - length frame) (piece ++ frame ∷ []) frames) → AllByRecursion HasFrame (pieces_from size (size - length frame) (frame ∷ []) frames)
          → AllByRecursion HasFrame (cond b (pieces_from size (room - length frame) (piece ++ frame ∷ []) frames) (piece ∷ pieces_from size (size - length frame) (frame ∷ []) frames))
      by_test true goes_on begins = goes_on
      by_test false goes_on begins = (some, begins)

some_cut : (size room : ℕ) (frames : List (List ℕ)) → AllByRecursion HasFrame (pieces size room frames)
some_cut size room [] = tt
some_cut size room (frame ∷ frames) = by_test (leb (length frame) room) where
  by_test : (b : Bool) → AllByRecursion HasFrame (cond b (pieces_from size (room - length frame) (frame ∷ []) frames) (pieces_from size (size - length frame) (frame ∷ []) frames))
  by_test true = some_from size (room - length frame) (frame ∷ []) frames (omega arith)
  by_test false = some_from size (size - length frame) (frame ∷ []) frames (omega arith)

some_in : (stored : List (List (List ℕ))) (piece : List (List ℕ)) (later : List (List (List ℕ))) → AllByRecursion HasFrame (stored ++ piece ∷ later) → HasFrame piece
some_in [] piece later all = all.0
some_in (x ∷ stored) piece later all = some_in stored piece later all.1

some_at : (trace : Trace) (frames : List (List ℕ)) (stored : List (List (List ℕ))) (piece : List (List ℕ)) (later : List (List (List ℕ))) → pieces_of trace frames ≡ stored ++ piece ∷ later → HasFrame piece
some_at trace frames stored piece later cut = some_in stored piece later (subst (λ (ps : List (List (List ℕ))). AllByRecursion HasFrame ps) cut (some_cut trace.file_size (room_of trace) frames))

-- ---- a trace and its folder

-- a folder that no call changed
pub kept_same : (told : Option Files) → KeepsTraces told told
kept_same None = tt {0}
kept_same (Some files) = (files, refl, λ directory number. refl)

module _ (run : Run) (first : Option Files) where
  -- where the folder held at first the files that stood before
  abbrev Stood : Type 0
  Stood = IsSomeAnd first (λ folder. HasFiles run.setting.directory folder run.stood)

  -- what holds of the directory and the sizes of a trace holds of those of its run
  of_run : (P : List ℕ → ℕ → ℕ → Type 0) (frames : List (List ℕ)) (t : Trace) (told : Option Files) → IsKept run first frames t told
      → P t.directory t.file_size t.max_size → P run.setting.directory run.setting.file_size run.setting.max_size
  of_run P frames t told is h =
      subst (λ (d : List ℕ). P d run.setting.file_size run.setting.max_size) is.directory
      (subst (λ (n : ℕ). P t.directory n run.setting.max_size) is.file_size (subst (λ (n : ℕ). P t.directory t.file_size n) is.max_size h))

  -- a trace that goes on has stored all frames
  all_stored : (frames : List (List ℕ)) (t : Trace) (told : Option Files) → (is : IsKept run first frames t told) → t.state.end ≡ None → is.stored ≡ frames
  all_stored frames t told is goes_on = sym (append-nil is.stored) ∙ ap (λ (fs : List (List ℕ)). is.stored ++ fs) (sym (is.whole goes_on)) ∙ sym is.all

  -- and the folder has just their files
  all_stand : (frames : List (List ℕ)) (t : Trace) (told : Option Files) → (is : IsKept run first frames t told) → t.state.end ≡ None → Stood
      → IsSomeAnd told (λ folder. HasFiles run.setting.directory folder (files_with run.setting run.stood frames))
  all_stand frames t told is goes_on stood =
      subst (λ (fs : List (List ℕ)). IsSomeAnd told (λ folder. HasFiles run.setting.directory folder (files_with run.setting run.stood fs))) (all_stored frames t told is goes_on)
      (subst (λ (e : Option TraceEnd). IsSomeAnd told (Stands e run.setting run.stood is.stored is.later)) goes_on (is.stands stood))

  -- ---- a call that stores frames

  -- what a call says of a folder, where that tells its files
  on_told : (told told_now : Option Files) (P Q : Files → Type 0) → IfSome told (λ folder. P folder → (now : Files) × (told_now ≡ Some now) × Q now) → IsSomeAnd told P → IsSomeAnd told_now Q
  on_told None told_now P Q step held = absurd held
  on_told (Some folder) told_now P Q step held = let left = step held in subst (λ (o : Option Files). IsSomeAnd o Q) (sym left.1) left.2

  if_told : (told : Option Files) (P Q : Files → Type 0) → ((folder : Files) → P folder → Q folder) → IsSomeAnd told P → IsSomeAnd told Q
  if_told None P Q goes held = absurd held
  if_told (Some folder) P Q goes held = goes folder held

  -- it had ended before
  ended_on : (frames more : List (List ℕ)) (t : Trace) (told : Option Files) (end : TraceEnd) → t.state.end ≡ Some end → IsKept run first frames t told → IsKept run first (frames ++ more) (missing (length more) t) told
  ended_on frames more t told end ended is = record {
    directory = is.directory;
    file_size = is.file_size;
    max_size = is.max_size;
    stored = is.stored;
    later = is.later ++ more;
    all = ap (λ (fs : List (List ℕ)). fs ++ more) is.all ∙ append_assoc is.stored is.later more;
    files = record { files = is.files.files; last = is.files.last; begun = is.files.begun };
    whole = λ none. absurd (cc (ended, none));
    stands = λ stood. if_told told (Stands t.state.end run.setting run.stood is.stored is.later) (Stands t.state.end run.setting run.stood is.stored (is.later ++ more)) (longer t.state.end ended) (is.stands stood);
  } where
    cut_longer : (cause : TraceEnd) (now : Files) → IsCutAt cause run.setting run.stood is.stored is.later now → IsCutAt cause run.setting run.stood is.stored (is.later ++ more) now
    cut_longer cause now cut = record {
      piece = cut.piece;
      some = cut.some;
      behind = cut.behind ++ more;
      next = ap (λ (fs : List (List ℕ)). fs ++ more) cut.next ∙ append_assoc cut.piece cut.behind more;
      at_end = cut.at_end;
      left = cut.left;
      since = cut.since;
    }

    longer : (e : Option TraceEnd) → e ≡ Some end → (now : Files) → Stands e run.setting run.stood is.stored is.later now → Stands e run.setting run.stood is.stored (is.later ++ more) now
    longer None was now stands = absurd (cc was)
    longer (Some Spent) was now stands = stands
    longer (Some Failed) was now stands = cut_longer Failed now stands
    longer (Some NoMemory) was now stands = cut_longer NoMemory now stands

  -- all frames were stored
  stored_on : (frames more : List (List ℕ)) (old new : Trace) (told told_now : Option Files) → old.state.end ≡ None → IsKept run first frames old told
      → IsStored more old new told told_now → IsKept run first (frames ++ more) new told_now
  stored_on frames more old new told told_now goes_on is does =
      let before : IsAfter run.stood frames old = subst (λ (fs : List (List ℕ)). IsAfter run.stood fs old) (all_stored frames old told is goes_on) is.files in
      record {
        directory = does.same.directory ∙ is.directory;
        file_size = does.same.file_size ∙ is.file_size;
        max_size = does.same.max_size ∙ is.max_size;
        stored = frames ++ more;
        later = [];
        all = sym (append-nil (frames ++ more));
        files = does.state run.stood frames before;
        whole = λ none. refl;
        stands = λ stood.
            subst (λ (e : Option TraceEnd). IsSomeAnd told_now (Stands e run.setting run.stood (frames ++ more) [])) (sym does.goes_on)
            (on_told told told_now (λ folder. HasFiles run.setting.directory folder (files_with run.setting run.stood frames)) (λ now. HasFiles run.setting.directory now (files_with run.setting run.stood (frames ++ more)))
            (of_run (λ d n m. IfSome told (λ folder. HasFiles d folder (trace_files n m run.stood frames) → (now : Files) × (told_now ≡ Some now) × HasFiles d now (trace_files n m run.stood (frames ++ more)))) frames old told is
            (does.folder run.stood frames before))
            (all_stand frames old told is goes_on stood));
      }

  -- it stopped at a piece
  abbrev LeftAt : TraceEnd → List (List ℕ) → List (List ℕ) → Files → Type 0
  LeftAt end stored piece now =
      Leaves end run.setting.directory (files_with run.setting run.stood stored) (files_with run.setting run.stood (stored ++ piece)) (number_with run.setting run.stood (stored ++ piece)) (concat piece) now

  cut_is : (end : TraceEnd) (stored piece behind : List (List ℕ)) (now : Files) → HasFrame piece → LeftAt end stored piece now → IsCutAt end run.setting run.stood stored (piece ++ behind) now
  cut_is end stored piece behind now some left = record { piece = piece; some = some; behind = behind; next = refl; at_end = now; left = left; since = λ number. refl }

  stands_by : (end : TraceEnd) (stored piece behind : List (List ℕ)) → HasFrame piece → (now : Files) → LeftAt end stored piece now → Stands (Some end) run.setting run.stood stored (piece ++ behind) now
  stands_by Spent stored piece behind some now left = left
  stands_by Failed stored piece behind some now left = cut_is Failed stored piece behind now some left
  stands_by NoMemory stored piece behind some now left = cut_is NoMemory stored piece behind now some left

  stopped_on : (frames more : List (List ℕ)) (old new : Trace) (told told_now : Option Files) (end : TraceEnd) → old.state.end ≡ None → IsKept run first frames old told
      → Stops end more old new told told_now → IsKept run first (frames ++ more) new told_now
  stopped_on frames more old new told told_now end goes_on is does =
      let before : IsAfter run.stood frames old = subst (λ (fs : List (List ℕ)). IsAfter run.stood fs old) (all_stored frames old told is goes_on) is.files in
      let front = frames ++ frames_in does.stored in
      let rest = does.piece ++ frames_in does.later in
      record {
        directory = does.same.directory ∙ is.directory;
        file_size = does.same.file_size ∙ is.file_size;
        max_size = does.same.max_size ∙ is.max_size;
        stored = front;
        later = rest;
        all = ap (λ (fs : List (List ℕ)). frames ++ fs) (cut_at old more does.stored does.piece does.later does.cut) ∙ sym (append_assoc frames (frames_in does.stored) rest);
        files = does.state run.stood frames before;
        whole = λ none. absurd (cc (does.ended, none));
        stands = λ stood.
            subst (λ (e : Option TraceEnd). IsSomeAnd told_now (Stands e run.setting run.stood front rest)) (sym does.ended)
            (if_told told_now (LeftAt end front does.piece) (Stands (Some end) run.setting run.stood front rest) (stands_by end front does.piece (frames_in does.later) (some_at old more does.stored does.piece does.later does.cut))
            (on_told told told_now (λ folder. HasFiles run.setting.directory folder (files_with run.setting run.stood frames)) (LeftAt end front does.piece)
            (of_run (λ d n m. IfSome told (λ folder. HasFiles d folder (trace_files n m run.stood frames)
            → (now : Files) × (told_now ≡ Some now)
            × Leaves end d (trace_files n m run.stood front) (trace_files n m run.stood (front ++ does.piece)) (greatest run.stood + length (segments n (front ++ does.piece))) (concat does.piece) now)) frames old told is
            (does.folder run.stood frames before))
            (all_stand frames old told is goes_on stood)));
      }

  -- ---- whatever a call left

  -- what is kept of a trace and a folder after some frames is kept after these, of what they are now
  abbrev pub GoesOn : List (List ℕ) → List (List ℕ) → Option Trace → Option Trace → Option Files → Option Files → Type 0
  GoesOn before after old new told told_now = IfSome old (λ kept. IsKept run first before kept told) → IfSome new (λ kept. IsKept run first after kept told_now)

  by_ends : (frames more : List (List ℕ)) (old new : Trace) (told told_now : FolderTold) (was now : Option TraceEnd) → old.state.end ≡ was → new.state.end ≡ now
      → StoresTill was now more old new told told_now → IsKept run first frames old told.files → IsKept run first (frames ++ more) new told_now.files
  by_ends frames more old new told told_now (Some end) now was_so now_so left is =
      subst (λ (t : Trace). IsKept run first (frames ++ more) t told_now.files) (sym left.0)
      (subst (λ (f : FolderTold). IsKept run first (frames ++ more) (missing (length more) old) f.files) (sym left.1) (ended_on frames more old told.files end was_so is))
  by_ends frames more old new told told_now None None was_so now_so left is = stored_on frames more old new told.files told_now.files was_so is left.0
  by_ends frames more old new told told_now None (Some end) was_so now_so left is = stopped_on frames more old new told.files told_now.files end was_so is left.0

  pub in_goes_on : (frames more : List (List ℕ)) (old new : Option Trace) (told told_now : FolderTold) → StoresIn more old new told told_now → GoesOn frames (frames ++ more) old new told.files told_now.files
  in_goes_on frames more None new told told_now call = subst (λ (o : Option Trace). GoesOn frames (frames ++ more) None o told.files told_now.files) (sym call.0) (λ is. tt {0})
  in_goes_on frames more (Some old) None told told_now call = absurd call
  in_goes_on frames more (Some old) (Some new) told told_now call = λ is. by_ends frames more old new told told_now old.state.end new.state.end refl refl call is

  -- frames were stored one after the other
  pub each_goes_on : (frames more : List (List ℕ)) (old new : Option Trace) (told told_now : FolderTold) → StoresEach more old new told told_now → GoesOn frames (frames ++ more) old new told.files told_now.files
  each_goes_on frames [] old new told told_now call =
      subst (λ (fs : List (List ℕ)). GoesOn frames fs old new told.files told_now.files) (sym (append-nil frames))
      (subst (λ (o : Option Trace). GoesOn frames frames old o told.files told_now.files) (sym call.0)
      (subst (λ (f : FolderTold). GoesOn frames frames old old told.files f.files) (sym call.1) (λ is. is)))
  each_goes_on frames (x ∷ more) old new told told_now call =
      let here = in_goes_on frames (x ∷ []) old call.0 told call.1 call.2 in
      let there = each_goes_on (frames ++ x ∷ []) more call.0 new call.1 told_now call.3 in
      subst (λ (fs : List (List ℕ)). GoesOn frames fs old new told.files told_now.files) (append_assoc frames (x ∷ []) more) (λ is. there (here is))

  -- ---- a call that changes no trace file

  stands_still : (e : Option TraceEnd) (stored later : List (List ℕ)) (old new : Files) → ((number : ℕ) → map.get new (trace_name run.setting.directory number) ≡ map.get old (trace_name run.setting.directory number))
      → Stands e run.setting run.stood stored later old → Stands e run.setting run.stood stored later new
  stands_still e stored later old new same = by e where
    has : HasFiles run.setting.directory old (files_with run.setting run.stood stored) → HasFiles run.setting.directory new (files_with run.setting run.stood stored)
    has was = record { rising = was.rising; each = λ number least most. same number ∙ was.each number least most }

    cut : (end : TraceEnd) → IsCutAt end run.setting run.stood stored later old → IsCutAt end run.setting run.stood stored later new
    cut end was = record { piece = was.piece; some = was.some; behind = was.behind; next = was.next; at_end = was.at_end; left = was.left; since = λ number. same number ∙ was.since number }

    by : (e : Option TraceEnd) → Stands e run.setting run.stood stored later old → Stands e run.setting run.stood stored later new
    by None was = has was
    by (Some Spent) was = has was
    by (Some Failed) was = cut Failed was
    by (Some NoMemory) was = cut NoMemory was

  told_still : (e : Option TraceEnd) (stored later : List (List ℕ)) (told told_now : Option Files) → KeepsTraces told told_now
      → IsSomeAnd told (Stands e run.setting run.stood stored later) → IsSomeAnd told_now (Stands e run.setting run.stood stored later)
  told_still e stored later None told_now keeps stands = absurd stands
  told_still e stored later (Some files) told_now keeps stands =
      subst (λ (o : Option Files). IsSomeAnd o (Stands e run.setting run.stood stored later)) (sym keeps.1) (stands_still e stored later files keeps.0 (λ number. keeps.2 run.setting.directory number) stands)

  kept_still : (frames : List (List ℕ)) (t : Trace) (told told_now : Option Files) → KeepsTraces told told_now → IsKept run first frames t told → IsKept run first frames t told_now
  kept_still frames t told told_now keeps is = record {
    directory = is.directory;
    file_size = is.file_size;
    max_size = is.max_size;
    stored = is.stored;
    later = is.later;
    all = is.all;
    files = is.files;
    whole = is.whole;
    stands = λ stood. told_still t.state.end is.stored is.later told told_now keeps (is.stands stood);
  }

  pub still_goes_on : (frames : List (List ℕ)) (kept : Option Trace) (told told_now : Option Files) → KeepsTraces told told_now → GoesOn frames frames kept kept told told_now
  still_goes_on frames None told told_now keeps is = tt
  still_goes_on frames (Some t) told told_now keeps is = kept_still frames t told told_now keeps is

  -- ---- before the first frame

  pub kept_first : (t : Trace) (told : Option Files) → t.directory ≡ run.setting.directory → t.file_size ≡ run.setting.file_size → t.max_size ≡ run.setting.max_size → t.state.end ≡ None → IsAfter run.stood [] t
      → (Stood → IsSomeAnd told (λ folder. HasFiles run.setting.directory folder run.stood)) → IsKept run first [] t told
  kept_first t told directory file_size max_size goes_on files stands = record {
    directory = directory;
    file_size = file_size;
    max_size = max_size;
    stored = [];
    later = [];
    all = refl;
    files = files;
    whole = λ none. refl;
    stands = λ stood. subst (λ (e : Option TraceEnd). IsSomeAnd told (Stands e run.setting run.stood [] [])) (sym goes_on) (stands stood);
  }

-- ---- the events of a journal

-- the frames of a journal with one event more
pub stored_by-one : (run : Run) (events : List Event) (e : Event) (frames : List (List ℕ)) → run.before ≤ length (stored_frames (source_of run) events) → stored_of (source_of run) e ≡ frames
    → stored_by run (events ++ e ∷ []) ≡ stored_by run events ++ frames
stored_by-one run events e frames begun is =
    stored_more run (stored_frames (source_of run) events) (stored_frames (source_of run) (events ++ e ∷ [])) frames
    (stored-one (source_of run) events e ∙ ap (λ (fs : List (List ℕ)). stored_frames (source_of run) events ++ fs) is) begun

-- an event that stores none
stored_by-same : (run : Run) (events : List Event) (e : Event) → stored_of (source_of run) e ≡ [] → stored_by run (events ++ e ∷ []) ≡ stored_by run events
stored_by-same run events e none =
    ap (λ (fs : List (List ℕ)). run.head ++ drop run.before fs) (stored-one (source_of run) events e ∙ ap (λ (fs : List (List ℕ)). stored_frames (source_of run) events ++ fs) none ∙ append-nil (stored_frames (source_of run) events))

-- a trace that is kept as it was is kept by another core that has it
pub keeps_by : (run : Run) (first : Option Files) (events : List Event) (one other : Core) (told : FolderTold) → other.trace ≡ one.trace → KeepsTrace run first events one told → KeepsTrace run first events other told
keeps_by run first events one other told same keeps = subst (λ (o : Option Trace). IfSome o (λ kept. IsKept run first (stored_by run events) kept told.files)) (sym same) keeps

pub keeps_quiet : (run : Run) (first : Option Files) (events : List Event) (e : Event) (old new : Core) (told told_now : FolderTold) → new.trace ≡ old.trace → stored_of (source_of run) e ≡ []
    → KeepsTraces told.files told_now.files → KeepsTrace run first events old told → KeepsTrace run first (events ++ e ∷ []) new told_now
keeps_quiet run first events e old new told told_now same none keeps is =
    subst (λ (fs : List (List ℕ)). IfSome new.trace (λ kept. IsKept run first fs kept told_now.files)) (sym (stored_by-same run events e none))
    (subst (λ (o : Option Trace). IfSome o (λ kept. IsKept run first (stored_by run events) kept told_now.files)) (sym same)
    (still_goes_on run first (stored_by run events) old.trace told.files told_now.files keeps is))

pub keeps_storing : (run : Run) (first : Option Files) (events : List Event) (e : Event) (frames : List (List ℕ)) (old new : Core) (told told_now : FolderTold)
    → run.before ≤ length (stored_frames (source_of run) events) → stored_of (source_of run) e ≡ frames
    → GoesOn run first (stored_by run events) (stored_by run events ++ frames) old.trace new.trace told.files told_now.files
    → KeepsTrace run first events old told → KeepsTrace run first (events ++ e ∷ []) new told_now
keeps_storing run first events e frames old new told told_now begun is goes keeps =
    subst (λ (fs : List (List ℕ)). IfSome new.trace (λ kept. IsKept run first fs kept told_now.files)) (sym (stored_by-one run events e frames begun is)) (goes keeps)
