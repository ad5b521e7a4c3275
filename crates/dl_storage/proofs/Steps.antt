-- One frame more of a filter.
use Rattle.std.proofs.Common.{◌≡◌, ℕ, ◌+◌, ◌-◌, ◌<◌, Bool, true, false, cond, leb, List, [], ◌∷◌, ◌++◌, length, Option, Some, None, Err, refl, sym, ap, subst, ◌∙◌, append_assoc, arith}
use Rattle.std.specs.Prelude.{◌^◌, min, IfSome, IsSomeAnd}
use Rattle.std.specs.List.{AllByRecursion, cons_option, concat}
use Rattle.std.specs.Option.{option_to_list}
use Rattle.std.proofs.lemmas.Option.{IfSome_then}
use Rattle.std.proofs.lemmas.Bool.Decides.{nat_tests}
use Rattle.std.proofs.lemmas.List.{append-nil}
use Rattle.std.proofs.lemmas.List.Elements.{filter_map-append}
use Rattle.dl_bytes.specs.declared.outcome.TraceEnd.{TraceEnd}
use Rattle.dl_bytes.specs.declared.outcome.TraceEnd.TheVariants.{Failed, Spent, NoMemory}
use Rattle.dl_outside.specs.Folder.{Files}
use Rattle.dl_outside.specs.Outside.{Stays}
use Rattle.dl_outside.specs.Told.{FolderTold}
use Rattle.dl_model.specs.Backlog.{size_of}
use Rattle.dl_model.specs.TraceFiles.{StoredFile, is_spent, trace_files}
use Rattle.dl_trace.specs.Pieces.{pieces, frames_in, room_of}
use Rattle.dl_trace.specs.InFolder.{ChangesTraceFiles, HasFiles}
use Rattle.dl_trace.specs.State.{IsAfter, IsSameTrace, Trace, files_after, number_after}
use Rattle.dl_trace.specs.Storing.{HasCause, IsStored, Leaves, Stops}
use Rattle.dl_events.specs.declared.event.Event.{Event}
use Rattle.dl_events.specs.declared.record.Record.{Record}
use Rattle.dl_trace.proofs.Spent.{spent_later}
use Rattle.dl_storage.specs.declared.filter.Filter.{Filter}
use Rattle.dl_storage.specs.Passing.{frame_for, frames_for}
use Rattle.dl_storage.specs.Ended.{EndHasCause}
use Rattle.dl_storage.specs.Writing.{Begins, HasNotFailed, Holds, IsAfterFrames, IsSized, IsUntouched, Writes, WritesAny, WritesTill, counted}
use Rattle.dl_storage.specs.declared.writing.Writing.{Writing}
use Rattle.dl_storage.proofs.Bounds.{bytes_below, no_more_than_bytes, size_push}
use Rattle.dl_storage.proofs.Changes.{stayed}
use Rattle.dl_trace.proofs.Joined.{changes_later}

-- ---- lists

all_push : {A : Type 0} (P : A → Type 0) (xs : List A) (x : A) → AllByRecursion P xs → P x → AllByRecursion P (xs ++ x ∷ [])
all_push P [] x all here = (here, tt)
all_push P (y ∷ xs) x all here = (all.0, all_push P xs x all.1 here)

length_push : {A : Type 0} (xs : List A) (x : A) → length (xs ++ x ∷ []) ≡ length xs + 1
length_push [] x = refl
length_push (y ∷ xs) x = omega (arith, length_push xs x)

only : {A : Type 0} (x : A) (before : List A) (here : A) (behind : List A) → x ∷ [] ≡ before ++ here ∷ behind → (before ≡ []) × (here ≡ x)
only x [] here behind is = (refl, cc)
only x (y ∷ []) here behind is = absurd cc
only x (y ∷ z ∷ before) here behind is = absurd cc

-- ---- one frame is one piece

one_piece : (size room : ℕ) (frame : List ℕ) → pieces size room (frame ∷ []) ≡ (frame ∷ []) ∷ []
one_piece size room frame = by_test (leb (length frame) room) where
  by_test : (b : Bool) → cond b ((frame ∷ []) ∷ []) ((frame ∷ []) ∷ []) ≡ (frame ∷ []) ∷ []
  by_test true = refl
  by_test false = refl

-- ---- more frames need no fewer files

-- ---- counts

at_most : (n m : ℕ) → n < m → min n m ≡ n
at_most n m below = grind (arith, nat_tests)

-- ---- the trace had ended

ended_stays : (first : Trace) (stood : List StoredFile) (frames : List (List ℕ)) (frame : List ℕ) (folder folder_now : FolderTold) (now : Writing) (end : TraceEnd) → now.trace.state.end ≡ Some end
    → IsAfterFrames first stood frames folder folder_now now → IsAfterFrames first stood (frames ++ frame ∷ []) folder folder_now now
ended_stays first stood frames frame folder folder_now now end ended is = record {
  same = is.same;
  most = is.most;
  least = is.least;
  stored = is.stored;
  later = is.later ++ frame ∷ [];
  all = ap (λ (fs : List (List ℕ)). fs ++ frame ∷ []) is.all ∙ append_assoc is.stored is.later (frame ∷ []);
  sized = is.sized;
  tells = is.tells;
  whole = λ none. absurd (cc (ended, none));
  frames_are = is.frames_are;
  bytes_are = is.bytes_are;
  unspent = is.unspent;
  spent = λ at. spent_later first.file_size stood frames (frame ∷ []) (is.spent at);
  holds = is.holds;
  cause = is.cause;
  others = is.others;
}

-- all frames so far are stored
whole_so_far : (first : Trace) (stood : List StoredFile) (frames : List (List ℕ)) (folder folder_now : FolderTold) (now : Writing) (is : IsAfterFrames first stood frames folder folder_now now)
    → now.trace.state.end ≡ None → frames ≡ is.stored
whole_so_far first stood frames folder folder_now now is goes_on = is.all ∙ ap (λ (fs : List (List ℕ)). is.stored ++ fs) (is.whole goes_on) ∙ append-nil is.stored

-- what holds of the directory and the sizes of a trace holds of those of the first
of_first : (P : List ℕ → ℕ → ℕ → Type 0) (first now : Trace) → IsSameTrace first now → P now.directory now.file_size now.max_size → P first.directory first.file_size first.max_size
of_first P first now same h =
    subst (λ (d : List ℕ). P d first.file_size first.max_size) same.directory
    (subst (λ (n : ℕ). P now.directory n first.max_size) same.file_size (subst (λ (n : ℕ). P now.directory now.file_size n) same.max_size h))

cause_goes_on : (first between now : ℕ) (e f : Option TraceEnd) → e ≡ None → f ≡ None → EndHasCause first between e → now ≡ between → EndHasCause first now f
cause_goes_on first between now e f none still before here =
    let first_is : between ≡ first = subst (EndHasCause first between) none before in
    subst (EndHasCause first now) (sym still) (here ∙ first_is)

holds_on : (first : Trace) (stood : List StoredFile) (stored more : List (List ℕ)) (told between now : Option Files)
    → IfSome between (λ folder. HasFiles first.directory folder (trace_files first.file_size first.max_size stood stored)
    → (files : Files) × (now ≡ Some files) × HasFiles first.directory files (trace_files first.file_size first.max_size stood more))
    → Holds first stood stored told between → Holds first stood more told now
holds_on first stood stored more None between now step before = tt
holds_on first stood stored more (Some start) None now step before = absurd before
holds_on first stood stored more (Some start) (Some folder) now step before =
    let there = step before in
    subst (λ (o : Option Files). IsSomeAnd o (λ files. HasFiles first.directory files (trace_files first.file_size first.max_size stood more))) (sym there.1) there.2

-- ---- the frame was stored

stored_follows : (first : Trace) (stood : List StoredFile) (frames : List (List ℕ)) (frame : List ℕ) (folder between folder_now : FolderTold) (old new : Writing) → old.trace.state.end ≡ None → IsSized frame
    → IsStored (frame ∷ []) old.trace new.trace between.files folder_now.files → folder_now.faults ≡ between.faults → new ≡ counted (length frame) old new.trace
    → ChangesTraceFiles old.trace.directory between.files folder_now.files → IsAfterFrames first stood frames folder between old → IsAfterFrames first stood (frames ++ frame ∷ []) folder folder_now new
stored_follows first stood frames frame folder between folder_now old new goes_on fits does faults count others is =
    let stored = is.stored in
    let sized = all_push IsSized stored frame is.sized fits in
    let unspent : is_spent first.file_size stood (stored ++ frame ∷ []) ≡ false =
    of_first (λ d n m. is_spent n stood (stored ++ frame ∷ []) ≡ false) first old.trace is.same (does.unspent stood stored is.tells) in
    let below = bytes_below first.file_size stood (stored ++ frame ∷ []) is.least is.most sized unspent in
    let few = no_more_than_bytes (stored ++ frame ∷ []) sized in
    let frames_sum : old.frames + 1 ≡ length (stored ++ frame ∷ []) = omega (arith, is.frames_are, length_push stored frame) in
    let bytes_sum : old.bytes + length frame ≡ size_of (stored ++ frame ∷ []) = omega (arith, is.bytes_are, size_push stored frame) in
    record {
      same = record {
        directory = does.same.directory ∙ is.same.directory;
        file_size = does.same.file_size ∙ is.same.file_size;
        max_size = does.same.max_size ∙ is.same.max_size;
      };
      most = is.most;
      least = is.least;
      stored = stored ++ frame ∷ [];
      later = [];
      all = ap (λ (fs : List (List ℕ)). fs ++ frame ∷ []) (whole_so_far first stood frames folder between old is goes_on) ∙ sym (append-nil (stored ++ frame ∷ []));
      sized = sized;
      tells = does.state stood stored is.tells;
      whole = λ none. refl;
      frames_are = ap (λ (w : Writing). w.frames) count ∙ ap (λ (n : ℕ). min n (2 ^ 64 - 1)) frames_sum ∙ at_most (length (stored ++ frame ∷ [])) (2 ^ 64 - 1) (omega (arith, few, below));
      bytes_are = ap (λ (w : Writing). w.bytes) count ∙ ap (λ (n : ℕ). min n (2 ^ 64 - 1)) bytes_sum ∙ at_most (size_of (stored ++ frame ∷ [])) (2 ^ 64 - 1) below;
      unspent = λ some. unspent;
      spent = λ at. absurd (cc (does.goes_on, at));
      holds = λ well.
          holds_on first stood stored (stored ++ frame ∷ []) folder.files between.files folder_now.files
          (of_first (λ d n m. IfSome between.files (λ folder. HasFiles d folder (trace_files n m stood stored)
          → (files : Files) × (folder_now.files ≡ Some files) × HasFiles d files (trace_files n m stood (stored ++ frame ∷ [])))) first old.trace is.same (does.folder stood stored is.tells))
          (is.holds (subst HasNotFailed (sym goes_on) tt));
      cause = cause_goes_on folder.faults between.faults folder_now.faults old.trace.state.end new.trace.state.end goes_on does.goes_on is.cause faults;
      others = changes_later first.directory folder.files between.files folder_now.files is.others (subst (λ (d : List ℕ). ChangesTraceFiles d between.files folder_now.files) is.same.directory others);
    }

-- ---- the frame stopped the trace

stopped_cause : (first between now : ℕ) (e f : Option TraceEnd) (end : TraceEnd) → e ≡ None → f ≡ Some end → EndHasCause first between e → HasCause {T = Unit {0}} between now (Err end) → EndHasCause first now f
stopped_cause first between now e f end none ended before here =
    let first_is : between ≡ first = subst (EndHasCause first between) none before in
    subst (EndHasCause first now) (sym ended) (by_end end (subst (λ (n : ℕ). HasCause {T = Unit {0}} n now (Err end)) first_is here)) where
      by_end : (end : TraceEnd) → HasCause {T = Unit {0}} first now (Err end) → EndHasCause first now (Some end)
      by_end Failed is = is
      by_end Spent is = is
      by_end NoMemory is = is

-- a trace that is spent leaves its files as they were
spent_step : (end : TraceEnd) (directory : List ℕ) (before same after : List StoredFile) (number : ℕ) (piece : List ℕ) (between now : Option Files) → HasNotFailed (Some end) → same ≡ before
    → IfSome between (λ folder. HasFiles directory folder before → (files : Files) × (now ≡ Some files) × Leaves end directory same after number piece files)
    → IfSome between (λ folder. HasFiles directory folder before → (files : Files) × (now ≡ Some files) × HasFiles directory files before)
spent_step Failed directory before same after number piece between now well is step = absurd well
spent_step NoMemory directory before same after number piece between now well is step = absurd well
spent_step Spent directory before same after number piece between now well is step =
    IfSome_then between step (λ folder does holds. let there = does holds in (there.0, there.1, subst (λ (fs : List StoredFile). HasFiles directory there.0 fs) is there.2))

stopped_follows : (first : Trace) (stood : List StoredFile) (frames : List (List ℕ)) (frame : List ℕ) (folder between folder_now : FolderTold) (old new : Writing) (end : TraceEnd) → old.trace.state.end ≡ None
    → Stops end (frame ∷ []) old.trace new.trace between.files folder_now.files → HasCause {T = Unit {0}} between.faults folder_now.faults (Err end) → new.frames ≡ old.frames → new.bytes ≡ old.bytes
    → ChangesTraceFiles old.trace.directory between.files folder_now.files → IsAfterFrames first stood frames folder between old → IsAfterFrames first stood (frames ++ frame ∷ []) folder folder_now new
stopped_follows first stood frames frame folder between folder_now old new end goes_on does cause frames_same bytes_same others is =
    let stored = is.stored in
    let cut = only (frame ∷ []) does.stored does.piece does.later (sym (one_piece old.trace.file_size (room_of old.trace) frame) ∙ does.cut) in
    let none : stored ++ frames_in does.stored ≡ stored = ap (λ (ps : List (List (List ℕ))). stored ++ frames_in ps) cut.0 ∙ append-nil stored in
    let all : frames ++ frame ∷ [] ≡ stored ++ frame ∷ [] = ap (λ (fs : List (List ℕ)). fs ++ frame ∷ []) (whole_so_far first stood frames folder between old is goes_on) in
    let further : (stored ++ frames_in does.stored) ++ does.piece ≡ frames ++ frame ∷ [] = ap (λ (fs : List (List ℕ)). fs ++ does.piece) none ∙ ap (λ (fs : List (List ℕ)). stored ++ fs) cut.1 ∙ sym all in
    record {
      same = record {
        directory = does.same.directory ∙ is.same.directory;
        file_size = does.same.file_size ∙ is.same.file_size;
        max_size = does.same.max_size ∙ is.same.max_size;
      };
      most = is.most;
      least = is.least;
      stored = stored;
      later = frame ∷ [];
      all = all;
      sized = is.sized;
      tells = subst (λ (fs : List (List ℕ)). IsAfter stood fs new.trace) none (does.state stood stored is.tells);
      whole = λ none. absurd (cc (does.ended, none));
      frames_are = frames_same ∙ is.frames_are;
      bytes_are = bytes_same ∙ is.bytes_are;
      unspent = is.unspent;
      spent = λ at.
          let same : end ≡ Spent = cc (does.ended, at) in
          of_first (λ d n m. is_spent n stood (frames ++ frame ∷ []) ≡ true) first old.trace is.same
          (subst (λ (fs : List (List ℕ)). is_spent old.trace.file_size stood fs ≡ true) further ((does.spent stood stored is.tells).0 same));
      holds = λ well.
          let before = files_after old.trace stood stored in
          let step : IfSome between.files (λ folder. HasFiles old.trace.directory folder before → (files : Files) × (folder_now.files ≡ Some files) × HasFiles old.trace.directory files before) =
          spent_step end old.trace.directory before (files_after old.trace stood (stored ++ frames_in does.stored)) (files_after old.trace stood (stored ++ frames_in does.stored ++ does.piece))
          (number_after old.trace stood (stored ++ frames_in does.stored ++ does.piece)) (concat does.piece) between.files folder_now.files
          (subst HasNotFailed does.ended well) (ap (files_after old.trace stood) none) (does.folder stood stored is.tells) in
          holds_on first stood stored stored folder.files between.files folder_now.files
          (of_first (λ d n m. IfSome between.files (λ folder. HasFiles d folder (trace_files n m stood stored)
          → (files : Files) × (folder_now.files ≡ Some files) × HasFiles d files (trace_files n m stood stored))) first old.trace is.same step)
          (is.holds (subst HasNotFailed (sym goes_on) tt));
      cause = stopped_cause folder.faults between.faults folder_now.faults old.trace.state.end new.trace.state.end end goes_on does.ended is.cause cause;
      others = changes_later first.directory folder.files between.files folder_now.files is.others (subst (λ (d : List ℕ). ChangesTraceFiles d between.files folder_now.files) is.same.directory others);
    }

-- ---- whatever the write left

frame_follows : (first : Trace) (stood : List StoredFile) (frames : List (List ℕ)) (frame : List ℕ) (folder between folder_now : FolderTold) (old new : Writing) → IsSized frame
    → Writes frame old new between folder_now → ChangesTraceFiles old.trace.directory between.files folder_now.files
    → IsAfterFrames first stood frames folder between old → IsAfterFrames first stood (frames ++ frame ∷ []) folder folder_now new
frame_follows first stood frames frame folder between folder_now old new fits writes others is = by_ends old.trace.state.end new.trace.state.end refl refl writes where
  by_ends : (before after : Option TraceEnd) → old.trace.state.end ≡ before → new.trace.state.end ≡ after → WritesTill before after frame old new between folder_now
      → IsAfterFrames first stood (frames ++ frame ∷ []) folder folder_now new
  by_ends (Some end) after was now left =
      subst (λ (w : Writing). IsAfterFrames first stood (frames ++ frame ∷ []) folder folder_now w) (sym left.0)
      (subst (λ (f : FolderTold). IsAfterFrames first stood (frames ++ frame ∷ []) folder f old) (sym left.1) (ended_stays first stood frames frame folder between old end was is))
  by_ends None None was now left = stored_follows first stood frames frame folder between folder_now old new was fits left.0.0 left.0.1 left.1 others is
  by_ends None (Some end) was now left = stopped_follows first stood frames frame folder between folder_now old new end was left.0.0 left.0.1 left.1 left.2 others is

-- the same of a frame that may be there
pub any_follows : (first : Trace) (stood : List StoredFile) (frames : List (List ℕ)) (frame : Option (List ℕ)) (folder between folder_now : FolderTold) (old new : Writing) → IfSome frame IsSized
    → WritesAny frame old new between folder_now → ChangesTraceFiles old.trace.directory between.files folder_now.files
    → IsAfterFrames first stood frames folder between old → IsAfterFrames first stood (frames ++ option_to_list frame) folder folder_now new
any_follows first stood frames None folder between folder_now old new fits left others is =
    subst (λ (fs : List (List ℕ)). IsAfterFrames first stood fs folder folder_now new) (sym (append-nil frames))
    (subst (λ (w : Writing). IsAfterFrames first stood frames folder folder_now w) (sym left.0)
    (subst (λ (f : FolderTold). IsAfterFrames first stood frames folder f old) (sym left.1) is))
any_follows first stood frames (Some frame) folder between folder_now old new fits left others is = frame_follows first stood frames frame folder between folder_now old new fits left others is

-- ---- before the first frame

begun_cause : (faults now : ℕ) (end : Option TraceEnd) → end ≡ None → now ≡ faults → EndHasCause faults now end
begun_cause faults now end none same = subst (EndHasCause faults now) (sym none) same

begun_holds : (first : Trace) (stood : List StoredFile) (told now : Option Files) → Stays told now → IfSome told (λ files. HasFiles first.directory files stood) → Holds first stood [] told now
begun_holds first stood None now stays found = tt
begun_holds first stood (Some folder) now stays found = subst (λ (o : Option Files). IsSomeAnd o (λ files. HasFiles first.directory files stood)) (sym stays) found

pub begun : (first : Trace) (stood : List StoredFile) (folder folder_now : FolderTold) → Begins first stood folder → IsUntouched folder folder_now
    → IsAfterFrames first stood [] folder folder_now (record { trace = first; frames = 0; bytes = 0 })
begun first stood folder folder_now begins same = record {
  same = record { directory = refl; file_size = refl; max_size = refl };
  most = begins.most;
  least = begins.least;
  stored = [];
  later = [];
  all = refl;
  sized = tt;
  tells = begins.tells;
  whole = λ none. refl;
  frames_are = refl;
  bytes_are = refl;
  unspent = λ some. absurd (omega (arith, some));
  spent = λ at. absurd (cc (begins.goes_on, at));
  holds = λ well. begun_holds first stood folder.files folder_now.files same.files begins.found;
  cause = begun_cause folder.faults folder_now.faults first.state.end begins.goes_on same.faults;
  others = stayed first.directory folder.files folder_now.files same.files;
}

-- ---- one event more

one_event : (ecu : List ℕ) (filter : Filter) (records : List (List Record)) (event : Event) → frames_for ecu filter records (event ∷ []) ≡ option_to_list (frame_for ecu filter records event)
one_event ecu filter records event = by_frame (frame_for ecu filter records event) where
  by_frame : (o : Option (List ℕ)) → cons_option o [] ≡ option_to_list o
  by_frame None = refl
  by_frame (Some frame) = refl

pub frames_more : (ecu : List ℕ) (filter : Filter) (records : List (List Record)) (events : List Event) (event : Event)
    → frames_for ecu filter records (events ++ event ∷ []) ≡ frames_for ecu filter records events ++ option_to_list (frame_for ecu filter records event)
frames_more ecu filter records events event =
    filter_map-append (frame_for ecu filter records) events (event ∷ []) ∙ ap (λ (fs : List (List ℕ)). frames_for ecu filter records events ++ fs) (one_event ecu filter records event)
