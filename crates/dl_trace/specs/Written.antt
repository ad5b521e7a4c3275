-- What a call leaves of the trace and of the folder.
use Rattle.std.specs.Prelude.{◌≡◌, ℕ, List, [], ◌∷◌, length, Option, Some, None, IsSomeAnd, Ok, Err}
use Rattle.dl_bytes.specs.declared.outcome.TraceEnd.{TraceEnd}
use Rattle.dl_outside.specs.Told.{FolderTold}
use Rattle.dl_trace.specs.State.{Trace, missing}
use Rattle.dl_trace.specs.InFolder.{ChangesTraceFiles}
use Rattle.dl_trace.specs.Storing.{StoresOrStops}

-- A trace that had ended counts the frames, and stays as it is else; so does the folder. One that goes on has stored all frames,
-- or it stopped at one of them, for the cause that it tells.
abbrev pub StoresTill : Option TraceEnd → Option TraceEnd → List (List ℕ) → Trace → Trace → FolderTold → FolderTold → Type 0
StoresTill (Some ended) end frames old new folder folder_now = (new ≡ missing (length frames) old) × (folder_now ≡ folder)
StoresTill None None frames old new folder folder_now = StoresOrStops frames (Ok tt) old new folder folder_now
StoresTill None (Some end) frames old new folder folder_now = StoresOrStops frames (Err end) old new folder folder_now

abbrev pub Stores : List (List ℕ) → Trace → Trace → FolderTold → FolderTold → Type 0
Stores frames old new folder folder_now = StoresTill old.state.end new.state.end frames old new folder folder_now

-- the same where a trace is kept; else there is none afterwards, and the folder is as it was
abbrev pub StoresIn : List (List ℕ) → Option Trace → Option Trace → FolderTold → FolderTold → Type 0
StoresIn frames None new folder folder_now = (new ≡ None) × (folder_now ≡ folder)
StoresIn frames (Some old) new folder folder_now = IsSomeAnd new (λ now. Stores frames old now folder folder_now)

-- frames were stored one after the other, each by a call of its own
abbrev pub StoresEach : List (List ℕ) → Option Trace → Option Trace → FolderTold → FolderTold → Type 0
StoresEach [] old new folder folder_now = (new ≡ old) × (folder_now ≡ folder)
StoresEach (frame ∷ frames) old new folder folder_now =
    (next : Option Trace) × (folder_next : FolderTold) × StoresIn (frame ∷ []) old next folder folder_next × StoresEach frames next new folder_next folder_now

-- no file changes but the trace files, where a trace is kept
abbrev pub ChangesTraceAlone : Option Trace → FolderTold → FolderTold → Type 0
ChangesTraceAlone None folder folder_now = folder_now.files ≡ folder.files
ChangesTraceAlone (Some trace) folder folder_now = ChangesTraceFiles trace.directory folder.files folder_now.files
