-- What a write of one frame leaves.
use Rattle.std.proofs.Common.{◌≡◌, ℕ, ◌+◌, ◌-◌, List, [], ◌∷◌, length, Option, Some, None, Ok, Err, refl, subst}
use Rattle.std.specs.Prelude.{◌^◌, min, IfSome, IfNone}
use Rattle.dl_bytes.specs.declared.outcome.TraceEnd.{TraceEnd}
use Rattle.dl_outside.specs.Told.{FolderTold}
use Rattle.dl_trace.specs.State.{Trace}
use Rattle.dl_trace.specs.Storing.{StoresOrStops}
use Rattle.dl_storage.specs.Writing.{Writes, WritesTill, counted}
use Rattle.dl_storage.specs.declared.writing.Writing.{Writing}

-- the trace stored the frame
ok_writes : (frame : List ℕ) (old new : Writing) (folder folder_now : FolderTold) → old.trace.state.end ≡ None
    → StoresOrStops (frame ∷ []) (Ok (tt {0})) old.trace new.trace folder folder_now → new ≡ counted (length frame) old new.trace → Writes frame old new folder folder_now
ok_writes frame old new folder folder_now goes_on stored is = by_ends old.trace.state.end new.trace.state.end refl refl where
  by_ends : (before after : Option TraceEnd) → old.trace.state.end ≡ before → new.trace.state.end ≡ after → WritesTill before after frame old new folder folder_now
  by_ends (Some end) after was now = absurd (cc (was, goes_on))
  by_ends None None was now = (stored, is)
  by_ends None (Some end) was now = absurd (cc (now, stored.0.goes_on))

ended_not : (before : Option TraceEnd) (done : Unit {0}) → IfSome before (λ end. Ok done ≡ Err end) → before ≡ None
ended_not None done ended = refl
ended_not (Some end) done ended = absurd (cc ended)

if_none : (before : Option TraceEnd) (P : Type 0) → before ≡ None → IfNone before P → P
if_none None P is holds = holds
if_none (Some end) P is holds = absurd (cc is)

-- the same, where the batch that was stored is this frame
pub batch_writes : (batch : List (List ℕ)) (frame : List ℕ) (bytes frames more : ℕ) (old : Writing) (trace : Trace) (folder folder_now : FolderTold) (done : Unit {0}) → batch ≡ frame ∷ []
    → IfSome old.trace.state.end (λ end. Ok done ≡ Err end) → IfNone old.trace.state.end (StoresOrStops batch (Ok done) old.trace trace folder folder_now)
    → more ≡ length frame → frames ≡ min (old.frames + 1) (2 ^ 64 - 1) → bytes ≡ min (old.bytes + more) (2 ^ 64 - 1)
    → Writes frame old (record { trace = trace; frames = frames; bytes = bytes }) folder folder_now
batch_writes batch frame bytes frames more old trace folder folder_now done one ended stored len frames_are bytes_are =
    let goes_on = ended_not old.trace.state.end done ended in
    let all = if_none old.trace.state.end (StoresOrStops batch (Ok done) old.trace trace folder folder_now) goes_on stored in
    ok_writes frame old (record { trace = trace; frames = frames; bytes = bytes }) folder folder_now goes_on
    (subst (λ (b : List (List ℕ)). StoresOrStops b (Ok done) old.trace trace folder folder_now) one all)
    (rw (frames_are, bytes_are, len) refl)
