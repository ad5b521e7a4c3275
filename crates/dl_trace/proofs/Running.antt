-- What calls leave, one after the other.
use Rattle.std.proofs.Common.{◌≡◌, ℕ, List, [], ◌∷◌, ◌++◌, Option, Some, sym, subst, append_assoc}
use Rattle.std.specs.Prelude.{IfSome}
use Rattle.std.proofs.lemmas.List.{append-nil}
use Rattle.dl_outside.specs.Folder.{Files}
use Rattle.dl_model.specs.TraceFiles.{StoredFile, trace_files}
use Rattle.dl_trace.specs.State.{Trace, IsAfter, files_after}
use Rattle.dl_trace.specs.InFolder.{HasFiles}
use Rattle.dl_trace.specs.Pieces.{frames_in}
use Rattle.dl_trace.specs.Storing.{IsStored}
use Rattle.dl_trace.specs.Runs.{Ran}
use Rattle.dl_trace.proofs.Joined.{by_same}

abbrev Holds : Trace → Option Files → List StoredFile → Type 0
Holds trace told files = (folder : Files) × (told ≡ Some folder) × HasFiles trace.directory folder files

-- one call
step : (trace next : Trace) (told between : Option Files) (frames done : List (List ℕ)) (stood : List StoredFile) → IsStored frames trace next told between → IsAfter stood done trace → Holds trace told (files_after trace stood done) →
    Holds trace between (files_after trace stood (done ++ frames))
step trace next told between frames done stood stored after holds =
    let at = subst (λ (o : Option Files). IfSome o (λ (folder : Files). HasFiles trace.directory folder (files_after trace stood done) → (now : Files) × (between ≡ Some now) × HasFiles trace.directory now (files_after trace stood (done ++ frames))))
    holds.1 (stored.folder stood done after) in
    at holds.2

from_next : (trace next : Trace) (told between : Option Files) (frames : List (List ℕ)) (files : ℕ → ℕ → List StoredFile) (o : Option Files) → IsStored frames trace next told between →
    (folder : Files) × (o ≡ Some folder) × HasFiles trace.directory folder (files trace.file_size trace.max_size) → (folder : Files) × (o ≡ Some folder) × HasFiles next.directory folder (files next.file_size next.max_size)
from_next trace next told between frames files o stored h =
    subst (λ (d : List ℕ). (folder : Files) × (o ≡ Some folder) × HasFiles d folder (files next.file_size next.max_size)) (sym stored.same.directory)
    (subst (λ (n : ℕ). (folder : Files) × (o ≡ Some folder) × HasFiles trace.directory folder (files n next.max_size)) (sym stored.same.file_size)
    (subst (λ (n : ℕ). (folder : Files) × (o ≡ Some folder) × HasFiles trace.directory folder (files trace.file_size n)) (sym stored.same.max_size) h))

pub ran : (calls : List (List (List ℕ))) (trace last : Trace) (told now : Option Files) (done : List (List ℕ)) (stood : List StoredFile) → IsAfter stood done trace → Holds trace told (files_after trace stood done) → Ran calls trace told last now →
    IsAfter stood (done ++ frames_in calls) last × Holds trace now (files_after trace stood (done ++ frames_in calls))
ran [] trace last told now done stood after holds run = (
  subst (λ (fs : List (List ℕ)). IsAfter stood fs last) (sym (append-nil done)) (subst (IsAfter stood done) (sym run.0) after),
  subst (λ (fs : List (List ℕ)). Holds trace now (files_after trace stood fs)) (sym (append-nil done)) (subst (λ (o : Option Files). Holds trace o (files_after trace stood done)) (sym run.1) holds),
)
ran (frames ∷ calls) trace last told now done stood after holds run =
    let next = run.0 in
    let between = run.1 in
    let stored = run.2 in
    let here = step trace next told between frames done stood stored after holds in
    let moved = from_next trace next told between frames (λ n m. trace_files n m stood (done ++ frames)) between stored here in
    let later = ran calls next last between now (done ++ frames) stood (stored.state stood done after) moved run.3 in
    let regrouped = append_assoc done frames (frames_in calls) in (
      subst (λ (fs : List (List ℕ)). IsAfter stood fs last) regrouped later.0,
      by_same (λ d n m. (folder : Files) × (now ≡ Some folder) × HasFiles d folder (trace_files n m stood (done ++ (frames ++ frames_in calls)))) stored.same
          (subst (λ (fs : List (List ℕ)). Holds next now (files_after next stood fs)) regrouped later.1),
    )
