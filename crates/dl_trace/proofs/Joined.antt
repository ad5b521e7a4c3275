-- Calls one after the other, as one call.
use Rattle.std.proofs.Common.{◌≡◌, ℕ, ◌+◌, ◌-◌, Bool, true, false, cond, leb, List, [], ◌∷◌, ◌++◌, length, Option, Some, None, refl, sym, ap, subst, ◌∙◌, append_assoc}
use Rattle.std.specs.Prelude.{IfSome, ◌↔◌}
use Rattle.std.specs.List.{concat}
use Rattle.std.proofs.lemmas.List.{append-nil}
use Rattle.dl_bytes.specs.declared.outcome.TraceEnd.{TraceEnd}
use Rattle.dl_bytes.specs.declared.outcome.TraceEnd.TheVariants.{Spent}
use Rattle.dl_outside.specs.Folder.{Files}
use Rattle.dl_model.specs.TraceFiles.{StoredFile, greatest, segments, trace_files, is_spent}
use Rattle.dl_trace.specs.State.{Trace, IsAfter, IsSameTrace, counted, files_after, number_after}
use Rattle.dl_trace.specs.InFolder.{HasFiles, ChangesTraceFiles}
use Rattle.dl_trace.specs.Pieces.{pieces, pieces_from, pieces_of, frames_in}
use Rattle.dl_trace.specs.Storing.{IsStored, Stops, Leaves}

-- what holds of one trace's directory and sizes holds of those of the same trace later
pub by_same : (P : List ℕ → ℕ → ℕ → Type 0) {a b : Trace} → IsSameTrace a b → P b.directory b.file_size b.max_size → P a.directory a.file_size a.max_size
by_same P {a} {b} same h =
    subst (λ (d : List ℕ). P d a.file_size a.max_size) same.directory
    (subst (λ (n : ℕ). P b.directory n a.max_size) same.file_size (subst (λ (n : ℕ). P b.directory b.file_size n) same.max_size h))

pub same_later : (a b c : Trace) → IsSameTrace a b → IsSameTrace b c → IsSameTrace a c
same_later a b c first second = record {
  directory = second.directory ∙ first.directory;
  file_size = second.file_size ∙ first.file_size;
  max_size = second.max_size ∙ first.max_size;
}

-- what a folder comes to, by two steps
through : (before between after : Option Files) (P Q R : Files → Type 0) →
    IfSome before (λ (folder : Files). P folder → (now : Files) × (between ≡ Some now) × Q now) →
    IfSome between (λ (folder : Files). Q folder → (now : Files) × (after ≡ Some now) × R now) →
    IfSome before (λ (folder : Files). P folder → (now : Files) × (after ≡ Some now) × R now)
through None between after P Q R first second = tt
through (Some folder) between after P Q R first second = λ p.
    let mid = first p in
    let later = subst (λ (o : Option Files). IfSome o (λ (folder : Files). Q folder → (now : Files) × (after ≡ Some now) × R now)) mid.1 second in
    later mid.2

pub nothing_stored : (a : Trace) (told : Option Files) → a.state.end ≡ None →
    ((stood : List StoredFile) (done : List (List ℕ)) → IsAfter stood done a → is_spent a.file_size stood done ≡ false) → IsStored [] a a told told
nothing_stored a told goes_on unspent = record {
  same = record { directory = refl; file_size = refl; max_size = refl };
  goes_on = goes_on;
  unstored = refl;
  state = λ stood done after. subst (λ (fs : List (List ℕ)). IsAfter stood fs a) (sym (append-nil done)) after;
  unspent = λ stood done after. ap (is_spent a.file_size stood) (append-nil done) ∙ unspent stood done after;
  folder = λ stood done after. subst (λ (fs : List (List ℕ)). IfSome told (λ (folder : Files). HasFiles a.directory folder (files_after a stood done) → (now : Files) × (told ≡ Some now) × HasFiles a.directory now (files_after a stood fs))) (sym (append-nil done)) (stays (λ folder. HasFiles a.directory folder (files_after a stood done)) told);
} where
  stays : (P : Files → Type 0) (told : Option Files) → IfSome told (λ (folder : Files). P folder → (now : Files) × (told ≡ Some now) × P now)
  stays P None = tt
  stays P (Some folder) = λ p. (folder, refl, p)

pub joins : (xs ys : List (List ℕ)) (a b c : Trace) (told between now : Option Files) → IsStored xs a b told between → IsStored ys b c between now → IsStored (xs ++ ys) a c told now
joins xs ys a b c told between now first second = record {
  same = same_later a b c first.same second.same;
  goes_on = second.goes_on;
  unstored = second.unstored ∙ first.unstored;
  state = λ stood done after. subst (λ (fs : List (List ℕ)). IsAfter stood fs c) (append_assoc done xs ys) (second.state stood (done ++ xs) (first.state stood done after));
  unspent = λ stood done after.
      by_same (λ d n m. is_spent n stood (done ++ (xs ++ ys)) ≡ false) first.same
      (subst (λ (fs : List (List ℕ)). is_spent b.file_size stood fs ≡ false) (append_assoc done xs ys) (second.unspent stood (done ++ xs) (first.state stood done after)));
  folder = λ stood done after.
      through told between now (λ folder. HasFiles a.directory folder (files_after a stood done)) (λ folder. HasFiles a.directory folder (files_after a stood (done ++ xs))) (λ folder. HasFiles a.directory folder (files_after a stood (done ++ (xs ++ ys))))
      (first.folder stood done after)
      (by_same (λ d n m. IfSome between (λ (folder : Files). HasFiles d folder (trace_files n m stood (done ++ xs)) → (held : Files) × (now ≡ Some held) × HasFiles d held (trace_files n m stood (done ++ (xs ++ ys))))) first.same
      (subst (λ (fs : List (List ℕ)). IfSome between (λ (folder : Files). HasFiles b.directory folder (files_after b stood (done ++ xs)) → (held : Files) × (now ≡ Some held) × HasFiles b.directory held (files_after b stood fs)))
      (append_assoc done xs ys) (second.folder stood (done ++ xs) (first.state stood done after))));
}

pub frames_in-append : (xs ys : List (List (List ℕ))) → frames_in (xs ++ ys) ≡ frames_in xs ++ frames_in ys
frames_in-append [] ys = refl
frames_in-append (x ∷ xs) ys = ap (λ (fs : List (List ℕ)). x ++ fs) (frames_in-append xs ys) ∙ sym (append_assoc x (frames_in xs) (frames_in ys))

pub frames_in-one : (xs : List (List (List ℕ))) (piece : List (List ℕ)) → frames_in (xs ++ piece ∷ []) ≡ frames_in xs ++ piece
frames_in-one xs piece = frames_in-append xs (piece ∷ []) ∙ ap (λ (fs : List (List ℕ)). frames_in xs ++ fs) (append-nil piece)

pub stops_later : (end : TraceEnd) (all rest : List (List ℕ)) (before : List (List (List ℕ))) (a b c : Trace) (told between now : Option Files) →
    IsStored (frames_in before) a b told between → pieces_of a all ≡ before ++ pieces_of b rest → Stops end rest b c between now → Stops end all a c told now
stops_later end all rest before a b c told between now first cut stops =
    let pieces = before ++ stops.stored in
    record {
      same = same_later a b c first.same stops.same;
      ended = stops.ended;
      stored = pieces;
      piece = stops.piece;
      later = stops.later;
      unstored = stops.unstored ∙ ap (λ (n : ℕ). counted (n + length (stops.piece ++ frames_in stops.later))) first.unstored;
      cut = cut ∙ ap (λ (ps : List (List (List ℕ))). before ++ ps) stops.cut ∙ sym (append_assoc before stops.stored (stops.piece ∷ stops.later));
      state = λ stood done after. subst (λ (fs : List (List ℕ)). IsAfter stood fs c) (regrouped done) (stops.state stood (done ++ frames_in before) (first.state stood done after));
      spent = λ stood done after.
          by_same (λ d n m. (end ≡ Spent) ↔ (is_spent n stood (done ++ frames_in pieces ++ stops.piece) ≡ true)) first.same
          (subst (λ (fs : List (List ℕ)). (end ≡ Spent) ↔ (is_spent b.file_size stood (fs ++ stops.piece) ≡ true)) (regrouped done) (stops.spent stood (done ++ frames_in before) (first.state stood done after)));
      folder = λ stood done after.
          through told between now (λ folder. HasFiles a.directory folder (files_after a stood done)) (λ folder. HasFiles a.directory folder (files_after a stood (done ++ frames_in before)))
          (λ held. Leaves end a.directory (files_after a stood (done ++ frames_in pieces)) (files_after a stood (done ++ frames_in pieces ++ stops.piece)) (number_after a stood (done ++ frames_in pieces ++ stops.piece)) (concat stops.piece) held)
          (first.folder stood done after)
          (by_same (λ d n m. IfSome between (λ (folder : Files). HasFiles d folder (trace_files n m stood (done ++ frames_in before)) → (held : Files) × (now ≡ Some held)
          × Leaves end d (trace_files n m stood (done ++ frames_in pieces)) (trace_files n m stood (done ++ frames_in pieces ++ stops.piece)) (greatest stood + length (segments n (done ++ frames_in pieces ++ stops.piece))) (concat stops.piece) held)) first.same
          (subst (λ (fs : List (List ℕ)). IfSome between (λ (folder : Files). HasFiles b.directory folder (files_after b stood (done ++ frames_in before)) → (held : Files) × (now ≡ Some held)
          × Leaves end b.directory (files_after b stood fs) (files_after b stood (fs ++ stops.piece)) (number_after b stood (fs ++ stops.piece)) (concat stops.piece) held))
          (regrouped done) (stops.folder stood (done ++ frames_in before) (first.state stood done after))));
    } where
      regrouped : (done : List (List ℕ)) → (done ++ frames_in before) ++ frames_in stops.stored ≡ done ++ frames_in (before ++ stops.stored)
      regrouped done = append_assoc done (frames_in before) (frames_in stops.stored) ∙ ap (λ (fs : List (List ℕ)). done ++ fs) (sym (frames_in-append before stops.stored))

-- ---- pieces are the frames

frames_in_from : (size room : ℕ) (piece frames : List (List ℕ)) → frames_in (pieces_from size room piece frames) ≡ piece ++ frames
frames_in_from size room piece [] = refl
frames_in_from size room piece (frame ∷ frames) =
    by_test (leb (length frame) room) (frames_in_from size (room - length frame) (piece ++ frame ∷ []) frames) (frames_in_from size (size - length frame) (frame ∷ []) frames) where
      by_test : (b : Bool) → frames_in (pieces_from size (room - length frame) (piece ++ frame ∷ []) frames) ≡ (piece ++ frame ∷ []) ++ frames
          → frames_in (pieces_from size (size - length frame) (frame ∷ []) frames) ≡ frame ∷ frames
          → frames_in (cond b (pieces_from size (room - length frame) (piece ++ frame ∷ []) frames) (piece ∷ pieces_from size (size - length frame) (frame ∷ []) frames)) ≡ piece ++ frame ∷ frames
      by_test true goes_on begins = goes_on ∙ append_assoc piece (frame ∷ []) frames
      by_test false goes_on begins = ap (λ (fs : List (List ℕ)). piece ++ fs) begins

pub frames_in_cut : (size room : ℕ) (frames : List (List ℕ)) → frames_in (pieces size room frames) ≡ frames
frames_in_cut size room [] = refl
frames_in_cut size room (frame ∷ frames) = by_test (leb (length frame) room) where
  by_test : (b : Bool) → frames_in (cond b (pieces_from size (room - length frame) (frame ∷ []) frames) (pieces_from size (size - length frame) (frame ∷ []) frames)) ≡ frame ∷ frames
  by_test true = frames_in_from size (room - length frame) (frame ∷ []) frames
  by_test false = frames_in_from size (size - length frame) (frame ∷ []) frames

-- ---- names that are no trace files

pub unchanged : (directory : List ℕ) (told : Option Files) → ChangesTraceFiles directory told told
unchanged directory None = tt
unchanged directory (Some folder) = (folder, refl, λ name other. refl)

pub changes_later : (directory : List ℕ) (told between now : Option Files) → ChangesTraceFiles directory told between → ChangesTraceFiles directory between now → ChangesTraceFiles directory told now
changes_later directory None between now first second = tt
changes_later directory (Some folder) between now first second =
    let later = subst (λ (o : Option Files). ChangesTraceFiles directory o now) first.1 second in
    (later.0, later.1, λ name other. later.2 name other ∙ first.2 name other)
