-- A piece that was put where it goes, for the frames that it holds.
use Rattle.std.proofs.Common.{◌≡◌, ℕ, zero, suc, ◌+◌, ◌≤◌, ◌<◌, Bool, true, false, cond, leb, List, [], ◌∷◌, ◌++◌, length, take, drop, map, Option, Some, None, Ok, refl, sym, ap, subst, ◌∙◌, length-append, arith}
use Rattle.std.specs.Prelude.{IfSome, nat_lt, sum_by, fold, max}
use Rattle.std.specs.List.{concat}
use Rattle.std.proofs.lemmas.Bool.{false≢true}
use Rattle.std.proofs.lemmas.Bool.Decides.{nat_tests}
use Rattle.std.proofs.lemmas.List.{map-append}
use Rattle.std.proofs.lemmas.List.Sums.{sum_by-cons}
use Rattle.dl_lemmas.proofs.Numbers.{above_zero}
use Rattle.dl_bytes.specs.declared.outcome.TraceFile.{TraceFile}
use Rattle.dl_outside.specs.Folder.{Files, with_more}
use Rattle.dl_model.specs.Backlog.{size_of}
use Rattle.dl_model.specs.TraceFiles.{StoredFile, number_limit, trace_name, greatest, kept, total_size}
use Rattle.dl_model.proofs.Rotation.{newest_stands}
use Rattle.dl_trace.specs.State.{Trace, IsAfter, listed, files_after, number_after}
use Rattle.dl_trace.specs.InFolder.{HasFiles, AreRising}
use Rattle.dl_trace.specs.Pieces.{last_size, room_of}
use Rattle.dl_trace.specs.Steps.{bytes_in, going, closed_limit, grown_last, last_name, names_of, Extends, extended}
use Rattle.dl_trace.specs.Storing.{IsStored}
use Rattle.dl_trace.specs.Kept.{IsSound}
use Rattle.dl_trace.proofs.Sound.{last_size-one, last_name-one, room_open}
use Rattle.dl_trace.proofs.Trail.{file_of, extends, begins_first, begins_later, newest_number}
use Rattle.dl_trace.proofs.Holding.{AreBelow, below_more, below_last, names_in, grows}

-- ---- the list of files

last_sized : (directory : List ℕ) (before : List StoredFile) (newest : StoredFile) → last_size (map (listed directory) (before ++ newest ∷ [])) ≡ length newest.bytes
last_sized directory before newest = ap last_size (map-append (listed directory) before (newest ∷ [])) ∙ last_size-one (map (listed directory) before) (listed directory newest)

last_named : (directory : List ℕ) (before : List StoredFile) (newest : StoredFile) → last_name (map (listed directory) (before ++ newest ∷ [])) ≡ trace_name directory newest.number
last_named directory before newest = ap last_name (map-append (listed directory) before (newest ∷ [])) ∙ last_name-one (map (listed directory) before) (listed directory newest)

grown_listed : (directory : List ℕ) (before : List StoredFile) (newest : StoredFile) (piece : List ℕ) →
    grown_last (length piece) (map (listed directory) (before ++ newest ∷ [])) ≡ map (listed directory) (before ++ file_of newest.number (newest.bytes ++ piece) ∷ [])
grown_listed directory [] newest piece = ap (λ (n : ℕ). record { name = trace_name directory newest.number; bytes = n } ∷ []) (sym (length-append newest.bytes piece))
grown_listed directory (x ∷ []) newest piece = ap (λ (fs : List TraceFile). listed directory x ∷ fs) (grown_listed directory [] newest piece)
grown_listed directory (x ∷ y ∷ before) newest piece = ap (λ (fs : List TraceFile). listed directory x ∷ fs) (grown_listed directory (y ∷ before) newest piece)

listed_total : (directory : List ℕ) (files : List StoredFile) → sum_by bytes_in (map (listed directory) files) ≡ total_size files
listed_total directory [] = refl
listed_total directory (f ∷ files) =
    sum_by-cons bytes_in (listed directory f) (map (listed directory) files) ∙ ap (λ n. length f.bytes + n) (listed_total directory files)
    ∙ sym (sum_by-cons (λ (file : StoredFile). length file.bytes) f files)

pub kept_going : (limit : ℕ) (directory : List ℕ) (files : List StoredFile) → kept limit files ≡ drop (going limit (map (listed directory) files)) files
kept_going limit directory [] = refl
kept_going limit directory (f ∷ files) =
    by_test (leb (total_size (f ∷ files)) limit) (kept_going limit directory files)
    ∙ ap (λ n. drop (cond (leb n limit) 0 (suc (going limit (map (listed directory) files)))) (f ∷ files)) (sym (listed_total directory (f ∷ files))) where
      by_test : (b : Bool) → kept limit files ≡ drop (going limit (map (listed directory) files)) files →
          cond b (f ∷ files) (kept limit files) ≡ drop (cond b 0 (suc (going limit (map (listed directory) files)))) (f ∷ files)
      by_test true later = refl
      by_test false later = later

pub drop_listed : (k : ℕ) (directory : List ℕ) (files : List StoredFile) → drop k (map (listed directory) files) ≡ map (listed directory) (drop k files)
drop_listed zero directory files = refl
drop_listed (suc k) directory [] = refl
drop_listed (suc k) directory (f ∷ files) = drop_listed k directory files

pub names_taken : (k : ℕ) (directory : List ℕ) (files : List StoredFile) → names_of (take k (map (listed directory) files)) ≡ names_in directory (take k files)
names_taken zero directory files = refl
names_taken (suc k) directory [] = refl
names_taken (suc k) directory (f ∷ files) = ap (λ (ns : List (List ℕ)). trace_name directory f.number ∷ ns) (names_taken k directory files)

pub small_number : (n : ℕ) → n ≤ number_limit → nat_lt number_limit n ≡ false
small_number n h = grind (arith, nat_tests)

-- ---- a piece in the open file

pub record IsGrown (trace : Trace) (stood : List StoredFile) (done piece : List (List ℕ)) : Type 0 where
  pub before : List StoredFile
  pub newest : StoredFile
  pub was : files_after trace stood done ≡ before ++ newest ∷ []
  pub grown : files_after trace stood (done ++ piece) ≡ before ++ file_of newest.number (newest.bytes ++ concat piece) ∷ []
  pub files : trace.state.files ≡ map (listed trace.directory) (before ++ newest ∷ [])
  pub named : last_name trace.state.files ≡ trace_name trace.directory newest.number
  pub number : newest.number ≡ trace.last
  pub same_number : number_after trace stood (done ++ piece) ≡ trace.last
  pub some : nat_lt 0 (length (done ++ piece)) ≡ true

pub grown_at : (trace : Trace) (stood : List StoredFile) (done piece : List (List ℕ)) → IsAfter stood done trace → IsSound trace → trace.begun ≡ true → size_of piece ≤ room_of trace → IsGrown trace stood done piece
grown_at trace stood [] piece after sound begun room = absurd (false≢true (sym after.begun ∙ begun))
grown_at trace stood (first ∷ frames) piece after sound begun room =
    let is = newest_stands trace.file_size trace.max_size stood first frames in
    let before = is.0 in
    let newest = is.1 in
    let files : trace.state.files ≡ map (listed trace.directory) (before ++ newest ∷ []) = after.files ∙ ap (map (listed trace.directory)) is.2 in
    let size : last_size trace.state.files ≡ length newest.bytes = ap last_size files ∙ last_sized trace.directory before newest in
    let fits : length newest.bytes + size_of piece ≤ trace.file_size = omega (arith, size, room, room_open trace begun, sound.room begun) in
    let more = extends trace.file_size trace.max_size stood before newest first frames piece is.2 fits in
    let number : newest.number ≡ trace.last = newest_number trace.file_size trace.max_size stood before newest first frames is.2 ∙ sym after.last in
    record {
      before = before;
      newest = newest;
      was = is.2;
      grown = more;
      files = files;
      named = ap last_name files ∙ last_named trace.directory before newest;
      number = number;
      same_number = sym (newest_number trace.file_size trace.max_size stood before (file_of newest.number (newest.bytes ++ concat piece)) first (frames ++ piece) more) ∙ number;
      some = above_zero (length (first ∷ (frames ++ piece))) (omega arith);
    }

pub stored_open : (trace : Trace) (piece : List (List ℕ)) (told now : Option Files) → IsSound trace → trace.state.end ≡ None → trace.begun ≡ true → size_of piece ≤ room_of trace →
    Extends told now (Ok tt) (last_name trace.state.files) (concat piece) → IsStored piece trace (extended (length (concat piece)) trace) told now
stored_open trace piece told now sound goes_on begun room does = record {
  same = record { directory = refl; file_size = refl; max_size = refl };
  goes_on = goes_on;
  unstored = refl;
  state = λ stood done after.
      let at = grown_at trace stood done piece after sound begun room in
      record {
        files = ap (grown_last (length (concat piece))) at.files ∙ grown_listed trace.directory at.before at.newest (concat piece) ∙ ap (map (listed trace.directory)) (sym at.grown);
        last = sym at.same_number;
        begun = begun ∙ sym at.some;
      };
  unspent = λ stood done after. let at = grown_at trace stood done piece after sound begun room in ap (nat_lt number_limit) at.same_number ∙ small_number trace.last sound.last;
  folder = λ stood done after. in_folder told does (grown_at trace stood done piece after sound begun room);
} where
  in_folder : {stood : List StoredFile} {done : List (List ℕ)} (told : Option Files) → Extends told now (Ok tt) (last_name trace.state.files) (concat piece) → IsGrown trace stood done piece →
      IfSome told (λ (folder : Files). HasFiles trace.directory folder (files_after trace stood done) → (held : Files) × (now ≡ Some held) × HasFiles trace.directory held (files_after trace stood (done ++ piece)))
  in_folder None does at = tt
  in_folder (Some folder) does at = λ has. (
    with_more folder (trace_name trace.directory at.newest.number) (concat piece),
    does ∙ ap (λ (n : List ℕ). Some (with_more folder n (concat piece))) at.named,
    subst (HasFiles trace.directory (with_more folder (trace_name trace.directory at.newest.number) (concat piece))) (sym at.grown)
        (grows trace.directory folder at.before at.newest (concat piece) (subst (HasFiles trace.directory folder) at.was has)),
  )

-- ---- a piece that begins a file

below_greatest : (most : ℕ) (files : List StoredFile) → (most ≤ fold (λ (n : ℕ) (f : StoredFile). max n f.number) most files) × AreBelow (fold (λ (n : ℕ) (f : StoredFile). max n f.number) most files + 1) files
below_greatest most [] = (omega arith, tt)
below_greatest most (f ∷ files) =
    let later = below_greatest (max most f.number) files in
    (omega (arith, later.0), (omega (arith, later.0), later.1))

pub record IsBegun (trace : Trace) (stood : List StoredFile) (done piece : List (List ℕ)) : Type 0 where
  pub begun : files_after trace stood (done ++ piece) ≡ kept (closed_limit trace) (files_after trace stood done) ++ file_of (trace.last + 1) (concat piece) ∷ []
  pub number : number_after trace stood (done ++ piece) ≡ trace.last + 1
  pub below : AreRising 0 (files_after trace stood done) → AreBelow (trace.last + 1) (files_after trace stood done)
  pub some : nat_lt 0 (length (done ++ piece)) ≡ true

pub begun_at : (trace : Trace) (stood : List StoredFile) (done : List (List ℕ)) (x : List ℕ) (piece : List (List ℕ)) → IsAfter stood done trace → IsSound trace → room_of trace < length x → length x + size_of piece ≤ trace.file_size →
    IsBegun trace stood done (x ∷ piece)
begun_at trace stood [] x piece after sound over room =
    let first = begins_first trace.file_size trace.max_size stood x piece room in
    let last : greatest stood + 1 ≡ trace.last + 1 = omega (arith, after.last) in
    let begins = first ∙ ap (λ (n : ℕ). kept (closed_limit trace) stood ++ file_of n (x ++ concat piece) ∷ []) last in
    record {
      begun = begins;
      number = sym (newest_number trace.file_size trace.max_size stood (kept (closed_limit trace) stood) (file_of (trace.last + 1) (x ++ concat piece)) x piece begins);
      below = λ _. below_more (greatest stood + 1) (trace.last + 1) stood (omega (arith, last)) (below_greatest 0 stood).1;
      some = above_zero (length (x ∷ piece)) (omega arith);
    }
begun_at trace stood (first ∷ frames) x piece after sound over room =
    let is = newest_stands trace.file_size trace.max_size stood first frames in
    let before = is.0 in
    let newest = is.1 in
    let begun : trace.begun ≡ true = after.begun ∙ above_zero (length (first ∷ frames)) (omega arith) in
    let files : trace.state.files ≡ map (listed trace.directory) (before ++ newest ∷ []) = after.files ∙ ap (map (listed trace.directory)) is.2 in
    let size : last_size trace.state.files ≡ length newest.bytes = ap last_size files ∙ last_sized trace.directory before newest in
    let number : newest.number ≡ trace.last = newest_number trace.file_size trace.max_size stood before newest first frames is.2 ∙ sym after.last in
    let over_it : trace.file_size < length newest.bytes + length x = omega (arith, size, over, room_open trace begun, sound.room begun) in
    let begins = begins_later trace.file_size trace.max_size stood before newest first frames x piece is.2 over_it room
    ∙ ap (λ (n : ℕ). kept (closed_limit trace) (files_after trace stood (first ∷ frames)) ++ file_of (n + 1) (x ++ concat piece) ∷ []) number in
    record {
      begun = begins;
      number = sym (newest_number trace.file_size trace.max_size stood (kept (closed_limit trace) (files_after trace stood (first ∷ frames))) (file_of (trace.last + 1) (x ++ concat piece)) first (frames ++ x ∷ piece) begins);
      below = λ rising. subst (AreBelow (trace.last + 1)) (sym is.2) (below_whole (trace.last + 1) before newest (omega (arith, number)) (below_last 0 before newest (subst (AreRising 0) is.2 rising)));
      some = above_zero (length (first ∷ (frames ++ x ∷ piece))) (omega arith);
    } where
      below_whole : (n : ℕ) (files : List StoredFile) (newest : StoredFile) → newest.number < n → AreBelow newest.number files → AreBelow n (files ++ newest ∷ [])
      below_whole n [] newest h below = (h, tt)
      below_whole n (f ∷ files) newest h below = (omega (arith, below.0, h), below_whole n files newest h below.1)
