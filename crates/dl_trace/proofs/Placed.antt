-- A piece that begins a file, and a piece that could not be stored.
use Rattle.std.proofs.Common.{◌≡◌, ◌≢◌, ℕ, ◌+◌, ◌≤◌, ◌<◌, true, List, [], ◌∷◌, ◌++◌, length, take, drop, map, Option, Some, None, Ok, Err, refl, sym, ap, subst, ◌∙◌, append_assoc, arith, inl, inr}
use Rattle.std.specs.Prelude.{IfSome, ◌↔◌, ◌⊎◌, nat_lt}
use Rattle.std.specs.List.{concat}
use Rattle.std.specs.FinMap as map
use Rattle.std.proofs.lemmas.Bool.{false≢true}
use Rattle.std.proofs.lemmas.Bool.Decides.{nat_tests}
use Rattle.std.proofs.lemmas.List.{append-nil, map-append, take-append-drop}
use Rattle.dl_bytes.specs.declared.outcome.TraceEnd.{TraceEnd}
use Rattle.dl_bytes.specs.declared.outcome.TraceEnd.TheVariants.{Failed, Spent, NoMemory}
use Rattle.dl_bytes.specs.declared.outcome.TraceFile.{TraceFile}
use Rattle.dl_outside.specs.Folder.{Files, with_more}
use Rattle.dl_outside.specs.Outside.{Stays}
use Rattle.dl_model.specs.Backlog.{size_of}
use Rattle.dl_model.specs.TraceFiles.{StoredFile, number_limit, trace_name, kept, is_spent}
use Rattle.dl_trace.specs.State.{Trace, IsAfter, counted, listed, files_after, number_after}
use Rattle.dl_trace.specs.InFolder.{HasFiles}
use Rattle.dl_trace.specs.Pieces.{frames_in, pieces_of, room_of}
use Rattle.dl_trace.specs.Steps.{going, going_of, closed_limit, last_name, next_name, names_of, without, HasFront, StopsRemoving, Extends, Begins, with_file}
use Rattle.dl_trace.specs.Storing.{IsStored, Stops, IsCutShort, IsUnremoved, Leaves}
use Rattle.dl_trace.specs.Kept.{IsSound}
use Rattle.dl_trace.proofs.Joined.{frames_in_cut}
use Rattle.dl_trace.proofs.Trail.{file_of}
use Rattle.dl_trace.proofs.Holding.{names_in, starts, all_go, split_at, stays_unknown}
use Rattle.dl_trace.proofs.Placing.{kept_going, drop_listed, names_taken, small_number, IsGrown, grown_at, IsBegun, begun_at}

-- ---- a piece that begins a file

new_files : (trace : Trace) (stood : List StoredFile) (done piece : List (List ℕ)) → IsAfter stood done trace → IsBegun trace stood done piece →
    drop (going_of trace) trace.state.files ++ record { name = next_name trace; bytes = length (concat piece) } ∷ [] ≡ map (listed trace.directory) (files_after trace stood (done ++ piece))
new_files trace stood done piece after at =
    let files = files_after trace stood done in
    let limit = closed_limit trace in
    let seen = listed trace.directory in
    let file = file_of (trace.last + 1) (concat piece) in
    let entry : TraceFile = record { name = next_name trace; bytes = length (concat piece) } in
    ap (λ (fs : List TraceFile). drop (going limit fs) fs ++ entry ∷ []) after.files
    ∙ ap (λ (fs : List TraceFile). fs ++ entry ∷ []) (drop_listed (going limit (map seen files)) trace.directory files)
    ∙ ap (λ (fs : List StoredFile). map seen fs ++ entry ∷ []) (sym (kept_going limit trace.directory files))
    ∙ sym (map-append seen (kept limit files) (file ∷ [])) ∙ ap (map seen) (sym at.begun)

-- with a piece more, and the files that go in front
parted_files : (k : ℕ) (files : List StoredFile) (file : StoredFile) → files ++ file ∷ [] ≡ take k files ++ (drop k files ++ file ∷ [])
parted_files k files file = ap (λ (fs : List StoredFile). fs ++ file ∷ []) (sym (take-append-drop k files)) ∙ append_assoc (take k files) (drop k files) (file ∷ [])

pub stored_new : (trace : Trace) (x : List ℕ) (piece : List (List ℕ)) (told now : Option Files) → IsSound trace → trace.state.end ≡ None → trace.last < number_limit → room_of trace < length x →
    length x + size_of piece ≤ trace.file_size → Begins told now (Ok tt) (next_name trace) (concat (x ∷ piece)) (names_of (take (going_of trace) trace.state.files)) →
    IsStored (x ∷ piece) trace (with_file (length (concat (x ∷ piece))) trace) told now
stored_new trace x piece told now sound goes_on few over room does = record {
  same = record { directory = refl; file_size = refl; max_size = refl };
  goes_on = goes_on;
  unstored = refl;
  state = λ stood done after.
      let at = begun_at trace stood done x piece after sound over room in
      record { files = new_files trace stood done (x ∷ piece) after at; last = sym at.number; begun = sym at.some };
  unspent = λ stood done after. let at = begun_at trace stood done x piece after sound over room in ap (nat_lt number_limit) at.number ∙ small_number (trace.last + 1) (omega arith);
  folder = λ stood done after. in_folder stood done told does after (begun_at trace stood done x piece after sound over room);
} where
  in_folder : (stood : List StoredFile) (done : List (List ℕ)) (told : Option Files) → Begins told now (Ok tt) (next_name trace) (concat (x ∷ piece)) (names_of (take (going_of trace) trace.state.files)) → IsAfter stood done trace → IsBegun trace stood done (x ∷ piece) →
      IfSome told (λ (folder : Files). HasFiles trace.directory folder (files_after trace stood done) → (held : Files) × (now ≡ Some held) × HasFiles trace.directory held (files_after trace stood (done ++ x ∷ piece)))
  in_folder stood done None does after at = tt
  in_folder stood done (Some folder) does after at = λ has.
      let d = trace.directory in
      let files = files_after trace stood done in
      let k = going (closed_limit trace) (map (listed d) files) in
      let file = file_of (trace.last + 1) (concat (x ∷ piece)) in
      let more = with_more folder (next_name trace) (concat (x ∷ piece)) in
      let start = starts d folder files (trace.last + 1) (concat (x ∷ piece)) has (at.below has.rising) (omega arith) (omega arith) in
      let gone = all_go d more (take k files) (drop k files ++ file ∷ []) (subst (HasFiles d more) (parted_files k files file) start) in
      let names : names_of (take (going_of trace) trace.state.files) ≡ names_in d (take k files) = ap (λ (fs : List TraceFile). names_of (take (going (closed_limit trace) fs) fs)) after.files ∙ names_taken k d files in
      let left : drop k files ++ file ∷ [] ≡ files_after trace stood (done ++ x ∷ piece) = ap (λ (fs : List StoredFile). fs ++ file ∷ []) (sym (kept_going (closed_limit trace) d files)) ∙ sym at.begun in (
        without more (names_of (take (going_of trace) trace.state.files)),
        does,
        subst (λ (ns : List (List ℕ)). HasFiles d (without more ns) (files_after trace stood (done ++ x ∷ piece))) (sym names) (subst (HasFiles d (without more (names_in d (take k files)))) left gone),
      )

-- ---- a piece that could not be stored

-- the trace where it has ended at the first of these frames
abbrev pub ended_with : TraceEnd → List (List ℕ) → Trace → Trace
ended_with end frames trace = record trace { state = record { files = trace.state.files; end = Some end }; unstored = counted (trace.unstored + length frames) }

-- what stands held
abbrev Stands : TraceEnd → Trace → List (List ℕ) → Option Files → Option Files → List StoredFile → List (List ℕ) → Type 0
Stands end trace piece told now stood done =
    IfSome told (λ (folder : Files). HasFiles trace.directory folder (files_after trace stood done) → (held : Files) × (now ≡ Some held)
    × Leaves end trace.directory (files_after trace stood done) (files_after trace stood (done ++ piece)) (number_after trace stood (done ++ piece)) (concat piece) held)

stops_first : (end : TraceEnd) (frames piece : List (List ℕ)) (later : List (List (List ℕ))) (trace : Trace) (told now : Option Files) → pieces_of trace frames ≡ piece ∷ later →
    ((stood : List StoredFile) (done : List (List ℕ)) → IsAfter stood done trace → (end ≡ Spent) ↔ (is_spent trace.file_size stood (done ++ piece) ≡ true)) →
    ((stood : List StoredFile) (done : List (List ℕ)) → IsAfter stood done trace → Stands end trace piece told now stood done) →
    Stops end frames trace (ended_with end frames trace) told now
stops_first end frames piece later trace told now cut spent stands = record {
  same = record { directory = refl; file_size = refl; max_size = refl };
  ended = refl;
  stored = [];
  piece = piece;
  later = later;
  cut = cut;
  unstored = ap (λ (fs : List (List ℕ)). counted (trace.unstored + length fs)) (sym (frames_in_cut trace.file_size (room_of trace) frames) ∙ ap frames_in cut);
  state = λ stood done after. subst (λ (fs : List (List ℕ)). IsAfter stood fs (ended_with end frames trace)) (sym (append-nil done)) (record { files = after.files; last = after.last; begun = after.begun });
  spent = λ stood done after. subst (λ (fs : List (List ℕ)). (end ≡ Spent) ↔ (is_spent trace.file_size stood (fs ++ piece) ≡ true)) (sym (append-nil done)) (spent stood done after);
  folder = λ stood done after. subst (λ (fs : List (List ℕ)).
      IfSome told (λ (folder : Files). HasFiles trace.directory folder (files_after trace stood done) → (held : Files) × (now ≡ Some held)
      × Leaves end trace.directory (files_after trace stood fs) (files_after trace stood (fs ++ piece)) (number_after trace stood (fs ++ piece)) (concat piece) held)) (sym (append-nil done)) (stands stood done after);
}

unspent_number : (end : TraceEnd) (n number : ℕ) → number ≡ n → n ≤ number_limit → end ≢ Spent → (end ≡ Spent) ↔ (nat_lt number_limit number ≡ true)
unspent_number end n number is small other = (λ e. absurd (other e), λ t. absurd (false≢true (sym (ap (nat_lt number_limit) is ∙ small_number n small) ∙ t)))

front_left : (directory : List ℕ) (folder : Files) (now : Option Files) (name : List ℕ) (number : ℕ) (bytes : List ℕ) (before : List StoredFile) → HasFront folder now name bytes → name ≡ trace_name directory number → HasFiles directory folder before →
    (held : Files) × (now ≡ Some held) × IsCutShort directory before number bytes held
front_left directory folder now name number bytes before (inl same) named has = (folder, same, (folder, has, inl refl))
front_left directory folder now name number bytes before (inr more) named has =
    (with_more folder name (take more.0 bytes), more.2, (folder, has, inr (more.0, more.1, ap (λ (n : List ℕ). with_more folder n (take more.0 bytes)) named)))

-- in the open file
failed_open : (end : TraceEnd) (told now : Option Files) (name bytes : List ℕ) → Extends told now (Err end) name bytes → (end ≢ Spent) × IfSome told (λ (folder : Files). HasFront folder now name bytes)
failed_open Spent told now name bytes does = absurd does
failed_open Failed told now name bytes does = (λ e. absurd cc, does)
failed_open NoMemory told now name bytes does = (λ e. absurd cc, does)

leaves_front : (end : TraceEnd) (directory : List ℕ) (before after : List StoredFile) (number : ℕ) (bytes : List ℕ) (held : Files) → end ≢ Spent → IsCutShort directory before number bytes held ⊎ IsUnremoved directory before after held → Leaves end directory before after number bytes held
leaves_front Spent directory before after number bytes held other h = absurd (other refl)
leaves_front Failed directory before after number bytes held other h = h
leaves_front NoMemory directory before after number bytes held other h = h

pub stops_open : (end : TraceEnd) (frames piece : List (List ℕ)) (later : List (List (List ℕ))) (trace : Trace) (told now : Option Files) → pieces_of trace frames ≡ piece ∷ later →
    IsSound trace → trace.begun ≡ true → size_of piece ≤ room_of trace → Extends told now (Err end) (last_name trace.state.files) (concat piece) → Stops end frames trace (ended_with end frames trace) told now
stops_open end frames piece later trace told now cut sound begun room does =
    let failed = failed_open end told now (last_name trace.state.files) (concat piece) does in
    stops_first end frames piece later trace told now cut
    (λ stood done after. let at = grown_at trace stood done piece after sound begun room in unspent_number end trace.last (number_after trace stood (done ++ piece)) at.same_number sound.last failed.0)
    (λ stood done after. in_folder stood done told failed.1 failed.0 (grown_at trace stood done piece after sound begun room)) where
      in_folder : (stood : List StoredFile) (done : List (List ℕ)) (told : Option Files) → IfSome told (λ (folder : Files). HasFront folder now (last_name trace.state.files) (concat piece)) → end ≢ Spent → IsGrown trace stood done piece → Stands end trace piece told now stood done
      in_folder stood done None front other at = tt
      in_folder stood done (Some folder) front other at = λ has.
          let number = number_after trace stood (done ++ piece) in
          let named : last_name trace.state.files ≡ trace_name trace.directory number = at.named ∙ ap (trace_name trace.directory) (at.number ∙ sym at.same_number) in
          let left = front_left trace.directory folder now (last_name trace.state.files) number (concat piece) (files_after trace stood done) front named has in
          (left.0, left.1, leaves_front end trace.directory (files_after trace stood done) (files_after trace stood (done ++ piece)) number (concat piece) left.0 other (inl left.2))

-- no file can have the number
pub stops_spent : (frames : List (List ℕ)) (x : List ℕ) (piece : List (List ℕ)) (later : List (List (List ℕ))) (trace : Trace) (told now : Option Files) → pieces_of trace frames ≡ (x ∷ piece) ∷ later →
    IsSound trace → room_of trace < length x → length x + size_of piece ≤ trace.file_size → trace.last ≡ number_limit → Stays told now → Stops Spent frames trace (ended_with Spent frames trace) told now
stops_spent frames x piece later trace told now cut sound over room most stays =
    stops_first Spent frames (x ∷ piece) later trace told now cut
    (λ stood done after. let at = begun_at trace stood done x piece after sound over room in (λ e. large (number_after trace stood (done ++ x ∷ piece)) (omega (arith, at.number, most)), λ t. refl))
    (λ stood done after. in_folder stood done told stays) where
      large : (n : ℕ) → number_limit < n → nat_lt number_limit n ≡ true
      large n h = grind (arith, nat_tests)

      in_folder : (stood : List StoredFile) (done : List (List ℕ)) (told : Option Files) → Stays told now → Stands Spent trace (x ∷ piece) told now stood done
      in_folder stood done None stays = tt
      in_folder stood done (Some folder) stays = λ has. (folder, stays, has)

-- in a new file
failed_new : (end : TraceEnd) (told now : Option Files) (name bytes : List ℕ) (names : List (List ℕ)) → Begins told now (Err end) name bytes names →
    (end ≢ Spent) × IfSome told (λ (folder : Files). HasFront folder now name bytes ⊎ StopsRemoving (with_more folder name bytes) now names)
failed_new Spent told now name bytes names does = absurd does
failed_new Failed told now name bytes names does = (λ e. absurd cc, does)
failed_new NoMemory told now name bytes names does = (λ e. absurd cc, does)

unremoved : (trace : Trace) (stood : List StoredFile) (done piece : List (List ℕ)) (folder : Files) (now : Option Files) → trace.last < number_limit → IsAfter stood done trace → IsBegun trace stood done piece →
    HasFiles trace.directory folder (files_after trace stood done) →
    StopsRemoving (with_more folder (next_name trace) (concat piece)) now (names_of (take (going_of trace) trace.state.files)) →
    (held : Files) × (now ≡ Some held) × IsUnremoved trace.directory (files_after trace stood done) (files_after trace stood (done ++ piece)) held
unremoved trace stood done piece folder now few after at has stopped =
    let d = trace.directory in
    let files = files_after trace stood done in
    let k = going (closed_limit trace) (map (listed d) files) in
    let file = file_of (trace.last + 1) (concat piece) in
    let more = with_more folder (next_name trace) (concat piece) in
    let start = starts d folder files (trace.last + 1) (concat piece) has (at.below has.rising) (omega arith) (omega arith) in
    let names : names_in d (take k files) ≡ names_of (take (going_of trace) trace.state.files) = sym (ap (λ (fs : List TraceFile). names_of (take (going (closed_limit trace) fs) fs)) after.files ∙ names_taken k d files) in
    let split = split_at d (take k files) stopped.gone stopped.unknown stopped.waiting (names ∙ stopped.names_are) in
    let stays = drop k files in
    let rest = split.waiting ++ (stays ++ file ∷ []) in
    let whole : files ++ file ∷ [] ≡ split.gone ++ split.unknown ∷ rest =
    parted_files k files file ∙ ap (λ (fs : List StoredFile). fs ++ (stays ++ file ∷ [])) split.files_are ∙ append_assoc split.gone (split.unknown ∷ split.waiting) (stays ++ file ∷ []) in
    let gone = all_go d more split.gone (split.unknown ∷ rest) (subst (HasFiles d more) whole start) in
    let held = stopped.others.0 in
    let same : map.remove held (trace_name d split.unknown.number) ≡ map.remove (without more (names_in d split.gone)) (trace_name d split.unknown.number) =
    subst (λ (n : List ℕ). map.remove held n ≡ map.remove (without more (names_in d split.gone)) n) (sym split.name_is)
    (subst (λ (ns : List (List ℕ)). map.remove held stopped.unknown ≡ map.remove (without more ns) stopped.unknown) (sym split.first_is) stopped.others.2) in (
      held,
      stopped.others.1,
      record {
        gone = split.gone;
        unknown = split.unknown;
        waiting = split.waiting;
        stays = stays;
        newest = file;
        before_is = sym (take-append-drop k files) ∙ ap (λ (fs : List StoredFile). fs ++ stays) split.files_are ∙ append_assoc split.gone (split.unknown ∷ split.waiting) stays;
        after_is = at.begun ∙ ap (λ (fs : List StoredFile). fs ++ file ∷ []) (kept_going (closed_limit trace) d files);
        holds = stays_unknown d (without more (names_in d split.gone)) held split.unknown rest gone same;
      },
    )

pub stops_new : (end : TraceEnd) (frames : List (List ℕ)) (x : List ℕ) (piece : List (List ℕ)) (later : List (List (List ℕ))) (trace : Trace) (told now : Option Files) → pieces_of trace frames ≡ (x ∷ piece) ∷ later →
    IsSound trace → trace.last < number_limit → room_of trace < length x → length x + size_of piece ≤ trace.file_size →
    Begins told now (Err end) (next_name trace) (concat (x ∷ piece)) (names_of (take (going_of trace) trace.state.files)) → Stops end frames trace (ended_with end frames trace) told now
stops_new end frames x piece later trace told now cut sound few over room does =
    let failed = failed_new end told now (next_name trace) (concat (x ∷ piece)) (names_of (take (going_of trace) trace.state.files)) does in
    stops_first end frames (x ∷ piece) later trace told now cut
    (λ stood done after. let at = begun_at trace stood done x piece after sound over room in unspent_number end (trace.last + 1) (number_after trace stood (done ++ x ∷ piece)) at.number (omega arith) failed.0)
    (λ stood done after. in_folder stood done told failed.1 failed.0 after (begun_at trace stood done x piece after sound over room)) where
      in_folder : (stood : List StoredFile) (done : List (List ℕ)) (told : Option Files) →
          IfSome told (λ (folder : Files). HasFront folder now (next_name trace) (concat (x ∷ piece)) ⊎ StopsRemoving (with_more folder (next_name trace) (concat (x ∷ piece))) now (names_of (take (going_of trace) trace.state.files))) →
          end ≢ Spent → IsAfter stood done trace → IsBegun trace stood done (x ∷ piece) → Stands end trace (x ∷ piece) told now stood done
      in_folder stood done None stopped other after at = tt
      in_folder stood done (Some folder) (inl front) other after at = λ has.
          let number = number_after trace stood (done ++ x ∷ piece) in
          let named : next_name trace ≡ trace_name trace.directory number = ap (trace_name trace.directory) (sym at.number) in
          let left = front_left trace.directory folder now (next_name trace) number (concat (x ∷ piece)) (files_after trace stood done) front named has in
          (left.0, left.1, leaves_front end trace.directory (files_after trace stood done) (files_after trace stood (done ++ x ∷ piece)) number (concat (x ∷ piece)) left.0 other (inl left.2))
      in_folder stood done (Some folder) (inr stopped) other after at = λ has.
          let number = number_after trace stood (done ++ x ∷ piece) in
          let left = unremoved trace stood done (x ∷ piece) folder now few after at has stopped in
          (left.0, left.1, leaves_front end trace.directory (files_after trace stood done) (files_after trace stood (done ++ x ∷ piece)) number (concat (x ∷ piece)) left.0 other (inr left.2))
