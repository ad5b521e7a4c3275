-- A trace that is made over files that stand.
use Rattle.std.proofs.Common.{◌≡◌, ℕ, ◌+◌, ◌≤◌, ◌<◌, false, List, [], ◌∷◌, ◌++◌, length, take, map, get_or, Option, Some, None, refl, sym, ap, subst, ◌∙◌, arith, inl, inr}
use Rattle.std.specs.Prelude.{◌⊎◌, IfSome, IsSomeAnd, All, replicate, option_map, fold, max, codes}
use Rattle.std.specs.FinMap as map
use Rattle.std.proofs.lemmas.List.{map-append, take_more, length-replicate}
use Rattle.std.proofs.lemmas.List.Elements.{All-nil, All-cons}
use Rattle.dl_bytes.specs.declared.outcome.TraceFile.{TraceFile}
use Rattle.dl_outside.specs.Folder.{Files, names_with}
use Rattle.dl_outside.specs.Outside.{Stays}
use Rattle.dl_model.specs.TraceFiles.{StoredFile, is_spent, number_limit, six_digits, trace_files, trace_name}
use Rattle.dl_trace.specs.State.{Trace, IsAfter, listed}
use Rattle.dl_trace.specs.InFolder.{HasFiles, IsTraceName}
use Rattle.dl_bytes.specs.declared.conf.Conf.{Conf}
use Rattle.dl_trace.specs.Made.{HasBegun, IsMade}
use Rattle.dl_trace.specs.Storing.{IsStored}
use Rattle.dl_trace.specs.Found.{AreFound, Found, IsNoFile, IsSize}
use Rattle.dl_trace.proofs.Trail.{file_of}
use Rattle.dl_trace.proofs.Finding.{front_of, holds_found}

-- ---- what is told stays

pub stays_later : {A : Type 0} (told between now : Option A) → Stays told between → Stays between now → Stays told now
stays_later None between now first second = tt
stays_later {A} (Some x) between now first second = subst (λ (o : Option A). Stays o now) first second

pub size_before : (told now : Option Files) (name : List ℕ) (bytes : ℕ) → Stays told now → IsSize now name bytes → IsSize told name bytes
size_before None now name bytes stays is = tt
size_before (Some folder) now name bytes stays is = subst (λ (o : Option Files). IsSize o name bytes) stays is

pub none_before : (told now : Option Files) (front name : List ℕ) → Stays told now → IsNoFile now front name → IsNoFile told front name
none_before told now front name stays (inl not) = inl not
none_before None now front name stays (inr none) = inr tt
none_before (Some folder) now front name stays (inr none) = inr (subst (λ (o : Option Files). IfSome o (λ (folder : Files). map.get folder name ≡ None)) stays none)

-- ---- one name more

known_bytes : (told : Option Files) (name : List ℕ) (size : ℕ) → IsSize told name size → (bytes : List ℕ) × (length bytes ≡ size) × IfSome told (λ (folder : Files). map.get folder name ≡ Some bytes)
known_bytes None name size is = (replicate size 0, length-replicate size 0, tt)
known_bytes (Some folder) name size is =
    elim (map.get folder name) as (λ o. Some size ≡ option_map length o → (bytes : List ℕ) × (length bytes ≡ size) × (o ≡ Some bytes)) [
      | None ↦ λ e. absurd cc
      | Some bytes ↦ λ e. (bytes, cc, refl)
    ] is

found_one : (directory : List ℕ) (told : Option Files) (names : List (List ℕ)) (stood : List StoredFile) (name : List ℕ) (file : StoredFile) → Found directory told names stood → 1 ≤ file.number → file.number ≤ number_limit → name ≡ trace_name directory file.number →
    IfSome told (λ (folder : Files). map.get folder name ≡ Some file.bytes) → Found directory told (names ++ name ∷ []) (stood ++ file ∷ [])
found_one directory told [] stood name file found least most named bytes = inl (file, [], ap (λ (fs : List StoredFile). fs ++ file ∷ []) found, least, most, named, bytes, refl)
found_one directory told (x ∷ names) stood name file (inl h) least most named bytes =
    inl (h.0, h.1 ++ file ∷ [], ap (λ (fs : List StoredFile). fs ++ file ∷ []) h.2, h.3, h.4, h.5, h.6, found_one directory told names h.1 name file h.7 least most named bytes)
found_one directory told (x ∷ names) stood name file (inr h) least most named bytes = inr (h.0, found_one directory told names stood name file h.1 least most named bytes)

found_none : (directory : List ℕ) (told : Option Files) (names : List (List ℕ)) (stood : List StoredFile) (name : List ℕ) → Found directory told names stood → (¬ (IsTraceName directory name)) ⊎ IfSome told (λ (folder : Files). map.get folder name ≡ None) →
    Found directory told (names ++ name ∷ []) stood
found_none directory told [] stood name found why = inr (why, found)
found_none directory told (x ∷ names) stood name (inl h) why = inl (h.0, h.1, h.2, h.3, h.4, h.5, h.6, found_none directory told names h.1 name h.7 why)
found_none directory told (x ∷ names) stood name (inr h) why = inr (h.0, found_none directory told names stood name h.1 why)

greatest_from : (most : ℕ) (files : List StoredFile) (file : StoredFile) → fold (λ (n : ℕ) (f : StoredFile). max n f.number) most (files ++ file ∷ []) ≡ max (fold (λ (n : ℕ) (f : StoredFile). max n f.number) most files) file.number
greatest_from most [] file = refl
greatest_from most (f ∷ files) file = greatest_from (max most f.number) files file

pub one_found : (directory : List ℕ) (told : Option Files) (names : List (List ℕ)) (files : List TraceFile) (last number size : ℕ) (name spelled : List ℕ) → AreFound directory told names files last → 1 ≤ number → number ≤ number_limit →
    name ≡ front_of directory ++ six_digits number ++ codes ".dlt" → spelled ≡ trace_name directory number → IsSize told name size →
    AreFound directory told (names ++ name ∷ []) (files ++ record { name = spelled; bytes = size } ∷ []) (max last number)
one_found directory told names files last number size name spelled are least most named written is =
    let bytes = known_bytes told name size is in
    let file = file_of number bytes.0 in
    record {
      stood = are.stood ++ file ∷ [];
      found = found_one directory told names are.stood name file are.found least most named bytes.2;
      files_are = ap (λ (fs : List TraceFile). fs ++ record { name = spelled; bytes = size } ∷ []) are.files_are
          ∙ ap (λ (n : List ℕ). map (listed directory) are.stood ++ record { name = n; bytes = size } ∷ []) written
          ∙ ap (λ (n : ℕ). map (listed directory) are.stood ++ record { name = trace_name directory number; bytes = n } ∷ []) (sym bytes.1)
          ∙ sym (map-append (listed directory) are.stood (file ∷ []));
      last_is = ap (λ (n : ℕ). max n number) are.last_is ∙ sym (greatest_from 0 are.stood file);
      within = omega (arith, are.within, most);
    }

pub none_found : (directory : List ℕ) (told : Option Files) (names : List (List ℕ)) (files : List TraceFile) (last : ℕ) (name : List ℕ) → AreFound directory told names files last → IsNoFile told (front_of directory) name → AreFound directory told (names ++ name ∷ []) files last
none_found directory told names files last name are why = record {
  stood = are.stood;
  found = found_none directory told names are.stood name are.found (reason why);
  files_are = are.files_are;
  last_is = are.last_is;
  within = are.within;
} where
  reason : IsNoFile told (front_of directory) name → (¬ (IsTraceName directory name)) ⊎ IfSome told (λ (folder : Files). map.get folder name ≡ None)
  reason (inl never) = inl (λ is. never is.0 is.1 is.2 is.3)
  reason (inr none) = inr none

-- in a loop over names
pub names_more : {A : Type 0} (names : List A) (k : ℕ) (name : A) → k < length names → name ≡ get_or names k name → take (k + 1) names ≡ take k names ++ name ∷ []
names_more {A} names k name within is = take_more names k name within ∙ ap (λ (n : A). take k names ++ n ∷ []) (sym is)

-- ---- the trace

pub found_named : (directory : List ℕ) (told : Option Files) (names : List (List ℕ)) (stood : List StoredFile) → Found directory told names stood → All (λ (file : TraceFile). IsTraceName directory file.name) (map (listed directory) stood)
found_named directory told [] stood found = subst (λ (fs : List StoredFile). All (λ (file : TraceFile). IsTraceName directory file.name) (map (listed directory) fs)) (sym found) (All-nil (λ (file : TraceFile). IsTraceName directory file.name))
found_named directory told (name ∷ names) stood (inl h) =
    subst (λ (fs : List StoredFile). All (λ (file : TraceFile). IsTraceName directory file.name) (map (listed directory) fs)) (sym h.2)
    (All-cons (λ (file : TraceFile). IsTraceName directory file.name) (listed directory h.0) (map (listed directory) h.1) (h.0.number, h.3, h.4, refl) (found_named directory told names h.1 h.7))
found_named directory told (name ∷ names) stood (inr h) = found_named directory told names stood h.1

pub after_nothing : (trace : Trace) (told : Option Files) (names : List (List ℕ)) → trace.begun ≡ false → (are : AreFound trace.directory told names trace.state.files trace.last) → IsAfter are.stood [] trace
after_nothing trace told names unbegun are = record { files = are.files_are; last = are.last_is ∙ omega arith; begun = unbegun }

pub holds_made : (directory : List ℕ) (told between : Option Files) (names : List (List ℕ)) (files : List TraceFile) (last : ℕ) → Stays told between → IfSome told (λ (folder : Files). names ≡ names_with (front_of directory) folder) →
    (are : AreFound directory between names files last) → IfSome told (λ (folder : Files). HasFiles directory folder are.stood)
holds_made directory None between names files last stays all are = tt
holds_made directory (Some folder) between names files last stays all are =
    holds_found directory folder are.stood (subst (λ (ns : List (List ℕ)). Found directory (Some folder) ns are.stood) all (subst (λ (o : Option Files). Found directory o names are.stood) stays are.found))

-- ---- a trace that begins with some frames

-- a trace that was made, and stored them
pub begun_with : (conf : Conf) (made kept : Trace) (stood : List StoredFile) (head : List (List ℕ)) (told told_now : Option Files) → IsMade conf made → IsAfter stood [] made
    → IsStored head made kept told told_now → HasBegun conf stood head kept
begun_with conf made kept stood head told told_now is after stored = record {
  directory = stored.same.directory ∙ is.directory;
  file_size = stored.same.file_size ∙ is.file_size;
  max_size = stored.same.max_size ∙ is.max_size;
  goes_on = stored.goes_on;
  after = stored.state stood [] after;
  unspent = λ some. ap (λ (n : ℕ). is_spent n stood head) stored.same.file_size ∙ stored.unspent stood [] after;
  none_missing = stored.unstored ∙ is.none_missing;
}

-- and what the folder holds then, where it told its files before
pub begun_files : (conf : Conf) (made kept : Trace) (stood : List StoredFile) (head : List (List ℕ)) (told told_now : Option Files) → IsMade conf made → IsAfter stood [] made
    → IsStored head made kept told told_now → IsSomeAnd told (λ files. HasFiles conf.directory files stood)
    → IsSomeAnd told_now (λ files. HasFiles conf.directory files (trace_files conf.file_size conf.max_size stood head))
begun_files conf made kept stood head None told_now is after stored holds = absurd holds
begun_files conf made kept stood head (Some folder) told_now is after stored holds =
    let left = stored.folder stood [] after (subst (λ (d : List ℕ). HasFiles d folder stood) (sym is.directory) holds) in
    subst (λ (o : Option Files). IsSomeAnd o (λ files. HasFiles conf.directory files (trace_files conf.file_size conf.max_size stood head))) (sym left.1)
    (subst (λ (d : List ℕ). HasFiles d left.0 (trace_files conf.file_size conf.max_size stood head)) is.directory
    (subst (λ (n : ℕ). HasFiles made.directory left.0 (trace_files n conf.max_size stood head)) is.file_size
    (subst (λ (n : ℕ). HasFiles made.directory left.0 (trace_files made.file_size n stood head)) is.max_size left.2)))
