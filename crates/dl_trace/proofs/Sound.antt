-- What a trace keeps to: names are text, and a piece more leaves it sound.
use Rattle.std.proofs.Common.{◌≡◌, ℕ, suc, ◌+◌, ◌-◌, ◌/◌, ◌%◌, ◌≤◌, ◌<◌, Bool, true, false, cond, List, [], ◌∷◌, ◌++◌, length, drop, refl, sym, ap, subst, ◌∙◌, arith, length-append}
use Rattle.std.specs.Prelude.{All, codes, ◌&&◌, slice_get}
use Rattle.std.specs.Option.{option_map_or}
use Rattle.std.specs.List.{list_all}
use Rattle.std.specs.Str.{IsAscii}
use Rattle.std.proofs.lemmas.Str.{IsAscii-append}
use Rattle.std.proofs.lemmas.Str.Ascii.{IsAscii-nil, IsAscii-cons}
use Rattle.std.proofs.lemmas.Bool.Decides.{nat_tests}
use Rattle.std.proofs.lemmas.List.Elements.{All-weaker, All-nil, All-cons, All-head, All-tail, All-push, All-drop}
use Rattle.dl_bytes.specs.Conf.{is_printable}
use Rattle.dl_bytes.specs.declared.outcome.TraceFile.{TraceFile}
use Rattle.dl_model.specs.TraceFiles.{number_limit, six_digits, trace_name}
use Rattle.dl_trace.specs.State.{Trace}
use Rattle.dl_trace.specs.InFolder.{IsTraceName}
use Rattle.dl_trace.specs.Pieces.{last_size, room_of}
use Rattle.dl_trace.specs.Steps.{grown_last, last_name, going_of, next_name, extended, with_file}
use Rattle.dl_trace.specs.Kept.{IsSound}

-- ---- names are text

printable_ascii : (letters : List ℕ) → list_all is_printable letters ≡ true → IsAscii letters
printable_ascii [] h = IsAscii-nil
printable_ascii (b ∷ letters) h = by_test (is_printable b) refl h (printable_ascii letters) where
  by_test : (t : Bool) → is_printable b ≡ t → (t && list_all is_printable letters) ≡ true → (list_all is_printable letters ≡ true → IsAscii letters) → IsAscii (b ∷ letters)
  by_test true is h rest = IsAscii-cons b letters (grind (arith, nat_tests)) (rest h)
  by_test false is h rest = absurd cc

digit_ascii : (n power : ℕ) (rest : List ℕ) → IsAscii rest → IsAscii ((48 + n / power % 10) ∷ rest)
digit_ascii n power rest h = IsAscii-cons (48 + n / power % 10) rest (omega arith) h

digits_ascii : (n : ℕ) → IsAscii (six_digits n)
digits_ascii n =
    let one : List ℕ = (48 + n / 1 % 10) ∷ [] in
    let two : List ℕ = (48 + n / 10 % 10) ∷ one in
    let three : List ℕ = (48 + n / 100 % 10) ∷ two in
    let four : List ℕ = (48 + n / 1000 % 10) ∷ three in
    let five : List ℕ = (48 + n / 10000 % 10) ∷ four in
    digit_ascii n 100000 five (digit_ascii n 10000 four (digit_ascii n 1000 three (digit_ascii n 100 two (digit_ascii n 10 one (digit_ascii n 1 [] IsAscii-nil)))))

pub front_ascii : (directory : List ℕ) → list_all is_printable directory ≡ true → IsAscii (directory ++ codes "/dlt_offlinetrace.")
front_ascii directory h = IsAscii-append directory (codes "/dlt_offlinetrace.") (printable_ascii directory h) (printable_ascii (codes "/dlt_offlinetrace.") refl)

pub name_ascii : (directory : List ℕ) (n : ℕ) → list_all is_printable directory ≡ true → IsAscii (trace_name directory n)
name_ascii directory n h =
    IsAscii-append ((directory ++ codes "/dlt_offlinetrace.") ++ six_digits n) (codes ".dlt")
    (IsAscii-append (directory ++ codes "/dlt_offlinetrace.") (six_digits n) (front_ascii directory h) (digits_ascii n)) (printable_ascii (codes ".dlt") refl)

pub names_ascii : (directory : List ℕ) (files : List TraceFile) → list_all is_printable directory ≡ true → All (λ (file : TraceFile). IsTraceName directory file.name) files → All (λ (file : TraceFile). IsAscii file.name) files
names_ascii directory files h named =
    All-weaker (λ (file : TraceFile). IsTraceName directory file.name) (λ (file : TraceFile). IsAscii file.name)
    (λ file is. subst IsAscii (sym is.3) (name_ascii directory is.0 h)) files named

-- ---- a file that grows

pub length-grown : (more : ℕ) (files : List TraceFile) → length (grown_last more files) ≡ length files
length-grown more [] = refl
length-grown more (file ∷ []) = refl
length-grown more (file ∷ next ∷ files) = ap suc (length-grown more (next ∷ files))

pub size-grown : (more : ℕ) (files : List TraceFile) → 0 < length files → last_size (grown_last more files) ≡ last_size files + more
size-grown more [] some = absurd (omega arith)
size-grown more (file ∷ []) some = refl
size-grown more (file ∷ next ∷ files) some =
    let len : length (file ∷ grown_last more (next ∷ files)) - 1 ≡ suc (length (grown_last more (next ∷ files)) - 1) = omega (arith, length-grown more (next ∷ files)) in
    let old : length (file ∷ next ∷ files) - 1 ≡ suc (length (next ∷ files) - 1) = omega arith in
    ap (λ (k : ℕ). option_map_or (λ (f : TraceFile). f.bytes) (slice_get (file ∷ grown_last more (next ∷ files)) k) 0) len
    ∙ size-grown more (next ∷ files) (omega arith)
    ∙ ap (λ (k : ℕ). option_map_or (λ (f : TraceFile). f.bytes) (slice_get (file ∷ next ∷ files) k) 0 + more) (sym old)

names-grown : (P : List ℕ → Type 0) (more : ℕ) (files : List TraceFile) → All (λ (file : TraceFile). P file.name) files → All (λ (file : TraceFile). P file.name) (grown_last more files)
names-grown P more [] all = all
names-grown P more (file ∷ []) all =
    All-cons (λ (file : TraceFile). P file.name) (record { name = file.name; bytes = file.bytes + more }) [] (All-head (λ (file : TraceFile). P file.name) file [] all) (All-nil (λ (file : TraceFile). P file.name))
names-grown P more (file ∷ next ∷ files) all =
    All-cons (λ (file : TraceFile). P file.name) file (grown_last more (next ∷ files)) (All-head (λ (file : TraceFile). P file.name) file (next ∷ files) all)
    (names-grown P more (next ∷ files) (All-tail (λ (file : TraceFile). P file.name) file (next ∷ files) all))

pub room_open : (trace : Trace) → trace.begun ≡ true → room_of trace ≡ trace.file_size - last_size trace.state.files
room_open trace begun = ap (λ (b : Bool). cond b (trace.file_size - last_size trace.state.files) 0) begun

sound_extended : (trace : Trace) (more : ℕ) → IsSound trace → trace.begun ≡ true → more ≤ room_of trace → IsSound (extended more trace)
sound_extended trace more sound begun room = record {
  letters = sound.letters;
  least = sound.least;
  most = sound.most;
  two_files = sound.two_files;
  last = sound.last;
  named = names-grown (IsTraceName trace.directory) more trace.state.files sound.named;
  some = λ _. omega (arith, length-grown more trace.state.files, sound.some begun);
  room = λ _. omega (arith, size-grown more trace.state.files (sound.some begun), sound.room begun, room, room_open trace begun);
}

pub last_size-one : (files : List TraceFile) (file : TraceFile) → last_size (files ++ file ∷ []) ≡ file.bytes
last_size-one [] file = refl
last_size-one (x ∷ []) file = refl
last_size-one (x ∷ y ∷ files) file =
    let at : length (x ∷ y ∷ files ++ file ∷ []) - 1 ≡ suc (length (y ∷ files ++ file ∷ []) - 1) = omega arith in
    ap (λ (k : ℕ). option_map_or (λ (f : TraceFile). f.bytes) (slice_get (x ∷ y ∷ files ++ file ∷ []) k) 0) at ∙ last_size-one (y ∷ files) file

sound_begun : (trace : Trace) (bytes : ℕ) → IsSound trace → trace.last < number_limit → bytes ≤ trace.file_size → IsSound (with_file bytes trace)
sound_begun trace bytes sound few size =
    let left = drop (going_of trace) trace.state.files in
    let file : TraceFile = record { name = next_name trace; bytes = bytes } in record {
      letters = sound.letters;
      least = sound.least;
      most = sound.most;
      two_files = sound.two_files;
      last = omega (arith, few);
      named = All-push (λ (file : TraceFile). IsTraceName trace.directory file.name) left file (All-drop (λ (file : TraceFile). IsTraceName trace.directory file.name) (going_of trace) trace.state.files sound.named) (trace.last + 1, omega arith, omega (arith, few), refl);
      some = λ _. omega (arith, length-append left (file ∷ []));
      room = λ _. omega (arith, last_size-one left file, size);
    }

-- ---- whatever the call answers

abbrev pub with_files : Trace → List TraceFile → Trace
with_files trace files = record trace { state = record { files = files; end = trace.state.end } }

pub sound_extend : (trace : Trace) (more : ℕ) (done : Bool) (files : List TraceFile) → files ≡ cond done (grown_last more trace.state.files) trace.state.files →
    IsSound trace → trace.begun ≡ true → more ≤ room_of trace → IsSound (with_files trace files)
sound_extend trace more true files is sound begun room = subst (λ (fs : List TraceFile). IsSound (with_files trace fs)) (sym is) (sound_extended trace more sound begun room)
sound_extend trace more false files is sound begun room = subst (λ (fs : List TraceFile). IsSound (with_files trace fs)) (sym is) sound

pub sound_begin : (trace : Trace) (name : List ℕ) (bytes : ℕ) (files : List TraceFile) → name ≡ next_name trace → files ≡ drop (going_of trace) trace.state.files ++ record { name = name; bytes = bytes } ∷ [] →
    IsSound trace → trace.last < number_limit → bytes ≤ trace.file_size → IsSound (record (with_files trace files) { last = trace.last + 1; begun = true })
sound_begin trace name bytes files named is sound few size =
    subst (λ (fs : List TraceFile). IsSound (record (with_files trace fs) { last = trace.last + 1; begun = true }))
    (sym (is ∙ ap (λ (n : List ℕ). drop (going_of trace) trace.state.files ++ record { name = n; bytes = bytes } ∷ []) named)) (sound_begun trace bytes sound few size)

pub sound_kept : (trace : Trace) (files more : List TraceFile) (done : Bool) → files ≡ cond done more trace.state.files → done ≡ false → IsSound trace → IsSound (with_files trace files)
sound_kept trace files more done is none sound = subst (λ (fs : List TraceFile). IsSound (with_files trace fs)) (sym (is ∙ ap (λ (b : Bool). cond b more trace.state.files) none)) sound

pub last_name-one : (files : List TraceFile) (file : TraceFile) → last_name (files ++ file ∷ []) ≡ file.name
last_name-one [] file = refl
last_name-one (x ∷ []) file = refl
last_name-one (x ∷ y ∷ files) file =
    let at : length (x ∷ y ∷ files ++ file ∷ []) - 1 ≡ suc (length (y ∷ files ++ file ∷ []) - 1) = omega arith in
    ap (λ (k : ℕ). option_map_or (λ (f : TraceFile). f.name) (slice_get (x ∷ y ∷ files ++ file ∷ []) k) []) at ∙ last_name-one (y ∷ files) file
