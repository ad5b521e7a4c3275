-- Files that go: how many, and what a folder holds without them.
use Rattle.std.proofs.Common.{◌≡◌, ℕ, zero, suc, drop-cons, ◌+◌, ◌-◌, ◌≤◌, ◌<◌, List, [], ◌∷◌, ◌++◌, length, take, drop, get_or, Some, None, Option, refl, sym, ap, subst, ◌∙◌, inl, inr, arith}
use Rattle.std.specs.Prelude.{sum_by, slice_set, IfSome, Ok, Err}
use Rattle.std.proofs.lemmas.List.{take-append-drop, take_more}
use Rattle.std.specs.Option.{option_map_or}
use Rattle.std.proofs.lemmas.Option.{slice_get-get_or}
use Rattle.std.specs.FinMap as map
use Rattle.std.proofs.lemmas.Bool.Decides.{leb_tells}
use Rattle.std.proofs.lemmas.List.Sums.{sum_by-cons}
use Rattle.dl_bytes.specs.declared.outcome.TraceFile.{TraceFile}
use Rattle.dl_outside.specs.declared.folder.FolderFault.{FolderFault}
use Rattle.dl_outside.specs.declared.folder.FolderFault.TheVariants as fault
use Rattle.dl_outside.specs.Folder.{Files, Appends, Removes, AllBut, with_more}
use Rattle.dl_trace.specs.Pieces.{last_size}
use Rattle.dl_trace.specs.Steps.{bytes_in, going, names_of, without, end_of, RemovesAll, Extends, HasFront, grown_last, last_name}

-- ---- how many go

sum_drop : (k : ℕ) (files : List TraceFile) → sum_by bytes_in (drop k files) ≤ sum_by bytes_in files
sum_drop zero files = omega arith
sum_drop (suc k) [] = omega arith
sum_drop (suc k) (file ∷ files) = omega (arith, sum_drop k files, sum_by-cons bytes_in file files)

-- the first place from which on the files have room, where one file more has none
pub going_at : (limit : ℕ) (files : List TraceFile) (k : ℕ) → k ≤ length files → sum_by bytes_in (drop k files) ≤ limit →
    (0 < k → limit < sum_by bytes_in (drop (k - 1) files)) → k ≡ going limit files
going_at limit [] k within room above = omega arith
going_at limit (file ∷ files) zero within room above =
    elim (leb_tells (sum_by bytes_in (file ∷ files)) limit) as (λ _. 0 ≡ going limit (file ∷ files)) [
      | inl fits ↦ rw fits.0 refl
      | inr over ↦ absurd (omega (arith, over.1, room))
    ]
going_at limit (file ∷ files) (suc k) within room above =
    let here : limit < sum_by bytes_in (drop k (file ∷ files)) = subst (λ (n : ℕ). limit < sum_by bytes_in (drop n (file ∷ files))) (omega arith) (above (omega arith)) in
    let whole = sum_drop k (file ∷ files) in
    let more = going_at limit files k (omega arith) room (further k here) in
    elim (leb_tells (sum_by bytes_in (file ∷ files)) limit) as (λ _. suc k ≡ going limit (file ∷ files)) [
      | inl fits ↦ absurd (omega (arith, fits.1, here, whole))
      | inr over ↦ rw over.0 (ap suc more)
    ] where
      further : (k : ℕ) → limit < sum_by bytes_in (drop k (file ∷ files)) → 0 < k → limit < sum_by bytes_in (drop (k - 1) files)
      further zero h pos = absurd (omega arith)
      further (suc k) h pos = subst (λ (n : ℕ). limit < sum_by bytes_in (drop n files)) (omega arith) h

-- the bytes from a place on, by the file there
pub sum_at : (files : List TraceFile) (k : ℕ) (file : TraceFile) → k < length files → file ≡ get_or files k file → sum_by bytes_in (drop k files) ≡ file.bytes + sum_by bytes_in (drop (k + 1) files)
sum_at files k file within is =
    ap (sum_by bytes_in) (drop-cons files k file within ∙ ap (λ (f : TraceFile). f ∷ drop (suc k) files) (sym is)) ∙ sum_by-cons bytes_in file (drop (suc k) files)
    ∙ ap (λ (n : ℕ). file.bytes + sum_by bytes_in (drop n files)) {x = suc k} {y = k + 1} (omega arith)

-- ---- a folder without them

pub without-one : (folder : Files) (names : List (List ℕ)) (name : List ℕ) → without folder (names ++ name ∷ []) ≡ map.remove (without folder names) name
without-one folder [] name = refl
without-one folder (n ∷ names) name = without-one (map.remove folder n) names name

names_of-append : (xs ys : List TraceFile) → names_of (xs ++ ys) ≡ names_of xs ++ names_of ys
names_of-append [] ys = refl
names_of-append (x ∷ xs) ys = ap (λ (ns : List (List ℕ)). x.name ∷ ns) (names_of-append xs ys)

pub names_of-more : (files : List TraceFile) (k : ℕ) (file : TraceFile) → k < length files → file ≡ get_or files k file → names_of (take (k + 1) files) ≡ names_of (take k files) ++ file.name ∷ []
names_of-more files k file within is = ap names_of (take_more files k file within) ∙ names_of-append (take k files) (get_or files k file ∷ []) ∙ ap (λ (f : TraceFile). names_of (take k files) ++ f.name ∷ []) (sym is)

pub names_of-split : (files : List TraceFile) (k : ℕ) (file : TraceFile) → k < length files → file ≡ get_or files k file → names_of files ≡ names_of (take k files) ++ file.name ∷ names_of (drop (k + 1) files)
names_of-split files k file within is =
    ap names_of (sym (take-append-drop k files)) ∙ names_of-append (take k files) (drop k files)
    ∙ ap (λ (fs : List TraceFile). names_of (take k files) ++ names_of fs) (drop-cons files k file within)
    ∙ ap (λ (f : TraceFile). names_of (take k files) ++ f.name ∷ names_of (drop (suc k) files)) (sym is)
    ∙ ap (λ (n : ℕ). names_of (take k files) ++ file.name ∷ names_of (drop n files)) {x = suc k} {y = k + 1} (omega arith)

-- one file more is gone
pub removes_one : (told before now : Option Files) (names : List (List ℕ)) (name : List ℕ) → IfSome told (λ (folder : Files). before ≡ Some (without folder names)) → Removes before now (Ok tt) name →
    IfSome told (λ (folder : Files). now ≡ Some (without folder (names ++ name ∷ [])))
removes_one None before now names name so step = tt
removes_one (Some folder) before now names name so step = let here : now ≡ Some (map.remove (without folder names) name) = subst (λ (o : Option Files). Removes o now (Ok tt) name) so step in here ∙ ap Some (sym (without-one folder names name))

-- the removal stopped at one
all_but : (o now : Option Files) (name : List ℕ) (f : FolderFault) → Removes o now (Err f) name → AllBut name o now
all_but None now name f step = tt
all_but (Some folder) now name fault.Failed step = step
all_but (Some folder) now name fault.OutOfMemory step = (folder, step, refl)

pub stops_there : (told before now : Option Files) (gone : List (List ℕ)) (name : List ℕ) (waiting names : List (List ℕ)) (f : FolderFault) → names ≡ gone ++ name ∷ waiting →
    IfSome told (λ (folder : Files). before ≡ Some (without folder gone)) → Removes before now (Err f) name → RemovesAll told now (Err (end_of f)) names
stops_there None before now gone name waiting names fault.Failed split so step = tt
stops_there None before now gone name waiting names fault.OutOfMemory split so step = tt
stops_there (Some folder) before now gone name waiting names fault.Failed split so step =
    record { gone = gone; unknown = name; waiting = waiting; names_are = split; others = all_but (Some (without folder gone)) now name fault.Failed (subst (λ (o : Option Files). Removes o now (Err fault.Failed) name) so step) }
stops_there (Some folder) before now gone name waiting names fault.OutOfMemory split so step =
    record { gone = gone; unknown = name; waiting = waiting; names_are = split; others = all_but (Some (without folder gone)) now name fault.OutOfMemory (subst (λ (o : Option Files). Removes o now (Err fault.OutOfMemory) name) so step) }

-- ---- a file that grows

pub last_grown : (files : List TraceFile) (newest : TraceFile) (more : ℕ) → 0 < length files → newest ≡ get_or files (length files - 1) newest →
    slice_set files (length files - 1) (record { name = newest.name; bytes = newest.bytes + more }) ≡ grown_last more files
last_grown [] newest more some is = absurd (omega arith)
last_grown (file ∷ []) newest more some is = ap (λ (f : TraceFile). record { name = f.name; bytes = f.bytes + more } ∷ []) is
last_grown (file ∷ next ∷ files) newest more some is =
    let at : length (file ∷ next ∷ files) - 1 ≡ suc (length (next ∷ files) - 1) = omega arith in
    let later = last_grown (next ∷ files) newest more (omega arith) (is ∙ ap (λ (k : ℕ). get_or (file ∷ next ∷ files) k newest) at) in
    ap (λ (k : ℕ). slice_set (file ∷ next ∷ files) k (record { name = newest.name; bytes = newest.bytes + more })) at ∙ ap (λ (fs : List TraceFile). file ∷ fs) later

pub last_named : (files : List TraceFile) (newest : TraceFile) → 0 < length files → newest ≡ get_or files (length files - 1) newest → newest.name ≡ last_name files
last_named files newest some is =
    sym (ap (λ (o : Option TraceFile). option_map_or (λ (f : TraceFile). f.name) o []) (slice_get-get_or files (length files - 1) newest (omega arith))
    ∙ ap (λ (f : TraceFile). f.name) (sym is))

pub extends_by : (told now : Option Files) (name last piece : List ℕ) → name ≡ last → Appends told now (Ok tt) name piece → Extends told now (Ok tt) last piece
extends_by None now name last piece same step = tt
extends_by (Some folder) now name last piece same step = step ∙ ap (λ (n : List ℕ). Some (with_more folder n piece)) same

pub has_front : (told now : Option Files) (name last piece : List ℕ) (f : FolderFault) → name ≡ last → Appends told now (Err f) name piece → IfSome told (λ (folder : Files). HasFront folder now last piece)
has_front None now name last piece f same step = tt
has_front (Some folder) now name last piece fault.Failed same step = subst (λ (n : List ℕ). HasFront folder now n piece) same step
has_front (Some folder) now name last piece fault.OutOfMemory same step = inl step

pub extends_not : (told now : Option Files) (name last piece : List ℕ) (f : FolderFault) → name ≡ last → Appends told now (Err f) name piece → Extends told now (Err (end_of f)) last piece
extends_not told now name last piece fault.Failed same step = has_front told now name last piece fault.Failed same step
extends_not told now name last piece fault.OutOfMemory same step = has_front told now name last piece fault.OutOfMemory same step

-- ---- the same in a loop over files

pub removes_one_of : (told before now : Option Files) (files : List TraceFile) (k : ℕ) (file : TraceFile) (name : List ℕ) → k < length files → file ≡ get_or files k file → name ≡ file.name →
    IfSome told (λ (folder : Files). before ≡ Some (without folder (names_of (take k files)))) → Removes before now (Ok tt) name →
    IfSome told (λ (folder : Files). now ≡ Some (without folder (names_of (take (k + 1) files))))
removes_one_of told before now files k file name within is named so step =
    subst (λ (ns : List (List ℕ)). IfSome told (λ (folder : Files). now ≡ Some (without folder ns)))
    (ap (λ (n : List ℕ). names_of (take k files) ++ n ∷ []) named ∙ sym (names_of-more files k file within is))
    (removes_one told before now (names_of (take k files)) name so step)

pub stops_there_at : (told before now : Option Files) (files : List TraceFile) (k : ℕ) (file : TraceFile) (name : List ℕ) (f : FolderFault) → k < length files → file ≡ get_or files k file → name ≡ file.name →
    IfSome told (λ (folder : Files). before ≡ Some (without folder (names_of (take k files)))) → Removes before now (Err f) name →
    RemovesAll told now (Err (end_of f)) (names_of files)
stops_there_at told before now files k file name f within is named so step =
    stops_there told before now (names_of (take k files)) name (names_of (drop (k + 1) files)) (names_of files) f
    (names_of-split files k file within is ∙ ap (λ (n : List ℕ). names_of (take k files) ++ n ∷ names_of (drop (k + 1) files)) (sym named)) so step
