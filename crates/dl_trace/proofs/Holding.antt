-- What a folder holds after a file grew, was begun, or went.
use Rattle.std.proofs.Common.{◌≡◌, ◌≢◌, ℕ, ◌+◌, ◌/◌, ◌%◌, ◌≤◌, ◌<◌, true, false, cond, eqb, List, [], ◌∷◌, ◌++◌, length, drop, get_or, Some, None, refl, sym, ap, subst, ◌∙◌, append_assoc, unwrap_or, arith, inl, inr}
use Rattle.std.specs.Prelude.{codes}
use Rattle.std.specs.Ordering.{nat_cmp, eq_by_cmp, is_eq}
use Rattle.std.specs.Cmp.{eq_by_cmp_equiv}
use Rattle.std.specs.Cmp.Lexicographic.{slice_cmp, nat_list_cmp_total}
use Rattle.std.specs.declared.cmp.Ordering.{Ordering}
use Rattle.std.specs.declared.cmp.Ordering.TheVariants.{Less, Equal, Greater}
use Rattle.std.specs.FinMap as map
use Rattle.std.specs.FinMap.{slice_cmp-IsAntisymmetric, nat_cmp-IsAntisymmetric, get-insert, get-remove}
use Rattle.std.proofs.lemmas.List.{drop_at}
use Rattle.std.proofs.lemmas.Bool.Decides.{eqb_tells}
use Rattle.std.proofs.lemmas.Bool.{eq-eqb}
use Rattle.dl_outside.specs.Folder.{Files, with_more}
use Rattle.dl_model.specs.TraceFiles.{StoredFile, number_limit, six_digits, trace_name}
use Rattle.dl_trace.specs.InFolder.{bytes_of, AreRising, HasFiles, HasFilesBut}
use Rattle.dl_trace.specs.Steps.{without}
use Rattle.dl_trace.proofs.Names.{value_of_digits}
use Rattle.dl_trace.proofs.Trail.{file_of}

-- ---- a folder at a name

abbrev name_cmp : List ℕ → List ℕ → Ordering
name_cmp = slice_cmp nat_cmp

tied : (x : List ℕ) → eq_by_cmp name_cmp x x ≡ true
tied x = (eq_by_cmp_equiv nat_list_cmp_total).refl x

not_tied : (x y : List ℕ) → x ≢ y → eq_by_cmp name_cmp x y ≡ false
not_tied x y other =
    elim (name_cmp x y) as (λ o. name_cmp x y ≡ o → is_eq o ≡ false) [
      | Less ↦ λ _. refl
      | Equal ↦ λ e. absurd (other (slice_cmp-IsAntisymmetric nat_cmp-IsAntisymmetric x y e))
      | Greater ↦ λ _. refl
    ] refl

pub put_same : (folder : Files) (name bytes : List ℕ) → map.get (map.insert folder name bytes) name ≡ Some bytes
put_same folder name bytes = get-insert nat_list_cmp_total folder name bytes name ∙ ap (λ b. cond b (Some bytes) (map.get folder name)) (tied name)

pub put_other : (folder : Files) (name bytes other : List ℕ) → other ≢ name → map.get (map.insert folder name bytes) other ≡ map.get folder other
put_other folder name bytes other apart = get-insert nat_list_cmp_total folder name bytes other ∙ ap (λ b. cond b (Some bytes) (map.get folder other)) (not_tied other name apart)

pub gone_same : (folder : Files) (name : List ℕ) → map.get (map.remove folder name) name ≡ None
gone_same folder name = get-remove nat_list_cmp_total folder name name ∙ ap (λ b. cond b None (map.get folder name)) (tied name)

pub gone_other : (folder : Files) (name other : List ℕ) → other ≢ name → map.get (map.remove folder name) other ≡ map.get folder other
gone_other folder name other apart = get-remove nat_list_cmp_total folder name other ∙ ap (λ b. cond b None (map.get folder other)) (not_tied other name apart)

-- ---- no two numbers have one name

six_same : (a b : ℕ) (end : List ℕ) → a ≤ number_limit → b ≤ number_limit → six_digits a ++ end ≡ six_digits b ++ end → a ≡ b
six_same a b end ha hb e =
    let d0 : 48 + a / 100000 % 10 ≡ 48 + b / 100000 % 10 = ap (λ (xs : List ℕ). get_or xs 0 0) e in
    let d1 : 48 + a / 10000 % 10 ≡ 48 + b / 10000 % 10 = ap (λ (xs : List ℕ). get_or xs 1 0) e in
    let d2 : 48 + a / 1000 % 10 ≡ 48 + b / 1000 % 10 = ap (λ (xs : List ℕ). get_or xs 2 0) e in
    let d3 : 48 + a / 100 % 10 ≡ 48 + b / 100 % 10 = ap (λ (xs : List ℕ). get_or xs 3 0) e in
    let d4 : 48 + a / 10 % 10 ≡ 48 + b / 10 % 10 = ap (λ (xs : List ℕ). get_or xs 4 0) e in
    let d5 : 48 + a / 1 % 10 ≡ 48 + b / 1 % 10 = ap (λ (xs : List ℕ). get_or xs 5 0) e in
    let va = value_of_digits a ha in
    let vb = value_of_digits b hb in
    omega (arith, d0, d1, d2, d3, d4, d5, va, vb)

pub name_same : (directory : List ℕ) (a b : ℕ) → a ≤ number_limit → b ≤ number_limit → trace_name directory a ≡ trace_name directory b → a ≡ b
name_same directory a b ha hb e =
    let front = directory ++ codes "/dlt_offlinetrace." in
    let behind : six_digits a ++ codes ".dlt" ≡ six_digits b ++ codes ".dlt" =
    sym (drop_at front (six_digits a ++ codes ".dlt") (length front) refl)
    ∙ ap (drop (length front)) (sym (append_assoc front (six_digits a) (codes ".dlt")) ∙ e ∙ append_assoc front (six_digits b) (codes ".dlt"))
    ∙ drop_at front (six_digits b ++ codes ".dlt") (length front) refl in
    six_same a b (codes ".dlt") ha hb behind

names_apart : (directory : List ℕ) (a b : ℕ) → a ≤ number_limit → b ≤ number_limit → a ≢ b → trace_name directory a ≢ trace_name directory b
names_apart directory a b ha hb apart e = apart (name_same directory a b ha hb e)

-- ---- numbers

-- each number is below this one
abbrev pub AreBelow : ℕ → List StoredFile → Type 0
AreBelow n [] = Unit {0}
AreBelow n (file ∷ files) = (file.number < n) × AreBelow n files

pub below_more : (m n : ℕ) (files : List StoredFile) → m ≤ n → AreBelow m files → AreBelow n files
below_more m n [] h below = tt
below_more m n (file ∷ files) h below = (omega (arith, below.0, h), below_more m n files h below.1)

rising_least : (low least : ℕ) (files : List StoredFile) → low ≤ least → AreRising least files → AreRising low files
rising_least low least [] h rising = tt
rising_least low least (file ∷ files) h rising = (omega (arith, rising.0, h), rising.1, rising.2)

rising_one : (least n : ℕ) (bytes : List ℕ) (files : List StoredFile) → AreRising least files → AreBelow n files → least < n → n ≤ number_limit → AreRising least (files ++ file_of n bytes ∷ [])
rising_one least n bytes [] rising below h most = (h, most, tt)
rising_one least n bytes (file ∷ files) rising below h most = (rising.0, rising.1, rising_one file.number n bytes files rising.2 below.1 below.0 most)

rising_last : (least : ℕ) (files : List StoredFile) (newest : StoredFile) (bytes : List ℕ) → AreRising least (files ++ newest ∷ []) → AreRising least (files ++ file_of newest.number bytes ∷ [])
rising_last least [] newest bytes rising = rising
rising_last least (file ∷ files) newest bytes rising = (rising.0, rising.1, rising_last file.number files newest bytes rising.2)

-- the last is at least as great as each number that may be the least
last_above : (least : ℕ) (files : List StoredFile) (newest : StoredFile) → AreRising least (files ++ newest ∷ []) → least < newest.number
last_above least [] newest rising = rising.0
last_above least (file ∷ files) newest rising = omega (arith, rising.0, last_above file.number files newest rising.2)

pub below_last : (least : ℕ) (files : List StoredFile) (newest : StoredFile) → AreRising least (files ++ newest ∷ []) → AreBelow newest.number files
below_last least [] newest rising = tt
below_last least (file ∷ files) newest rising = (last_above file.number files newest rising.2, below_last file.number files newest rising.2)

pub last_within : (least : ℕ) (files : List StoredFile) (newest : StoredFile) → AreRising least (files ++ newest ∷ []) → (1 ≤ newest.number) × (newest.number ≤ number_limit)
last_within least [] newest rising = (omega (arith, rising.0), rising.1)
last_within least (file ∷ files) newest rising = last_within file.number files newest rising.2

-- ---- bytes by number

pub test_other : (a b : ℕ) → a ≢ b → eqb a b ≡ false
test_other a b h = elim (eqb_tells a b) as (λ _. eqb a b ≡ false) [ inl same ↦ absurd (h same.1) | inr other ↦ other.0 ]

above_none : (n : ℕ) (files : List StoredFile) → AreBelow n files → bytes_of n files ≡ None
above_none n [] below = refl
above_none n (file ∷ files) below = rw (test_other file.number n (λ e. absurd (omega (arith, below.0, e)))) (above_none n files below.1)

pub below_none : (n least : ℕ) (files : List StoredFile) → AreRising least files → n ≤ least → bytes_of n files ≡ None
below_none n least [] rising h = refl
below_none n least (file ∷ files) rising h = rw (test_other file.number n (λ e. absurd (omega (arith, rising.0, e, h)))) (below_none n file.number files rising.2 (omega (arith, rising.0, h)))

last_found : (n : ℕ) (bytes : List ℕ) (files : List StoredFile) → AreBelow n files → bytes_of n (files ++ file_of n bytes ∷ []) ≡ Some bytes
last_found n bytes [] below = rw (eq-eqb n n refl) refl
last_found n bytes (file ∷ files) below = rw (test_other file.number n (λ e. absurd (omega (arith, below.0, e)))) (last_found n bytes files below.1)

others_found : (n k : ℕ) (bytes : List ℕ) (files : List StoredFile) → n ≢ k → bytes_of k (files ++ file_of n bytes ∷ []) ≡ bytes_of k files
others_found n k bytes [] apart = rw (test_other n k apart) refl
others_found n k bytes (file ∷ files) apart = ap (λ o. cond (eqb file.number k) (Some file.bytes) o) (others_found n k bytes files apart)

-- ---- one call of the folder

pub grows : (directory : List ℕ) (folder : Files) (before : List StoredFile) (newest : StoredFile) (piece : List ℕ) → HasFiles directory folder (before ++ newest ∷ []) →
    HasFiles directory (with_more folder (trace_name directory newest.number) piece) (before ++ file_of newest.number (newest.bytes ++ piece) ∷ [])
grows directory folder before newest piece has =
    let n = newest.number in
    let within = last_within 0 before newest has.rising in
    let below = below_last 0 before newest has.rising in
    let name = trace_name directory n in
    let old : map.get folder name ≡ Some newest.bytes = has.each n within.0 within.1 ∙ last_found n newest.bytes before below in
    let bigger = unwrap_or (map.get folder name) [] ++ piece in
    record {
      rising = rising_last 0 before newest (newest.bytes ++ piece) has.rising;
      each = λ k least most.
          elim (eqb_tells n k) as (λ _. map.get (with_more folder name piece) (trace_name directory k) ≡ bytes_of k (before ++ file_of n (newest.bytes ++ piece) ∷ [])) [
            | inl same ↦ subst (λ (m : ℕ). map.get (with_more folder name piece) (trace_name directory m) ≡ bytes_of m (before ++ file_of n (newest.bytes ++ piece) ∷ [])) same.1
                (put_same folder name bigger ∙ ap (λ o. Some (unwrap_or o [] ++ piece)) old ∙ sym (last_found n (newest.bytes ++ piece) before below))
            | inr other ↦ put_other folder name bigger (trace_name directory k) (names_apart directory k n most within.1 (λ e. other.1 (sym e)))
                ∙ has.each k least most ∙ others_found n k newest.bytes before other.1 ∙ sym (others_found n k (newest.bytes ++ piece) before other.1)
          ];
    }

pub starts : (directory : List ℕ) (folder : Files) (stood : List StoredFile) (n : ℕ) (piece : List ℕ) → HasFiles directory folder stood → AreBelow n stood → 1 ≤ n → n ≤ number_limit →
    HasFiles directory (with_more folder (trace_name directory n) piece) (stood ++ file_of n piece ∷ [])
starts directory folder stood n piece has below least_n most_n =
    let name = trace_name directory n in
    let old : map.get folder name ≡ None = has.each n least_n most_n ∙ above_none n stood below in
    let bytes = unwrap_or (map.get folder name) [] ++ piece in
    record {
      rising = rising_one 0 n piece stood has.rising below (omega (arith, least_n)) most_n;
      each = λ k least most.
          elim (eqb_tells n k) as (λ _. map.get (with_more folder name piece) (trace_name directory k) ≡ bytes_of k (stood ++ file_of n piece ∷ [])) [
            | inl same ↦ subst (λ (m : ℕ). map.get (with_more folder name piece) (trace_name directory m) ≡ bytes_of m (stood ++ file_of n piece ∷ [])) same.1
                (put_same folder name bytes ∙ ap (λ o. Some (unwrap_or o [] ++ piece)) old ∙ sym (last_found n piece stood below))
            | inr other ↦ put_other folder name bytes (trace_name directory k) (names_apart directory k n most most_n (λ e. other.1 (sym e)))
                ∙ has.each k least most ∙ sym (others_found n k piece stood other.1)
          ];
    }

pub goes : (directory : List ℕ) (folder : Files) (oldest : StoredFile) (stood : List StoredFile) → HasFiles directory folder (oldest ∷ stood) → HasFiles directory (map.remove folder (trace_name directory oldest.number)) stood
goes directory folder oldest stood has =
    let n = oldest.number in
    let name = trace_name directory n in
    record {
      rising = rising_least 0 n stood (omega arith) has.rising.2;
      each = λ k least most.
          elim (eqb_tells n k) as (λ _. map.get (map.remove folder name) (trace_name directory k) ≡ bytes_of k stood) [
            | inl same ↦ subst (λ (m : ℕ). map.get (map.remove folder name) (trace_name directory m) ≡ bytes_of m stood) same.1 (gone_same folder name ∙ sym (below_none n n stood has.rising.2 (omega arith)))
            | inr other ↦ gone_other folder name (trace_name directory k) (names_apart directory k n most has.rising.1 (λ e. other.1 (sym e)))
                ∙ has.each k least most ∙ ap (λ b. cond b (Some oldest.bytes) (bytes_of k stood)) (test_other n k other.1)
          ];
    }

-- the removal of one failed: of that one alone nothing is known
pub stays_unknown : (directory : List ℕ) (folder now : Files) (oldest : StoredFile) (stood : List StoredFile) → HasFiles directory folder (oldest ∷ stood) →
    map.remove now (trace_name directory oldest.number) ≡ map.remove folder (trace_name directory oldest.number) → HasFilesBut directory oldest.number now stood
stays_unknown directory folder now oldest stood has same =
    let n = oldest.number in
    let name = trace_name directory n in
    record {
      rising = rising_least 0 n stood (omega arith) has.rising.2;
      each = λ k least most apart.
          let far = names_apart directory k n most has.rising.1 apart in
          sym (gone_other now name (trace_name directory k) far) ∙ ap (λ (f : Files). map.get f (trace_name directory k)) same ∙ gone_other folder name (trace_name directory k) far
          ∙ has.each k least most ∙ ap (λ b. cond b (Some oldest.bytes) (bytes_of k stood)) (test_other n k (λ e. apart (sym e)));
    }

-- ---- files that go, the oldest first

abbrev pub names_in : List ℕ → List StoredFile → List (List ℕ)
names_in directory [] = []
names_in directory (file ∷ files) = trace_name directory file.number ∷ names_in directory files

pub all_go : (directory : List ℕ) (folder : Files) (gone stood : List StoredFile) → HasFiles directory folder (gone ++ stood) → HasFiles directory (without folder (names_in directory gone)) stood
all_go directory folder [] stood has = has
all_go directory folder (file ∷ gone) stood has = all_go directory (map.remove folder (trace_name directory file.number)) gone stood (goes directory folder file (gone ++ stood) has)

pub record IsSplit (directory : List ℕ) (files : List StoredFile) (first : List (List ℕ)) (name : List ℕ) : Type 0 where
  pub gone : List StoredFile
  pub unknown : StoredFile
  pub waiting : List StoredFile
  pub files_are : files ≡ gone ++ unknown ∷ waiting
  pub first_is : names_in directory gone ≡ first
  pub name_is : trace_name directory unknown.number ≡ name

pub split_at : (directory : List ℕ) (files : List StoredFile) (first : List (List ℕ)) (name : List ℕ) (others : List (List ℕ)) → names_in directory files ≡ first ++ name ∷ others → IsSplit directory files first name
split_at directory [] [] name others e = absurd cc
split_at directory [] (f ∷ first) name others e = absurd cc
split_at directory (file ∷ files) [] name others e = record { gone = []; unknown = file; waiting = files; files_are = refl; first_is = refl; name_is = cc }
split_at directory (file ∷ files) (f ∷ first) name others e =
    let later = split_at directory files first name others cc in
    let here : trace_name directory file.number ≡ f = cc in
    record { gone = file ∷ later.gone; unknown = later.unknown; waiting = later.waiting; files_are = ap (λ (fs : List StoredFile). file ∷ fs) later.files_are; first_is = ap (λ (ns : List (List ℕ)). trace_name directory file.number ∷ ns) later.first_is ∙ ap (λ (n : List ℕ). n ∷ first) here; name_is = later.name_is }
