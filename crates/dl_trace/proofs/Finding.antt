-- The trace files that a folder's names and sizes tell are just those that it holds.
use Rattle.std.proofs.Common.{◌≡◌, ◌≢◌, ℕ, suc, ◌+◌, ◌/◌, ◌%◌, ◌≤◌, ◌<◌, Bool, true, false, cond, eqb, T, List, [], ◌∷◌, ◌++◌, length, take, map, Option, Some, None, refl, sym, ap, subst, ◌∙◌, append_assoc, arith, inl, inr}
use Rattle.std.specs.Prelude.{◌⊎◌, ◌&&◌, codes, filter}
use Rattle.std.specs.List.{starts_with}
use Rattle.std.specs.Bool.{nat_eq}
use Rattle.std.specs.Ordering.{nat_cmp, is_eq, is_lt, ordering_then}
use Rattle.std.specs.Cmp.{nat_cmp_total, tied_itself, nat_cmp_is}
use Rattle.std.specs.Cmp.Lexicographic.{slice_cmp, nat_list_cmp_total, pointwise}
use Rattle.std.specs.declared.cmp.Ordering.{Ordering}
use Rattle.std.specs.declared.cmp.Ordering.TheVariants.{Less, Equal, Greater}
use Rattle.std.specs.FinMap as map
use Rattle.std.specs.FinMap.{slice_cmp-IsAntisymmetric, nat_cmp-IsAntisymmetric, entries_sorted, get-entries}
use Rattle.std.specs.FinMap.Entries.{find, is_sorted, below_all}
use Rattle.std.proofs.lemmas.List.{take_at}
use Rattle.std.proofs.lemmas.Bool.Decides.{eqb_tells, leb_tells}
use Rattle.std.proofs.lemmas.Slice.Eq.{bytes_eq-Decides}
use Rattle.dl_outside.specs.Folder.{Files, names_with}
use Rattle.dl_model.specs.TraceFiles.{StoredFile, number_limit, six_digits, trace_name}
use Rattle.dl_trace.specs.InFolder.{bytes_of, AreRising, HasFiles, IsTraceName}
use Rattle.dl_trace.specs.Found.{Found}
use Rattle.dl_trace.proofs.Names.{value, value_of_digits}
use Rattle.dl_trace.proofs.Holding.{name_same}

abbrev pub front_of : List ℕ → List ℕ
front_of directory = directory ++ codes "/dlt_offlinetrace."

-- ---- six digits in byte order are in the order of their numbers

less_number : (x y : ℕ) → nat_cmp x y ≡ Less → x < y
less_number x y is =
    elim (leb_tells (suc x) y) as (λ _. x < y) [
      | inl within ↦ omega (arith, within.1)
      | inr over ↦ elim (leb_tells (suc y) x) as (λ _. x < y) [
        | inl above ↦ (let greater : Greater ≡ nat_cmp x y = nat_cmp_is x y Greater (omega (arith, above.1)) in absurd cc)
        | inr below ↦ (let equal : Equal ≡ nat_cmp x y = nat_cmp_is x y Equal (omega (arith, over.1, below.1)) in absurd cc)
      ]
    ]

then_less : (x y : ℕ) (o : Ordering) → ordering_then (nat_cmp x y) o ≡ Less → (x < y) ⊎ ((x ≡ y) × (o ≡ Less))
then_less x y o h =
    elim (nat_cmp x y) as (λ r. nat_cmp x y ≡ r → ordering_then r o ≡ Less → (x < y) ⊎ ((x ≡ y) × (o ≡ Less))) [
      | Less ↦ λ is _. inl (less_number x y is)
      | Equal ↦ λ is rest. inr (nat_cmp-IsAntisymmetric x y is, rest)
      | Greater ↦ λ is rest. absurd cc
    ] refl h

digits_less : (a b c d e f a' b' c' d' e' f' : ℕ) (o : Ordering) → a < 10 → b < 10 → c < 10 → d < 10 → e < 10 → f < 10 → a' < 10 → b' < 10 → c' < 10 → d' < 10 → e' < 10 → f' < 10 → o ≡ Equal →
    ordering_then (nat_cmp (48 + a) (48 + a')) (ordering_then (nat_cmp (48 + b) (48 + b')) (ordering_then (nat_cmp (48 + c) (48 + c')) (ordering_then (nat_cmp (48 + d) (48 + d'))
    (ordering_then (nat_cmp (48 + e) (48 + e')) (ordering_then (nat_cmp (48 + f) (48 + f')) o))))) ≡ Less → value a b c d e f < value a' b' c' d' e' f'
digits_less a b c d e f a' b' c' d' e' f' o ha hb hc hd he hf ha' hb' hc' hd' he' hf' last h =
    let o6 = ordering_then (nat_cmp (48 + f) (48 + f')) o in
    let o5 = ordering_then (nat_cmp (48 + e) (48 + e')) o6 in
    let o4 = ordering_then (nat_cmp (48 + d) (48 + d')) o5 in
    let o3 = ordering_then (nat_cmp (48 + c) (48 + c')) o4 in
    let o2 = ordering_then (nat_cmp (48 + b) (48 + b')) o3 in
    elim (then_less (48 + a) (48 + a') o2 h) as (λ _. value a b c d e f < value a' b' c' d' e' f') [
      | inl l ↦ omega (arith, l)
      | inr r ↦ elim (then_less (48 + b) (48 + b') o3 r.1) as (λ _. value a b c d e f < value a' b' c' d' e' f') [
        | inl l ↦ omega (arith, l, r.0)
        | inr r2 ↦ elim (then_less (48 + c) (48 + c') o4 r2.1) as (λ _. value a b c d e f < value a' b' c' d' e' f') [
          | inl l ↦ omega (arith, l, r.0, r2.0)
          | inr r3 ↦ elim (then_less (48 + d) (48 + d') o5 r3.1) as (λ _. value a b c d e f < value a' b' c' d' e' f') [
            | inl l ↦ omega (arith, l, r.0, r2.0, r3.0)
            | inr r4 ↦ elim (then_less (48 + e) (48 + e') o6 r4.1) as (λ _. value a b c d e f < value a' b' c' d' e' f') [
              | inl l ↦ omega (arith, l, r.0, r2.0, r3.0, r4.0)
              | inr r5 ↦ elim (then_less (48 + f) (48 + f') o r5.1) as (λ _. value a b c d e f < value a' b' c' d' e' f') [
                | inl l ↦ omega (arith, l, r.0, r2.0, r3.0, r4.0, r5.0)
                | inr r6 ↦ absurd cc
              ]
            ]
          ]
        ]
      ]
    ]

same_front : (front xs ys : List ℕ) → slice_cmp nat_cmp (front ++ xs) (front ++ ys) ≡ slice_cmp nat_cmp xs ys
same_front [] xs ys = refl
same_front (c ∷ front) xs ys = ap (λ o. ordering_then o (slice_cmp nat_cmp (front ++ xs) (front ++ ys))) (tied_itself nat_cmp_total c) ∙ same_front front xs ys

digit : (n power : ℕ) → n / power % 10 < 10
digit n power = omega arith

pub number_less : (directory : List ℕ) (a b : ℕ) → a ≤ number_limit → b ≤ number_limit → slice_cmp nat_cmp (trace_name directory a) (trace_name directory b) ≡ Less → a < b
number_less directory a b ha hb h =
    let front = front_of directory in
    let end = codes ".dlt" in
    let six : slice_cmp nat_cmp (six_digits a ++ end) (six_digits b ++ end) ≡ Less =
    sym (same_front front (six_digits a ++ end) (six_digits b ++ end))
    ∙ ap (λ (xs : List ℕ). slice_cmp nat_cmp xs (front ++ (six_digits b ++ end))) (sym (append_assoc front (six_digits a) end))
    ∙ ap (λ (xs : List ℕ). slice_cmp nat_cmp ((front ++ six_digits a) ++ end) xs) (sym (append_assoc front (six_digits b) end)) ∙ h in
    let less = digits_less (a / 100000 % 10) (a / 10000 % 10) (a / 1000 % 10) (a / 100 % 10) (a / 10 % 10) (a / 1 % 10) (b / 100000 % 10) (b / 10000 % 10) (b / 1000 % 10) (b / 100 % 10) (b / 10 % 10) (b / 1 % 10) (slice_cmp nat_cmp end end)
    (digit a 100000) (digit a 10000) (digit a 1000) (digit a 100) (digit a 10) (digit a 1) (digit b 100000) (digit b 10000) (digit b 1000) (digit b 100) (digit b 10) (digit b 1) refl six in
    omega (arith, less, value_of_digits a ha, value_of_digits b hb)

-- ---- names in order

abbrev name_cmp : List ℕ → List ℕ → Ordering
name_cmp = slice_cmp nat_cmp

abbrev pub AreAbove : List ℕ → List (List ℕ) → Type 0
AreAbove x [] = Unit {0}
AreAbove x (y ∷ ys) = (name_cmp x y ≡ Less) × AreAbove x ys

abbrev pub AreAscending : List (List ℕ) → Type 0
AreAscending [] = Unit {0}
AreAscending (x ∷ xs) = AreAbove x xs × AreAscending xs

abbrev keys_of : List (List ℕ × List ℕ) → List (List ℕ)
keys_of es = map (λ (e : List ℕ × List ℕ). e.0) es

is_less : (o : Ordering) → T (is_lt o) → o ≡ Less
is_less Less h = refl
is_less Equal h = absurd h
is_less Greater h = absurd h

both : (a b : Bool) → T (a && b) → T a × T b
both true b h = (tt, h)
both false b h = absurd h

above_kept : (p : List ℕ → Bool) (x : List ℕ) (es : List (List ℕ × List ℕ)) → T (below_all name_cmp x es) → AreAbove x (filter p (keys_of es))
above_kept p x [] h = tt
above_kept p x (e ∷ es) h =
    let parts = both (is_lt (name_cmp x e.0)) (below_all name_cmp x es) h in
    elim (p e.0) as (λ b. AreAbove x (cond b (e.0 ∷ filter p (keys_of es)) (filter p (keys_of es)))) [
      | true ↦ (is_less (name_cmp x e.0) parts.0, above_kept p x es parts.1)
      | false ↦ above_kept p x es parts.1
    ]

ascending_kept : (p : List ℕ → Bool) (es : List (List ℕ × List ℕ)) → T (is_sorted name_cmp es) → AreAscending (filter p (keys_of es))
ascending_kept p [] h = tt
ascending_kept p (e ∷ es) h =
    let parts = both (below_all name_cmp e.0 es) (is_sorted name_cmp es) h in
    elim (p e.0) as (λ b. AreAscending (cond b (e.0 ∷ filter p (keys_of es)) (filter p (keys_of es)))) [
      | true ↦ (above_kept p e.0 es parts.0, ascending_kept p es parts.1)
      | false ↦ ascending_kept p es parts.1
    ]

pub ascending : (prefix : List ℕ) (folder : Files) → AreAscending (names_with prefix folder)
ascending prefix folder = ascending_kept (λ (name : List ℕ). starts_with nat_eq name prefix) (map.entries folder) (entries_sorted folder)

-- ---- the numbers rise

rising_from : (directory : List ℕ) (told : Option Files) (low : ℕ) (names : List (List ℕ)) (stood : List StoredFile) → low ≤ number_limit → Found directory told names stood → AreAscending names → AreAbove (trace_name directory low) names → AreRising low stood
rising_from directory told low [] stood small found order above = subst (AreRising low) (sym found) tt
rising_from directory told low (name ∷ names) stood small (inl file) order above =
    let named = subst (λ (n : List ℕ). name_cmp (trace_name directory low) n ≡ Less) file.5 above.0 in
    subst (AreRising low) (sym file.2) (
      number_less directory low file.0.number small file.4 named,
      file.4,
      rising_from directory told file.0.number names file.1 file.4 file.7 order.1 (subst (λ (n : List ℕ). AreAbove n names) file.5 order.0),
    )
rising_from directory told low (name ∷ names) stood small (inr skipped) order above = rising_from directory told low names stood small skipped.1 order.1 above.1

pub rising : (directory : List ℕ) (told : Option Files) (names : List (List ℕ)) (stood : List StoredFile) → Found directory told names stood → AreAscending names → AreRising 0 stood
rising directory told [] stood found order = subst (AreRising 0) (sym found) tt
rising directory told (name ∷ names) stood (inl file) order =
    subst (AreRising 0) (sym file.2)
    (omega (arith, file.3), file.4, rising_from directory told file.0.number names file.1 file.4 file.7 order.1 (subst (λ (n : List ℕ). AreAbove n names) file.5 order.0))
rising directory told (name ∷ names) stood (inr skipped) order = rising directory told names stood skipped.1 order.1

-- ---- each file is there

abbrev NotIn : List ℕ → List (List ℕ) → Type 0
NotIn name [] = Unit {0}
NotIn name (other ∷ names) = (other ≢ name) × NotIn name names

same_name : (x y : List ℕ) → (x ≡ y) ⊎ (x ≢ y)
same_name x y =
    elim (name_cmp x y) as (λ o. name_cmp x y ≡ o → (x ≡ y) ⊎ (x ≢ y)) [
      | Less ↦ λ is. inr (λ e. unequal x y e (λ same. absurd cc))
      | Equal ↦ λ is. inl (slice_cmp-IsAntisymmetric nat_cmp-IsAntisymmetric x y is)
      | Greater ↦ λ is. inr (λ e. unequal x y e (λ same. absurd cc))
    ] refl where
      unequal : (x y : List ℕ) → x ≡ y → (name_cmp x y ≡ Equal → ⊥) → ⊥
      unequal x y e never = never (subst (λ (z : List ℕ). name_cmp x z ≡ Equal) e (tied_itself nat_list_cmp_total x))

found_at : (directory : List ℕ) (folder : Files) (names : List (List ℕ)) (stood : List StoredFile) (n : ℕ) → 1 ≤ n → n ≤ number_limit → Found directory (Some folder) names stood →
    (map.get folder (trace_name directory n) ≡ bytes_of n stood) ⊎ ((bytes_of n stood ≡ None) × NotIn (trace_name directory n) names)
found_at directory folder [] stood n least most found = inr (ap (bytes_of n) found, tt)
found_at directory folder (name ∷ names) stood n least most (inl file) =
    let f = file.0 in
    let head : bytes_of n stood ≡ cond (eqb f.number n) (Some f.bytes) (bytes_of n file.1) = ap (bytes_of n) file.2 in
    elim (eqb_tells f.number n) as (λ _. (map.get folder (trace_name directory n) ≡ bytes_of n stood) ⊎ ((bytes_of n stood ≡ None) × NotIn (trace_name directory n) (name ∷ names))) [
      | inl same ↦ inl (ap (λ (k : ℕ). map.get folder (trace_name directory k)) (sym same.1) ∙ ap (map.get folder) (sym file.5) ∙ file.6 ∙ sym (head ∙ ap (λ b. cond b (Some f.bytes) (bytes_of n file.1)) same.0))
      | inr other ↦ behind file.1 (found_at directory folder names file.1 n least most file.7) (head ∙ ap (λ b. cond b (Some f.bytes) (bytes_of n file.1)) other.0) (λ e. other.1 (name_same directory f.number n file.4 most (sym file.5 ∙ e)))
    ] where
      behind : (rest : List StoredFile) → (map.get folder (trace_name directory n) ≡ bytes_of n rest) ⊎ ((bytes_of n rest ≡ None) × NotIn (trace_name directory n) names) → bytes_of n stood ≡ bytes_of n rest → name ≢ trace_name directory n →
          (map.get folder (trace_name directory n) ≡ bytes_of n stood) ⊎ ((bytes_of n stood ≡ None) × NotIn (trace_name directory n) (name ∷ names))
      behind rest (inl h) same far = inl (h ∙ sym same)
      behind rest (inr h) same far = inr (same ∙ h.0, (far, h.1))
found_at directory folder (name ∷ names) stood n least most (inr skipped) = by_rest (found_at directory folder names stood n least most skipped.1) skipped.0 where
  by_rest : (map.get folder (trace_name directory n) ≡ bytes_of n stood) ⊎ ((bytes_of n stood ≡ None) × NotIn (trace_name directory n) names) → (¬ (IsTraceName directory name)) ⊎ (map.get folder name ≡ None) →
      (map.get folder (trace_name directory n) ≡ bytes_of n stood) ⊎ ((bytes_of n stood ≡ None) × NotIn (trace_name directory n) (name ∷ names))
  by_rest (inl h) why = inl h
  by_rest (inr h) (inl not) = inr (h.0, ((λ e. not (n, least, most, e)), h.1))
  by_rest (inr h) (inr none) = elim (same_name name (trace_name directory n)) as (λ _. (map.get folder (trace_name directory n) ≡ bytes_of n stood) ⊎ ((bytes_of n stood ≡ None) × NotIn (trace_name directory n) (name ∷ names))) [
    | inl same ↦ inl (ap (map.get folder) (sym same) ∙ none ∙ sym h.0)
    | inr far ↦ inr (h.0, (far, h.1))
  ]

-- a name that is not among the keys with its prefix has no file
no_entry : (p : List ℕ → Bool) (name : List ℕ) (es : List (List ℕ × List ℕ)) → p name ≡ true → NotIn name (filter p (keys_of es)) → find name_cmp name es ≡ None
no_entry p name [] passes out = refl
no_entry p name (e ∷ es) passes out =
    elim (name_cmp name e.0) as (λ o. name_cmp name e.0 ≡ o → cond (is_eq o) (Some e.1) (find name_cmp name es) ≡ None) [
      | Less ↦ λ is. no_entry p name es passes (tail (p e.0) out)
      | Equal ↦ λ is. (let same : name ≡ e.0 = slice_cmp-IsAntisymmetric nat_cmp-IsAntisymmetric name e.0 is in
          let there : p e.0 ≡ true = ap p (sym same) ∙ passes in
          let kept = subst (λ (b : Bool). NotIn name (cond b (e.0 ∷ filter p (keys_of es)) (filter p (keys_of es)))) there out in absurd (kept.0 (sym same)))
      | Greater ↦ λ is. no_entry p name es passes (tail (p e.0) out)
    ] refl where
      tail : (b : Bool) → NotIn name (cond b (e.0 ∷ filter p (keys_of es)) (filter p (keys_of es))) → NotIn name (filter p (keys_of es))
      tail true h = h.1
      tail false h = h

has_front : (directory : List ℕ) (n : ℕ) → starts_with nat_eq (trace_name directory n) (front_of directory) ≡ true
has_front directory n =
    let front = front_of directory in
    let behind = six_digits n ++ codes ".dlt" in
    let same : take (length front) (trace_name directory n) ≡ front = ap (take (length front)) (append_assoc front (six_digits n) (codes ".dlt")) ∙ take_at front behind (length front) refl in
    ap (pointwise nat_eq front) same ∙ (bytes_eq-Decides front front).1 refl

pub holds_found : (directory : List ℕ) (folder : Files) (stood : List StoredFile) → Found directory (Some folder) (names_with (front_of directory) folder) stood → HasFiles directory folder stood
holds_found directory folder stood found = record {
  rising = rising directory (Some folder) (names_with (front_of directory) folder) stood found (ascending (front_of directory) folder);
  each = λ n least most. elim (found_at directory folder (names_with (front_of directory) folder) stood n least most found) as (λ _. map.get folder (trace_name directory n) ≡ bytes_of n stood) [
    | inl there ↦ there
    | inr none ↦ get-entries folder (trace_name directory n)
        ∙ no_entry (λ (name : List ℕ). starts_with nat_eq name (front_of directory)) (trace_name directory n) (map.entries folder) (has_front directory n) none.1 ∙ sym none.0
  ];
}
