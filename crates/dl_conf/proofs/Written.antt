-- What is written of stored levels is read again.
use Rattle.std.proofs.Common.{◌≡◌, ℕ, ◌+◌, ◌-◌, ◌*◌, ◌<◌, ◌≤◌, Bool, true, false, ltb, leb, eqb, not, cond, ◌&&◌, List, [], ◌∷◌, ◌++◌, length, length-append, append_assoc, map, count_by, Option, Some, None, Ok, refl, ap, ◌∙◌, inl, inr, arith}
use Rattle.std.specs.List.{list_all, list_any, filter_map, flat_map}
use Rattle.std.specs.Str.{bytes_eq}
use Rattle.std.proofs.lemmas.Bool.{cases_Bool, lt-ltb, le-leb, eqb-true, ne_eqb, le-ltb, leb-true}
use Rattle.std.proofs.lemmas.Grind.{common_steps}
use Rattle.std.proofs.lemmas.List.Sums.{sum_by-append}
use Rattle.std.proofs.lemmas.List.Folds.{list_all-append}
use Rattle.bstr.specs.Text as bstr
use Rattle.bstr.proofs.lemmas.LineLemmas.{lines-nil}
use Rattle.dl_lemmas.proofs.Bools.{both}
use Rattle.dl_bytes.specs.Id.{zero_id}
use Rattle.dl_bytes.specs.declared.conf.StoredLevel.{StoredLevel}
use Rattle.dl_text.specs.Faults.{size_limit, first_fault, first_fault_behind}
use Rattle.dl_text.specs.IdText.{id_text}
use Rattle.dl_bytes.specs.Number.{◌>>=◌}
use Rattle.dl_text.specs.Lines.{lines_of, parted_at}
use Rattle.dl_text.proofs.IdTexts.{IsReadable, readable, is_plain}
use Rattle.dl_text.proofs.LineEnds.{first_line, is_inside}
use Rattle.dl_text.proofs.LineParts.{parted}
use Rattle.dl_conf.specs.Stored.{level_end, own_line, stored_text, line_said, level_digit, level_said, default_in, own_in, is_own, fault_in, held, same_ids, levels_said, stored_said, is_id, is_storable, are_different}
use Rattle.dl_conf.specs.Conf.{unless_fault}
use Rattle.dl_conf.specs.declared.entry.StoredLine.{StoredLine}
use Rattle.dl_conf.specs.declared.entry.StoredLine.TheVariants.{Default, Own}

-- ---- what is written, line by line, without the lines' ends

abbrev default_body : ℕ → List ℕ
default_body level = 58 ∷ 58 ∷ (48 + level) ∷ []

abbrev own_body : StoredLevel → List ℕ
own_body own = id_text own.apid ++ (58 ∷ (id_text own.ctid ++ (58 ∷ (48 + own.level) ∷ [])))

-- what an own level that can be stored gives
record Stands (own : StoredLevel) : Type 0 where
  apid : IsReadable own.apid
  ctid : IsReadable own.ctid
  level : own.level ≤ 6

parts : (a b c d e : Bool) → ((((a && b) && not c) && not d) && e) ≡ true → (a ≡ true) × (b ≡ true) × (c ≡ false) × (d ≡ false) × (e ≡ true)
parts a b c d e h = grind (arith, common_steps)

an_id : (id : List ℕ) → is_id id ≡ true → bytes_eq id zero_id ≡ false → IsReadable id
an_id id e other =
    let told = both (eqb (length id) 4) (list_all (λ b. ltb b 256) id) e in
    readable id (eqb-true (length id) 4 told.0) told.1 other

storable : (own : StoredLevel) → is_storable own ≡ true → Stands own
storable own e =
    let told = parts (is_id own.apid) (is_id own.ctid) (bytes_eq own.apid zero_id) (bytes_eq own.ctid zero_id) (leb own.level 6) e in
    record { apid = an_id own.apid told.0 told.2; ctid = an_id own.ctid told.1 told.3; level = leb-true own.level 6 told.4 }

-- ---- a line

plain_parts : (x : ℕ) (t : Bool) → (is_plain x && t) ≡ true → (not (eqb x 58) ≡ true) × (is_inside x ≡ true) × (t ≡ true)
plain_parts x t e = grind (arith, common_steps)

no_mark : (xs : List ℕ) → list_all is_plain xs ≡ true → list_all (λ b. not (eqb b 58)) xs ≡ true
no_mark [] e = refl
no_mark (x ∷ xs) e = let told = plain_parts x (list_all is_plain xs) e in rw (told.0, no_mark xs told.2) refl

all_inside : (xs : List ℕ) → list_all is_plain xs ≡ true → list_all is_inside xs ≡ true
all_inside [] e = refl
all_inside (x ∷ xs) e = let told = plain_parts x (list_all is_plain xs) e in rw (told.1, all_inside xs told.2) refl

digit_inside : (level : ℕ) → is_inside (48 + level) ≡ true
digit_inside level = lt-ltb 13 (48 + level) (omega arith)

digit_back : (level : ℕ) → level ≤ 6 → level_digit ((48 + level) ∷ []) ≡ Some level
digit_back level h =
    let low : 48 ≤ 48 + level = omega arith in
    let high : 48 + level ≤ 54 = omega arith in
    let back : 48 + level - 48 ≡ level = omega arith in
    rw (le-leb 48 (48 + level) low, le-leb (48 + level) 54 high) (ap (λ n. Some n) back)

-- what a line says that isn't empty
abbrev parsed : List ℕ → Option StoredLine
parsed text = parted_at 58 text >>= λ apid. parted_at 58 apid.1 >>= λ ctid. level_digit ctid.1 >>= λ level. level_said apid.0 ctid.0 level

some_said : (text : List ℕ) → 0 < length text → line_said text ≡ parsed text
unfolding line_said
some_said [] h = absurd (omega arith)
some_said (b ∷ text) h = refl

module _ (own : StoredLevel) (s : Stands own) where
  body_inside : list_all is_inside (own_body own) ≡ true
  body_inside =
      list_all-append is_inside (id_text own.apid) (58 ∷ (id_text own.ctid ++ (58 ∷ (48 + own.level) ∷ [])))
      ∙ rw (
        all_inside (id_text own.apid) s.apid.short.plain,
        list_all-append is_inside (id_text own.ctid) (58 ∷ (48 + own.level) ∷ []),
        all_inside (id_text own.ctid) s.ctid.short.plain,
        digit_inside own.level,
      ) refl

  ids_said : level_said (id_text own.apid) (id_text own.ctid) own.level ≡ Some (Own own)
  ids_said =
      let apid : eqb (length (id_text own.apid)) 0 ≡ false = ne_eqb _ 0 (λ is. let some = s.apid.short.some in omega arith) in
      let ctid : eqb (length (id_text own.ctid)) 0 ≡ false = ne_eqb _ 0 (λ is. let some = s.ctid.short.some in omega arith) in
      rw (apid, ctid) (rw (s.apid.back, s.ctid.back) refl)

  own_back : line_said (own_body own) ≡ Some (Own own)
  own_back =
      let some : 0 < length (own_body own) = omega (arith, length-append (id_text own.apid) (58 ∷ (id_text own.ctid ++ (58 ∷ (48 + own.level) ∷ [])))) in
      some_said (own_body own) some
      ∙ rw (
        parted 58 (id_text own.apid) (id_text own.ctid ++ (58 ∷ (48 + own.level) ∷ [])) (no_mark (id_text own.apid) s.apid.short.plain),
        parted 58 (id_text own.ctid) ((48 + own.level) ∷ []) (no_mark (id_text own.ctid) s.ctid.short.plain),
        digit_back own.level s.level,
      ) ids_said

default_back : (level : ℕ) → level ≤ 6 → line_said (default_body level) ≡ Some (Default level)
unfolding line_said
default_back level h = rw (digit_back level h) refl

-- ---- all lines

-- each can be stored
abbrev AllStand : List StoredLevel → Type 0
AllStand own = list_all is_storable own ≡ true

first_stands : (own : StoredLevel) (later : List StoredLevel) → AllStand (own ∷ later) → Stands own × AllStand later
first_stands own later all = let told = both (is_storable own) (list_all is_storable later) all in (storable own told.0, told.1)

ended : (own : StoredLevel) (rest : List ℕ) → own_line own ++ rest ≡ own_body own ++ 10 ∷ rest
ended own rest = simp append_assoc refl

own_lines : (own : List StoredLevel) → AllStand own → lines_of (flat_map own_line own) ≡ map own_body own
own_lines [] all = ap (map bstr.without_terminator) lines-nil
own_lines (own ∷ later) all =
    let told = first_stands own later all in
    ap lines_of (ended own (flat_map own_line later)) ∙ first_line (own_body own) (body_inside own told.0) (flat_map own_line later)
    ∙ ap (λ lines. own_body own ∷ lines) (own_lines later told.1)

all_lines : (level : ℕ) (own : List StoredLevel) → AllStand own → lines_of (stored_text level own) ≡ default_body level ∷ map own_body own
all_lines level own all =
    let inside : list_all is_inside (default_body level) ≡ true = rw (digit_inside level) refl in
    first_line (default_body level) inside (flat_map own_line own) ∙ ap (λ lines. default_body level ∷ lines) (own_lines own all)

-- ---- what they say

owns_said : (own : List StoredLevel) → AllStand own → filter_map own_in (map own_body own) ≡ own
owns_said [] all = refl
owns_said (own ∷ later) all = let told = first_stands own later all in rw (own_back own told.0) (ap (λ rest. own ∷ rest) (owns_said later told.1))

no_defaults : (own : List StoredLevel) → AllStand own → filter_map default_in (map own_body own) ≡ []
no_defaults [] all = refl
no_defaults (own ∷ later) all = let told = first_stands own later all in rw (own_back own told.0) (no_defaults later told.1)

count_push : (test : List ℕ → Bool) (before : List (List ℕ)) (line : List ℕ) → count_by test (before ++ line ∷ []) ≤ count_by test before + 1
count_push test before line =
    let both = sum_by-append (λ x. cond (test x) 1 0) before (line ∷ []) in
    elim (cases_Bool (test line)) [ inl holds ↦ rw both (rw holds (omega arith)) | inr fails ↦ rw both (rw fails (omega arith)) ]

no_faults : (own : List StoredLevel) (before : List (List ℕ)) → AllStand own → count_by is_own before + length own ≤ 1024
    → first_fault_behind fault_in before (map own_body own) ≡ None
no_faults [] before all room = refl
no_faults (own ∷ later) before all room =
    let told = first_stands own later all in
    let one_more : count_by is_own (before ++ own_body own ∷ []) ≤ count_by is_own before + 1 =
    count_push is_own before (own_body own) in
    rw (own_back own told.0, lt-ltb (count_by is_own before) 1024 (omega arith)) (no_faults later (before ++ own_body own ∷ []) told.1 (omega arith))

different_held : (own : List StoredLevel) → are_different own ≡ true → held own ≡ own
different_held [] e = refl
different_held (own ∷ later) e =
    let told = alone (list_any (same_ids own) later) (are_different later) e in rw told.0 (ap (λ rest. own ∷ rest) (different_held later told.1))
  where
    alone : (a b : Bool) → (not a && b) ≡ true → (a ≡ false) × (b ≡ true)
    alone a b h = grind (arith, common_steps)

-- ---- the size

line_size : (own : StoredLevel) → Stands own → length (own_line own) ≤ 28
line_size own s =
    let ctid = length-append (id_text own.ctid) (58 ∷ level_end own.level) in
    let apid = length-append (id_text own.apid) (58 ∷ (id_text own.ctid ++ (58 ∷ level_end own.level))) in
    let a = s.apid.short.most_is in
    let b = s.ctid.short.most_is in omega arith

lines_size : (own : List StoredLevel) → AllStand own → length (flat_map own_line own) ≤ 28 * length own
lines_size [] all = omega arith
lines_size (own ∷ later) all =
    let told = first_stands own later all in
    let first = line_size own told.0 in
    let rest = lines_size later told.1 in
    let whole = length-append (own_line own) (flat_map own_line later) in omega arith

-- ---- all together

told_by : (level : ℕ) (own : List StoredLevel) (lines : List (List ℕ)) → first_fault fault_in lines ≡ None → filter_map default_in lines ≡ level ∷ [] → filter_map own_in lines ≡ own
    → held own ≡ own → unless_fault (first_fault fault_in lines) (Ok (levels_said lines)) ≡ Ok (record { level = Some level; own = own })
told_by level own lines fault default owns stays = rw (fault, default, owns, stays) refl

pub read_again : (level : ℕ) (own : List StoredLevel) → level ≤ 6 → length own ≤ 1024 → list_all is_storable own ≡ true
    → are_different own ≡ true → stored_said (stored_text level own) ≡ Ok (record { level = Some level; own = own })
read_again level own small few all different =
    let lines = default_body level ∷ map own_body own in
    let room = lines_size own all in
    let size : length (stored_text level own) ≤ size_limit = omega arith in
    let default = default_back level small in
    let fault : first_fault fault_in lines ≡ None = rw default (no_faults own (default_body level ∷ []) all (rw default (omega arith))) in
    let defaults : filter_map default_in lines ≡ level ∷ [] = rw default (ap (λ rest. level ∷ rest) (no_defaults own all)) in
    let owns : filter_map own_in lines ≡ own = rw default (owns_said own all) in
    rw (le-ltb size_limit (length (stored_text level own)) size, all_lines level own all)
    (told_by level own lines fault defaults owns (different_held own different))
