-- What a change of the entries and their bytes does to the files.
use Rattle.std.proofs.Common.{◌≡◌, ℕ, ◌+◌, ◌-◌, ◌≤◌, Bool, true, false, cond, T, List, [], ◌∷◌, ◌++◌, length, take, drop, Some, None, refl, sym, ap, subst, ◌∙◌, arith, append_assoc, length-drop, length-append, add_assoc, zero-add, add-zero, unwrap_or, ◌<◌, inl, inr}
use Rattle.std.specs.Prelude.{IsSome, sum_by, option_map, map, not, ◌&&◌, slice_set, suc, is_some}
use Rattle.std.specs.List.{insert, remove}
use Rattle.std.specs.Ordering.{nat_cmp, is_eq, is_lt, eq_by_cmp}
use Rattle.std.specs.Cmp.Lexicographic.{slice_cmp, nat_list_cmp_total}
use Rattle.std.specs.FinMap.Entries.{below_all, by_order, find, is_sorted, put, where_key}
use Rattle.std.specs.FinMap.{slice_cmp-IsAntisymmetric, nat_cmp-IsAntisymmetric}
use Rattle.std.specs.declared.cmp.Ordering.{Ordering}
use Rattle.std.specs.declared.cmp.Ordering.TheVariants.{Less, Equal, Greater}
use Rattle.std.proofs.lemmas.List.{length-take-le, take-take, take_all, drop-drop}
use Rattle.std.proofs.lemmas.Bool.{false≢true}
use Rattle.std.proofs.lemmas.List.Sums.{sum_by-cons}
use Rattle.std.proofs.Math.Seq.{take-add, take-append_seam, drop-append_seam}
use Rattle.dl_memory.specs.declared.shelf.Entry.{Entry}
use Rattle.dl_memory.specs.declared.shelf.Place.{Place}
use Rattle.dl_memory.specs.Shelf.{HasRoom, IsWithin, Stock, behind, bytes_at, held_by, files_in, place_of, size_of, total, with_entry}

abbrev pub name_cmp : List ℕ → List ℕ → Ordering
name_cmp = slice_cmp nat_cmp

-- ---- places are within the entries and their bytes

-- what holds of a place whatever the order of the names
by_cases : (P : Place → Type 0) (o : Ordering) (a b c : Place) → P a → P b → P c → P (by_order o a b c)
by_cases P Less a b c x y z = x
by_cases P Equal a b c x y z = y
by_cases P Greater a b c x y z = z

pub is_within : (name : List ℕ) (es : List Entry) → IsWithin (length es) (sum_by size_of es) (place_of name es)
is_within name [] = record { index = omega arith; start = omega arith; there = λ h. absurd (h refl) }
is_within name (e ∷ es) =
    let rest = is_within name es in
    let sum = sum_by-cons size_of e es in
    let one : unwrap_or (Some e.size) 0 ≡ e.size = refl in
    by_cases (IsWithin (length (e ∷ es)) (sum_by size_of (e ∷ es))) (name_cmp name e.name.bytes) _ _ _
    (record { index = omega arith; start = omega arith; there = λ h. absurd (h refl) })
    (record { index = omega arith; start = omega arith; there = λ _. omega arith })
    (record { index = omega (arith, rest.index); start = omega (arith, rest.start); there = λ h. let t = rest.there h in omega (arith, t) })

-- ---- the first entry, and the others

front : (n : ℕ) (bs y : List ℕ) → n ≤ length bs → take n (take n bs ++ y) ≡ take n bs
front n bs y h = ap (λ k. take k (take n bs ++ y)) (sym (length-take-le n bs h)) ∙ take-append_seam (take n bs) y

back : (n : ℕ) (bs y : List ℕ) → n ≤ length bs → drop n (take n bs ++ y) ≡ y
back n bs y h = ap (λ k. drop k (take n bs ++ y)) (sym (length-take-le n bs h)) ∙ drop-append_seam (take n bs) y

-- a change behind the first entry leaves that one as it was
goes_on : (e : Entry) (es : List Entry) (start : ℕ) (bs more : List ℕ) → e.size ≤ length bs →
    files_in (e ∷ es) (take (e.size + start) bs ++ more) ≡ (e.name.bytes, take e.size bs) ∷ files_in es (take start (drop e.size bs) ++ more)
goes_on e es start bs more h =
    let parts : take (e.size + start) bs ++ more ≡ take e.size bs ++ (take start (drop e.size bs) ++ more) =
    ap (λ t. t ++ more) (take-add e.size start bs) ∙ append_assoc (take e.size bs) (take start (drop e.size bs)) more in
    rw (parts, front e.size bs (take start (drop e.size bs) ++ more) h, back e.size bs (take start (drop e.size bs) ++ more) h) refl

-- a new first entry has the bytes that were put in front
begins : (x : Entry) (es : List Entry) (name v bs : List ℕ) → x.name.bytes ≡ name → x.size ≡ length v → files_in (x ∷ es) (v ++ bs) ≡ (name, v) ∷ files_in es bs
begins x es name v bs named sized = rw (named, sized, take-append_seam v bs, drop-append_seam v bs) refl

some_is_none : {X : Type 0} {x : X} {A : Type 0} → Some x ≡ None → A
some_is_none h = absurd cc

-- a new file
pub inserts : (x : Entry) (name v : List ℕ) → x.name.bytes ≡ name → x.size ≡ length v → (es : List Entry) (bs : List ℕ) → sum_by size_of es ≤ length bs → (place_of name es).size ≡ None →
    files_in (insert es (place_of name es).index x) (take (place_of name es).start bs ++ (v ++ drop (place_of name es).start bs)) ≡ put name_cmp name v (files_in es bs)
inserts x name v named sized [] bs fits = λ _. begins x [] name v bs named sized
inserts x name v named sized (e ∷ es) bs fits =
    let p = place_of name es in
    let A : Place = record { index = 0; start = 0; size = None } in
    let B : Place = record { index = 0; start = 0; size = Some e.size } in
    let f : List ℕ × List ℕ = (e.name.bytes, take e.size bs) in
    let rest = files_in es (drop e.size bs) in
    elim (name_cmp name e.name.bytes) as (λ o. let q = by_order o A B (behind e.size p) in
    q.size ≡ None → files_in (insert (e ∷ es) q.index x) (take q.start bs ++ (v ++ drop q.start bs))
    ≡ by_order o ((name, v) ∷ f ∷ rest) ((e.name.bytes, v) ∷ rest) (f ∷ put name_cmp name v rest)) [
      | Less ↦ λ _. begins x (e ∷ es) name v bs named sized
      | Equal ↦ λ h. some_is_none h
      | Greater ↦ λ none. goes_on e (insert es p.index x) p.start bs (v ++ drop (e.size + p.start) bs) (omega (arith, fits, sum_by-cons size_of e es))
          ∙ ap (λ d. f ∷ files_in (insert es p.index x) (take p.start (drop e.size bs) ++ (v ++ d))) (sym (drop-drop p.start e.size bs))
          ∙ ap (λ fs. f ∷ fs) (inserts x name v named sized es (drop e.size bs) (omega (arith, fits, sum_by-cons size_of e es, length-drop e.size bs)) none)
    ]

-- a file with other bytes
pub replaces : (x : Entry) (name v : List ℕ) → x.name.bytes ≡ name → x.size ≡ length v → (es : List Entry) (bs : List ℕ) (s : ℕ) → sum_by size_of es ≤ length bs → (place_of name es).size ≡ Some s →
    files_in (slice_set es (place_of name es).index x) (take (place_of name es).start bs ++ (v ++ drop ((place_of name es).start + s) bs)) ≡ put name_cmp name v (files_in es bs)
replaces x name v named sized [] bs s fits = λ some. some_is_none (sym some)
replaces x name v named sized (e ∷ es) bs s fits =
    let p = place_of name es in
    let A : Place = record { index = 0; start = 0; size = None } in
    let B : Place = record { index = 0; start = 0; size = Some e.size } in
    let f : List ℕ × List ℕ = (e.name.bytes, take e.size bs) in
    let rest = files_in es (drop e.size bs) in
    elim (name_cmp name e.name.bytes) as (λ o. name_cmp name e.name.bytes ≡ o → let q = by_order o A B (behind e.size p) in
    q.size ≡ Some s → files_in (slice_set (e ∷ es) q.index x) (take q.start bs ++ (v ++ drop (q.start + s) bs))
    ≡ by_order o ((name, v) ∷ f ∷ rest) ((e.name.bytes, v) ∷ rest) (f ∷ put name_cmp name v rest)) [
      | Less ↦ λ _ h. some_is_none (sym h)
      | Equal ↦ λ is h.
          let sized_so : e.size ≡ s = cc in
          let same : name ≡ e.name.bytes = slice_cmp-IsAntisymmetric nat_cmp-IsAntisymmetric name e.name.bytes is in
          begins x es name v (drop (0 + s) bs) named sized ∙ ap (λ n. (n, v) ∷ files_in es (drop (0 + s) bs)) same
          ∙ ap (λ k. (e.name.bytes, v) ∷ files_in es (drop k bs)) (zero-add s ∙ sym sized_so)
      | Greater ↦ λ _ h. goes_on e (slice_set es p.index x) p.start bs (v ++ drop ((e.size + p.start) + s) bs) (omega (arith, fits, sum_by-cons size_of e es))
          ∙ ap (λ d. f ∷ files_in (slice_set es p.index x) (take p.start (drop e.size bs) ++ (v ++ d))) (ap (λ k. drop k bs) (add_assoc e.size p.start s) ∙ sym (drop-drop (p.start + s) e.size bs))
          ∙ ap (λ fs. f ∷ fs) (replaces x name v named sized es (drop e.size bs) s (omega (arith, fits, sum_by-cons size_of e es, length-drop e.size bs)) h)
    ] refl

-- ---- names in order

and_first : (a b : Bool) → T (a && b) → T a
and_first true b h = tt
and_first false b h = absurd h

and_second : (a b : Bool) → T (a && b) → T b
and_second true b h = h
and_second false b h = absurd h

and_both : (a b : Bool) → T a → T b → T (a && b)
and_both true b g h = h
and_both false b g h = absurd g

is_less : (o : Ordering) → T (is_lt o) → o ≡ Less
is_less Less h = refl
is_less Equal h = absurd h
is_less Greater h = absurd h

less_is : (o : Ordering) → o ≡ Less → T (is_lt o)
less_is o h = subst (λ r. T (is_lt r)) (sym h) tt

-- a name that is below another one, or is that one, is below all that are above it
below_less : (name other : List ℕ) (fs : List (List ℕ × List ℕ)) → name_cmp name other ≡ Less → T (below_all name_cmp other fs) → T (below_all name_cmp name fs)
below_less name other [] is h = tt
below_less name other (f ∷ fs) is h =
    and_both _ _ (less_is _ (nat_list_cmp_total.trans name other f.0 is (is_less _ (and_first _ _ h)))) (below_less name other fs is (and_second _ _ h))

below_equal : (name other : List ℕ) (fs : List (List ℕ × List ℕ)) → name_cmp name other ≡ Equal → T (below_all name_cmp other fs) → T (below_all name_cmp name fs)
below_equal name other [] is h = tt
below_equal name other (f ∷ fs) is h =
    and_both _ _ (less_is _ (nat_list_cmp_total.congr name other f.0 is ∙ is_less _ (and_first _ _ h))) (below_equal name other fs is (and_second _ _ h))

-- no file above a name has it
none_above : (name : List ℕ) (fs : List (List ℕ × List ℕ)) → T (below_all name_cmp name fs) → find name_cmp name fs ≡ None
none_above name [] h = refl
none_above name (f ∷ fs) h =
    let less = is_less (name_cmp name f.0) (and_first _ _ h) in
    rw less (none_above name fs (and_second _ _ h))

-- and so none of them goes
all_stay : (name : List ℕ) (fs : List (List ℕ × List ℕ)) → T (below_all name_cmp name fs) → where_key name_cmp (λ x. not (eq_by_cmp name_cmp name x)) fs ≡ fs
all_stay name [] h = refl
all_stay name (f ∷ fs) h =
    let less = is_less (name_cmp name f.0) (and_first _ _ h) in
    rw less (ap (λ gs. f ∷ gs) (all_stay name fs (and_second _ _ h)))

-- what a name's file holds
pub finds : (name : List ℕ) (es : List Entry) (bs : List ℕ) → T (is_sorted name_cmp (files_in es bs)) →
    find name_cmp name (files_in es bs) ≡ option_map (λ s. take s (drop (place_of name es).start bs)) (place_of name es).size
finds name [] bs sorted = refl
finds name (e ∷ es) bs sorted =
    let p = place_of name es in
    let A : Place = record { index = 0; start = 0; size = None } in
    let B : Place = record { index = 0; start = 0; size = Some e.size } in
    let rest = files_in es (drop e.size bs) in
    elim (name_cmp name e.name.bytes) as (λ o. name_cmp name e.name.bytes ≡ o → let q = by_order o A B (behind e.size p) in
    cond (is_eq o) (Some (take e.size bs)) (find name_cmp name rest) ≡ option_map (λ s. take s (drop q.start bs)) q.size) [
      | Less ↦ λ is. none_above name rest (below_less name e.name.bytes rest is (and_first _ _ sorted))
      | Equal ↦ λ _. refl
      | Greater ↦ λ _. finds name es (drop e.size bs) (and_second _ _ sorted) ∙ ap (λ d. option_map (λ s. take s d) p.size) (drop-drop p.start e.size bs)
    ] refl

-- a name without a file
pub stays : (name : List ℕ) (es : List Entry) (bs : List ℕ) → T (is_sorted name_cmp (files_in es bs)) → (place_of name es).size ≡ None →
    where_key name_cmp (λ x. not (eq_by_cmp name_cmp name x)) (files_in es bs) ≡ files_in es bs
stays name [] bs sorted = λ _. refl
stays name (e ∷ es) bs sorted =
    let p = place_of name es in
    let A : Place = record { index = 0; start = 0; size = None } in
    let B : Place = record { index = 0; start = 0; size = Some e.size } in
    let f : List ℕ × List ℕ = (e.name.bytes, take e.size bs) in
    let rest = files_in es (drop e.size bs) in
    let others = where_key name_cmp (λ x. not (eq_by_cmp name_cmp name x)) rest in
    elim (name_cmp name e.name.bytes) as (λ o. name_cmp name e.name.bytes ≡ o → let q = by_order o A B (behind e.size p) in
    q.size ≡ None → cond (not (is_eq o)) (f ∷ others) others ≡ f ∷ rest) [
      | Less ↦ λ is _. ap (λ gs. f ∷ gs) (all_stay name rest (below_less name e.name.bytes rest is (and_first _ _ sorted)))
      | Equal ↦ λ _ h. some_is_none h
      | Greater ↦ λ _ h. ap (λ gs. f ∷ gs) (stays name es (drop e.size bs) (and_second _ _ sorted) h)
    ] refl

-- a file that goes
pub removes : (name : List ℕ) (es : List Entry) (bs : List ℕ) (s : ℕ) → T (is_sorted name_cmp (files_in es bs)) → sum_by size_of es ≤ length bs → (place_of name es).size ≡ Some s →
    files_in (remove es (place_of name es).index) (take (place_of name es).start bs ++ drop ((place_of name es).start + s) bs)
    ≡ where_key name_cmp (λ x. not (eq_by_cmp name_cmp name x)) (files_in es bs)
removes name [] bs s sorted fits = λ some. some_is_none (sym some)
removes name (e ∷ es) bs s sorted fits =
    let p = place_of name es in
    let A : Place = record { index = 0; start = 0; size = None } in
    let B : Place = record { index = 0; start = 0; size = Some e.size } in
    let f : List ℕ × List ℕ = (e.name.bytes, take e.size bs) in
    let rest = files_in es (drop e.size bs) in
    let others = where_key name_cmp (λ x. not (eq_by_cmp name_cmp name x)) rest in
    elim (name_cmp name e.name.bytes) as (λ o. name_cmp name e.name.bytes ≡ o → let q = by_order o A B (behind e.size p) in
    q.size ≡ Some s → files_in (remove (e ∷ es) q.index) (take q.start bs ++ drop (q.start + s) bs) ≡ cond (not (is_eq o)) (f ∷ others) others) [
      | Less ↦ λ _ h. some_is_none (sym h)
      | Equal ↦ λ is h.
          let sized_so : e.size ≡ s = cc in
          ap (λ k. files_in es (drop k bs)) (zero-add s ∙ sym sized_so) ∙ sym (all_stay name rest (below_equal name e.name.bytes rest is (and_first _ _ sorted)))
      | Greater ↦ λ _ h. goes_on e (remove es p.index) p.start bs (drop ((e.size + p.start) + s) bs) (omega (arith, fits, sum_by-cons size_of e es))
          ∙ ap (λ d. f ∷ files_in (remove es p.index) (take p.start (drop e.size bs) ++ d)) (ap (λ k. drop k bs) (add_assoc e.size p.start s) ∙ sym (drop-drop (p.start + s) e.size bs))
          ∙ ap (λ fs. f ∷ fs) (removes name es (drop e.size bs) s (and_second _ _ sorted) (omega (arith, fits, sum_by-cons size_of e es, length-drop e.size bs)) h)
    ] refl

-- ---- sizes

-- what an entry at a place changes of all sizes
pub sums : (x : Entry) (name : List ℕ) (es : List Entry) → sum_by size_of (with_entry es (place_of name es) x) + bytes_at (place_of name es) ≡ sum_by size_of es + x.size
sums x name [] = omega (arith, sum_by-cons size_of x [])
sums x name (e ∷ es) =
    let p = place_of name es in
    let A : Place = record { index = 0; start = 0; size = None } in
    let B : Place = record { index = 0; start = 0; size = Some e.size } in
    let later : sum_by size_of (with_entry (e ∷ es) (behind e.size p) x) ≡ e.size + sum_by size_of (with_entry es p x) =
    elim p.size as (λ s. sum_by size_of (cond (is_some s) (slice_set (e ∷ es) (suc p.index) x) (insert (e ∷ es) (suc p.index) x)) ≡ e.size + sum_by size_of (cond (is_some s) (slice_set es p.index x) (insert es p.index x))) [
      | None ↦ sum_by-cons size_of e (insert es p.index x)
      | Some _ ↦ sum_by-cons size_of e (slice_set es p.index x)
    ] in
    by_cases (λ q. sum_by size_of (with_entry (e ∷ es) q x) + bytes_at q ≡ sum_by size_of (e ∷ es) + x.size) (name_cmp name e.name.bytes) A B (behind e.size p)
    (omega (arith, sum_by-cons size_of x (e ∷ es)))
    (omega (arith, sum_by-cons size_of x es, sum_by-cons size_of e es))
    (omega (arith, later, sums x name es, sum_by-cons size_of e es))

-- what an entry that goes changes of them
pub sums_less : (name : List ℕ) (es : List Entry) (s : ℕ) → (place_of name es).size ≡ Some s → sum_by size_of (remove es (place_of name es).index) + s ≡ sum_by size_of es
sums_less name [] s = λ some. some_is_none (sym some)
sums_less name (e ∷ es) s =
    let p = place_of name es in
    let A : Place = record { index = 0; start = 0; size = None } in
    let B : Place = record { index = 0; start = 0; size = Some e.size } in
    by_cases (λ q. q.size ≡ Some s → sum_by size_of (remove (e ∷ es) q.index) + s ≡ sum_by size_of (e ∷ es)) (name_cmp name e.name.bytes) A B (behind e.size p)
    (λ h. some_is_none (sym h))
    (λ h. let sized : e.size ≡ s = cc in omega (arith, sized, sum_by-cons size_of e es))
    (λ h. omega (arith, sums_less name es s h, sum_by-cons size_of e es, sum_by-cons size_of e (remove es p.index)))

-- as many files as entries, and their bytes are all
pub as_many : (es : List Entry) (bs : List ℕ) → length (files_in es bs) ≡ length es
as_many [] bs = refl
as_many (e ∷ es) bs = ap suc (as_many es (drop e.size bs))

pub in_all : (es : List Entry) (bs : List ℕ) → sum_by size_of es ≤ length bs → total (files_in es bs) ≡ sum_by size_of es
in_all [] bs fits = refl
in_all (e ∷ es) bs fits =
    let first = length-take-le e.size bs (omega (arith, fits, sum_by-cons size_of e es)) in
    let rest = in_all es (drop e.size bs) (omega (arith, fits, sum_by-cons size_of e es, length-drop e.size bs)) in
    omega (arith, first, rest, sum_by-cons size_of e es, sum_by-cons (λ (f : List ℕ × List ℕ). length f.1) (e.name.bytes, take e.size bs) (files_in es (drop e.size bs)))

-- the names of the files are those of the entries
pub named : (es : List Entry) (bs : List ℕ) → map (λ (f : List ℕ × List ℕ). f.0) (files_in es bs) ≡ map (λ e. e.name.bytes) es
named [] bs = refl
named (e ∷ es) bs = ap (λ ns. e.name.bytes ∷ ns) (named es (drop e.size bs))

-- ---- a file that is written: the front of what it held, and a piece

abbrev pub held_in : List ℕ → List (List ℕ × List ℕ) → List ℕ
held_in name fs = unwrap_or (find name_cmp name fs) []

abbrev pub written : List Entry → Place → Entry → List ℕ → ℕ → List ℕ → List (List ℕ × List ℕ)
written es p x bs kept piece = files_in (with_entry es p x) (take (p.start + kept) bs ++ (piece ++ drop (p.start + bytes_at p) bs))

pub writes : (x : Entry) (name piece : List ℕ) (es : List Entry) (bs : List ℕ) (kept : ℕ) → x.name.bytes ≡ name → x.size ≡ kept + length piece →
    T (is_sorted name_cmp (files_in es bs)) → sum_by size_of es ≤ length bs → kept ≤ bytes_at (place_of name es) →
    written es (place_of name es) x bs kept piece ≡ put name_cmp name (take kept (held_in name (files_in es bs)) ++ piece) (files_in es bs)
writes x name piece es bs kept named_so sized sorted fits few =
    let p = place_of name es in
    let F = files_in es bs in
    let within = is_within name es in
    let parts : take (p.start + kept) bs ++ (piece ++ drop (p.start + bytes_at p) bs) ≡ take p.start bs ++ ((take kept (drop p.start bs) ++ piece) ++ drop (p.start + bytes_at p) bs) =
    ap (λ t. t ++ (piece ++ drop (p.start + bytes_at p) bs)) (take-add p.start kept bs) ∙ append_assoc (take p.start bs) (take kept (drop p.start bs)) (piece ++ drop (p.start + bytes_at p) bs)
    ∙ ap (λ t. take p.start bs ++ t) (sym (append_assoc (take kept (drop p.start bs)) piece (drop (p.start + bytes_at p) bs))) in
    ap (files_in (with_entry es p x)) parts
    ∙ elim p.size as (λ s. p.size ≡ s → files_in (cond (is_some s) (slice_set es p.index x) (insert es p.index x)) (take p.start bs ++ ((take kept (drop p.start bs) ++ piece) ++ drop (p.start + unwrap_or s 0) bs))
    ≡ put name_cmp name (take kept (held_in name F) ++ piece) F) [
      | None ↦ λ is.
          let none : kept ≡ 0 = omega (arith, few, ap (λ o. unwrap_or o 0) is) in
          let length_is : x.size ≡ length (take kept (drop p.start bs) ++ piece) = sized ∙ rw none (zero-add (length piece)) in
          ap (λ k. files_in (insert es p.index x) (take p.start bs ++ ((take kept (drop p.start bs) ++ piece) ++ drop k bs))) (add-zero p.start)
          ∙ inserts x name (take kept (drop p.start bs) ++ piece) named_so length_is es bs fits is
          ∙ rw none refl
      | Some s ↦ λ is.
          let some : bytes_at p ≡ s = ap (λ o. unwrap_or o 0) is in
          let held : held_in name F ≡ take s (drop p.start bs) = ap (λ o. unwrap_or o []) (finds name es bs sorted ∙ ap (option_map (λ s. take s (drop p.start bs))) is) in
          let there : p.start + s ≤ length bs = omega (arith, within.start, fits, ap (λ o. unwrap_or o 0) is) in
          let front_of : take kept (take s (drop p.start bs)) ≡ take kept (drop p.start bs) = take-take kept s (drop p.start bs) (omega (arith, few, some)) in
          let length_is : x.size ≡ length (take kept (drop p.start bs) ++ piece) =
          sized ∙ sym (length-append (take kept (drop p.start bs)) piece ∙ ap (λ k. k + length piece) (length-take-le kept (drop p.start bs) (omega (arith, few, some, there, length-drop p.start bs)))) in
          replaces x name (take kept (drop p.start bs) ++ piece) named_so length_is es bs s fits is
          ∙ ap (λ t. put name_cmp name (t ++ piece) F) (sym (ap (take kept) held ∙ front_of))
    ] refl

-- a hole is made where the old bytes go, and the piece is put there
pub pasted : (start kept size : ℕ) (bs rest whole piece : List ℕ) → kept ≤ size → start + size ≤ length bs →
    rest ≡ take (start + kept) bs ++ drop ((start + kept) + (size - kept)) bs → whole ≡ take (start + kept) rest ++ (piece ++ drop (start + kept) rest) →
    whole ≡ take (start + kept) bs ++ (piece ++ drop (start + size) bs)
pasted start kept size bs rest whole piece few fits cut_is whole_is =
    let there : start + kept ≤ length bs = omega (arith, few, fits) in
    let at : (start + kept) + (size - kept) ≡ start + size = omega (arith, few) in
    let tail = drop ((start + kept) + (size - kept)) bs in
    whole_is ∙ ap (λ r. take (start + kept) r ++ (piece ++ drop (start + kept) r)) cut_is
    ∙ rw (front (start + kept) bs tail there, back (start + kept) bs tail there, at) refl

pub record IsWritten (es after : List Entry) (bs whole name piece : List ℕ) (kept size total_size : ℕ) : Type 0 where
  pub files : files_in after whole ≡ put name_cmp name (take kept (held_in name (files_in es bs)) ++ piece) (files_in es bs)
  pub sizes : sum_by size_of after + size ≡ sum_by size_of es + total_size

pub is_written : (es after : List Entry) (bs rest whole name piece : List ℕ) (p : Place) (size kept : ℕ) (x : Entry) →
    p ≡ place_of name es → size ≡ unwrap_or p.size 0 → kept ≤ size → x.name.bytes ≡ name → x.size ≡ kept + length piece →
    T (is_sorted name_cmp (files_in es bs)) → sum_by size_of es ≡ length bs →
    rest ≡ take (p.start + kept) bs ++ drop ((p.start + kept) + (size - kept)) bs → whole ≡ take (p.start + kept) rest ++ (piece ++ drop (p.start + kept) rest) →
    after ≡ with_entry es p x → IsWritten es after bs whole name piece kept size x.size
is_written es after bs rest whole name piece p size kept x place sized few named_so x_sized sorted fits cut_is whole_is after_is =
    let q = place_of name es in
    let within = is_within name es in
    let size_is : size ≡ bytes_at q = sized ∙ ap bytes_at place in
    let start_is : p.start ≡ q.start = ap (λ (r : Place). r.start) place in
    let whole_so : whole ≡ take (q.start + kept) bs ++ (piece ++ drop (q.start + bytes_at q) bs) =
    pasted p.start kept size bs rest whole piece few (omega (arith, within.start, size_is, start_is, fits)) cut_is whole_is
    ∙ ap (λ s. take (s + kept) bs ++ (piece ++ drop (s + size) bs)) start_is ∙ ap (λ n. take (q.start + kept) bs ++ (piece ++ drop (q.start + n) bs)) size_is in
    let after_so : after ≡ with_entry es q x = after_is ∙ ap (λ r. with_entry es r x) place in
    record {
      files = ap (λ es2. files_in es2 whole) after_so ∙ ap (files_in (with_entry es q x)) whole_so
          ∙ writes x name piece es bs kept named_so x_sized sorted (omega (arith, fits)) (omega (arith, few, size_is));
      sizes = rw (after_so, size_is) (sums x name es);
    }

-- how long a file is
pub held_length : (name : List ℕ) (es : List Entry) (bs : List ℕ) → T (is_sorted name_cmp (files_in es bs)) → sum_by size_of es ≤ length bs → length (held_in name (files_in es bs)) ≡ bytes_at (place_of name es)
held_length name es bs sorted fits =
    let p = place_of name es in
    let within = is_within name es in
    ap (λ o. length (unwrap_or o [])) (finds name es bs sorted)
    ∙ elim p.size as (λ s. p.size ≡ s → length (unwrap_or (option_map (λ n. take n (drop p.start bs)) s) []) ≡ unwrap_or s 0) [
      | None ↦ λ _. refl
      | Some n ↦ λ is. length-take-le n (drop p.start bs) (omega (arith, within.start, fits, ap (λ o. unwrap_or o 0) is, length-drop p.start bs))
    ] refl

-- what stays of a file: all of it, or nothing
pub what_stays : (keeps : Bool) (kept size : ℕ) (held : List ℕ) → kept ≡ cond keeps size 0 → length held ≡ size → take kept held ≡ cond keeps held []
what_stays true kept size held is long = rw is (take_all size held (omega (arith, long)))
what_stays false kept size held is long = rw is refl

-- a file for which there is room fits
pub fits_in : (keeps : Bool) (stock : Stock) (name : List ℕ) (n : ℕ) (es : List Entry) (bs : List ℕ) (p : Place) (size kept free_files free_bytes : ℕ) →
    stock.files ≡ files_in es bs → T (is_sorted name_cmp (files_in es bs)) → sum_by size_of es ≡ length bs → p ≡ place_of name es → size ≡ unwrap_or p.size 0 → kept ≡ cond keeps size 0 →
    free_files ≡ stock.most_files - length es → free_bytes ≡ (stock.most_bytes - (length bs - size)) - kept →
    HasRoom stock name (cond keeps (length (held_by stock name)) 0 + n) → (n ≤ free_bytes) × (p.size ≡ None → 0 < free_files)
fits_in keeps stock name n es bs p size kept free_files free_bytes files sorted all place sized kept_is free_files_is free_bytes_is room =
    let F = files_in es bs in
    let within = is_within name es in
    let size_is : size ≡ bytes_at (place_of name es) = sized ∙ ap bytes_at place in
    let held : length (held_by stock name) ≡ size = ap (λ fs. length (held_in name fs)) files ∙ held_length name es bs sorted (omega (arith, all)) ∙ sym size_is in
    let total_is : total stock.files ≡ length bs = ap total files ∙ in_all es bs (omega (arith, all)) ∙ all in
    let kept_too : cond keeps (length (held_by stock name)) 0 ≡ kept = ap (λ k. cond keeps k 0) held ∙ sym kept_is in
    let few : kept ≤ size = elim keeps as (λ b. kept ≡ cond b size 0 → kept ≤ size) [ true ↦ λ h. omega (arith, h) | false ↦ λ h. omega (arith, h) ] kept_is in
    let count : length stock.files ≡ length es = ap length files ∙ as_many es bs in (
      omega (arith, room.bytes_fit, total_is, held, kept_too, few, size_is, within.start, all, free_bytes_is),
      λ none.
          let nothing : find name_cmp name stock.files ≡ None =
          ap (find name_cmp name) files ∙ finds name es bs sorted ∙ ap (option_map (λ s. take s (drop (place_of name es).start bs))) (sym (ap (λ (r : Place). r.size) place) ∙ none) in
          elim room.file_fits [
            | inl some ↦ absurd (false≢true (subst IsSome nothing some))
            | inr below ↦ omega (arith, below, count, free_files_is)
          ],
    )
