-- Files in order, as a finite map.
use Rattle.std.proofs.Common.{◌≡◌, ℕ, ◌+◌, ◌++◌, Bool, true, false, cond, T, List, Option, Some, None, refl, sym, ap, ◌∙◌, take, drop, length, unwrap_or, arith, length-drop}
use Rattle.std.specs.Prelude.{not, map, option_map, sum_by, Result, Ok, Err, OnOk, is_err}
use Rattle.std.specs.List.{remove}
use Rattle.std.proofs.lemmas.List.{length-take-le}
use Rattle.std.specs.Ordering.{eq_by_cmp}
use Rattle.std.specs.Cmp.{eq_by_cmp_equiv}
use Rattle.std.specs.Cmp.Lexicographic.{nat_list_cmp_total}
use Rattle.std.specs.FinMap as map
use Rattle.std.specs.FinMap.{slice_cmp-IsAntisymmetric, nat_cmp-IsAntisymmetric, entries-from_sorted, entries-insert, get-from_sorted, get-remove, same_entries_map, same_map}
use Rattle.std.specs.FinMap.Entries.{find, find-where_key, is_sorted, is_sorted-put, is_sorted-where_key, put, where_key}
use Rattle.dl_memory.specs.declared.shelf.Entry.{Entry}
use Rattle.dl_memory.specs.declared.shelf.Place.{Place}
use Rattle.dl_memory.specs.Shelf.{files_in, place_of, size_of}
use Rattle.dl_memory.proofs.Shelves.{finds, is_within, name_cmp, removes, sums_less}

abbrev pub of_files : List (List ℕ × List ℕ) → map.FinMap name_cmp (List ℕ)
of_files files = map.from_sorted files

pub inserted : (files : List (List ℕ × List ℕ)) (name bytes : List ℕ) → T (is_sorted name_cmp files) → of_files (put name_cmp name bytes files) ≡ map.insert (of_files files) name bytes
inserted files name bytes sorted =
    same_entries_map (of_files (put name_cmp name bytes files)) (map.insert (of_files files) name bytes)
    (entries-from_sorted name_cmp (put name_cmp name bytes files) (is_sorted-put name_cmp nat_list_cmp_total name bytes files sorted)
    ∙ ap (put name_cmp name bytes) (sym (entries-from_sorted name_cmp files sorted)) ∙ sym (entries-insert nat_list_cmp_total (of_files files) name bytes))

turned : (b : Bool) (x : Option (List ℕ)) → cond (not b) x None ≡ cond b None x
turned true x = refl
turned false x = refl

abbrev pub others : List ℕ → List (List ℕ × List ℕ) → List (List ℕ × List ℕ)
others name files = where_key name_cmp (λ x. not (eq_by_cmp name_cmp name x)) files

pub removed : (files : List (List ℕ × List ℕ)) (name : List ℕ) → T (is_sorted name_cmp files) → of_files (others name files) ≡ map.remove (of_files files) name
removed files name sorted =
    let other : List ℕ → Bool = λ x. not (eq_by_cmp name_cmp name x) in
    same_map nat_list_cmp_total (slice_cmp-IsAntisymmetric nat_cmp-IsAntisymmetric) (of_files (others name files)) (map.remove (of_files files) name)
    (λ q. get-from_sorted name_cmp (others name files) q (is_sorted-where_key name_cmp other files sorted)
    ∙ find-where_key name_cmp other q (λ x tied. ap other (sym (slice_cmp-IsAntisymmetric nat_cmp-IsAntisymmetric q x tied))) files
    ∙ turned (eq_by_cmp name_cmp name q) (find name_cmp q files)
    ∙ ap (λ b. cond b None (find name_cmp q files)) ((eq_by_cmp_equiv nat_list_cmp_total).symm name q)
    ∙ ap (cond (eq_by_cmp name_cmp q name) None) (sym (get-from_sorted name_cmp files q sorted))
    ∙ sym (get-remove nat_list_cmp_total (of_files files) name q))

pub gotten : (files : List (List ℕ × List ℕ)) (name : List ℕ) → T (is_sorted name_cmp files) → map.get (of_files files) name ≡ find name_cmp name files
gotten files name sorted = get-from_sorted name_cmp files name sorted

pub keyed : (files : List (List ℕ × List ℕ)) → T (is_sorted name_cmp files) → map.keys (of_files files) ≡ map (λ (f : List ℕ × List ℕ). f.0) files
keyed files sorted = ap (map (λ (f : List ℕ × List ℕ). f.0)) (entries-from_sorted name_cmp files sorted)

-- ---- what a folder in memory answers

-- the bytes of a name
pub read_is : (es : List Entry) (bs name : List ℕ) (p : Place) (files : List (List ℕ × List ℕ)) → files ≡ files_in es bs → T (is_sorted name_cmp (files_in es bs)) → p ≡ place_of name es →
    map.get (of_files files) name ≡ option_map (λ s. take s (drop p.start bs)) p.size
read_is es bs name p files same sorted place =
    ap (λ fs. map.get (of_files fs) name) same ∙ gotten (files_in es bs) name sorted ∙ finds name es bs sorted ∙ ap (λ (q : Place). option_map (λ s. take s (drop q.start bs)) q.size) (sym place)

-- and its size
pub size_is : (es : List Entry) (bs name : List ℕ) (p : Place) (files : List (List ℕ × List ℕ)) → files ≡ files_in es bs → T (is_sorted name_cmp (files_in es bs)) → sum_by size_of es ≡ length bs → p ≡ place_of name es →
    option_map length (map.get (of_files files) name) ≡ p.size
size_is es bs name p files same sorted all place =
    let within = is_within name es in
    ap (option_map length) (read_is es bs name p files same sorted place)
    ∙ ap (λ (q : Place). option_map length (option_map (λ s. take s (drop q.start bs)) q.size)) place
    ∙ elim (place_of name es).size as (λ o. (place_of name es).size ≡ o → option_map length (option_map (λ s. take s (drop (place_of name es).start bs)) o) ≡ o) [
      | None ↦ λ _. refl
      | Some n ↦ λ is. ap Some (length-take-le n (drop (place_of name es).start bs) (omega (arith, within.start, all, ap (λ o. unwrap_or o 0) is, length-drop (place_of name es).start bs)))
    ] refl
    ∙ ap (λ (q : Place). q.size) (sym place)

-- what a call says that was not refused
pub ok_says : {A E P : Type 0} (r : Result A E) → is_err r ≡ false → OnOk r P → P
ok_says (Ok x) h p = p
ok_says (Err e) h p = absurd cc

pub record IsGone (es after : List Entry) (bs rest name : List ℕ) (size : ℕ) : Type 0 where
  pub files : files_in after rest ≡ others name (files_in es bs)
  pub sizes : sum_by size_of after + size ≡ sum_by size_of es

pub is_gone : (es after : List Entry) (bs rest name : List ℕ) (p : Place) (size : ℕ) → p ≡ place_of name es → p.size ≡ Some size → T (is_sorted name_cmp (files_in es bs)) → sum_by size_of es ≡ length bs →
    after ≡ remove es p.index → rest ≡ take p.start bs ++ drop (p.start + size) bs → IsGone es after bs rest name size
is_gone es after bs rest name p size place some sorted all after_is rest_is =
    let q = place_of name es in
    let some_so : q.size ≡ Some size = ap (λ (r : Place). r.size) (sym place) ∙ some in
    let after_so : after ≡ remove es q.index = after_is ∙ ap (λ (r : Place). remove es r.index) place in
    let rest_so : rest ≡ take q.start bs ++ drop (q.start + size) bs = rest_is ∙ ap (λ (r : Place). take r.start bs ++ drop (r.start + size) bs) place in
    record {
      files = ap (λ a. files_in a rest) after_so ∙ ap (files_in (remove es q.index)) rest_so ∙ removes name es bs size sorted (omega (arith, all)) some_so;
      sizes = rw after_so (sums_less name es size some_so);
    }
