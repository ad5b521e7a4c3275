-- Names of filters, where no line is at fault.
use Rattle.std.proofs.Common.{◌≡◌, ℕ, ◌≤◌, ◌+◌, suc, Bool, true, false, not, ◌||◌, ◌&&◌, leb, List, [], ◌∷◌, ◌++◌, length, Option, Some, None, Result, Ok, Err, refl, sym, ap, subst, ◌∙◌, arith, append_assoc}
use Rattle.std.specs.Prelude.{map, option_map}
use Rattle.std.specs.Option.{option_or}
use Rattle.std.specs.List.{filter_map, list_any}
use Rattle.std.specs.Str.{bytes_eq}
use Rattle.std.proofs.lemmas.List.{append-nil}
use Rattle.std.proofs.lemmas.List.Elements.{filter_map-append}
use Rattle.std.proofs.lemmas.List.Folds.{list_any-append}
use Rattle.std.proofs.lemmas.Bool.Decides.{nat_tests}
use Rattle.dl_text.specs.Faults.{first_fault, first_fault_behind}
use Rattle.dl_startup.specs.declared.storage_kind.StorageKind.{StorageKind}
use Rattle.dl_storage.specs.FilterLine.{Wanted, line_said}
use Rattle.dl_storage.specs.FiltersApart.{AreFilters, are_apart, names_of}
use Rattle.dl_storage.specs.FiltersHeld.{refused_by}
use Rattle.dl_storage.specs.FilterWhole.{fault_by, fault_in, name_in, wanted_in, wanted_of}
use Rattle.dl_storage.specs.declared.filter.Filter.{Filter}
use Rattle.dl_lemmas.proofs.Bools.{and_left, and_right, or_left, or_right}

joined : (a c b : Bool) → not a ≡ true → c ≡ false → b ≡ true → (not (a || (c || false)) && b) ≡ true
joined false c b n d e = rw (d, e) refl
joined true c b n d e = absurd (cc n)

-- one name more, which none of them is
apart_push : (names : List (List ℕ)) (last : List ℕ) → are_apart names ≡ true → list_any (λ name. bytes_eq name last) names ≡ false → are_apart (names ++ last ∷ []) ≡ true
apart_push [] last are other = refl
apart_push (name ∷ names) last are other =
    let rest = apart_push names last (and_right (not (list_any (bytes_eq name) names)) (are_apart names) are) (or_right (bytes_eq name last) (list_any (λ n. bytes_eq n last) names) other) in
    rw (list_any-append (bytes_eq name) names (last ∷ []))
    (joined (list_any (bytes_eq name) names) (bytes_eq name last) (are_apart (names ++ last ∷ []))
    (and_left (not (list_any (bytes_eq name) names)) (are_apart names) are) (or_left (bytes_eq name last) (list_any (λ n. bytes_eq n last) names) other) rest)

-- what holds of the names so far
pub record Fine (names : List (List ℕ)) : Type 0 where
  pub few : length names ≤ 16
  pub apart : are_apart names ≡ true

length_push : (names : List (List ℕ)) (last : List ℕ) → length (names ++ last ∷ []) ≡ suc (length names)
length_push [] last = refl
length_push (name ∷ names) last = ap suc (length_push names last)

-- one line more, which is not at fault
fine_line : (names : List (List ℕ)) (line : List ℕ) → fault_by names (line_said line) ≡ None → Fine names → Fine (names ++ filter_map name_in (line ∷ []))
fine_line names line none fine = by_said (line_said line) refl where
  by_tests : (wanted : Wanted) (taken full : Bool) → list_any (λ name. bytes_eq name wanted.name) names ≡ taken → leb 16 (length names) ≡ full
      → fault_by names (Ok (Some wanted)) ≡ None → Fine (names ++ wanted.name ∷ [])
  by_tests wanted true full is many none = absurd (cc (is, none))
  by_tests wanted false true is many none = absurd (cc (is, many, none))
  by_tests wanted false false is many none = record {
    few = grind (arith, nat_tests, length_push names wanted.name, many);
    apart = apart_push names wanted.name fine.apart is;
  }

  by_said : (said : Result (Option Wanted) StorageKind) → line_said line ≡ said → Fine (names ++ filter_map name_in (line ∷ []))
  by_said (Err kind) is = absurd (cc (none, is))
  by_said (Ok None) is = rw is (subst Fine (sym (append-nil names)) fine)
  by_said (Ok (Some wanted)) is =
      rw is (by_tests wanted (list_any (λ name. bytes_eq name wanted.name) names) (leb 16 (length names)) refl refl (ap (fault_by names) (sym is) ∙ none))

or_first : {A : Type 0} (a b : Option A) → option_or a b ≡ None → a ≡ None
or_first None b is = refl
or_first (Some x) b is = is

or_second : {A : Type 0} (a b : Option A) → option_or a b ≡ None → b ≡ None
or_second None b is = is
or_second (Some x) b is = absurd (cc is)

map_none : {A B : Type 0} (f : A → B) (o : Option A) → option_map f o ≡ None → o ≡ None
map_none f None is = refl
map_none f (Some x) is = absurd (cc is)

-- where no line is at fault, the names are fine
fine_lines : (before lines : List (List ℕ)) → first_fault_behind fault_in before lines ≡ None → Fine (filter_map name_in before) → Fine (filter_map name_in (before ++ lines))
fine_lines before [] none fine = subst (λ (ls : List (List ℕ)). Fine (filter_map name_in ls)) (sym (append-nil before)) fine
fine_lines before (line ∷ lines) none fine =
    let numbered : StorageKind → ℕ × StorageKind = λ kind. (length before + 1, kind) in
    let here = option_map numbered (fault_in before line) in
    let later = first_fault_behind fault_in (before ++ line ∷ []) lines in
    let this = map_none numbered (fault_in before line) (or_first here later none) in
    let next = subst Fine (sym (filter_map-append name_in before (line ∷ []))) (fine_line (filter_map name_in before) line this fine) in
    subst (λ (ls : List (List ℕ)). Fine (filter_map name_in ls)) (append_assoc before (line ∷ []) lines)
    (fine_lines (before ++ line ∷ []) lines (or_second here later none) next)

-- the names of filters are those of what they want
names_wanted : (filters : List Filter) → names_of filters ≡ map (λ (wanted : Wanted). wanted.name) (map wanted_of filters)
names_wanted [] = refl
names_wanted (filter ∷ filters) = ap (λ (names : List (List ℕ)). filter.name ∷ names) (names_wanted filters)

names_length : (filters : List Filter) → length (names_of filters) ≡ length filters
names_length [] = refl
names_length (filter ∷ filters) = ap suc (names_length filters)

names_said : (lines : List (List ℕ)) → map (λ (wanted : Wanted). wanted.name) (filter_map wanted_in lines) ≡ filter_map name_in lines
names_said [] = refl
names_said (line ∷ lines) = by_said (wanted_in line) refl (names_said lines) where
  by_said : (said : Option Wanted) → wanted_in line ≡ said → map (λ (wanted : Wanted). wanted.name) (filter_map wanted_in lines) ≡ filter_map name_in lines
      → map (λ (wanted : Wanted). wanted.name) (filter_map wanted_in (line ∷ lines)) ≡ filter_map name_in (line ∷ lines)
  by_said None is rest = rw is rest
  by_said (Some wanted) is rest = rw is (ap (λ (names : List (List ℕ)). wanted.name ∷ names) rest)

-- filters of lines of which none is at fault
pub are_filters : (filters : List Filter) (lines : List (List ℕ)) → first_fault fault_in lines ≡ None → map wanted_of filters ≡ filter_map wanted_in lines → AreFilters filters
are_filters filters lines none are =
    let fine = fine_lines [] lines none (record { few = omega arith; apart = refl }) in
    let names : names_of filters ≡ filter_map name_in lines = names_wanted filters ∙ ap (map (λ (wanted : Wanted). wanted.name)) are ∙ names_said lines in
    let own = subst Fine (sym names) fine in
    record {
      few = omega (arith, own.few, names_length filters);
      apart = own.apart;
    }

-- ---- line after line

not_refused : (fault : Option StorageKind) → refused_by fault ≡ Ok tt → fault ≡ None
not_refused None is = refl
not_refused (Some kind) is = absurd (cc is)

pub goes_on : (before lines rest : List (List ℕ)) (line : List ℕ) (names : List (List ℕ)) → names ≡ filter_map name_in before → refused_by (fault_by names (line_said line)) ≡ Ok tt
    → lines ≡ line ∷ rest → first_fault_behind fault_in (before ++ line ∷ []) rest ≡ first_fault_behind fault_in before lines
goes_on before lines rest line names are well is =
    let none : fault_in before line ≡ None = ap (λ (ns : List (List ℕ)). fault_by ns (line_said line)) (sym are) ∙ not_refused (fault_by names (line_said line)) well in
    rw (is, none) refl
