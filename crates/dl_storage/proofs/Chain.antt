-- One filter after another: what each stored stays, since no two have files of the same name.
use Rattle.std.proofs.Common.{◌≡◌, ℕ, Bool, true, false, not, List, [], ◌∷◌, ◌++◌, Option, Some, None, refl, sym, ap, subst, ◌∙◌, append_assoc, drop}
use Rattle.std.specs.Prelude.{codes, IfSome}
use Rattle.std.specs.List.{AllByRecursion, list_any}
use Rattle.std.specs.Str.{bytes_eq}
use Rattle.std.specs.FinMap as map
use Rattle.std.proofs.lemmas.Slice.Eq.{bytes_eq-Decides}
use Rattle.dl_bytes.specs.declared.outcome.TraceEnd.{TraceEnd}
use Rattle.dl_bytes.specs.declared.outcome.TraceEnd.TheVariants.{Failed, Spent, NoMemory}
use Rattle.dl_events.specs.declared.event.Event.{Event}
use Rattle.dl_events.specs.declared.record.Record.{Record}
use Rattle.dl_outside.specs.Folder.{Files}
use Rattle.dl_model.specs.TraceFiles.{StoredFile, six_digits, trace_files, trace_name}
use Rattle.dl_trace.specs.InFolder.{ChangesTraceFiles, HasFiles, IsTraceName}
use Rattle.dl_storage.specs.FiltersApart.{are_apart, names_of}
use Rattle.dl_storage.specs.declared.filter.Filter.{Filter}
use Rattle.dl_storage.specs.Ended.{EndHasCause}
use Rattle.dl_storage.specs.Passing.{directory_of, frames_for}
use Rattle.dl_storage.specs.Storing.{AreStored, ChangesFiltersFiles, EndsAs, HoldsFiles, IsOther, IsStored}
use Rattle.dl_storage.specs.declared.ends.StoreEnd.{StoreEnd}
use Rattle.dl_lemmas.proofs.Lists.{same_front}
use Rattle.dl_lemmas.proofs.Bools.{and_left, and_right, or_left, or_right}

-- ---- names of files tell their directories

-- what stands behind the directory in a trace file's name
abbrev pub tail : ℕ → List ℕ
tail number = codes "/dlt_offlinetrace." ++ (six_digits number ++ codes ".dlt")

pub named : (directory : List ℕ) (number : ℕ) → trace_name directory number ≡ directory ++ tail number
named directory number = append_assoc (directory ++ codes "/dlt_offlinetrace.") (six_digits number) (codes ".dlt") ∙ append_assoc directory (codes "/dlt_offlinetrace.") (six_digits number ++ codes ".dlt")

pub one_directory : (directory other name : List ℕ) → IsTraceName directory name → IsTraceName other name → directory ≡ other
one_directory directory other name is there =
    same_front directory other (tail is.0) (tail there.0) refl (sym (named directory is.0) ∙ sym is.3 ∙ there.3 ∙ named other there.0)

-- filters of other names have other files
other_files : (filter other : Filter) (name : List ℕ) → ¬ (other.name ≡ filter.name) → IsTraceName (directory_of other) name → ¬ (IsTraceName (directory_of filter) name)
other_files filter other name apart is there =
    let same : directory_of other ≡ directory_of filter = one_directory (directory_of other) (directory_of filter) name is there in
    apart (ap (drop 8) same)

-- ---- which names are apart

abbrev pub AreApart : Filter → List Filter → Type 0
AreApart filter others = AllByRecursion (λ (other : Filter). ¬ (other.name ≡ filter.name)) others

not_true : (a : Bool) → not a ≡ true → a ≡ false
not_true false is = refl
not_true true is = absurd (cc is)

differs : (xs ys : List ℕ) → bytes_eq xs ys ≡ false → ¬ (xs ≡ ys)
differs xs ys is same = absurd (cc (is, (bytes_eq-Decides xs ys).1 same))

-- none of the names at a place that is behind others
none_at : (test : List ℕ → Bool) (before : List Filter) (filter : Filter) (behind : List Filter) → list_any test (names_of (before ++ filter ∷ behind)) ≡ false → test filter.name ≡ false
none_at test [] filter behind is = or_left (test filter.name) (list_any test (names_of behind)) is
none_at test (other ∷ before) filter behind is = none_at test before filter behind (or_right (test other.name) (list_any test (names_of (before ++ filter ∷ behind))) is)

pub apart_before : (before : List Filter) (filter : Filter) (behind : List Filter) → are_apart (names_of (before ++ filter ∷ behind)) ≡ true → AreApart filter before
apart_before [] filter behind are = tt
apart_before (other ∷ before) filter behind are =
    let names = names_of (before ++ filter ∷ behind) in
    let first = not_true (list_any (bytes_eq other.name) names) (and_left (not (list_any (bytes_eq other.name) names)) (are_apart names) are) in (
      differs other.name filter.name (none_at (bytes_eq other.name) before filter behind first),
      apart_before before filter behind (and_right (not (list_any (bytes_eq other.name) names)) (are_apart names) are),
    )

-- ---- files of other filters stay

kept_files : (filter other : Filter) (folder next : Files) (files : List StoredFile) → ¬ (other.name ≡ filter.name)
    → ((name : List ℕ) → ¬ (IsTraceName (directory_of filter) name) → map.get next name ≡ map.get folder name)
    → HasFiles (directory_of other) folder files → HasFiles (directory_of other) next files
kept_files filter other folder next files apart same has = record {
  rising = has.rising;
  each = λ number least most.
      same (trace_name (directory_of other) number) (other_files filter other (trace_name (directory_of other) number) apart (number, least, most, refl)) ∙ has.each number least most;
}

kept_held : (filter other : Filter) (stood : List StoredFile) (stored : List (List ℕ)) (told now next : Option Files) → ¬ (other.name ≡ filter.name) → ChangesTraceFiles (directory_of filter) now next
    → IfSome told (λ folder. HasFiles (directory_of other) folder stood × HoldsFiles other stood stored now)
    → IfSome told (λ folder. HasFiles (directory_of other) folder stood × HoldsFiles other stood stored next)
kept_held filter other stood stored None now next apart changes held = tt
kept_held filter other stood stored (Some start) None next apart changes held = absurd held.1
kept_held filter other stood stored (Some start) (Some folder) next apart changes held = (
  held.0,
  subst (λ (o : Option Files). HoldsFiles other stood stored o) (sym changes.1)
      (kept_files filter other folder changes.0 (trace_files other.size other.max stood stored) apart changes.2 held.1),
)

kept_ends : (filter other : Filter) (stored left : List (List ℕ)) (told now next : Option Files) (end : Option TraceEnd) → ¬ (other.name ≡ filter.name) → ChangesTraceFiles (directory_of filter) now next
    → EndsAs end other stored left told now → EndsAs end other stored left told next
kept_ends filter other stored left told now next None apart changes ends = (ends.0, (ends.1.0, kept_held filter other ends.1.0 stored told now next apart changes ends.1.1))
kept_ends filter other stored left told now next (Some Spent) apart changes ends = (ends.0, ends.1, kept_held filter other ends.0 stored told now next apart changes ends.2)
kept_ends filter other stored left told now next (Some Failed) apart changes ends = tt
kept_ends filter other stored left told now next (Some NoMemory) apart changes ends = tt

kept_stored : (filter other : Filter) (frames : List (List ℕ)) (told now next : Option Files) (end : StoreEnd) → ¬ (other.name ≡ filter.name) → ChangesTraceFiles (directory_of filter) now next
    → IsStored other frames told now end → IsStored other frames told next end
kept_stored filter other frames told now next end apart changes is = record {
  stored = is.stored;
  left = is.left;
  all = is.all;
  frames_are = is.frames_are;
  bytes_are = is.bytes_are;
  ends = kept_ends filter other is.stored is.left told now next end.end apart changes is.ends;
}

-- ---- what stood before the other filters stood at the beginning

all_other : (filter : Filter) (others : List Filter) (name : List ℕ) → AreApart filter others → IsTraceName (directory_of filter) name → IsOther others name
all_other filter [] name apart is = tt
all_other filter (other ∷ others) name apart is = (other_files other filter name (λ same. apart.0 (sym same)) is, all_other filter others name apart.1 is)

begun_files : (filter : Filter) (folder now : Files) (files : List StoredFile) → ((name : List ℕ) → IsTraceName (directory_of filter) name → map.get now name ≡ map.get folder name)
    → HasFiles (directory_of filter) now files → HasFiles (directory_of filter) folder files
begun_files filter folder now files same has = record {
  rising = has.rising;
  each = λ number least most. sym (same (trace_name (directory_of filter) number) (number, least, most, refl)) ∙ has.each number least most;
}

begun_held : (filter : Filter) (others : List Filter) (stood : List StoredFile) (stored : List (List ℕ)) (told now next : Option Files) → AreApart filter others → ChangesFiltersFiles others told now
    → IfSome now (λ folder. HasFiles (directory_of filter) folder stood × HoldsFiles filter stood stored next)
    → IfSome told (λ folder. HasFiles (directory_of filter) folder stood × HoldsFiles filter stood stored next)
begun_held filter others stood stored None now next apart changes held = tt
begun_held filter others stood stored (Some folder) now next apart changes held =
    let there = subst (λ (o : Option Files). IfSome o (λ f. HasFiles (directory_of filter) f stood × HoldsFiles filter stood stored next)) changes.1 held in (
      begun_files filter folder changes.0 stood (λ name is. changes.2 name (all_other filter others name apart is)) there.0,
      there.1,
    )

begun_ends : (filter : Filter) (others : List Filter) (stored left : List (List ℕ)) (told now next : Option Files) (end : Option TraceEnd) → AreApart filter others → ChangesFiltersFiles others told now
    → EndsAs end filter stored left now next → EndsAs end filter stored left told next
begun_ends filter others stored left told now next None apart changes ends = (ends.0, (ends.1.0, begun_held filter others ends.1.0 stored told now next apart changes ends.1.1))
begun_ends filter others stored left told now next (Some Spent) apart changes ends = (ends.0, ends.1, begun_held filter others ends.0 stored told now next apart changes ends.2)
begun_ends filter others stored left told now next (Some Failed) apart changes ends = tt
begun_ends filter others stored left told now next (Some NoMemory) apart changes ends = tt

begun_stored : (filter : Filter) (others : List Filter) (frames : List (List ℕ)) (told now next : Option Files) (end : StoreEnd) → AreApart filter others → ChangesFiltersFiles others told now
    → IsStored filter frames now next end → IsStored filter frames told next end
begun_stored filter others frames told now next end apart changes is = record {
  stored = is.stored;
  left = is.left;
  all = is.all;
  frames_are = is.frames_are;
  bytes_are = is.bytes_are;
  ends = begun_ends filter others is.stored is.left told now next end.end apart changes is.ends;
}

-- ---- one filter more

push_stored : (ecu : List ℕ) (records : List (List Record)) (events : List Event) (told now next : Option Files) (faults between last : ℕ) (filters : List Filter) (ends : List StoreEnd) (filter : Filter) (end : StoreEnd)
    → AreApart filter filters → ChangesTraceFiles (directory_of filter) now next → IsStored filter (frames_for ecu filter records events) told next end → EndHasCause between last end.end
    → AreStored ecu records events told now faults between filters ends → AreStored ecu records events told next faults last (filters ++ filter ∷ []) (ends ++ end ∷ [])
push_stored ecu records events told now next faults between last [] [] filter end apart changes is cause are =
    (is, (last, subst (λ (n : ℕ). EndHasCause n last end.end) are cause, refl))
push_stored ecu records events told now next faults between last (other ∷ filters) (first ∷ ends) filter end apart changes is cause are = (
  kept_stored filter other (frames_for ecu other records events) told now next first apart.0 changes are.0,
  (are.1.0, are.1.1, push_stored ecu records events told now next are.1.0 between last filters ends filter end apart.1 changes is cause are.1.2),
)
push_stored ecu records events told now next faults between last [] (first ∷ ends) filter end apart changes is cause are = absurd are
push_stored ecu records events told now next faults between last (other ∷ filters) [] filter end apart changes is cause are = absurd are

other_before : (filters : List Filter) (filter : Filter) (name : List ℕ) → IsOther (filters ++ filter ∷ []) name → IsOther filters name × ¬ (IsTraceName (directory_of filter) name)
other_before [] filter name is = (tt, is.0)
other_before (other ∷ filters) filter name is = let rest = other_before filters filter name is.1 in ((is.0, rest.0), rest.1)

pub push_changes : (filters : List Filter) (filter : Filter) (told now next : Option Files) → ChangesFiltersFiles filters told now → ChangesTraceFiles (directory_of filter) now next
    → ChangesFiltersFiles (filters ++ filter ∷ []) told next
push_changes filters filter None now next before here = tt
push_changes filters filter (Some folder) now next before here =
    let there = subst (λ (o : Option Files). ChangesTraceFiles (directory_of filter) o next) before.1 here in
    (there.0, there.1, λ name is. let both = other_before filters filter name is in there.2 name both.1 ∙ before.2 name both.0)

pub no_changes : (filters : List Filter) (told : Option Files) → ChangesFiltersFiles filters told told
no_changes filters None = tt
no_changes filters (Some folder) = (folder, refl, λ name is. refl)

-- the next filter stored what passes it, and those before it did so too
pub next_stored : (ecu : List ℕ) (records : List (List Record)) (events : List Event) (told now next : Option Files) (faults between last : ℕ) (filters : List Filter) (ends : List StoreEnd) (filter : Filter) (end : StoreEnd)
    → AreApart filter filters → ChangesFiltersFiles filters told now → ChangesTraceFiles (directory_of filter) now next → IsStored filter (frames_for ecu filter records events) now next end
    → EndHasCause between last end.end → AreStored ecu records events told now faults between filters ends
    → AreStored ecu records events told next faults last (filters ++ filter ∷ []) (ends ++ end ∷ [])
next_stored ecu records events told now next faults between last filters ends filter end apart before changes is cause are =
    push_stored ecu records events told now next faults between last filters ends filter end apart changes
    (begun_stored filter filters (frames_for ecu filter records events) told now next end apart before is) cause are
