-- Applications keep their ids.
use Rattle.std.proofs.Common.{◌≡◌, ℕ, zero, suc, ◌+◌, ◌<◌, Bool, true, false, cond, ltb, List, [], ◌∷◌, ◌++◌, length, Some, refl, sym, ap, subst, ◌∙◌, arith}
use Rattle.std.specs.Prelude.{not, slice_get, position}
use Rattle.std.specs.List.{filter_map, prefix_len}
use Rattle.std.specs.Option.{option_map_or}
use Rattle.std.specs.Str.{bytes_eq}
use Rattle.std.proofs.lemmas.Bool.{ltb-true}
use Rattle.std.proofs.lemmas.List.Elements.{filter_map-append}
use Rattle.std.proofs.lemmas.Slice.Eq.{bytes_eq-Decides}
use Rattle.dl_lemmas.proofs.Lists.{get_more}
use Rattle.dl_lemmas.proofs.Options.{place_is}
use Rattle.dl_script_model.specs.declared.line.AppLine.{AppLine}
use Rattle.dl_script_model.specs.Marks.{Mark, app_of, apps, number_of, apid_of}

pub placed_id : (done more : List Mark) (app : ℕ) (line : AppLine) → slice_get (apps done) app ≡ Some line → apid_of (done ++ more) app ≡ line.apid
placed_id done more app line e =
    ap (λ o. option_map_or (λ (l : AppLine). l.apid) o [])
    (ap (λ (ls : List AppLine). slice_get ls app) (filter_map-append app_of done more) ∙ get_more (apps done) (filter_map app_of more) app line e)

there : (xs : List AppLine) (place : ℕ) → place < length xs → (line : AppLine) × (slice_get xs place ≡ Some line)
there [] place within = absurd (omega (arith, within))
there (x ∷ xs) zero within = (x, refl)
there (x ∷ xs) (suc place) within = there xs place (omega (arith, within))

pub kept_id : (done more : List Mark) (app : ℕ) → app < length (apps done) → apid_of (done ++ more) app ≡ apid_of done app
kept_id done more app within =
    let found = there (apps done) app within in
    placed_id done more app found.0 found.1 ∙ sym (ap (λ o. option_map_or (λ (l : AppLine). l.apid) o []) found.1)

-- the first that passes a test
record First {A : Type 0} (p : A → Bool) (xs : List A) (place : ℕ) : Type 0 where
  entry : A
  there : slice_get xs place ≡ Some entry
  passes : p entry ≡ true

first_that : {A : Type 0} (p : A → Bool) (xs : List A) → prefix_len (λ x. not (p x)) xs < length xs → First p xs (prefix_len (λ x. not (p x)) xs)
first_that p [] lt = absurd (omega arith)
first_that {A = A} p (x ∷ xs) lt = by_test (p x) refl lt (first_that p xs) where
  before : ℕ
  before = prefix_len (λ y. not (p y)) xs

  by_test : (b : Bool) → p x ≡ b → cond (not b) (1 + before) 0 < length (x ∷ xs) → (before < length xs → First p xs before) → First p (x ∷ xs) (cond (not b) (1 + before) 0)
  by_test true is lt later = record { entry = x; there = refl; passes = is }
  by_test false is lt later =
      let next : 1 + before ≡ suc before = omega arith in
      let found = later (omega (arith, lt)) in
      record { entry = found.entry; there = ap (slice_get (x ∷ xs)) next ∙ found.there; passes = found.passes }

at_position : {A : Type 0} (p : A → Bool) (xs : List A) (n : ℕ) → position p xs ≡ Some n → First p xs n
at_position {A = A} p xs n e =
    let k = prefix_len (λ (x : A). not (p x)) xs in
    let is = place_is (ltb k (length xs)) k n e in
    subst (First p xs) is.1 (first_that p xs (ltb-true k (length xs) is.0))

pub named_id : (done more : List Mark) (apid : List ℕ) (app : ℕ) → number_of apid done ≡ Some app → apid_of (done ++ more) app ≡ apid
named_id done more apid app e =
    let first = at_position (λ (line : AppLine). bytes_eq line.apid apid) (apps done) app e in
    placed_id done more app first.entry first.there ∙ (bytes_eq-Decides first.entry.apid apid).0 first.passes
