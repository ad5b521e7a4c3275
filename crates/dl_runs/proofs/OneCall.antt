-- A writer and a number name one call of a run.
use Rattle.std.proofs.Common.{◌≡◌, ℕ, ◌+◌, ◌≤◌, ◌<◌, Bool, true, false, cond, eqb, List, [], ◌∷◌, ◌++◌, Option, Some, None, refl, sym, ap, subst, ◌∙◌, arith}
use Rattle.std.specs.Prelude.{count_by, IfSome, slice_get, reverse, ◌&&◌}
use Rattle.std.specs.List.{find, filter, filter_map, cons_option, AllByRecursion}
use Rattle.std.specs.Option.{option_map_or, option_or}
use Rattle.std.proofs.lemmas.List.Elements.{filter-append, filter_map-append}
use Rattle.std.proofs.lemmas.List.Folds.{find-append}
use Rattle.std.proofs.lemmas.Bool.{eqb-true}
use Rattle.dl_lemmas.proofs.Lists.{all_at, all_both, all_found, all_map, all_reverse}
use Rattle.dl_message.specs.Frames.{log_message}
use Rattle.dl_model.specs.Along.{last_that}
use Rattle.dl_model.specs.Setting.{Setting}
use Rattle.dl_script_model.specs.Marks.{Call, Mark, Filtered, Passed, Queued, Refused, Counted, call_of, is_step_of, is_load, calls_of, passed, refused, to_push, to_count, Announced, Pushed, OfCall, OfClaim, call_in, pushed_of, pushes, taken}
use Rattle.dl_script_model.specs.Runs.{IsLoaded, IsNext, RestsOn, AreFounded}
use Rattle.dl_script_model.specs.Replay.{is_call, frame_of_call}
use Rattle.dl_model.proofs.Lists.{count_by-append}
use Rattle.dl_model.proofs.ClientStreams.{same_number}
use Rattle.dl_runs.proofs.Founded.{passed_is, refused_is, last_step}
use Rattle.dl_runs.proofs.RunLaws.{holds_after}
use Rattle.dl_runs.specs.CallFrame.{HasItsFrame}
use Rattle.dl_laws.proofs.Entries.{all_given}

abbrev calls : List Mark → List Call
calls done = filter_map call_of done

abbrev named : Call → List Call → Option Call
named c cs = find (is_call c.item.writer c.item.call) cs

-- a call is found by its writer and its number, and its writer began as many calls
record Known (done : List Mark) (c : Call) : Type 0 where
  found : named c (calls done) ≡ Some c
  within : c.item.call ≤ calls_of c.item.writer done

abbrev KnownIn : List Mark → Mark → Type 0
KnownIn done mark = IfSome (call_of mark) (Known done)

abbrev AllKnown : List Mark → Type 0
AllKnown done = AllByRecursion (KnownIn done) done

-- ---- with more behind

first_found : (o p : Option Call) (c : Call) → o ≡ Some c → option_or o p ≡ Some c
first_found None p c e = absurd cc
first_found (Some d) p c e = e

then_found : (o p : Option Call) → o ≡ None → option_or o p ≡ p
then_found None p e = refl
then_found (Some d) p e = absurd cc

found_later : (done more : List Mark) (c : Call) → named c (calls done) ≡ Some c → named c (calls (done ++ more)) ≡ Some c
found_later done more c found =
    ap (named c) (filter_map-append call_of done more) ∙ find-append (is_call c.item.writer c.item.call) (calls done) (calls more)
    ∙ first_found (named c (calls done)) (named c (calls more)) c found

calls-one : (writer : ℕ) (done : List Mark) (mark : Mark) → calls_of writer (done ++ mark ∷ []) ≡ calls_of writer done + count_by is_load (filter (is_step_of writer) (mark ∷ []))
calls-one writer done mark =
    ap (count_by is_load) (filter-append (is_step_of writer) done (mark ∷ [])) ∙ count_by-append is_load (filter (is_step_of writer) done) (filter (is_step_of writer) (mark ∷ []))

known_later : (done : List Mark) (mark : Mark) (c : Call) → Known done c → Known (done ++ mark ∷ []) c
known_later done mark c known =
    record { found = found_later done (mark ∷ []) c known.found; within = omega (arith, known.within, calls-one c.item.writer done mark) }

known_in_later : (done : List Mark) (more : Mark) (mark : Mark) → KnownIn done mark → KnownIn (done ++ more ∷ []) mark
known_in_later done more mark known = by_call (call_of mark) known where
  by_call : (o : Option Call) → IfSome o (Known done) → IfSome o (Known (done ++ more ∷ []))
  by_call None known = tt
  by_call (Some c) known = known_later done more c known

-- ---- a call that is begun

-- no call with so great a number was begun
none_so_far : (writer number : ℕ) (cs : List Call) → AllByRecursion (λ (d : Call). d.item.writer ≡ writer → d.item.call < number) cs → find (is_call writer number) cs ≡ None
none_so_far writer number [] all = refl
none_so_far writer number (d ∷ cs) all = by_tests (eqb d.item.writer writer) (eqb d.item.call number) refl refl (none_so_far writer number cs all.1) where
  by_tests : (a b : Bool) → eqb d.item.writer writer ≡ a → eqb d.item.call number ≡ b → find (is_call writer number) cs ≡ None → cond (a && b) (Some d) (find (is_call writer number) cs) ≡ None
  by_tests true true e f later =
      let less = all.0 (eqb-true d.item.writer writer e) in
      let same : d.item.call ≡ number = eqb-true d.item.call number f in
      absurd (omega (arith, less, same))
  by_tests true false e f later = later
  by_tests false b e f later = later

known_calls : (done : List Mark) → AllKnown done → AllByRecursion (Known done) (calls done)
known_calls done all = all_given (Known done) (KnownIn done) call_of (λ mark c e known. subst (λ o. IfSome o (Known done)) e known) done all

begun : (setting : Setting) (done : List Mark) (mark : Mark) (c : Call) → AllKnown done → IsLoaded setting c done → call_of mark ≡ Some c → calls (mark ∷ []) ≡ c ∷ [] →
    count_by is_load (filter (is_step_of c.item.writer) (mark ∷ [])) ≡ 1 → Known (done ++ mark ∷ []) c
begun setting done mark c all loaded of_call alone load =
    let is = is_call c.item.writer c.item.call in
    let none : find is (calls done) ≡ None = none_so_far c.item.writer c.item.call (calls done)
    (all_map (Known done) (λ (d : Call). d.item.writer ≡ c.item.writer → d.item.call < c.item.call)
    (λ d known same. let count : calls_of d.item.writer done ≡ calls_of c.item.writer done = ap (λ (w : ℕ). calls_of w done) same in omega (arith, known.within, loaded.number, count))
    (calls done) (known_calls done all)) in
    let itself : is c ≡ true = ap (λ (b : Bool). b && eqb c.item.call c.item.call) (same_number c.item.writer) ∙ same_number c.item.call in
    let here : find is (c ∷ []) ≡ Some c = ap (λ (b : Bool). cond b (Some c) None) itself in
    record {
      found = ap (find is) (filter_map-append call_of done (mark ∷ [])) ∙ find-append is (calls done) (calls (mark ∷ [])) ∙ then_found (find is (calls done)) (find is (calls (mark ∷ []))) none
          ∙ ap (find is) alone ∙ here;
      within = omega (arith, loaded.number, load, calls-one c.item.writer done mark);
    }

own_load : (mark : Mark) (writer : ℕ) → is_load mark ≡ true → count_by is_load (cond (eqb writer writer) (mark ∷ []) []) ≡ 1
own_load mark writer load = ap (λ (b : Bool). count_by is_load (cond b (mark ∷ []) [])) (same_number writer) ∙ ap (λ (b : Bool). 0 + cond b 1 0) load

-- ---- a call that goes on

at_push : (writer : ℕ) (done : List Mark) (c : Call) → AllKnown done → to_push writer done ≡ Some c → Known done c
at_push writer done c all e =
    let last = last_step passed (last_that (is_step_of writer) done) c e in
    subst (KnownIn done) (passed_is last.0 c last.2) (all_found (KnownIn done) (is_step_of writer) (reverse done) last.0 (all_reverse (KnownIn done) done all) last.1)

at_count : (writer : ℕ) (done : List Mark) (c : Call) → AllKnown done → to_count writer done ≡ Some c → Known done c
at_count writer done c all e =
    let last = last_step refused (last_that (is_step_of writer) done) c e in
    subst (KnownIn done) (refused_is last.0 c last.2) (all_found (KnownIn done) (is_step_of writer) (reverse done) last.0 (all_reverse (KnownIn done) done all) last.1)

-- ---- every call

known_by : (setting : Setting) (done : List Mark) (mark : Mark) → AllKnown done → RestsOn setting done mark → KnownIn (done ++ mark ∷ []) mark
known_by setting done (Filtered c) all rests = begun setting done (Filtered c) c all rests.0 refl refl (own_load (Filtered c) c.item.writer refl)
known_by setting done (Passed c) all rests = begun setting done (Passed c) c all rests.0 refl refl (own_load (Passed c) c.item.writer refl)
known_by setting done (Queued c) all rests = known_later done (Queued c) c (at_push c.item.writer done c all rests.0)
known_by setting done (Refused c) all rests = known_later done (Refused c) c (at_push c.item.writer done c all rests.0)
known_by setting done (Counted c) all rests = known_later done (Counted c) c (at_count c.item.writer done c all rests)
known_by setting done _ all rests = tt

known_goes_on : (setting : Setting) (done : List Mark) (mark : Mark) → AllKnown done → RestsOn setting done mark → AllKnown (done ++ mark ∷ [])
known_goes_on setting done mark all rests =
    all_both (KnownIn (done ++ mark ∷ [])) done (mark ∷ []) (all_map (KnownIn done) (KnownIn (done ++ mark ∷ [])) (known_in_later done mark) done all) (known_by setting done mark all rests, tt)

all_known : (setting : Setting) (done : List Mark) → AreFounded setting [] done → AllKnown done
all_known setting done founded = holds_after setting AllKnown (known_goes_on setting) [] done tt founded

-- ---- the laws

same_call : (a b : Call) → ◌≡◌ {A = Option Call} (Some a) (Some b) → a ≡ b
same_call a b e = cc

same_pushed : (a b : Pushed) → ◌≡◌ {A = Option Pushed} (Some a) (Some b) → a ≡ b
same_pushed a b e = cc

pub one_call : (setting : Setting) (done : List Mark) → AreFounded setting [] done →
    AllByRecursion (λ (a : Call). AllByRecursion (λ (b : Call). a.item.writer ≡ b.item.writer → a.item.call ≡ b.item.call → a ≡ b) (calls done)) (calls done)
one_call setting done founded =
    let all = known_calls done (all_known setting done founded) in
    all_map (Known done) (λ (a : Call). AllByRecursion (λ (b : Call). a.item.writer ≡ b.item.writer → a.item.call ≡ b.item.call → a ≡ b) (calls done))
    (λ a known. all_map (Known done) (λ (b : Call). a.item.writer ≡ b.item.writer → a.item.call ≡ b.item.call → a ≡ b)
    (λ b known_b same_writer same_number. same_call a b (sym known.found ∙ ap (λ (w : ℕ). find (is_call w a.item.call) (calls done)) same_writer ∙ ap (λ (n : ℕ). find (is_call b.item.writer n) (calls done)) same_number ∙ known_b.found))
    (calls done) all) (calls done) all

framed : (setting : Setting) (done more : List Mark) (c : Call) → Known done c → HasItsFrame setting (done ++ more) c
framed setting done more c known = ap (λ o. option_map_or (λ (d : Call). log_message setting.ecu d.item) o []) (found_later done more c known.found)

framed_now : (setting : Setting) (done : List Mark) (c : Call) → Known done c → HasItsFrame setting done c
framed_now setting done c known = ap (λ o. option_map_or (λ (d : Call). log_message setting.ecu d.item) o []) known.found

pub frames_now : (setting : Setting) (done : List Mark) → AreFounded setting [] done → AllByRecursion (HasItsFrame setting done) (filter_map call_of done)
frames_now setting done founded = all_map (Known done) (HasItsFrame setting done) (framed_now setting done) (calls done) (known_calls done (all_known setting done founded))

pub frames_later : (setting : Setting) (done more : List Mark) → AreFounded setting [] done → AllByRecursion (HasItsFrame setting (done ++ more)) (filter_map call_of done)
frames_later setting done more founded =
    all_map (Known done) (HasItsFrame setting (done ++ more)) (framed setting done more) (calls done) (known_calls done (all_known setting done founded))

-- what a ring took, of a mark
abbrev Taken : (Call → Type 0) → Pushed → Type 0
Taken P what = IfSome (call_in what) P

pushed_call : (P : Call → Type 0) (app : ℕ) (mark : Mark) (what : Pushed) → pushed_of app mark ≡ Some what → IfSome (call_of mark) P → Taken P what
pushed_call P app (Queued c) what e holds = by_test (eqb c.item.app app) e where
  by_test : (b : Bool) → cond b (Some (OfCall c)) None ≡ Some what → Taken P what
  by_test true e = subst (Taken P) (same_pushed (OfCall c) what e) holds
  by_test false e = absurd cc
pushed_call P app (Announced claim) what e holds = by_test (eqb claim.app app) e where
  by_test : (b : Bool) → cond b (Some (OfClaim claim)) None ≡ Some what → Taken P what
  by_test true e = subst (Taken P) (same_pushed (OfClaim claim) what e) tt
  by_test false e = absurd cc
pushed_call P app _ what e holds = absurd cc

-- what holds of each call holds of the call of each mark, and so of those that a ring took
marks_of_calls : (P : Call → Type 0) (done : List Mark) → AllByRecursion P (calls done) → AllByRecursion (λ mark. IfSome (call_of mark) P) done
marks_of_calls P [] all = tt
marks_of_calls P (mark ∷ done) all = by_call (call_of mark) all (marks_of_calls P done) where
  by_call : (o : Option Call) → AllByRecursion P (cons_option o (calls done)) → (AllByRecursion P (calls done) → AllByRecursion (λ m. IfSome (call_of m) P) done) →
      IfSome o P × AllByRecursion (λ m. IfSome (call_of m) P) done
  by_call None all later = (tt, later all)
  by_call (Some c) all later = (all.0, later all.1)

all_pushed : (P : Call → Type 0) (app : ℕ) (done : List Mark) → AllByRecursion P (calls done) → AllByRecursion (Taken P) (pushes app done)
all_pushed P app done all = all_given (Taken P) (λ mark. IfSome (call_of mark) P) (pushed_of app) (pushed_call P app) done (marks_of_calls P done all)

taken_call : (P : Call → Type 0) (app : ℕ) (done : List Mark) → AllByRecursion P (calls done) → (place : ℕ) (c : Call) → slice_get (pushes app done) place ≡ Some (OfCall c) → P c
taken_call P app done all place c e = all_at (Taken P) (pushes app done) place (OfCall c) (all_pushed P app done all) e

pub given_in_rings : (ecu : List ℕ) (frame : ℕ → ℕ → List ℕ) (done : List Mark) → AllByRecursion (λ (c : Call). frame c.item.writer c.item.call ≡ log_message ecu c.item) (filter_map call_of done) →
    (app place : ℕ) (c : Call) → slice_get (pushes app done) place ≡ Some (OfCall c) → frame c.item.writer c.item.call ≡ log_message ecu c.item
given_in_rings ecu frame done all = λ app place c e. taken_call (λ (d : Call). frame d.item.writer d.item.call ≡ log_message ecu d.item) app done all place c e

pub frame_of_pushed : (setting : Setting) (done more : List Mark) → AreFounded setting [] done → (app place : ℕ) (c : Call) → slice_get (pushes app done) place ≡ Some (OfCall c) →
    HasItsFrame setting (done ++ more) c
frame_of_pushed setting done more founded app place c e = taken_call (HasItsFrame setting (done ++ more)) app done (frames_later setting done more founded) place c e

pub frame_of_taken : (setting : Setting) (done more : List Mark) → AreFounded setting [] done → (app writer number : ℕ) (next : IsNext app writer number done) →
    frame_of_call setting (done ++ more) writer number ≡ log_message setting.ecu next.call.item
frame_of_taken setting done more founded app writer number next =
    sym (ap (λ (w : ℕ). frame_of_call setting (done ++ more) w next.call.item.call) next.writer_is ∙ ap (frame_of_call setting (done ++ more) writer) next.number_is)
    ∙ frame_of_pushed setting done more founded app (taken app done) next.call next.first
