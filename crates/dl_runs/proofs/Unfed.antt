-- What is asked of a run's marks but for the bytes that came: it does not see them.
use Rattle.std.proofs.Common.{◌≡◌, ℕ, ◌+◌, ◌-◌, Bool, true, false, cond, eqb, leb, List, [], ◌∷◌, ◌++◌, length, Option, Some, None, refl, sym, ap, ◌∙◌, arith}
use Rattle.std.specs.Prelude.{map, count_by, slice_get, unwrap_or, position}
use Rattle.std.specs.List.{filter, filter_map, cons_option, after_last, range_with_len, AllByRecursion}
use Rattle.std.specs.Option.{option_map, option_map_or, option_and_then, option_or}
use Rattle.std.specs.Str.{bytes_eq}
use Rattle.std.proofs.lemmas.List.{append-nil}
use Rattle.std.proofs.lemmas.List.Elements.{filter-append}
use Rattle.dl_lemmas.proofs.Lists.{by_end}
use Rattle.dl_bytes.specs.Claim.{Claimed}
use Rattle.dl_bytes.specs.declared.moment.Moment.{Moment}
use Rattle.dl_script_model.specs.declared.line.AppLine.{AppLine}
use Rattle.dl_script_model.specs.declared.line.ContextLine.{ContextLine}
use Rattle.dl_model.specs.Along.{last_that}
use Rattle.dl_script_model.specs.Marks.{Mark, Fed, Heard, event_of, journal, record_of, app_of, apps, number_of, context_of, contexts_of, place_of, claim_of, claims_of, claims_on, announced_of, announced_by, to_announce, unannounced, claimed_place, named_place, next_place, writer_of, writers, writer_numbers, app_of_writer, call_of, is_step_of, is_load, is_passed, calls_of, passed_of, passed, refused, to_push, to_count, Pushed, pushed_of, pushes, queued_of, queued, is_taken_of, taken, capacity_of, held_by, is_full, is_counted_of, is_lost_of, pending, clocked, moment_at, moment, waits_of, is_later, is_answer, is_injected, is_handed, injections}
use Rattle.dl_script_model.specs.Steps.{Act, in_sequence, for_some, when}
use Rattle.dl_model.proofs.Lists.{last_that-one, after_last-one, count_by-append}

-- all but the bytes that came
abbrev pub is_other : Mark → Bool
is_other (Fed client bytes) = false
is_other (Heard channel bytes) = false
is_other _ = true

abbrev pub unfed : List Mark → List Mark
unfed done = filter is_other done

-- what is asked of marks is the same without them
abbrev pub Blind : {A : Type 0} → (List Mark → A) → Type 0
Blind W = (done : List Mark) → W done ≡ W (unfed done)

pub unfed-append : (xs ys : List Mark) → unfed (xs ++ ys) ≡ unfed xs ++ unfed ys
unfed-append xs ys = filter-append is_other xs ys

pub unfed_twice : (done : List Mark) → unfed (unfed done) ≡ unfed done
unfed_twice [] = refl
unfed_twice (mark ∷ done) = by_test (is_other mark) refl (unfed_twice done) where
  by_test : (b : Bool) → is_other mark ≡ b → unfed (unfed done) ≡ unfed done → unfed (cond b (mark ∷ unfed done) (unfed done)) ≡ cond b (mark ∷ unfed done) (unfed done)
  by_test true e later = ap (λ (t : Bool). cond t (mark ∷ unfed (unfed done)) (unfed (unfed done))) e ∙ ap (λ (ms : List Mark). mark ∷ ms) later
  by_test false e later = later

-- ---- one mark more

-- a word that goes on by what a mark gives, and goes on by nothing where bytes come, is blind
pub goes_on_blind : {A : Type 0} (W : List Mark → A) (next : A → Mark → A) → ((done : List Mark) (mark : Mark) → W (done ++ mark ∷ []) ≡ next (W done) mark) → ((x : A) (mark : Mark) → is_other mark ≡ false → next x mark ≡ x) → Blind W
goes_on_blind W next more still = by_end (λ done. W done ≡ W (unfed done)) refl (λ done mark is. by_test done mark (is_other mark) refl is) where
  by_test : (done : List Mark) (mark : Mark) (b : Bool) → is_other mark ≡ b → W done ≡ W (unfed done) → W (done ++ mark ∷ []) ≡ W (unfed (done ++ mark ∷ []))
  by_test done mark true e is =
      let all : unfed (done ++ mark ∷ []) ≡ unfed done ++ mark ∷ [] = unfed-append done (mark ∷ []) ∙ ap (λ (t : Bool). unfed done ++ cond t (mark ∷ []) []) e in
      more done mark ∙ ap (λ x. next x mark) is ∙ sym (more (unfed done) mark) ∙ ap W (sym all)
  by_test done mark false e is =
      let all : unfed (done ++ mark ∷ []) ≡ unfed done = unfed-append done (mark ∷ []) ∙ ap (λ (t : Bool). unfed done ++ cond t (mark ∷ []) []) e ∙ append-nil (unfed done) in
      more done mark ∙ still (W done) mark e ∙ is ∙ ap W (sym all)

-- ---- what the marks give, the steps, counts

pub gives_blind : {B : Type 0} (f : Mark → Option B) → ((mark : Mark) → is_other mark ≡ false → f mark ≡ None) → Blind (filter_map f)
gives_blind f none [] = refl
gives_blind {B = B} f none (mark ∷ done) = by_test (is_other mark) refl (gives_blind f none done) where
  by_test : (b : Bool) → is_other mark ≡ b → filter_map f done ≡ filter_map f (unfed done) → cons_option (f mark) (filter_map f done) ≡ filter_map f (cond b (mark ∷ unfed done) (unfed done))
  by_test true e later = ap (cons_option (f mark)) later
  by_test false e later = ap (λ (o : Option B). cons_option o (filter_map f done)) (none mark e) ∙ later

pub kept_blind : (p : Mark → Bool) → ((mark : Mark) → is_other mark ≡ false → p mark ≡ false) → Blind (filter p)
kept_blind p none [] = refl
kept_blind p none (mark ∷ done) = by_test (is_other mark) refl (kept_blind p none done) where
  by_test : (b : Bool) → is_other mark ≡ b → filter p done ≡ filter p (unfed done) → cond (p mark) (mark ∷ filter p done) (filter p done) ≡ filter p (cond b (mark ∷ unfed done) (unfed done))
  by_test true e later = ap (λ (ms : List Mark). cond (p mark) (mark ∷ ms) ms) later
  by_test false e later = ap (λ (t : Bool). cond t (mark ∷ filter p done) (filter p done)) (none mark e) ∙ later

pub counts_blind : (p : Mark → Bool) → ((mark : Mark) → is_other mark ≡ false → p mark ≡ false) → Blind (count_by p)
counts_blind p none = goes_on_blind (count_by p) (λ n mark. n + cond (p mark) 1 0) (λ done mark. omega (arith, count_by-append p done (mark ∷ [])))
    (λ n mark e. let zero_more : ◌≡◌ {A = ℕ} (cond (p mark) 1 0) 0 = ap (λ (b : Bool). cond b 1 0) (none mark e) in omega (arith, zero_more))

pub last_blind : (p : Mark → Bool) → ((mark : Mark) → is_other mark ≡ false → p mark ≡ false) → Blind (last_that p)
last_blind p none = goes_on_blind (last_that p) (λ o mark. cond (p mark) (Some mark) o) (λ done mark. last_that-one p done mark)
    (λ o mark e. ap (λ (b : Bool). cond b (Some mark) o) (none mark e))

-- ---- the words that steps ask

pub journal_blind : Blind journal
journal_blind = gives_blind event_of none where
  none : (mark : Mark) → is_other mark ≡ false → event_of mark ≡ None
  none (Fed client bytes) e = refl
  none (Heard channel bytes) e = refl
  none _ e = absurd cc

pub records_blind : Blind (filter_map record_of)
records_blind = gives_blind record_of none where
  none : (mark : Mark) → is_other mark ≡ false → record_of mark ≡ None
  none (Fed client bytes) e = refl
  none (Heard channel bytes) e = refl
  none _ e = absurd cc

pub calls_blind : Blind (filter_map call_of)
calls_blind = gives_blind call_of none where
  none : (mark : Mark) → is_other mark ≡ false → call_of mark ≡ None
  none (Fed client bytes) e = refl
  none (Heard channel bytes) e = refl
  none _ e = absurd cc

pub apps_blind : Blind apps
apps_blind = gives_blind app_of none where
  none : (mark : Mark) → is_other mark ≡ false → app_of mark ≡ None
  none (Fed client bytes) e = refl
  none (Heard channel bytes) e = refl
  none _ e = absurd cc

contexts_blind : Blind (filter_map context_of)
contexts_blind = gives_blind context_of none where
  none : (mark : Mark) → is_other mark ≡ false → context_of mark ≡ None
  none (Fed client bytes) e = refl
  none (Heard channel bytes) e = refl
  none _ e = absurd cc

pub writers_blind : Blind writers
writers_blind = gives_blind writer_of none where
  none : (mark : Mark) → is_other mark ≡ false → writer_of mark ≡ None
  none (Fed client bytes) e = refl
  none (Heard channel bytes) e = refl
  none _ e = absurd cc

clocks_blind : Blind (filter_map clocked)
clocks_blind = gives_blind clocked none where
  none : (mark : Mark) → is_other mark ≡ false → clocked mark ≡ None
  none (Fed client bytes) e = refl
  none (Heard channel bytes) e = refl
  none _ e = absurd cc

waits_blind : Blind (filter_map waits_of)
waits_blind = gives_blind waits_of none where
  none : (mark : Mark) → is_other mark ≡ false → waits_of mark ≡ None
  none (Fed client bytes) e = refl
  none (Heard channel bytes) e = refl
  none _ e = absurd cc

pub pushes_blind : (app : ℕ) → Blind (pushes app)
pushes_blind app = gives_blind (pushed_of app) none where
  none : (mark : Mark) → is_other mark ≡ false → pushed_of app mark ≡ None
  none (Fed client bytes) e = refl
  none (Heard channel bytes) e = refl
  none _ e = absurd cc

made_blind : Blind (filter_map claim_of)
made_blind = gives_blind claim_of none where
  none : (mark : Mark) → is_other mark ≡ false → claim_of mark ≡ None
  none (Fed client bytes) e = refl
  none (Heard channel bytes) e = refl
  none _ e = absurd cc

announced_blind : Blind (filter_map announced_of)
announced_blind = gives_blind announced_of none where
  none : (mark : Mark) → is_other mark ≡ false → announced_of mark ≡ None
  none (Fed client bytes) e = refl
  none (Heard channel bytes) e = refl
  none _ e = absurd cc

claims_of_blind : (writer : ℕ) → Blind (claims_of writer)
claims_of_blind writer done = ap (filter (λ (claim : Claimed). eqb claim.writer writer)) (made_blind done)

announced_by_blind : (writer : ℕ) → Blind (announced_by writer)
announced_by_blind writer done = ap (filter (λ (claim : Claimed). eqb claim.writer writer)) (announced_blind done)

pub to_announce_blind : (writer : ℕ) → Blind (to_announce writer)
to_announce_blind writer done =
    ap (λ (cs : List Claimed). slice_get cs (length (announced_by writer done))) (claims_of_blind writer done)
    ∙ ap (λ (cs : List Claimed). slice_get (claims_of writer (unfed done)) (length cs)) (announced_by_blind writer done)

pub unannounced_blind : (writer : ℕ) → Blind (unannounced writer)
unannounced_blind writer done =
    ap (λ (cs : List Claimed). length cs - length (announced_by writer done)) (claims_of_blind writer done)
    ∙ ap (λ (cs : List Claimed). length (claims_of writer (unfed done)) - length cs) (announced_by_blind writer done)

no_step : (writer : ℕ) (mark : Mark) → is_other mark ≡ false → is_step_of writer mark ≡ false
no_step writer (Fed client bytes) e = refl
no_step writer (Heard channel bytes) e = refl
no_step writer _ e = absurd cc

pub calls_of_blind : (writer : ℕ) → Blind (calls_of writer)
calls_of_blind writer done = ap (count_by is_load) (kept_blind (is_step_of writer) (no_step writer) done)

pub passed_of_blind : (writer : ℕ) → Blind (passed_of writer)
passed_of_blind writer done = ap (count_by is_passed) (kept_blind (is_step_of writer) (no_step writer) done)

pub to_push_blind : (writer : ℕ) → Blind (to_push writer)
to_push_blind writer done = ap (option_and_then passed) (last_blind (is_step_of writer) (no_step writer) done)

pub to_count_blind : (writer : ℕ) → Blind (to_count writer)
to_count_blind writer done = ap (option_and_then refused) (last_blind (is_step_of writer) (no_step writer) done)

pub taken_blind : (app : ℕ) → Blind (taken app)
taken_blind app done = ap (count_by (is_taken_of app)) (journal_blind done)

pub held_blind : (app : ℕ) → Blind (held_by app)
held_blind app done = ap (λ (ps : List Pushed). length ps - taken app done) (pushes_blind app done) ∙ ap (λ (n : ℕ). length (pushes app (unfed done)) - n) (taken_blind app done)

capacity_blind : (app : ℕ) → Blind (λ done. capacity_of done app)
capacity_blind app done = ap (λ (lines : List AppLine). option_map_or (λ (line : AppLine). line.capacity) (slice_get lines app) 0) (apps_blind done)

pub is_full_blind : (app : ℕ) → Blind (is_full app)
is_full_blind app done = ap (λ (n : ℕ). leb n (held_by app done)) (capacity_blind app done) ∙ ap (leb (capacity_of (unfed done) app)) (held_blind app done)

pub pending_blind : (app : ℕ) → Blind (pending app)
pending_blind app = goes_on_blind (pending app) (λ n mark. cond (is_lost_of app mark) 0 (n + cond (is_counted_of app mark) 1 0)) more still where
  by_test : (done : List Mark) (mark : Mark) (b : Bool) → count_by (is_counted_of app) (cond b [] (after_last (is_lost_of app) done ++ mark ∷ [])) ≡ cond b 0 (pending app done + cond (is_counted_of app mark) 1 0)
  by_test done mark true = refl
  by_test done mark false = omega (arith, count_by-append (is_counted_of app) (after_last (is_lost_of app) done) (mark ∷ []))

  more : (done : List Mark) (mark : Mark) → pending app (done ++ mark ∷ []) ≡ cond (is_lost_of app mark) 0 (pending app done + cond (is_counted_of app mark) 1 0)
  more done mark = ap (count_by (is_counted_of app)) (after_last-one (is_lost_of app) done mark) ∙ by_test done mark (is_lost_of app mark)

  still : (n : ℕ) (mark : Mark) → is_other mark ≡ false → cond (is_lost_of app mark) 0 (n + cond (is_counted_of app mark) 1 0) ≡ n
  still n (Fed client bytes) e = omega arith
  still n (Heard channel bytes) e = omega arith
  still n _ e = absurd cc

pub moment_blind : Blind moment
moment_blind done = ap (λ (ms : List Moment). unwrap_or (last_that (λ _. true) ms) (moment_at 0 0)) (clocks_blind done)

pub is_later_blind : Blind is_later
is_later_blind done = ap (λ (bs : List Bool). unwrap_or (last_that (λ _. true) bs) false) (waits_blind done)

pub answers_blind : Blind (count_by is_answer)
answers_blind = counts_blind is_answer none where
  none : (mark : Mark) → is_other mark ≡ false → is_answer mark ≡ false
  none (Fed client bytes) e = refl
  none (Heard channel bytes) e = refl
  none _ e = absurd cc

injected_blind : (app : ℕ) → Blind (count_by (is_injected app))
injected_blind app = counts_blind (is_injected app) none where
  none : (mark : Mark) → is_other mark ≡ false → is_injected app mark ≡ false
  none (Fed client bytes) e = refl
  none (Heard channel bytes) e = refl
  none _ e = absurd cc

handed_blind : (app : ℕ) → Blind (count_by (is_handed app))
handed_blind app = counts_blind (is_handed app) none where
  none : (mark : Mark) → is_other mark ≡ false → is_handed app mark ≡ false
  none (Fed client bytes) e = refl
  none (Heard channel bytes) e = refl
  none _ e = absurd cc

pub injections_blind : (app : ℕ) → Blind (injections app)
injections_blind app done = ap (λ (n : ℕ). n - count_by (is_handed app) done) (injected_blind app done) ∙ ap (λ (n : ℕ). count_by (is_injected app) (unfed done) - n) (handed_blind app done)

pub number_blind : (apid : List ℕ) → Blind (number_of apid)
number_blind apid done = ap (position (λ (app : AppLine). bytes_eq app.apid apid)) (apps_blind done)

pub place_blind : (apid ctid : List ℕ) → Blind (place_of apid ctid)
place_blind apid ctid done =
    ap (λ (cs : List ContextLine). position (λ (context : ContextLine). bytes_eq context.ctid ctid) (filter (λ (context : ContextLine). bytes_eq context.apid apid) cs)) (contexts_blind done)

pub named_place_blind : (writer : ℕ) (apid ctid : List ℕ) → Blind (named_place writer apid ctid)
named_place_blind writer apid ctid done =
    ap (λ (cs : List Claimed). option_or (option_map (λ (claim : Claimed). claim.place) (last_that (λ (claim : Claimed). bytes_eq claim.ctid ctid) cs)) (place_of apid ctid done)) (claims_of_blind writer done)
    ∙ ap (option_or (claimed_place writer ctid (unfed done))) (place_blind apid ctid done)

pub next_place_blind : (apid : List ℕ) (app : ℕ) → Blind (next_place apid app)
next_place_blind apid app done =
    ap (λ (cs : List ContextLine). length (filter (λ (context : ContextLine). bytes_eq context.apid apid) cs) + length (claims_on app done)) (contexts_blind done)
    ∙ ap (λ (cs : List Claimed). length (contexts_of apid (unfed done)) + length (filter (λ (claim : Claimed). eqb claim.app app) cs)) (made_blind done)

pub writer_numbers_blind : Blind writer_numbers
writer_numbers_blind done = ap (λ (ws : List (List ℕ)). range_with_len 1 (length ws)) (writers_blind done)

pub app_of_writer_blind : (writer : ℕ) → Blind (app_of_writer writer)
app_of_writer_blind writer done = ap (λ (ws : List (List ℕ)). cond (eqb writer 0) None (slice_get ws (writer - 1))) (writers_blind done)

-- ---- acts

pub some_same : {A : Type 0} (o other : Option A) (act act' : A → Act) (done done' : List Mark) → o ≡ other → ((x : A) → act x done ≡ act' x done') → for_some o act done ≡ for_some other act' done'
some_same {A = A} o other act act' done done' same all = ap (λ o. for_some o act done) same ∙ by_option other where
  by_option : (o : Option A) → for_some o act done ≡ for_some o act' done'
  by_option None = refl
  by_option (Some x) = all x

pub when_same : (b other : Bool) (act act' : Act) (done done' : List Mark) → b ≡ other → (b ≡ true → act done ≡ act' done') → when b act done ≡ when other act' done'
when_same true other act act' done done' same all = all refl ∙ ap (λ (b : Bool). when b act' done') same
when_same false other act act' done done' same all = ap (λ (b : Bool). when b act' done') same

-- a word of more marks, where the word is blind and the marks are the same without their bytes
pub blind_append : {A : Type 0} (W : List Mark → A) → Blind W → (done xs ys : List Mark) → unfed xs ≡ unfed ys → W (done ++ xs) ≡ W (unfed done ++ ys)
blind_append W blind done xs ys same =
    let left : unfed (done ++ xs) ≡ unfed done ++ unfed ys = unfed-append done xs ∙ ap (λ (ms : List Mark). unfed done ++ ms) same in
    let right : unfed (unfed done ++ ys) ≡ unfed done ++ unfed ys = unfed-append (unfed done) ys ∙ ap (λ (ms : List Mark). ms ++ unfed ys) (unfed_twice done) in
    blind (done ++ xs) ∙ ap W (left ∙ sym right) ∙ sym (blind (unfed done ++ ys))

pub turns_blind : (acts : List Act) → AllByRecursion (λ act. Blind act) acts → Blind (in_sequence acts)
turns_blind [] all done = refl
turns_blind (act ∷ acts) all done =
    ap (λ (ms : List Mark). act done ++ ms) (blind_append (in_sequence acts) (turns_blind acts all.1) done (act done) (act (unfed done)) (ap unfed (all.0 done)))
    ∙ ap (λ (ms : List Mark). ms ++ in_sequence acts (unfed done ++ act (unfed done))) (all.0 done)

pub each_blind : {A : Type 0} (f : A → Act) → ((x : A) → Blind (f x)) → (xs : List A) → AllByRecursion (λ act. Blind act) (map f xs)
each_blind f all [] = tt
each_blind f all (x ∷ xs) = (all x, each_blind f all xs)
