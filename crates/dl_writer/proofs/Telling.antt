-- The records and the claims of a whole book go on telling all that its writer did, with one call more and with claims that the
-- ring took.
use Rattle.std.proofs.Common.{◌≡◌, ℕ, ◌+◌, ◌%◌, ◌≤◌, Bool, true, false, cond, Result, Ok, Err, List, [], ◌∷◌, ◌++◌, length, refl, sym, ap, subst, ◌∙◌, length-append, arith}
use Rattle.std.specs.Prelude.{map, not, is_ok, IsOk, All, Contains}
use Rattle.std.specs.List.{range_with_len, AllByRecursion}
use Rattle.std.proofs.lemmas.List.{append-nil, map-append, length-map}
use Rattle.std.proofs.lemmas.List.Elements.{filter-append, All-push, All-weaker, All-contains, Contains-append_left, Contains-append_right, recursion_from_All}
use Rattle.dl_lemmas.proofs.Lists.{range-one}
use Rattle.dl_bytes.specs.Claim.{Claimed}
use Rattle.dl_bytes.specs.Context.{Context}
use Rattle.dl_bytes.specs.Level.{passes}
use Rattle.dl_bytes.specs.Payload.{Arguments}
use Rattle.dl_bytes.specs.declared.item.Item.{Item}
use Rattle.dl_bytes.specs.declared.level.Severity.{Severity}
use Rattle.dl_events.specs.declared.record.Answer.{Answer}
use Rattle.dl_events.specs.declared.record.Answer.TheVariants as answer
use Rattle.dl_events.specs.declared.record.Record.{Record}
use Rattle.dl_model.specs.Accounts.{with_answer, AreNumbered, AreCounted, IsNoOlder, NeverFall}
use Rattle.dl_model.specs.Report.{is_answer}
use Rattle.dl_cells.specs.declared.level_history.Read.{Read}
use Rattle.dl_cells.specs.LevelHistory.{NoneAbove}
use Rattle.dl_ring.specs.Items.{calls_in, claims_in}
use Rattle.dl_ring.specs.declared.item.RingItem.{RingItem}
use Rattle.dl_ring.specs.declared.item.RingItem.TheVariants.{Log}
use Rattle.dl_ring.proofs.Items.{calls_in-append}
use Rattle.dl_writer.specs.Calls.{Tells, after, passed, pushed_after, refusals_after, counted_after, read_of}
use Rattle.dl_writer.specs.Records.{IsOf, TellAll}
use Rattle.dl_ring.specs.InjectionState.{TakeState}
use Rattle.dl_writer.specs.State.{WriterState}
use Rattle.dl_writer.proofs.Claims.{claims_in-call}

-- what holds of each, with one more
all-more : {X : Type 0} (P : X → Type 0) (xs : List X) (x : X) → AllByRecursion P xs → P x → AllByRecursion P (xs ++ x ∷ [])
all-more P [] x h p = (p, tt)
all-more P (y ∷ ys) x h p = (h.0, all-more P ys x h.1 p)

numbered-more : (rs : List Record) (r : Record) → AreNumbered rs → r.item.call ≡ length rs + 1 → AreNumbered (rs ++ r ∷ [])
numbered-more rs r h e =
    let last : r.item.call ≡ 1 + length rs = omega (arith, e) in
    map-append (λ (s : Record). s.item.call) rs (r ∷ []) ∙ ap (λ (xs : List ℕ). xs ++ r.item.call ∷ []) h
    ∙ ap (λ (x : ℕ). range_with_len 1 (length rs) ++ x ∷ []) last
    ∙ sym (range-one 1 (length rs)) ∙ ap (range_with_len 1) (sym (length-append rs (r ∷ [])))

-- one record more stands at the end of those with its answer
with_answer-more : (what : Answer) (rs : List Record) (r : Record) → with_answer what (rs ++ r ∷ []) ≡ with_answer what rs ++ cond (is_answer what r.answer) (r ∷ []) []
with_answer-more what rs r = filter-append (λ (s : Record). is_answer what s.answer) rs (r ∷ [])

abbrev one_if : Bool → ℕ
one_if b = cond b 1 0

length-with_answer-cons : (what : Answer) (r : Record) (rs : List Record) → length (with_answer what (r ∷ rs)) ≡ one_if (is_answer what r.answer) + length (with_answer what rs)
length-with_answer-cons what r rs = by_test (is_answer what r.answer) where
  by_test : (b : Bool) → length (cond b (r ∷ with_answer what rs) (with_answer what rs)) ≡ one_if b + length (with_answer what rs)
  by_test true = omega arith
  by_test false = omega arith

-- the message counters count on
counted-more : (rs : List Record) (before : ℕ) (r : Record) → AreCounted before rs
    → r.item.mcnt ≡ (before + length (with_answer answer.Queued rs) + length (with_answer answer.Lost rs)) % 256 → AreCounted before (rs ++ r ∷ [])
counted-more [] before r h e =
    let none : before + 0 + 0 ≡ before = omega arith in
    (e ∙ ap (λ n. n % 256) none, tt)
counted-more (s ∷ rs) before r h e =
    let queued = length-with_answer-cons answer.Queued s rs in
    let lost = length-with_answer-cons answer.Lost s rs in (
      h.0,
      by_answer (counted-more rs) s.answer h.1 (e ∙ ap (λ n. (before + n + length (with_answer answer.Lost (s ∷ rs))) % 256) queued
          ∙ ap (λ n. (before + (one_if (is_answer answer.Queued s.answer) + length (with_answer answer.Queued rs)) + n) % 256) lost),
    ) where
      by_answer : ((before : ℕ) (r : Record) → AreCounted before rs → r.item.mcnt ≡ (before + length (with_answer answer.Queued rs) + length (with_answer answer.Lost rs)) % 256 → AreCounted before (rs ++ r ∷ []))
          → (a : Answer) → AreCounted (cond (is_answer answer.Filtered a) before (before + 1)) rs
          → r.item.mcnt ≡ (before + (one_if (is_answer answer.Queued a) + length (with_answer answer.Queued rs)) + (one_if (is_answer answer.Lost a) + length (with_answer answer.Lost rs))) % 256
          → AreCounted (cond (is_answer answer.Filtered a) before (before + 1)) (rs ++ r ∷ [])
      by_answer later answer.Filtered h e =
          let same : before + (0 + length (with_answer answer.Queued rs)) + (0 + length (with_answer answer.Lost rs)) ≡ before + length (with_answer answer.Queued rs) + length (with_answer answer.Lost rs) = omega arith in
          later before r h (e ∙ ap (λ n. n % 256) same)
      by_answer later answer.Queued h e =
          let same : before + (1 + length (with_answer answer.Queued rs)) + (0 + length (with_answer answer.Lost rs)) ≡ before + 1 + length (with_answer answer.Queued rs) + length (with_answer answer.Lost rs) = omega arith in
          later (before + 1) r h (e ∙ ap (λ n. n % 256) same)
      by_answer later answer.Lost h e =
          let same : before + (0 + length (with_answer answer.Queued rs)) + (1 + length (with_answer answer.Lost rs)) ≡ before + 1 + length (with_answer answer.Queued rs) + length (with_answer answer.Lost rs) = omega arith in
          later (before + 1) r h (e ∙ ap (λ n. n % 256) same)

-- versions go on not falling
never_fall-more : (rs : List Record) (r : Record) → NeverFall rs → AllByRecursion (λ (s : Record). IsNoOlder s r) rs → NeverFall (rs ++ r ∷ [])
never_fall-more [] r h older = (tt, tt)
never_fall-more (s ∷ rs) r h older = (all-more (IsNoOlder s) rs r h.0 older.0, never_fall-more rs r h.1 older.1)

pushed-more : (a : Answer) (r : Record) (pushed : List RingItem) (queued : List Record) → calls_in pushed ≡ map (λ (s : Record). s.item) queued
    → calls_in (pushed_after a r.item pushed) ≡ map (λ (s : Record). s.item) (queued ++ cond (is_answer answer.Queued a) (r ∷ []) [])
pushed-more answer.Filtered r pushed queued e = e ∙ ap (map (λ (s : Record). s.item)) (sym (append-nil queued))
pushed-more answer.Lost r pushed queued e = e ∙ ap (map (λ (s : Record). s.item)) (sym (append-nil queued))
pushed-more answer.Queued r pushed queued e =
    calls_in-append pushed (Log r.item ∷ []) ∙ ap (λ (items : List Item). items ++ r.item ∷ []) e ∙ sym (map-append (λ (s : Record). s.item) queued (r ∷ []))

-- a call is no claim
pub claims-stay : (a : Answer) (item : Item) (pushed : List RingItem) → claims_in (pushed_after a item pushed) ≡ claims_in pushed
claims-stay answer.Filtered item pushed = refl
claims-stay answer.Lost item pushed = refl
claims-stay answer.Queued item pushed = claims_in-call pushed item

lost-more : (a : Answer) (r : Record) (counted : List ℕ) (lost : List Record) → counted ≡ map (λ (s : Record). s.item.app) lost
    → counted_after a r.item counted ≡ map (λ (s : Record). s.item.app) (lost ++ cond (is_answer answer.Lost a) (r ∷ []) [])
lost-more answer.Filtered r counted lost e = e ∙ ap (map (λ (s : Record). s.item.app)) (sym (append-nil lost))
lost-more answer.Queued r counted lost e = e ∙ ap (map (λ (s : Record). s.item.app)) (sym (append-nil lost))
lost-more answer.Lost r counted lost e = ap (λ (apps : List ℕ). apps ++ r.item.app ∷ []) e ∙ sym (map-append (λ (s : Record). s.item.app) lost (r ∷ []))

refused-more : (a : Answer) (r : Record) (refusals : ℕ) (lost : List Record) → length lost ≤ refusals
    → length (lost ++ cond (is_answer answer.Lost a) (r ∷ []) []) ≤ refusals_after a refusals
refused-more answer.Filtered r refusals lost h = omega (arith, length-append lost (let none : List Record = [] in none))
refused-more answer.Queued r refusals lost h = omega (arith, length-append lost (let none : List Record = [] in none))
refused-more answer.Lost r refusals lost h = omega (arith, length-append lost (r ∷ []))

-- the counter of the next call is how many records passed
counts : (w : WriterState) (rs : List Record) (claims : List Claimed) → TellAll w rs claims → passed w ≡ 0 + length (with_answer answer.Queued rs) + length (with_answer answer.Lost rs)
counts w rs claims h =
    let queued : length (calls_in w.push.pushed) ≡ length (with_answer answer.Queued rs) = ap length h.queued ∙ length-map (with_answer answer.Queued rs) (λ (s : Record). s.item) in
    let lost : length w.losses.counted ≡ length (with_answer answer.Lost rs) = ap length h.lost ∙ length-map (with_answer answer.Lost rs) (λ (s : Record). s.item.app) in
    omega (arith, queued, lost)

-- no record of a slot is newer than a later load
older : (w : WriterState) (rs : List Record) (r : Record) → All (λ (s : Record). Contains w.reader.reads (read_of s)) rs → NoneAbove r.slot r.version w.reader.reads
    → All (λ (s : Record). IsNoOlder s r) rs
older w rs r loaded newest =
    All-weaker (λ (s : Record). Contains w.reader.reads (read_of s)) (λ (s : Record). IsNoOlder s r)
    (λ s there. All-contains (λ (q : Read). q.slot ≡ r.slot → q.version ≤ r.version) w.reader.reads (read_of s) newest there) rs loaded

last_is_there : {X : Type 0} (x : X) → Contains (x ∷ []) x
last_is_there x = (0, omega arith, refl)

-- a whole book goes on telling all
pub told_more : (w : WriterState) (ctx : Context) (severity : Severity) (at : ℕ) (payload : Arguments) (r : Record) (rs : List Record) (claims : List Claimed)
    → length rs ≡ w.calls → TellAll w rs claims → Tells w ctx severity at payload r → TellAll (after w r) (rs ++ r ∷ []) claims
told_more w ctx severity at payload r rs claims whole h tells =
    let call : r.item.call ≡ length rs + 1 = ap (λ (i : Item). i.call) tells.message ∙ ap (λ n. n + 1) (sym whole) in
    let counter : r.item.mcnt ≡ (0 + length (with_answer answer.Queued rs) + length (with_answer answer.Lost rs)) % 256 = ap (λ (i : Item). i.mcnt) tells.message ∙ ap (λ n. n % 256) (counts w rs claims h) in
    let so : is_answer answer.Filtered r.answer ≡ not (passes r.item.severity r.held) = tells.filtered ∙ ap (λ (s : Severity). not (passes s r.held)) (sym (ap (λ (i : Item). i.severity) tells.message)) in
    record {
      own = All-push (IsOf (after w r)) rs r h.own (ap (λ (i : Item). i.app) tells.message, ap (λ (i : Item). i.writer) tells.message);
      numbered = numbered-more rs r h.numbered call;
      counted = counted-more rs 0 r h.counted counter;
      filtered = All-push (λ (s : Record). is_answer answer.Filtered s.answer ≡ not (passes s.item.severity s.held)) rs r h.filtered so;
      loaded = All-push (λ (s : Record). Contains (after w r).reader.reads (read_of s)) rs r
          (All-weaker (λ (s : Record). Contains w.reader.reads (read_of s)) (λ (s : Record). Contains (after w r).reader.reads (read_of s))
          (λ s there. Contains-append_left w.reader.reads (read_of r ∷ []) (read_of s) there) rs h.loaded)
          (Contains-append_right w.reader.reads (read_of r ∷ []) (read_of r) (last_is_there (read_of r)));
      never_fall = never_fall-more rs r h.never_fall (recursion_from_All (λ (s : Record). IsNoOlder s r) rs (older w rs r h.loaded tells.newest));
      queued = pushed-more r.answer r w.push.pushed (with_answer answer.Queued rs) h.queued ∙ ap (map (λ (s : Record). s.item)) (sym (with_answer-more answer.Queued rs r));
      claimed = claims-stay r.answer r.item w.push.pushed ∙ h.claimed;
      lost = lost-more r.answer r w.losses.counted (with_answer answer.Lost rs) h.lost ∙ ap (map (λ (s : Record). s.item.app)) (sym (with_answer-more answer.Lost rs r));
      refused = subst (λ (lost : List Record). length lost ≤ refusals_after r.answer w.push.refusals) (sym (with_answer-more answer.Lost rs r)) (refused-more r.answer r w.push.refusals (with_answer answer.Lost rs) h.refused);
    }

-- a book with these records and claims is whole
abbrev pub Whole : WriterState → List Record → List Claimed → Type 0
Whole w rs claims = (length rs ≡ w.calls) × (length claims ≡ length (claims_in w.push.pushed))

-- what a book knows of its records, with one call more
pub book_told : (w new : WriterState) (ctx : Context) (severity : Severity) (at : ℕ) (payload : Arguments) (r : Record) (rs all : List Record) (claims : List Claimed)
    → new ≡ after w r → all ≡ rs ++ r ∷ [] → Tells w ctx severity at payload r → (Whole w rs claims → TellAll w rs claims) → Whole new all claims → TellAll new all claims
book_told w new ctx severity at payload r rs all claims made kept tells told whole =
    let count : length all ≡ length rs + 1 = ap length kept ∙ length-append rs (r ∷ []) in
    let calls : new.calls ≡ w.calls + 1 = ap (λ (v : WriterState). v.calls) made in
    let was : length rs ≡ w.calls = omega (arith, count, calls, whole.0) in
    let same : claims_in new.push.pushed ≡ claims_in w.push.pushed = ap (λ (v : WriterState). claims_in v.push.pushed) made ∙ claims-stay r.answer r.item w.push.pushed in
    let before : Whole w rs claims = (was, whole.1 ∙ ap length same) in
    subst (λ (v : WriterState). TellAll v all claims) (sym made) (subst (λ (xs : List Record). TellAll (after w r) xs claims) (sym kept) (told_more w ctx severity at payload r rs claims was (told before) tells))

-- no claim is kept that the ring didn't take
pub book_taken : (w new : WriterState) (r : Record) (claims : List Claimed) → new ≡ after w r → length claims ≤ length (claims_in w.push.pushed) → length claims ≤ length (claims_in new.push.pushed)
book_taken w new r claims made few =
    subst (λ n. length claims ≤ n) (sym (ap (λ (v : WriterState). length (claims_in v.push.pushed)) made ∙ ap length (claims-stay r.answer r.item w.push.pushed))) few

-- a whole book stays whole
pub book_whole : (w new : WriterState) (r : Record) (rs all : List Record) (claims : List Claimed) → new ≡ after w r → all ≡ rs ++ r ∷ [] → Whole w rs claims → Whole new all claims
book_whole w new r rs all claims made kept whole =
    let count : length all ≡ length rs + 1 = ap length kept ∙ length-append rs (r ∷ []) in
    let calls : new.calls ≡ w.calls + 1 = ap (λ (v : WriterState). v.calls) made in
    let same : length (claims_in new.push.pushed) ≡ length (claims_in w.push.pushed) = ap (λ (v : WriterState). length (claims_in v.push.pushed)) made ∙ ap length (claims-stay r.answer r.item w.push.pushed) in
    (omega (arith, count, calls, whole.0), whole.1 ∙ sym same)

-- ---- injections

-- the records tell nothing of injections
told_without : (w : WriterState) (injections : TakeState) (rs : List Record) (claims : List Claimed) → TellAll w rs claims → TellAll (record w { injections = injections }) rs claims
told_without w injections rs claims h = record {
  own = h.own;
  numbered = h.numbered;
  counted = h.counted;
  filtered = h.filtered;
  loaded = h.loaded;
  never_fall = h.never_fall;
  queued = h.queued;
  claimed = h.claimed;
  lost = h.lost;
  refused = h.refused;
}

pub told_after_injection : (w new : WriterState) (rs : List Record) (claims : List Claimed) → new ≡ record w { injections = new.injections } → (Whole w rs claims → TellAll w rs claims) → Whole new rs claims → TellAll new rs claims
told_after_injection w new rs claims rest told whole =
    let was : Whole w rs claims = subst (λ (v : WriterState). Whole v rs claims) rest whole in
    subst (λ (v : WriterState). TellAll v rs claims) (sym rest) (told_without w new.injections rs claims (told was))

pub taken_after_injection : (w new : WriterState) (claims : List Claimed) → new ≡ record w { injections = new.injections } → length claims ≤ length (claims_in w.push.pushed) → length claims ≤ length (claims_in new.push.pushed)
taken_after_injection w new claims rest few = subst (λ (v : WriterState). length claims ≤ length (claims_in v.push.pushed)) (sym rest) few
