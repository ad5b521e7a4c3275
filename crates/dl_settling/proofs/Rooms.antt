-- What is left fits: the records of whole books are as many as there may be events of calls and losses, or more; and each claim has a place of its own.
use Rattle.std.proofs.Common.{◌≡◌, ℕ, zero, suc, ◌+◌, ◌-◌, ◌<◌, ◌≤◌, Bool, true, false, cond, eqb, ne_eqb, List, [], ◌∷◌, length, length-append, map, inl, inr, refl, ap, ◌∙◌, arith}
use Rattle.std.specs.Prelude.{All, ◌*◌, min}
use Rattle.std.specs.List.{flat_map}
use Rattle.std.proofs.lemmas.Bool.Decides.{eqb_tells}
use Rattle.std.proofs.lemmas.List.{length-map}
use Rattle.std.proofs.lemmas.List.Elements.{All-head, All-tail}
use Rattle.dl_bytes.specs.Claim.{Claimed}
use Rattle.dl_bytes.specs.declared.item.Item.{Item}
use Rattle.dl_events.specs.declared.record.Record.{Record}
use Rattle.dl_events.specs.declared.record.Answer.{Answer}
use Rattle.dl_events.specs.declared.record.Answer.TheVariants as answer
use Rattle.dl_cells.specs.Losses.{counted_of, reported_of}
use Rattle.dl_cells.proofs.LossSums.{counted-append}
use Rattle.dl_model.specs.Accounts.{with_answer}
use Rattle.dl_model.specs.Report.{is_answer}
use Rattle.dl_ring.specs.Items.{calls_in, claims_in}
use Rattle.dl_cells.specs.Views.{bit, times, total}
use Rattle.dl_writer.specs.Records.{TellAll}
use Rattle.dl_writer.specs.State.{BookState, IsWhole}
use Rattle.dl_account.specs.Books.{books_of, claimed_of, lost_of}
use Rattle.dl_account.specs.Known.{AreClaimed, AreGathered, taken_of}
use Rattle.dl_account.specs.State.{ClosingState}
use Rattle.dl_account.proofs.Accounting.{all_tell}
use Rattle.dl_account.proofs.Apart.{once_there}
use Rattle.dl_taking.specs.Draining.{all_claims_left, all_to_note, calls_pushed, claims_left_from, claims_pushed, closing_took, to_note, to_note_from}
use Rattle.dl_taking.specs.Took.{Took}
use Rattle.dl_taking.proofs.PushedItems.{AreFewer, fewer_taken}
use Rattle.dl_settling.specs.Room.{HasFewClaims, IsFew, claims_told_from, together, told_from}

-- ---- one book

len_if : (b : Bool) (r : Record) (rs : List Record) → length (cond b (r ∷ rs) rs) ≡ cond b 1 0 + length rs
len_if true r rs = omega arith
len_if false r rs = omega arith

one_answer : (a : Answer) → cond (is_answer answer.Queued a) 1 0 + cond (is_answer answer.Lost a) 1 0 ≤ 1
one_answer answer.Filtered = omega arith
one_answer answer.Queued = omega arith
one_answer answer.Lost = omega arith

-- its queued and its lost calls are records
count_two : (rs : List Record) → length (with_answer answer.Queued rs) + length (with_answer answer.Lost rs) ≤ length rs
count_two [] = omega arith
count_two (r ∷ rs) =
    let queued : length (with_answer answer.Queued (r ∷ rs)) ≡ cond (is_answer answer.Queued r.answer) 1 0 + length (with_answer answer.Queued rs) = len_if (is_answer answer.Queued r.answer) r (with_answer answer.Queued rs) in
    let lost : length (with_answer answer.Lost (r ∷ rs)) ≡ cond (is_answer answer.Lost r.answer) 1 0 + length (with_answer answer.Lost rs) = len_if (is_answer answer.Lost r.answer) r (with_answer answer.Lost rs) in
    omega (arith, queued, lost, one_answer r.answer, count_two rs)

-- the calls that its writer pushed and counted
abbrev done_by : BookState → ℕ
done_by b = length (calls_in b.writer.push.pushed) + length b.writer.losses.counted

done_are_records : (b : BookState) → TellAll b.writer b.records b.claims → done_by b ≤ length b.records
done_are_records b tell =
    let pushed : length (calls_in b.writer.push.pushed) ≡ length (with_answer answer.Queued b.records) =
    ap (λ (xs : List Item). length xs) tell.queued ∙ length-map (with_answer answer.Queued b.records) (λ (r : Record). r.item) in
    let counted : length b.writer.losses.counted ≡ length (with_answer answer.Lost b.records) =
    ap (λ (xs : List ℕ). length xs) tell.lost ∙ length-map (with_answer answer.Lost b.records) (λ (r : Record). r.item.app) in
    omega (arith, pushed, counted, count_two b.records)

-- ---- what adds up over applications

-- so much for one application, and nothing for the others
abbrev bucket_from : ℕ → ℕ → ℕ → ℕ → ℕ
bucket_from own size app zero = 0
bucket_from own size app (suc more) = cond (eqb own app) size 0 + bucket_from own size (app + 1) more

bucket_above : (own size app more : ℕ) → own < app → bucket_from own size app more ≡ 0
bucket_above own size app zero above = refl
bucket_above own size app (suc more) above =
    let here : cond (eqb own app) size 0 ≡ 0 = ap (λ (t : Bool). cond t size 0) (ne_eqb own app (λ same. absurd (omega (arith, same, above)))) in
    omega (arith, here, bucket_above own size (app + 1) more (omega (arith, above)))

bucket_few : (own size app more : ℕ) → bucket_from own size app more ≤ size
bucket_few own size app zero = omega arith
bucket_few own size app (suc more) = elim (eqb_tells own app) [
  | inl same ↦
      let here : cond (eqb own app) size 0 ≡ size = ap (λ (t : Bool). cond t size 0) same.0 in
      omega (arith, here, bucket_above own size (app + 1) more (omega (arith, same.1)))
  | inr other ↦
      let here : cond (eqb own app) size 0 ≡ 0 = ap (λ (t : Bool). cond t size 0) other.0 in
      omega (arith, here, bucket_few own size (app + 1) more)
]

-- what was counted of applications is what was counted
abbrev counts_from : List ℕ → ℕ → ℕ → ℕ
counts_from counted app zero = 0
counts_from counted app (suc more) = counted_of app counted + counts_from counted (app + 1) more

no_counts : (app more : ℕ) → counts_from [] app more ≡ 0
no_counts app zero = refl
no_counts app (suc more) = let here : counted_of app [] ≡ 0 = refl in omega (arith, here, no_counts (app + 1) more)

one_count : (x : ℕ) (counted : List ℕ) (app : ℕ) → counted_of app (x ∷ counted) ≡ cond (eqb x app) 1 0 + counted_of app counted
one_count x counted app =
    let here : counted_of app (x ∷ []) ≡ 0 + cond (eqb x app) 1 0 = refl in omega (arith, counted-append app (x ∷ []) counted, here)

count_from : (x : ℕ) (counted : List ℕ) (app more : ℕ) → counts_from (x ∷ counted) app more ≡ bucket_from x 1 app more + counts_from counted app more
count_from x counted app zero = omega arith
count_from x counted app (suc more) = omega (arith, one_count x counted app, count_from x counted (app + 1) more)

counts_few : (counted : List ℕ) (app more : ℕ) → counts_from counted app more ≤ length counted
counts_few [] app more = omega (arith, no_counts app more)
counts_few (x ∷ counted) app more = omega (arith, count_from x counted app more, bucket_few x 1 app more, counts_few counted app more)

-- ---- all books, application by application

-- the calls that the writers of an application pushed, and what was counted of it
abbrev done_of : List BookState → ℕ → ℕ
done_of books app = calls_pushed app books + lost_of app books

abbrev done_from : List BookState → ℕ → ℕ → ℕ
done_from books app zero = 0
done_from books app (suc more) = done_of books app + done_from books (app + 1) more

none_more : (a : ℕ) → a ≡ 0 + a
none_more a = omega arith

split : (f : BookState → ℕ) (b : BookState) (books : List BookState) (t : Bool) → total f (cond t (b ∷ books) books) ≡ cond t (f b) 0 + total f books
split f b books true = refl
split f b books false = none_more (total f books)

-- how many calls the writer of a book pushed
abbrev calls_of : BookState → ℕ
calls_of b = length (calls_in b.writer.push.pushed)

one_book : (b : BookState) (books : List BookState) (app : ℕ)
    → done_of (b ∷ books) app ≡ cond (eqb b.writer.app app) (calls_of b) 0 + counted_of app b.writer.losses.counted + done_of books app
one_book b books app =
    let calls : calls_pushed app (b ∷ books) ≡ cond (eqb b.writer.app app) (calls_of b) 0 + calls_pushed app books = split calls_of b (books_of app books) (eqb b.writer.app app) in
    let lost : lost_of app (b ∷ books) ≡ counted_of app b.writer.losses.counted + lost_of app books = refl in
    omega (arith, calls, lost)

book_from : (b : BookState) (books : List BookState) (app more : ℕ)
    → done_from (b ∷ books) app more ≡ bucket_from b.writer.app (calls_of b) app more + counts_from b.writer.losses.counted app more + done_from books app more
book_from b books app zero = omega arith
book_from b books app (suc more) = omega (arith, one_book b books app, book_from b books (app + 1) more)

none_done : (app more : ℕ) → done_from [] app more ≡ 0
none_done app zero = refl
none_done app (suc more) = let here : done_of [] app ≡ 0 = refl in omega (arith, here, none_done (app + 1) more)

all_few : (books : List BookState) (app more : ℕ) → All (λ b. TellAll b.writer b.records b.claims) books → done_from books app more ≤ together books
all_few [] app more tell = omega (arith, none_done app more)
all_few (b ∷ books) app more tell =
    let one = done_are_records b (All-head (λ (b : BookState). TellAll b.writer b.records b.claims) b books tell) in
    let rest = all_few books app more (All-tail (λ (b : BookState). TellAll b.writer b.records b.claims) b books tell) in
    omega (arith, book_from b books app more, bucket_few b.writer.app (calls_of b) app more, counts_few b.writer.losses.counted app more, one, rest)

-- ---- what is left

-- what is to be noted of an application, with what was taken and reported of it
one_app : (books : List BookState) (took : Took) (app : ℕ) → length (calls_in (took.taken app)) ≤ calls_pushed app books → reported_of app took.reported ≤ lost_of app books
    → to_note books took app + (length (calls_in (took.taken app)) + reported_of app took.reported) ≤ done_of books app
one_app books took app taken reported = elim (eqb_tells (lost_of app books - reported_of app took.reported) 0) [
  | inl none ↦ omega (arith, taken, reported, none.1, ap (min 1) none.1)
  | inr some ↦ omega (arith, taken, reported, some.1, least (lost_of app books - reported_of app took.reported))
] where
  least : (n : ℕ) → min 1 n ≤ 1
  least n = omega arith

apps_from : (books : List BookState) (took : Took) (app more : ℕ)
    → ((n : ℕ) → app ≤ n → n < app + more → (length (calls_in (took.taken n)) ≤ calls_pushed n books) × (reported_of n took.reported ≤ lost_of n books))
    → to_note_from books took app more + told_from took app more ≤ done_from books app more
apps_from books took app zero each = omega arith
apps_from books took app (suc more) each =
    let here = each app (omega arith) (omega arith) in
    let later = apps_from books took (app + 1) more (λ n above below. each n (omega (arith, above)) (omega (arith, below))) in
    omega (arith, one_app books took app here.0 here.1, later)

-- no more was taken of an application than its writers pushed
fewer : (closing : ClosingState) → AreGathered closing → (app : ℕ) → app < length closing.apps → AreFewer closing.books (taken_of closing.handles app) app
fewer closing gathered app within = let ring = gathered.rings app within in fewer_taken app closing.books (taken_of closing.handles app) ring.0 ring.1

pub left_fits : (closing : ClosingState) (noted calls : ℕ) → AreGathered closing → All IsWhole closing.books → together closing.books ≤ calls → IsFew noted (closing_took closing) (length closing.apps)
    → noted + all_to_note closing ≤ calls
left_fits closing noted calls gathered whole few told =
    let tell = all_tell closing.books whole gathered.told in
    let each : (n : ℕ) → 0 ≤ n → n < 0 + length closing.apps → (length (calls_in (taken_of closing.handles n)) ≤ calls_pushed n closing.books) × (reported_of n closing.handles.losses.reported ≤ lost_of n closing.books) =
    λ n above below.
    let within : n < length closing.apps = omega (arith, below) in
    ((fewer closing gathered n within).calls, gathered.losses n within) in
    omega (arith, apps_from closing.books (closing_took closing) 0 (length closing.apps) each, all_few closing.books 0 (length closing.apps) tell, few, told)

-- ---- claims

-- how many claims there are on so many places, from this one on
abbrev on_places : List Claimed → ℕ → ℕ → ℕ
on_places claims place zero = 0
on_places claims place (suc more) = times place (map (λ c. c.place) claims) + on_places claims (place + 1) more

no_places : (place more : ℕ) → on_places [] place more ≡ 0
no_places place zero = refl
no_places place (suc more) = let here : times place [] ≡ 0 = refl in omega (arith, here, no_places (place + 1) more)

one_place : (c : Claimed) (claims : List Claimed) (place : ℕ) → times place (map (λ c. c.place) (c ∷ claims)) ≡ cond (eqb c.place place) 1 0 + times place (map (λ c. c.place) claims)
one_place c claims place = by (eqb c.place place) where
  by : (b : Bool) → bit b + times place (map (λ c. c.place) claims) ≡ cond b 1 0 + times place (map (λ c. c.place) claims)
  by true = refl
  by false = refl

place_from : (c : Claimed) (claims : List Claimed) (place more : ℕ) → on_places (c ∷ claims) place more ≡ bucket_from c.place 1 place more + on_places claims place more
place_from c claims place zero = omega arith
place_from c claims place (suc more) = omega (arith, one_place c claims place, place_from c claims (place + 1) more)

-- one of these places is that of a claim
bucket_there : (own size place more : ℕ) → place ≤ own → own < place + more → bucket_from own size place more ≡ size
bucket_there own size place zero above below = absurd (omega (arith, above, below))
bucket_there own size place (suc more) above below = elim (eqb_tells own place) [
  | inl same ↦
      let here : cond (eqb own place) size 0 ≡ size = ap (λ (t : Bool). cond t size 0) same.0 in
      omega (arith, here, bucket_above own size (place + 1) more (omega (arith, same.1)))
  | inr other ↦
      let here : cond (eqb own place) size 0 ≡ 0 = ap (λ (t : Bool). cond t size 0) other.0 in
      omega (arith, here, bucket_there own size (place + 1) more (omega (arith, above, other.1)) (omega (arith, below)))
]

all_placed : (app : ℕ) (claims : List Claimed) → All (λ c. (c.place < 64) × (c.app ≡ app)) claims → on_places claims 0 64 ≡ length claims
all_placed app [] within = no_places 0 64
all_placed app (c ∷ claims) within =
    let here = All-head (λ (c : Claimed). (c.place < 64) × (c.app ≡ app)) c claims within in
    let rest = all_placed app claims (All-tail (λ (c : Claimed). (c.place < 64) × (c.app ≡ app)) c claims within) in
    omega (arith, place_from c claims 0 64, bucket_there c.place 1 0 64 (omega arith) (omega (arith, here.0)), rest)

places_few : (claims : List Claimed) (place more : ℕ) → ((n : ℕ) → times n (map (λ c. c.place) claims) ≤ 1) → on_places claims place more ≤ more
places_few claims place zero once = omega arith
places_few claims place (suc more) once = omega (arith, once place, places_few claims (place + 1) more once)

flat_long : (books : List BookState) → length (flat_map (λ b. claims_in b.writer.push.pushed) books) ≡ total (λ b. length (claims_in b.writer.push.pushed)) books
flat_long [] = refl
flat_long (b ∷ books) = omega (arith, length-append (claims_in b.writer.push.pushed) (flat_map (λ b. claims_in b.writer.push.pushed) books), flat_long books)

-- an application's writers pushed no more claims than it has places
few_claims : (app : ℕ) (books : List BookState) → AreClaimed app books → claims_pushed app books ≤ 64
few_claims app books are =
    let once = once_there (map (λ (c : Claimed). c.place) (claimed_of app books)) are.apart in
    omega (arith, flat_long (books_of app books), all_placed app (claimed_of app books) are.within, places_few (claimed_of app books) 0 64 once)

claims_from : (books : List BookState) (took : Took) (app more : ℕ)
    → ((n : ℕ) → app ≤ n → n < app + more → (length (claims_in (took.taken n)) ≤ claims_pushed n books) × (claims_pushed n books ≤ 64))
    → claims_left_from books took app more + claims_told_from took app more ≤ 64 * more
claims_from books took app zero each = omega arith
claims_from books took app (suc more) each =
    let here = each app (omega arith) (omega arith) in
    let later = claims_from books took (app + 1) more (λ n above below. each n (omega (arith, above)) (omega (arith, below))) in
    omega (arith, here.0, here.1, later)

pub claims_left_fit : (closing : ClosingState) (claimed : ℕ) → AreGathered closing → length closing.apps ≤ 16 → HasFewClaims claimed (closing_took closing) (length closing.apps)
    → claimed + all_claims_left closing ≤ 1024
claims_left_fit closing claimed gathered few told =
    let each : (n : ℕ) → 0 ≤ n → n < 0 + length closing.apps → (length (claims_in (taken_of closing.handles n)) ≤ claims_pushed n closing.books) × (claims_pushed n closing.books ≤ 64) =
    λ n above below.
    let within : n < length closing.apps = omega (arith, below) in
    ((fewer closing gathered n within).claims, few_claims n closing.books (gathered.claimed n within)) in
    omega (arith, claims_from closing.books (closing_took closing) 0 (length closing.apps) each, few, told)
