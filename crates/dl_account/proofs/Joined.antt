-- What is there once the ends of all writers, and the first ones, are taken back.
use Rattle.std.proofs.Common.{◌≡◌, ◌≢◌, ℕ, zero, suc, ◌+◌, ◌-◌, ◌<◌, ◌==◌, Bool, true, false, inl, inr, List, [], ◌∷◌, ◌++◌, length, length-append, map, get_or, Option, Some, None, slice_get, append_assoc, append-nil, cond, refl, sym, ap, ◌∙◌, subst, arith, eq-eqb, ne_eqb}
use Rattle.std.specs.Prelude.{All, Contains, if◌then◌else◌}
use Rattle.std.specs.List.{range_with_len}
use Rattle.std.specs.Option.{option_map}
use Rattle.std.proofs.lemmas.Bool.{cases_eq}
use Rattle.std.proofs.lemmas.List.{length-map}
use Rattle.std.proofs.lemmas.List.Elements.{All-nil, All-cons, All-head, All-tail, All-weaker, All-contains_itself, Contains-append_left, Contains-append_right}
use Rattle.std.proofs.lemmas.Option.{slice_get-map}
use Rattle.dl_bytes.specs.declared.conf.AppSpec.{AppSpec}
use Rattle.dl_cells.specs.Claims as claims
use Rattle.dl_cells.specs.Claims.{given_of, refused_of}
use Rattle.dl_cells.specs.declared.claimer.Given.{Given}
use Rattle.dl_ring.specs.declared.injection_view.Entry.{Entry}
use Rattle.dl_ring.specs.InjectionState as injections
use Rattle.dl_cells.specs.declared.level_history.Read.{Read}
use Rattle.dl_cells.specs.LevelStates as levels
use Rattle.dl_cells.specs.Losses.{counted_of}
use Rattle.dl_cells.specs.LossStates as losses
use Rattle.dl_ring.specs.declared.view.Sent.{Sent}
use Rattle.dl_ring.specs.State as ring
use Rattle.dl_cells.specs.Views.{bit, times, total, all_shares}
use Rattle.dl_cells.proofs.Totals.{times-append}
use Rattle.dl_writer.specs.State.{BookState, WriterState, numbers}
use Rattle.dl_desk.specs.declared.app_handles.AppHandles.{AppHandles}
use Rattle.dl_desk.specs.declared.app_handles.FirstHandles.{FirstHandles}
use Rattle.dl_desk.specs.DeskInside.{AreFirst, IsDesk, numbers_of}
use Rattle.dl_desk.specs.Handles.{HandlesState, joined_app, with_words}
use Rattle.dl_desk.specs.Lists.{At, changed_at}
use Rattle.dl_desk.specs.Made.{IsMadeWith}
use Rattle.dl_desk.specs.State.{DeskState}
use Rattle.dl_desk.proofs.Making.{is_there}
use Rattle.dl_desk.proofs.Places.{changed_keeps, length-changed_at, map-changed_at, mapped_at, mapped_within}
use Rattle.dl_account.specs.Books.{books_of, lost_of}
use Rattle.dl_account.specs.Joining.{AreBack, FitFirsts, FitsHandles, join_books, join_firsts, join_writer, sent_of}
use Rattle.dl_account.proofs.InOrder.{within}
use Rattle.dl_cells.proofs.LossSums.{counted-append}
use Rattle.dl_lemmas.proofs.Lists.{head_is, tail_is}
use Rattle.dl_cells.proofs.ClaimSums.{given_of-append}

-- ---- what is to be shown

-- the desk, once all is taken back but the last look at the levels
abbrev pub gathered : DeskState → List BookState → HandlesState
gathered desk books = with_words (join_firsts 0 desk.firsts (join_books desk.handles books)) desk.readers desk.counters

-- what a desk and the books of all its writers, in order, are
pub record AreReady (desk : DeskState) (books : List BookState) : Type 0 where
  pub kept : IsDesk desk
  pub made : All (λ b. IsMadeWith desk b.writer) books
  pub numbered : numbers books ≡ range_with_len 1 (length books)
  pub all : length books ≡ length desk.owners

-- what is there of them then
pub record AreJoined (desk : DeskState) (books : List BookState) (s : HandlesState) : Type 0 where
  pub long : length s.apps ≡ length desk.apps
  pub back : (app : ℕ) → At s.apps app (AreBack (books_of app books))
  pub taken : map (λ (e : AppHandles). e.ring.taken) s.apps ≡ map (λ (e : AppHandles). e.ring.taken) desk.handles.apps
  pub empties : map (λ (e : AppHandles). e.ring.empties) s.apps ≡ map (λ (e : AppHandles). e.ring.empties) desk.handles.apps
  pub pushed : map (λ (e : AppHandles). e.queue.pushed) s.apps ≡ map (λ (e : AppHandles). e.queue.pushed) desk.handles.apps
  pub refusals : map (λ (e : AppHandles). e.queue.refusals) s.apps ≡ map (λ (e : AppHandles). e.queue.refusals) desk.handles.apps
  pub first : s.levels.first ≡ desk.handles.levels.first
  pub sets : s.levels.sets ≡ desk.handles.levels.sets
  pub reads : All (λ b. All (Contains s.levels.reads) b.writer.reader.reads) books
  pub shares : s.losses.shares ≡ all_shares
  pub counted : (app : ℕ) → counted_of app s.losses.counted ≡ lost_of app books
  pub reported : s.losses.reported ≡ desk.handles.losses.reported
  pub claimers : s.levels.shares ≡ all_shares
  pub given : (app number : ℕ) → times number (given_of app s.levels.given) ≡ total (λ b. times number (given_of app b.writer.reader.given)) books
  pub many : (app : ℕ) → length (given_of app s.levels.given) ≡ total (λ b. length (given_of app b.writer.reader.given)) books
  pub refused : (app : ℕ) → refused_of app s.levels.refused ≡ total (λ b. refused_of app b.writer.reader.refused) books

-- ---- places

module _ {A : Type 0} where
  get_changed : (place : ℕ) (f : A → A) (xs : List A) → slice_get (changed_at place f xs) place ≡ option_map f (slice_get xs place)
  get_changed place f [] = refl
  get_changed zero f (x ∷ xs) = refl
  get_changed (suc place) f (x ∷ xs) = get_changed place f xs

  get_other : (place other : ℕ) (f : A → A) (xs : List A) → other ≢ place → slice_get (changed_at place f xs) other ≡ slice_get xs other
  get_other place other f [] apart = refl
  get_other zero zero f (x ∷ xs) apart = absurd (apart refl)
  get_other zero (suc other) f (x ∷ xs) apart = refl
  get_other (suc place) zero f (x ∷ xs) apart = refl
  get_other (suc place) (suc other) f (x ∷ xs) apart = get_other place other f xs (λ same. apart (ap suc same))

  pub read_is : (xs : List A) (place : ℕ) (x d : A) → slice_get xs place ≡ Some x → get_or xs place d ≡ x
  read_is [] place x d at = absurd cc
  read_is (y ∷ xs) zero x d at = cc
  read_is (y ∷ xs) (suc place) x d at = read_is xs place x d at

  all_at : (P : A → Type 0) (xs : List A) (place : ℕ) (x : A) → All P xs → slice_get xs place ≡ Some x → P x
  all_at P xs place x all at = subst P (read_is xs place x x at) (all place x (within xs place x at))

  pub same_read : (o : Option A) (x y : A) → o ≡ Some x → o ≡ Some y → x ≡ y
  same_read None x y a b = absurd cc
  same_read (Some z) x y a b = cc

  same_places : (xs ys : List A) → length xs ≡ length ys → ((place : ℕ) → place < length xs → slice_get xs place ≡ slice_get ys place) → xs ≡ ys
  same_places [] [] long each = refl
  same_places [] (y ∷ ys) long each = absurd (omega (arith, long))
  same_places (x ∷ xs) [] long each = absurd (omega (arith, long))
  same_places (x ∷ xs) (y ∷ ys) long each =
      let first : Some x ≡ Some y = each 0 (omega arith) in
      let same : x ≡ y = cc in
      ap (λ z. z ∷ xs) same ∙ ap (λ zs. y ∷ zs) (same_places xs ys (omega (arith, long)) (λ place below. each (suc place) (omega (arith, below))))

-- ---- books, one at a time

fits_still : (s : HandlesState) (w v : WriterState) → FitsHandles s v → FitsHandles (join_writer s w) v
fits_still s w v fits =
    let long = length-changed_at w.app (joined_app w.push w.injections) s.apps in
    record {
      app = omega (arith, fits.app, long);
      ring = changed_keeps (λ (e : AppHandles). v.push.ring ≡ e.ring.ring) w.app v.app (joined_app w.push w.injections) s.apps (λ e same. same) fits.ring;
      queue = changed_keeps (λ (e : AppHandles). v.injections.queue ≡ e.queue.queue) w.app v.app (joined_app w.push w.injections) s.apps (λ e same. same) fits.queue;
      levels = fits.levels;
      claims = fits.claims;
      losses = fits.losses;
    }

pub fit_stays : (s : HandlesState) (b : BookState) (books : List BookState) → All (λ c. FitsHandles s c.writer) (b ∷ books) → All (λ c. FitsHandles (join_writer s b.writer) c.writer) books
fit_stays s b books fit = All-weaker (λ (c : BookState). FitsHandles s c.writer) (λ (c : BookState). FitsHandles (join_writer s b.writer) c.writer)
    (λ c fits. fits_still s b.writer c.writer fits) books (All-tail (λ (c : BookState). FitsHandles s c.writer) b books fit)

length-join_books : (s : HandlesState) (books : List BookState) → length (join_books s books).apps ≡ length s.apps
length-join_books s [] = refl
length-join_books s (b ∷ books) = length-join_books (join_writer s b.writer) books ∙ length-changed_at b.writer.app (joined_app b.writer.push b.writer.injections) s.apps

-- a part of each that no join changes
module _ {B : Type 0} (q : AppHandles → B) (same : (push : ring.PushState) (takes : injections.TakeState) (e : AppHandles) → q (joined_app push takes e) ≡ q e) where
  map-join_books : (s : HandlesState) (books : List BookState) → map q (join_books s books).apps ≡ map q s.apps
  map-join_books s [] = refl
  map-join_books s (b ∷ books) = map-join_books (join_writer s b.writer) books
      ∙ map-changed_at q b.writer.app (joined_app b.writer.push b.writer.injections) s.apps (same b.writer.push b.writer.injections)

  map-join_firsts : (from : ℕ) (firsts : List FirstHandles) (s : HandlesState) → map q (join_firsts from firsts s).apps ≡ map q s.apps
  map-join_firsts from [] s = refl
  map-join_firsts from (f ∷ firsts) s = map-changed_at q from (joined_app f.push f.injections) (join_firsts (from + 1) firsts s).apps (same f.push f.injections)
      ∙ map-join_firsts (from + 1) firsts s

-- the levels keep their words and what was set, and the losses their table and what was reported
levels-join_books : (s : HandlesState) (books : List BookState) →
    ((join_books s books).levels.table ≡ s.levels.table) × ((join_books s books).levels.first ≡ s.levels.first) × ((join_books s books).levels.sets ≡ s.levels.sets)
    × ((join_books s books).levels.claims ≡ s.levels.claims)
levels-join_books s [] = (refl, refl, refl, refl)
levels-join_books s (b ∷ books) = levels-join_books (join_writer s b.writer) books

losses-join_books : (s : HandlesState) (books : List BookState) → ((join_books s books).losses.table ≡ s.losses.table) × ((join_books s books).losses.reported ≡ s.losses.reported)
losses-join_books s [] = (refl, refl)
losses-join_books s (b ∷ books) = losses-join_books (join_writer s b.writer) books

-- the reads of all are there
keeps_read : (s : HandlesState) (books : List BookState) (r : Read) → Contains s.levels.reads r → Contains (join_books s books).levels.reads r
keeps_read s [] r at = at
keeps_read s (b ∷ books) r at = keeps_read (join_writer s b.writer) books r (Contains-append_left s.levels.reads b.writer.reader.reads r at)

reads_there : (s : HandlesState) (books : List BookState) → All (λ b. All (Contains (join_books s books).levels.reads) b.writer.reader.reads) books
reads_there s [] = All-nil (λ (b : BookState). All (Contains s.levels.reads) b.writer.reader.reads)
reads_there s (b ∷ books) =
    let new = join_writer s b.writer in
    let end = join_books new books in
    All-cons (λ (c : BookState). All (Contains end.levels.reads) c.writer.reader.reads) b books
    (All-weaker (Contains b.writer.reader.reads) (Contains end.levels.reads)
    (λ r at. keeps_read new books r (Contains-append_right s.levels.reads b.writer.reader.reads r at)) b.writer.reader.reads (All-contains_itself b.writer.reader.reads))
    (reads_there new books)

-- each has one share, and what they counted adds up
shares-join_books : (s : HandlesState) (books : List BookState) → All (λ b. b.writer.losses.splits_left ≡ 0) books → (join_books s books).losses.shares ≡ s.losses.shares + length books
shares-join_books s [] none = omega arith
shares-join_books s (b ∷ books) none =
    let own = All-head (λ (c : BookState). c.writer.losses.splits_left ≡ 0) b books none in
    let rest = shares-join_books (join_writer s b.writer) books (All-tail (λ (c : BookState). c.writer.losses.splits_left ≡ 0) b books none) in
    omega (arith, own, rest)

counted-join_books : (app : ℕ) (s : HandlesState) (books : List BookState) → counted_of app (join_books s books).losses.counted ≡ counted_of app s.losses.counted + lost_of app books
counted-join_books app s [] = omega arith
counted-join_books app s (b ∷ books) =
    let rest = counted-join_books app (join_writer s b.writer) books in
    let one = counted-append app s.losses.counted b.writer.losses.counted in
    omega (arith, rest, one)

claimers-join_books : (s : HandlesState) (books : List BookState) → All (λ b. b.writer.reader.splits_left ≡ 0) books → (join_books s books).levels.shares ≡ s.levels.shares + length books
claimers-join_books s [] none = omega arith
claimers-join_books s (b ∷ books) none =
    let own = All-head (λ (c : BookState). c.writer.reader.splits_left ≡ 0) b books none in
    let rest = claimers-join_books (join_writer s b.writer) books (All-tail (λ (c : BookState). c.writer.reader.splits_left ≡ 0) b books none) in
    omega (arith, own, rest)

-- and so do the numbers that they were given, and the claims that found none left
given-join_books : (app number : ℕ) (s : HandlesState) (books : List BookState) →
    times number (given_of app (join_books s books).levels.given) ≡ times number (given_of app s.levels.given) + total (λ b. times number (given_of app b.writer.reader.given)) books
given-join_books app number s [] = omega arith
given-join_books app number s (b ∷ books) =
    let rest = given-join_books app number (join_writer s b.writer) books in
    let both = ap (times number) (given_of-append app s.levels.given b.writer.reader.given) in
    let one = times-append number (given_of app s.levels.given) (given_of app b.writer.reader.given) in
    omega (arith, rest, both, one)

many-join_books : (app : ℕ) (s : HandlesState) (books : List BookState) →
    length (given_of app (join_books s books).levels.given) ≡ length (given_of app s.levels.given) + total (λ b. length (given_of app b.writer.reader.given)) books
many-join_books app s [] = omega arith
many-join_books app s (b ∷ books) =
    let rest = many-join_books app (join_writer s b.writer) books in
    let both = ap length (given_of-append app s.levels.given b.writer.reader.given) in
    let one = length-append (given_of app s.levels.given) (given_of app b.writer.reader.given) in
    omega (arith, rest, both, one)

refused-join_books : (app : ℕ) (s : HandlesState) (books : List BookState) →
    refused_of app (join_books s books).levels.refused ≡ refused_of app s.levels.refused + total (λ b. refused_of app b.writer.reader.refused) books
refused-join_books app s [] = omega arith
refused-join_books app s (b ∷ books) =
    let rest = refused-join_books app (join_writer s b.writer) books in
    let one = counted-append app s.levels.refused b.writer.reader.refused in
    omega (arith, rest, one)

-- what the ends of one application got back of the books, and kept
record IsAfter (app : ℕ) (books : List BookState) (old new : AppHandles) : Type 0 where
  pub ring_is : new.ring.ring ≡ old.ring.ring
  pub queue_is : new.queue.queue ≡ old.queue.queue
  pub ring : new.ring.joined ≡ old.ring.joined ++ map sent_of (books_of app books)
  pub queue : new.queue.joined ≡ old.queue.joined ++ map (λ b. b.writer.injections.taken) (books_of app books)

pub own_book : (app : ℕ) (b : BookState) (books : List BookState) → b.writer.app ≡ app → books_of app (b ∷ books) ≡ b ∷ books_of app books
own_book app b books same = ap (λ (t : Bool). cond t (b ∷ books_of app books) (books_of app books)) (eq-eqb b.writer.app app same)

pub other_book : (app : ℕ) (b : BookState) (books : List BookState) → b.writer.app ≢ app → books_of app (b ∷ books) ≡ books_of app books
other_book app b books apart = ap (λ (t : Bool). cond t (b ∷ books_of app books) (books_of app books)) (ne_eqb b.writer.app app apart)

after_own : (app : ℕ) (b : BookState) (books : List BookState) (old new : AppHandles) → b.writer.app ≡ app → IsAfter app books (joined_app b.writer.push b.writer.injections old) new → IsAfter app (b ∷ books) old new
after_own app b books old new same a = record {
  ring_is = a.ring_is;
  queue_is = a.queue_is;
  ring = a.ring ∙ append_assoc old.ring.joined (sent_of b ∷ []) (map sent_of (books_of app books))
      ∙ ap (λ (bs : List BookState). old.ring.joined ++ map sent_of bs) (sym (own_book app b books same));
  queue = a.queue ∙ append_assoc old.queue.joined (b.writer.injections.taken ∷ []) (map (λ (c : BookState). c.writer.injections.taken) (books_of app books))
      ∙ ap (λ (bs : List BookState). old.queue.joined ++ map (λ (c : BookState). c.writer.injections.taken) bs) (sym (own_book app b books same));
}

after_other : (app : ℕ) (b : BookState) (books : List BookState) (old new : AppHandles) → b.writer.app ≢ app → IsAfter app books old new → IsAfter app (b ∷ books) old new
after_other app b books old new apart a = record {
  ring_is = a.ring_is;
  queue_is = a.queue_is;
  ring = a.ring ∙ ap (λ (bs : List BookState). old.ring.joined ++ map sent_of bs) (sym (other_book app b books apart));
  queue = a.queue ∙ ap (λ (bs : List BookState). old.queue.joined ++ map (λ (c : BookState). c.writer.injections.taken) bs) (sym (other_book app b books apart));
}

after_books : (app : ℕ) (s : HandlesState) (books : List BookState) (old new : AppHandles) → slice_get s.apps app ≡ Some old → slice_get (join_books s books).apps app ≡ Some new → IsAfter app books old new
after_books app s [] old new before after =
    let same = same_read (slice_get s.apps app) old new before after in
    record {
      ring_is = ap (λ (e : AppHandles). e.ring.ring) (sym same);
      queue_is = ap (λ (e : AppHandles). e.queue.queue) (sym same);
      ring = ap (λ (e : AppHandles). e.ring.joined) (sym same) ∙ sym (append-nil old.ring.joined);
      queue = ap (λ (e : AppHandles). e.queue.joined) (sym same) ∙ sym (append-nil old.queue.joined);
    }
after_books app s (b ∷ books) old new before after = elim (cases_eq b.writer.app app) [
  | inl same ↦ after_own app b books old new same (after_books app (join_writer s b.writer) books (joined_app b.writer.push b.writer.injections old) new
      (subst (λ (n : ℕ). slice_get (changed_at n (joined_app b.writer.push b.writer.injections) s.apps) app ≡ Some (joined_app b.writer.push b.writer.injections old)) (sym same)
      (get_changed app (joined_app b.writer.push b.writer.injections) s.apps ∙ ap (option_map (joined_app b.writer.push b.writer.injections)) before)) after)
  | inr apart ↦ after_other app b books old new apart (after_books app (join_writer s b.writer) books old new
      (get_other b.writer.app app (joined_app b.writer.push b.writer.injections) s.apps (λ same. apart (sym same)) ∙ before) after)
]

-- ---- the first ends

length-join_firsts : (from : ℕ) (firsts : List FirstHandles) (s : HandlesState) → length (join_firsts from firsts s).apps ≡ length s.apps
length-join_firsts from [] s = refl
length-join_firsts from (f ∷ firsts) s = length-changed_at from (joined_app f.push f.injections) (join_firsts (from + 1) firsts s).apps ∙ length-join_firsts (from + 1) firsts s

levels-join_firsts : (from : ℕ) (firsts : List FirstHandles) (s : HandlesState) → (join_firsts from firsts s).levels ≡ s.levels
levels-join_firsts from [] s = refl
levels-join_firsts from (f ∷ firsts) s = levels-join_firsts (from + 1) firsts s

losses-join_firsts : (from : ℕ) (firsts : List FirstHandles) (s : HandlesState) → (join_firsts from firsts s).losses ≡ s.losses
losses-join_firsts from [] s = refl
losses-join_firsts from (f ∷ firsts) s = losses-join_firsts (from + 1) firsts s

get_below : (from app : ℕ) (firsts : List FirstHandles) (s : HandlesState) → app < from → slice_get (join_firsts from firsts s).apps app ≡ slice_get s.apps app
get_below from app [] s low = refl
get_below from app (f ∷ firsts) s low = get_other from app (joined_app f.push f.injections) (join_firsts (from + 1) firsts s).apps (λ same. omega (arith, low, same))
    ∙ get_below (from + 1) app firsts s (omega (arith, low))

get_first : (from k app : ℕ) (firsts : List FirstHandles) (s : HandlesState) (f : FirstHandles) → app ≡ from + k → slice_get firsts k ≡ Some f
    → slice_get (join_firsts from firsts s).apps app ≡ option_map (joined_app f.push f.injections) (slice_get s.apps app)
get_first from k app [] s f is at = absurd cc
get_first from zero app (g ∷ firsts) s f is at =
    let same : g ≡ f = cc in
    let here : app ≡ from = omega (arith, is) in
    subst (λ (n : ℕ). slice_get (changed_at n (joined_app g.push g.injections) (join_firsts (from + 1) firsts s).apps) app ≡ option_map (joined_app g.push g.injections) (slice_get (join_firsts (from + 1) firsts s).apps app))
    here (get_changed app (joined_app g.push g.injections) (join_firsts (from + 1) firsts s).apps)
    ∙ ap (option_map (joined_app g.push g.injections)) (get_below (from + 1) app firsts s (omega (arith, is)))
    ∙ ap (λ (h : FirstHandles). option_map (joined_app h.push h.injections) (slice_get s.apps app)) same
get_first from (suc k) app (g ∷ firsts) s f is at = get_other from app (joined_app g.push g.injections) (join_firsts (from + 1) firsts s).apps (λ same. omega (arith, is, same))
    ∙ get_first (from + 1) k app firsts s f (omega (arith, is)) at

-- ---- whose the writers are

get_range : (a n k : ℕ) → k < n → slice_get (range_with_len a n) k ≡ Some (a + k)
get_range a zero k below = absurd (omega (arith, below))
get_range a (suc n) zero below = let same : a ≡ a + 0 = omega arith in ap Some same
get_range a (suc n) (suc k) below = let same : a + 1 + k ≡ a + suc k = omega arith in get_range (a + 1) n k (omega (arith, below)) ∙ ap Some same

numbers_of-books : (app from : ℕ) (books : List BookState) → numbers books ≡ range_with_len from (length books) → numbers_of app from (map (λ b. b.writer.app) books) ≡ numbers (books_of app books)
numbers_of-books app from [] numbered = refl
numbers_of-books app from (b ∷ books) numbered =
    by_owner (b.writer.app == app) (head_is b.writer.push.number from (numbers books) (range_with_len (from + 1) (length books)) numbered)
    (numbers_of-books app (from + 1) books (tail_is b.writer.push.number from (numbers books) (range_with_len (from + 1) (length books)) numbered)) where
      by_owner : (own : Bool) → b.writer.push.number ≡ from → numbers_of app (from + 1) (map (λ b. b.writer.app) books) ≡ numbers (books_of app books)
          → (if own then from ∷ numbers_of app (from + 1) (map (λ b. b.writer.app) books) else numbers_of app (from + 1) (map (λ b. b.writer.app) books)) ≡ numbers (cond own (b ∷ books_of app books) (books_of app books))
      by_owner true is rest = ap (λ (n : ℕ). n ∷ numbers_of app (from + 1) (map (λ b. b.writer.app) books)) (sym is) ∙ ap (λ ns. b.writer.push.number ∷ ns) rest
      by_owner false is rest = rest

times-books : (app : ℕ) (books : List BookState) → times app (map (λ b. b.writer.app) books) ≡ length (books_of app books)
times-books app [] = refl
times-books app (b ∷ books) = by_owner (b.writer.app == app) (times-books app books) where
  by_owner : (own : Bool) → times app (map (λ b. b.writer.app) books) ≡ length (books_of app books) → bit own + times app (map (λ b. b.writer.app) books) ≡ length (cond own (b ∷ books_of app books) (books_of app books))
  by_owner true rest = omega (arith, rest)
  by_owner false rest = omega (arith, rest)

module _ (desk : DeskState) (books : List BookState) (r : AreReady desk books) where
  owner_at : (place : ℕ) → place < length desk.owners → slice_get desk.owners place ≡ slice_get (map (λ b. b.writer.app) books) place
  owner_at place below =
      let all = r.all in
      let b = is_there books place (omega (arith, below, all)) in
      let made = all_at (λ (c : BookState). IsMadeWith desk c.writer) books place b.0 r.made b.1 in
      let numbered : slice_get (numbers books) place ≡ Some b.0.writer.push.number =
      slice_get-map (λ (c : BookState). c.writer.push.number) books place ∙ ap (option_map (λ (c : BookState). c.writer.push.number)) b.1 in
      let counted : slice_get (numbers books) place ≡ Some (1 + place) = ap (λ (ns : List ℕ). slice_get ns place) r.numbered ∙ get_range 1 (length books) place (omega (arith, below, all)) in
      let number : b.0.writer.push.number ≡ 1 + place = same_read (slice_get (numbers books) place) b.0.writer.push.number (1 + place) numbered counted in
      let at : b.0.writer.push.number - 1 ≡ place = omega (arith, number) in
      sym (ap (slice_get desk.owners) at) ∙ made.owner ∙ sym (ap (option_map (λ (c : BookState). c.writer.app)) b.1) ∙ sym (slice_get-map (λ (c : BookState). c.writer.app) books place)

  owners_are : desk.owners ≡ map (λ b. b.writer.app) books
  owners_are = same_places desk.owners (map (λ b. b.writer.app) books) (sym r.all ∙ sym (length-map books (λ (c : BookState). c.writer.app))) owner_at

pub given_are_theirs : (desk : DeskState) (books : List BookState) → AreReady desk books → (app : ℕ) → numbers_of app 1 desk.owners ≡ numbers (books_of app books)
given_are_theirs desk books r app = ap (numbers_of app 1) (owners_are desk books r) ∙ numbers_of-books app 1 books r.numbered

-- ---- what can be taken back

pub ready_fits : (desk : DeskState) (books : List BookState) → AreReady desk books → All (λ b. FitsHandles desk.handles b.writer) books
ready_fits desk books r = All-weaker (λ (b : BookState). IsMadeWith desk b.writer) (λ (b : BookState). FitsHandles desk.handles b.writer) (λ b made. record {
  app = mapped_within (λ (e : AppHandles). e.ring.ring) desk.handles.apps b.writer.app b.writer.push.ring made.ring;
  ring = mapped_at (λ (e : AppHandles). e.ring.ring) desk.handles.apps b.writer.app b.writer.push.ring made.ring;
  queue = mapped_at (λ (e : AppHandles). e.queue.queue) desk.handles.apps b.writer.app b.writer.injections.queue made.queue;
  levels = made.levels;
  claims = made.claims;
  losses = made.losses;
}) books r.made

module _ (desk : DeskState) (books : List BookState) (r : AreReady desk books) where
  -- an application that is there, with what it was before, what its writers left, and its first ends
  record IsThere (app : ℕ) (now : AppHandles) : Type 0 where
    pub spec : AppSpec
    pub before : AppHandles
    pub firsts : FirstHandles
    pub first : AreFirst app desk.owners spec before firsts
    pub after : IsAfter app books before now
    pub place : slice_get desk.firsts app ≡ Some firsts

  is_known : (app : ℕ) (now : AppHandles) → slice_get (join_books desk.handles books).apps app ≡ Some now → IsThere app now
  is_known app now at =
      let kept = r.kept in
      let long = length-join_books desk.handles books in
      let below = within (join_books desk.handles books).apps app now at in
      let handles = kept.handles in
      let firsts = kept.firsts in
      let spec = is_there desk.apps app (omega (arith, below, long, handles)) in
      let before = is_there desk.handles.apps app (omega (arith, below, long)) in
      let first = is_there desk.firsts app (omega (arith, below, long, handles, firsts)) in
      record {
        spec = spec.0;
        before = before.0;
        firsts = first.0;
        first = kept.each app spec.0 before.0 first.0 spec.1 before.1 first.1;
        after = after_books app desk.handles books before.0 now before.1 at;
        place = first.1;
      }

  fits_first : (app : ℕ) (f : FirstHandles) (now : AppHandles) → slice_get desk.firsts app ≡ Some f → IsThere app now → (f.push.ring ≡ now.ring.ring) × (f.injections.queue ≡ now.queue.queue)
  fits_first app f now at is =
      let same = same_read (slice_get desk.firsts app) f is.firsts at is.place in (
        ap (λ (g : FirstHandles). g.push.ring) same ∙ ap (λ (p : ring.PushState). p.ring) is.first.push ∙ sym is.after.ring_is,
        ap (λ (g : FirstHandles). g.injections.queue) same ∙ ap (λ (t : injections.TakeState). t.queue) is.first.takes ∙ sym is.after.queue_is,
      )

  tables : (desk.readers.table ≡ (join_firsts 0 desk.firsts (join_books desk.handles books)).levels.table) × (desk.readers.claims ≡ (join_firsts 0 desk.firsts (join_books desk.handles books)).levels.claims)
      × (desk.counters.table ≡ (join_firsts 0 desk.firsts (join_books desk.handles books)).losses.table)
  tables = (
    ap (λ (k : levels.ReaderState). k.table) r.kept.readers ∙ sym (ap (λ (k : levels.KeeperState). k.table) (levels-join_firsts 0 desk.firsts (join_books desk.handles books)) ∙ (levels-join_books desk.handles books).0),
    ap (λ (k : levels.ReaderState). k.claims) r.kept.readers ∙ sym (ap (λ (k : levels.KeeperState). k.claims) (levels-join_firsts 0 desk.firsts (join_books desk.handles books)) ∙ (levels-join_books desk.handles books).3),
    ap (λ (k : losses.WriterState). k.table) r.kept.counters ∙ sym (ap (λ (k : losses.KeeperState). k.table) (losses-join_firsts 0 desk.firsts (join_books desk.handles books)) ∙ (losses-join_books desk.handles books).0),
  )

  -- ---- what is there then

  are_back : (app : ℕ) (old new : AppHandles) → IsThere app old → (f : FirstHandles) → slice_get desk.firsts app ≡ Some f → new ≡ joined_app f.push f.injections old → AreBack (books_of app books) new
  are_back app old new is f at made = subst (AreBack (books_of app books)) (sym (made ∙ ap (λ (g : FirstHandles). joined_app g.push g.injections old) same)) (record {
    ring = ap (λ (xs : List Sent). xs ++ last is.firsts.push ∷ []) (is.after.ring ∙ ap (λ (xs : List Sent). xs ++ map sent_of (books_of app books)) is.first.ring_joined)
        ∙ ap (λ (p : ring.PushState). map sent_of (books_of app books) ++ last p ∷ []) is.first.push;
    ring_first = ap (λ (p : ring.PushState). if p.first then true else old.ring.first) is.first.push;
    given = ap (λ (p : ring.PushState). length (if p.first then p.given else old.ring.given)) is.first.push ∙ ap length (given_are_theirs desk books r app)
        ∙ length-map (books_of app books) (λ (b : BookState). b.writer.push.number);
    queue = ap (λ (xs : List (List Entry)). xs ++ is.firsts.injections.taken ∷ []) (is.after.queue ∙ ap (λ (xs : List (List Entry)). xs ++ map (λ b. b.writer.injections.taken) (books_of app books)) is.first.queue_joined)
        ∙ ap (λ (t : injections.TakeState). map (λ b. b.writer.injections.taken) (books_of app books) ++ t.taken ∷ []) is.first.takes;
    queue_first = ap (λ (t : injections.TakeState). if t.first then true else old.queue.first) is.first.takes;
    splits = ap (λ (t : injections.TakeState). if t.first then t.splits else old.queue.splits) is.first.takes ∙ ap (times app) (owners_are desk books r) ∙ times-books app books;
  }) where
    same : f ≡ is.firsts
    same = same_read (slice_get desk.firsts app) f is.firsts at is.place

    last : ring.PushState → Sent
    last p = record { number = p.number; items = p.pushed }

  back : (app : ℕ) → At (join_firsts 0 desk.firsts (join_books desk.handles books)).apps app (AreBack (books_of app books))
  back app new at =
      let below = within (join_firsts 0 desk.firsts (join_books desk.handles books)).apps app new at in
      let long = length-join_firsts 0 desk.firsts (join_books desk.handles books) in
      let old = is_there (join_books desk.handles books).apps app (omega (arith, below, long)) in
      let is = is_known app old.0 old.1 in
      let f = is.firsts in
      let made = get_first 0 app app desk.firsts (join_books desk.handles books) f (omega arith) is.place ∙ ap (option_map (joined_app f.push f.injections)) old.1 in
      are_back app old.0 new is f is.place (same_read (slice_get (join_firsts 0 desk.firsts (join_books desk.handles books)).apps app) new (joined_app f.push f.injections old.0) at made)

  all_there : {B : Type 0} (q : AppHandles → B) → ((push : ring.PushState) (takes : injections.TakeState) (e : AppHandles) → q (joined_app push takes e) ≡ q e)
      → map q (join_firsts 0 desk.firsts (join_books desk.handles books)).apps ≡ map q desk.handles.apps
  all_there q same = map-join_firsts q same 0 desk.firsts (join_books desk.handles books) ∙ map-join_books q same desk.handles books

  same_levels : (join_firsts 0 desk.firsts (join_books desk.handles books)).levels ≡ (join_books desk.handles books).levels
  same_levels = levels-join_firsts 0 desk.firsts (join_books desk.handles books)

  same_losses : (join_firsts 0 desk.firsts (join_books desk.handles books)).losses ≡ (join_books desk.handles books).losses
  same_losses = losses-join_firsts 0 desk.firsts (join_books desk.handles books)

  all_reads : All (λ b. All (Contains (gathered desk books).levels.reads) b.writer.reader.reads) books
  all_reads = subst (λ (l : levels.KeeperState). All (λ (b : BookState). All (Contains (l.reads ++ desk.readers.reads)) b.writer.reader.reads) books) (sym same_levels)
      (All-weaker (λ (b : BookState). All (Contains (join_books desk.handles books).levels.reads) b.writer.reader.reads)
      (λ (b : BookState). All (Contains ((join_books desk.handles books).levels.reads ++ desk.readers.reads)) b.writer.reader.reads)
      (λ b all. All-weaker (Contains (join_books desk.handles books).levels.reads) (Contains ((join_books desk.handles books).levels.reads ++ desk.readers.reads))
      (λ q at. Contains-append_left (join_books desk.handles books).levels.reads desk.readers.reads q at) b.writer.reader.reads all) books (reads_there desk.handles books))

  all_shared : (gathered desk books).losses.shares ≡ all_shares
  all_shared =
      let none = All-weaker (λ (b : BookState). IsMadeWith desk b.writer) (λ (b : BookState). b.writer.losses.splits_left ≡ 0) (λ b made. made.split.2) books r.made in
      let sum = ap (λ (k : losses.KeeperState). k.shares) same_losses ∙ shares-join_books desk.handles books none in
      let left = r.kept.counters_left in
      let begun = r.kept.shares in
      let long = r.all in
      omega (arith, sum, left, begun, long)

  all_counted : (app : ℕ) → counted_of app (gathered desk books).losses.counted ≡ lost_of app books
  all_counted app =
      let sum = counted-append app (join_firsts 0 desk.firsts (join_books desk.handles books)).losses.counted desk.counters.counted in
      let books_so = ap (λ (k : losses.KeeperState). counted_of app k.counted) same_losses ∙ counted-join_books app desk.handles books in
      let begun = ap (counted_of app) r.kept.counted in
      let first : counted_of app desk.counters.counted ≡ 0 = ap (λ (k : losses.WriterState). counted_of app k.counted) r.kept.counters in
      omega (arith, sum, books_so, begun, first)

  all_claimers : (gathered desk books).levels.shares ≡ all_shares
  all_claimers =
      let none = All-weaker (λ (b : BookState). IsMadeWith desk b.writer) (λ (b : BookState). b.writer.reader.splits_left ≡ 0) (λ b made. made.split.3) books r.made in
      let sum = ap (λ (k : levels.KeeperState). k.shares) same_levels ∙ claimers-join_books desk.handles books none in
      let left = r.kept.readers_left in
      let begun = r.kept.claimed.2 in
      let long = r.all in
      omega (arith, sum, left, begun, long)

  all_given : (app number : ℕ) → times number (given_of app (gathered desk books).levels.given) ≡ total (λ b. times number (given_of app b.writer.reader.given)) books
  all_given app number =
      let now : List Given = (join_firsts 0 desk.firsts (join_books desk.handles books)).levels.given in
      let both = ap (times number) (given_of-append app now desk.readers.given) in
      let sum = times-append number (given_of app now) (given_of app desk.readers.given) in
      let books_so = ap (λ (k : levels.KeeperState). times number (given_of app k.given)) same_levels ∙ given-join_books app number desk.handles books in
      let begun = ap (λ (l : List Given). times number (given_of app l)) r.kept.claimed.0 in
      let first : times number (given_of app desk.readers.given) ≡ 0 = ap (λ (k : levels.ReaderState). times number (given_of app k.given)) r.kept.readers in
      omega (arith, both, sum, books_so, begun, first)

  all_many : (app : ℕ) → length (given_of app (gathered desk books).levels.given) ≡ total (λ b. length (given_of app b.writer.reader.given)) books
  all_many app =
      let now : List Given = (join_firsts 0 desk.firsts (join_books desk.handles books)).levels.given in
      let both = ap length (given_of-append app now desk.readers.given) in
      let sum = length-append (given_of app now) (given_of app desk.readers.given) in
      let books_so = ap (λ (k : levels.KeeperState). length (given_of app k.given)) same_levels ∙ many-join_books app desk.handles books in
      let begun = ap (λ (l : List Given). length (given_of app l)) r.kept.claimed.0 in
      let first : length (given_of app desk.readers.given) ≡ 0 = ap (λ (k : levels.ReaderState). length (given_of app k.given)) r.kept.readers in
      omega (arith, both, sum, books_so, begun, first)

  all_refused : (app : ℕ) → refused_of app (gathered desk books).levels.refused ≡ total (λ b. refused_of app b.writer.reader.refused) books
  all_refused app =
      let sum = counted-append app (join_firsts 0 desk.firsts (join_books desk.handles books)).levels.refused desk.readers.refused in
      let books_so = ap (λ (k : levels.KeeperState). refused_of app k.refused) same_levels ∙ refused-join_books app desk.handles books in
      let begun = ap (refused_of app) r.kept.claimed.1 in
      let first : refused_of app desk.readers.refused ≡ 0 = ap (λ (k : levels.ReaderState). refused_of app k.refused) r.kept.readers in
      omega (arith, sum, books_so, begun, first)

pub ready_fits_firsts : (desk : DeskState) (books : List BookState) → AreReady desk books → FitFirsts (join_books desk.handles books) desk.firsts
ready_fits_firsts desk books r = record {
  long = r.kept.firsts ∙ sym r.kept.handles ∙ sym (length-join_books desk.handles books);
  each = λ app f f_at now now_at. fits_first desk books r app f now f_at (is_known desk books r app now now_at);
}

pub ready_fits_words : (desk : DeskState) (books : List BookState) → AreReady desk books →
    let s : HandlesState = join_firsts 0 desk.firsts (join_books desk.handles books) in (desk.readers.table ≡ s.levels.table) × (desk.readers.claims ≡ s.levels.claims) × (desk.counters.table ≡ s.losses.table)
ready_fits_words desk books r = tables desk books r

pub gathered_is_joined : (desk : DeskState) (books : List BookState) → AreReady desk books → AreJoined desk books (gathered desk books)
gathered_is_joined desk books r = record {
  long = length-join_firsts 0 desk.firsts (join_books desk.handles books) ∙ length-join_books desk.handles books ∙ r.kept.handles;
  back = back desk books r;
  taken = all_there desk books r (λ (e : AppHandles). e.ring.taken) (λ push takes e. refl);
  empties = all_there desk books r (λ (e : AppHandles). e.ring.empties) (λ push takes e. refl);
  pushed = all_there desk books r (λ (e : AppHandles). e.queue.pushed) (λ push takes e. refl);
  refusals = all_there desk books r (λ (e : AppHandles). e.queue.refusals) (λ push takes e. refl);
  first = ap (λ (l : levels.KeeperState). l.first) (same_levels desk books r) ∙ (levels-join_books desk.handles books).1;
  sets = ap (λ (l : levels.KeeperState). l.sets) (same_levels desk books r) ∙ (levels-join_books desk.handles books).2;
  reads = all_reads desk books r;
  shares = all_shared desk books r;
  counted = all_counted desk books r;
  reported = ap (λ (k : losses.KeeperState). k.reported) (same_losses desk books r) ∙ (losses-join_books desk.handles books).1;
  claimers = all_claimers desk books r;
  given = all_given desk books r;
  many = all_many desk books r;
  refused = all_refused desk books r;
}
