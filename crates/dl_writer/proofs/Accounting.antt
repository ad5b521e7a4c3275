-- What the records of a whole book tell is the account of their writer.
use Rattle.std.proofs.Common.{◌≡◌, ℕ, Bool, true, false, cond, eqb, List, [], ◌∷◌, length, get_or, refl, ap, ◌∙◌, eq-eqb, arith}
use Rattle.std.specs.Prelude.{map, All}
use Rattle.std.specs.List.{filter, AllByRecursion}
use Rattle.std.proofs.lemmas.List.Elements.{All-contains, All-weaker, recursion_from_All}
use Rattle.std.proofs.lemmas.List.Sums.{sum_by-cons}
use Rattle.dl_bytes.specs.Claim.{Claimed}
use Rattle.dl_events.specs.declared.event.Event.{Event}
use Rattle.dl_events.specs.declared.record.Answer.TheVariants as answer
use Rattle.dl_events.specs.declared.record.Record.{Record}
use Rattle.dl_model.specs.Report.{is_answer}
use Rattle.dl_model.specs.Accounts.{order, of_writer, claims, claimed_by, name_of, with_answer, IsExact, WriterAccount}
use Rattle.dl_cells.specs.Losses.{counted_of}
use Rattle.dl_ring.specs.Items.{calls_in, claims_in}
use Rattle.dl_writer.specs.Calls.{read_of}
use Rattle.dl_writer.specs.Records.{IsHeld, IsOf, TellAll}
use Rattle.dl_writer.specs.State.{WriterState}

map-map : {A B C : Type 0} (f : A → B) (g : B → C) (xs : List A) → map g (map f xs) ≡ map (λ x. g (f x)) xs
map-map f g [] = refl
map-map f g (x ∷ xs) = ap (λ (ys : List _). g (f x) ∷ ys) (map-map f g xs)

-- each record is exact
exact : (first : ℕ) (events : List Event) (w : WriterState) (records : List Record) (claimed : List Claimed) → TellAll w records claimed → All (IsHeld first events) w.reader.reads
    → All (IsExact first events) records
exact first events w records claimed h held = λ k d lt.
    let there = h.loaded k d lt in
    let is = All-contains (IsHeld first events) w.reader.reads (read_of (get_or records k d)) held there in
    record { not_before = is.0; held = is.1; filtered = h.filtered k d lt }

pub account : (first : ℕ) (events : List Event) (w : WriterState) (records : List Record) (claimed : List Claimed) → TellAll w records claimed → All (IsHeld first events) w.reader.reads
    → filter (of_writer w.push.number) (order w.app events) ≡ map name_of (calls_in w.push.pushed)
    → filter (claimed_by w.push.number) (claims w.app events) ≡ claims_in w.push.pushed
    → WriterAccount first events w.app w.push.number w.push.refusals claimed records
account first events w records claimed h held admitted taken = record {
  numbered = h.numbered;
  counted = h.counted;
  exact = recursion_from_All (IsExact first events) records (exact first events w records claimed h held);
  never_fall = h.never_fall;
  in_order = admitted ∙ ap (map name_of) h.queued ∙ map-map (λ (s : Record). s.item) name_of (with_answer answer.Queued records);
  claimed = taken ∙ h.claimed;
  refused = h.refused;
}

abbrev one_if : Bool → ℕ
one_if b = cond b 1 0

-- how often an application stands among the lost calls of its own records
lost_count : (app : ℕ) (rs : List Record) → AllByRecursion (λ (s : Record). s.item.app ≡ app) rs
    → counted_of app (map (λ (s : Record). s.item.app) (with_answer answer.Lost rs)) ≡ length (with_answer answer.Lost rs)
lost_count app [] h = refl
lost_count app (s ∷ rs) h = by_test (is_answer answer.Lost s.answer) (lost_count app rs h.1) where
  by_test : (b : Bool) → counted_of app (map (λ (s : Record). s.item.app) (with_answer answer.Lost rs)) ≡ length (with_answer answer.Lost rs)
      → counted_of app (map (λ (s : Record). s.item.app) (cond b (s ∷ with_answer answer.Lost rs) (with_answer answer.Lost rs))) ≡ length (cond b (s ∷ with_answer answer.Lost rs) (with_answer answer.Lost rs))
  by_test false e = e
  by_test true e =
      let this : one_if (eqb s.item.app app) ≡ 1 = ap one_if (eq-eqb s.item.app app h.0) in
      sum_by-cons (λ (a : ℕ). one_if (eqb a app)) s.item.app (map (λ (s : Record). s.item.app) (with_answer answer.Lost rs)) ∙ omega (arith, this, e)

pub losses : (w : WriterState) (records : List Record) (claims : List Claimed) → TellAll w records claims → counted_of w.app w.losses.counted ≡ length (with_answer answer.Lost records)
losses w records claims h =
    ap (counted_of w.app) h.lost
    ∙ lost_count w.app records (recursion_from_All (λ (s : Record). s.item.app ≡ w.app) records (All-weaker (IsOf w) (λ (s : Record). s.item.app ≡ w.app) (λ s own. own.0) records h.own))
