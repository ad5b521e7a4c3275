-- One application after one mark more.
use Rattle.std.proofs.Common.{◌≡◌, ℕ, ◌+◌, true, false, cond, eqb, List, [], ◌∷◌, ◌++◌, length, length-append, Some, None, refl, sym, ap, ◌∙◌, arith}
use Rattle.std.specs.Prelude.{count_by, map}
use Rattle.std.specs.List.{filter_map, after_last}
use Rattle.std.proofs.lemmas.List.{append-nil, map-append}
use Rattle.std.proofs.lemmas.List.Elements.{filter_map-append}
use Rattle.dl_bytes.specs.declared.moment.Moment.{Moment}
use Rattle.dl_events.specs.declared.event.Event.{Event}
use Rattle.dl_events.specs.declared.event.Event.TheVariants as event
use Rattle.dl_script_model.specs.Marks.{Call, Mark, Counted, Noted, Pushed, event_of, journal, pushes, pushed_of, taken, is_taken_of, pending, is_counted_of, is_lost_of}
use Rattle.dl_model.proofs.Lists.{after_last-one, count_by-append}
use Rattle.dl_world_calls.specs.declared.queue.Entry.{Entry}
use Rattle.dl_world_calls.specs.State.{App, Writer, Held, held_at, as_held}
use Rattle.dl_world_calls.specs.Follows.{as_pushed, IsAppAfter}

-- ---- words of an application's marks, with one mark more

pushes-one : (number : ℕ) (done : List Mark) (mark : Mark) → pushes number (done ++ mark ∷ []) ≡ pushes number done ++ filter_map (pushed_of number) (mark ∷ [])
pushes-one number done mark = filter_map-append (pushed_of number) done (mark ∷ [])

taken-one : (number : ℕ) (done : List Mark) (mark : Mark) → taken number (done ++ mark ∷ []) ≡ taken number done + count_by (is_taken_of number) (filter_map event_of (mark ∷ []))
taken-one number done mark = ap (count_by (is_taken_of number)) (filter_map-append event_of done (mark ∷ [])) ∙ count_by-append (is_taken_of number) (journal done) (filter_map event_of (mark ∷ []))

pending-one : (number : ℕ) (done : List Mark) (mark : Mark) → is_lost_of number mark ≡ false → pending number (done ++ mark ∷ []) ≡ pending number done + cond (is_counted_of number mark) 1 0
pending-one number done mark e =
    let after : after_last (is_lost_of number) (done ++ mark ∷ []) ≡ after_last (is_lost_of number) done ++ mark ∷ [] = after_last-one (is_lost_of number) done mark ∙ rw e refl in
    ap (count_by (is_counted_of number)) after
    ∙ count_by-append (is_counted_of number) (after_last (is_lost_of number) done) (mark ∷ []) ∙ omega arith

-- ---- records that stay where they are

-- each record and each claim of the one is where it was among the other
abbrev pub Keeps : List Writer → List Writer → Type 0
Keeps old new = (at : Entry) (held : Held) → held_at old at ≡ Some held → held_at new at ≡ Some held

kept : (old new : List Writer) (places : List Entry) (calls : List Pushed) → Keeps old new → map (held_at old) places ≡ map as_pushed calls → map (held_at new) places ≡ map as_pushed calls
kept old new [] [] keeps e = refl
kept old new [] (c ∷ calls) keeps e = absurd cc
kept old new (at ∷ places) [] keeps e = absurd cc
kept old new (at ∷ places) (c ∷ calls) keeps e =
    let first : held_at old at ≡ as_pushed c = cc in
    let others : map (held_at old) places ≡ map as_pushed calls = cc in
    let first_now : held_at new at ≡ as_pushed c = keeps at (as_held c) first in
    rw (first_now, kept old new places calls keeps others) refl

-- ---- a mark that is none of the application's

pub record IsApart (number : ℕ) (mark : Mark) : Type 0 where
  pub not_pushed : pushed_of number mark ≡ None
  pub not_taken : count_by (is_taken_of number) (filter_map event_of (mark ∷ [])) ≡ 0
  pub not_lost : is_lost_of number mark ≡ false
  pub not_counted : is_counted_of number mark ≡ false

none_pushed : (number : ℕ) (done : List Mark) (mark : Mark) → pushed_of number mark ≡ None → pushes number (done ++ mark ∷ []) ≡ pushes number done
none_pushed number done mark e = pushes-one number done mark ∙ rw e (append-nil (pushes number done))

none_taken : (number : ℕ) (done : List Mark) (mark : Mark) → count_by (is_taken_of number) (filter_map event_of (mark ∷ [])) ≡ 0 → taken number (done ++ mark ∷ []) ≡ taken number done
none_taken number done mark e = omega (arith, taken-one number done mark, e)

none_counted : (number : ℕ) (done : List Mark) (mark : Mark) → is_lost_of number mark ≡ false → is_counted_of number mark ≡ false → pending number (done ++ mark ∷ []) ≡ pending number done
none_counted number done mark not_lost not_counted = pending-one number done mark not_lost ∙ rw not_counted (omega arith)

pub app-stays : (done : List Mark) (old new : List Writer) (number : ℕ) (app : App) (mark : Mark) → IsApart number mark → Keeps old new → IsAppAfter done old number app → IsAppAfter (done ++ mark ∷ []) new number app
app-stays done old new number app mark apart keeps is = record {
  ring_is = kept old new app.ring.entries (pushes number done) keeps is.ring_is ∙ ap (map as_pushed) (sym (none_pushed number done mark apart.not_pushed));
  taken_is = none_taken number done mark apart.not_taken ∙ is.taken_is;
  pending_is = none_counted number done mark apart.not_lost apart.not_counted ∙ is.pending_is;
  told_at_most = is.told_at_most;
}

-- ---- its ring takes a call or a claim

pub app-pushes : (done : List Mark) (old new : List Writer) (number : ℕ) (app : App) (mark : Mark) (what : Pushed) (at : Entry) → pushed_of number mark ≡ Some what
    → count_by (is_taken_of number) (filter_map event_of (mark ∷ [])) ≡ 0 → is_lost_of number mark ≡ false → is_counted_of number mark ≡ false
    → Keeps old new → held_at new at ≡ as_pushed what → IsAppAfter done old number app
    → IsAppAfter (done ++ mark ∷ []) new number (record app { ring = record { entries = app.ring.entries ++ at ∷ []; gone = app.ring.gone } })
app-pushes done old new number app mark what at e not_taken not_lost not_counted keeps there is = record {
  ring_is =
      map-append (held_at new) app.ring.entries (at ∷ [])
      ∙ rw (kept old new app.ring.entries (pushes number done) keeps is.ring_is, there)
      (sym (ap (map as_pushed) (pushes-one number done mark ∙ rw e refl) ∙ map-append as_pushed (pushes number done) (what ∷ [])));
  taken_is = none_taken number done mark not_taken ∙ is.taken_is;
  pending_is = none_counted number done mark not_lost not_counted ∙ is.pending_is;
  told_at_most = is.told_at_most;
}

-- ---- a call of it is counted as lost

pub app-loses : (done : List Mark) (old new : List Writer) (number : ℕ) (app : App) (c : Call) (at : Entry) → eqb c.item.app number ≡ true → Keeps old new → IsAppAfter done old number app
    → IsAppAfter (done ++ Counted c ∷ []) new number (record app { losses = record { entries = app.losses.entries ++ at ∷ []; gone = app.losses.gone } })
app-loses done old new number app c at e keeps is = record {
  ring_is = kept old new app.ring.entries (pushes number done) keeps is.ring_is ∙ ap (map as_pushed) (sym (none_pushed number done (Counted c) refl));
  taken_is = none_taken number done (Counted c) refl ∙ is.taken_is;
  pending_is =
      let more : pending number (done ++ Counted c ∷ []) ≡ pending number done + 1 = pending-one number done (Counted c) refl ∙ rw e refl in
      omega (arith, more, is.pending_is, is.told_at_most, length-append app.losses.entries (at ∷ []));
  told_at_most = omega (arith, is.told_at_most, length-append app.losses.entries (at ∷ []));
}

-- ---- the daemon takes a call or a claim, or the count of losses

pub app-takes : (done : List Mark) (writers : List Writer) (number : ℕ) (app : App) (e : Event) → is_taken_of number e ≡ true → is_lost_of number (Noted e) ≡ false → IsAppAfter done writers number app
    → IsAppAfter (done ++ Noted e ∷ []) writers number (record app { ring = record { entries = app.ring.entries; gone = app.ring.gone + 1 } })
app-takes done writers number app e takes not_lost is = record {
  ring_is = is.ring_is ∙ ap (map as_pushed) (sym (none_pushed number done (Noted e) refl));
  taken_is =
      let more : taken number (done ++ Noted e ∷ []) ≡ taken number done + 1 = taken-one number done (Noted e) ∙ rw takes (omega arith) in
      omega (arith, more, is.taken_is);
  pending_is = none_counted number done (Noted e) not_lost refl ∙ is.pending_is;
  told_at_most = is.told_at_most;
}

pub app-tells : (done : List Mark) (writers : List Writer) (number : ℕ) (app : App) (other count : ℕ) (moment : Moment) → eqb other number ≡ true → IsAppAfter done writers number app
    → IsAppAfter (done ++ Noted (event.Lost other count moment) ∷ []) writers number (record app { losses = record { entries = app.losses.entries; gone = length app.losses.entries } })
app-tells done writers number app other count moment e is = let mark = Noted (event.Lost other count moment) in record {
  ring_is = is.ring_is ∙ ap (map as_pushed) (sym (none_pushed number done mark refl));
  taken_is = none_taken number done mark refl ∙ is.taken_is;
  pending_is =
      let after : after_last (is_lost_of number) (done ++ mark ∷ []) ≡ [] = after_last-one (is_lost_of number) done mark ∙ rw e refl in
      let none : pending number (done ++ mark ∷ []) ≡ 0 = ap (count_by (is_counted_of number)) after in
      omega (arith, none);
  told_at_most = omega arith;
}
