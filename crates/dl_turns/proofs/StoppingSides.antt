-- Closing turns, one after the other.
use Rattle.std.proofs.Common.{◌≡◌, ℕ, zero, suc, ◌+◌, ◌<◌, Bool, true, false, [], length, Option, Some, None, inl, inr, ◌⊎◌, refl, sym, ap, subst, arith}
use Rattle.std.specs.Prelude.{IsSomeAnd}
use Rattle.std.proofs.lemmas.List.{nil_from_length}
use Rattle.dl_events.specs.declared.event.Why.{Why}
use Rattle.dl_message.specs.Cutting.{Cutting}
use Rattle.dl_outside.specs.Outside.{HasRisen, Stays}
use Rattle.dl_outside.specs.Told.{LinkTold}
use Rattle.dl_hub.specs.State.{Waiting, outbox_of}
use Rattle.dl_turns.specs.State.{Side, Stage}
use Rattle.dl_turns.specs.Stopping.{GoesOn, IsQuiet, HasClosingTurns, TurnsOn}
use Rattle.dl_turns.specs.Turns.{HasGiven, HasSent}

pub empty_outbox : (o : Option Waiting) → IsSomeAnd o (λ b. length b.bytes ≡ 0) → IsSomeAnd o (λ b. b.bytes ≡ [])
empty_outbox None is = absurd is
empty_outbox (Some b) is = nil_from_length b.bytes is

pub not_empty : {A : Type 0} (o : Option Waiting) → IsSomeAnd o (λ b. 0 < length b.bytes) → IsSomeAnd o (λ b. b.bytes ≡ []) → A
not_empty None some none = absurd some
not_empty (Some b) some none = absurd (omega (arith, some, ap length none))

-- a quiet turn, and another one
pub quiet_so : (client : ℕ) (quiet gave : Bool) (link heard link_now : LinkTold) (side : Side)
    → (quiet ≡ true → (gave ≡ false) × IsSomeAnd (outbox_of side.core.hub client) (λ outbox. length outbox.bytes ≡ 0))
    → (quiet ≡ false → (gave ≡ true) ⊎ IsSomeAnd (outbox_of side.core.hub client) (λ outbox. 0 < length outbox.bytes))
    → (gave ≡ true → HasGiven link.given heard.given) → (gave ≡ false → HasRisen link.idles heard.idles × Stays link.given heard.given)
    → HasSent client side.core heard link_now → IsQuiet client quiet link heard link_now side
quiet_so client true gave link heard link_now side is not given idle sent = let so = is refl in let idled = idle so.0 in (idled.0, empty_outbox (outbox_of side.core.hub client) so.1, idled.1)
quiet_so client false gave link heard link_now side is not given idle sent = elim (not refl) [
  | inl some ↦ inl (given some)
  | inr left ↦ elim sent [
    | inl none ↦ not_empty (outbox_of side.core.hub client) left none.0
    | inr busy ↦ inr busy.1
  ]
]

-- one turn more at the end
turn_behind : (client count : ℕ) (old last new : Stage) → TurnsOn client count old last → GoesOn client false last new → TurnsOn client (suc count) old new
turn_behind client zero old last new turns goes = (new, subst (λ (s : Stage). GoesOn client false s new) turns goes, refl)
turn_behind client (suc count) old last new turns goes = (turns.0, turns.1, turn_behind client count turns.0 last new turns.2 goes)

pub one_turn_more : (client count : ℕ) (old last new : Stage) → TurnsOn client count old last → GoesOn client false last new → TurnsOn client (count + 1) old new
one_turn_more client count old last new turns goes =
    let next : suc count ≡ count + 1 = omega arith in subst (λ (n : ℕ). TurnsOn client n old new) next (turn_behind client count old last new turns goes)

-- the same of a link that has rested
pub goes_by : (client : ℕ) (quiet : Bool) (old : Stage) (link link_now : LinkTold) (cutter : Cutting) (now : Side) → link_now ≡ link
    → GoesOn client quiet old (record { link = link; cutter = cutter; side = now }) → GoesOn client quiet old (record { link = link_now; cutter = cutter; side = now })
goes_by client quiet old link link_now cutter now same goes = subst (λ (l : LinkTold). GoesOn client quiet old (record { link = l; cutter = cutter; side = now })) (sym same) goes

-- the same by another name of the cutter
pub wound_by : (client : ℕ) (why : Why) (old : Stage) (link : LinkTold) (cutter cutter_now : Cutting) (now : Side) → cutter_now ≡ cutter
    → HasClosingTurns client why old (record { link = link; cutter = cutter; side = now }) → HasClosingTurns client why old (record { link = link; cutter = cutter_now; side = now })
wound_by client why old link cutter cutter_now now same wound = subst (λ (c : Cutting). HasClosingTurns client why old (record { link = link; cutter = c; side = now })) (sym same) wound
