use Rattle.std.proofs.Common.{◌≡◌, ℕ, List, ◌++◌, ◌-◌, ◌+◌, cond, true, false, length, take, drop, None, Ok, refl, sym, ap, ◌∙◌, arith}
use Rattle.std.proofs.lemmas.Bool.{false_from_ne_true}
use Rattle.dl_bytes.specs.Buffer.{Held}
use Rattle.dl_message.specs.Cut.{without_serial, IsPiece, rest_fault, IsShort}
use Rattle.dl_message.specs.Cutting.{Cutting}
use Rattle.dl_message.proofs.Joined.{same_cutting}
use Rattle.dl_message.proofs.Pieces.{given_of, short_no_piece, room_left}
use Rattle.dl_message.proofs.cutter.Cutter.next.Goals as goal

-- what was given of the rest
given : (c : goal.After-self-in-Ok-Some-1) → let old = c.args.self.now in let behind = c.consume-in-Ok-Some.new.self.bytes in
    (piece : List ℕ) × IsPiece old.limit piece × (old.unread ≡ piece ++ drop c.in-Ok-Some.len behind) × (take c.in-Ok-Some.len behind ≡ without_serial piece)
given c =
    let old = c.args.self.now in
    let front = c.without_serial-front.result.now in
    let limit : c.self.inside.limit ≡ old.limit = ap (λ (v : Cutting). v.limit) c.self.view_is in
    let held : c.bytes-held.result.now ≡ old.unread = cc (ap (λ (v : Cutting). v.unread) c.self.view_is) in
    let whole = rw (c.in-Ok-Some.field-0-is, limit) at c.in-Ok-Some.ensures.whole in
    let within = rw c.in-Ok-Some.field-0-is at c.in-Ok-Some.ensures.within in
    let behind = ap (λ (b : Held). b.bytes) c.consume-in-Ok-Some.ensures
    ∙ ap (drop (length c.bytes-held.result.now - length front)) (sym c.bytes-held.ensures.value ∙ held) ∙ ap (λ x. drop (length x - length front) old.unread) held in
    given_of old.limit c.in-Ok-Some.len old.unread front c.consume-in-Ok-Some.new.self.bytes (c.without_serial-front.ensures ∙ ap without_serial held) behind within whole

pub returns-in-Ok-Some-clause-answer : goal.returns-in-Ok-Some-clause-answer
returns-in-Ok-Some-clause-answer c =
    let limit = ap (λ (v : Cutting). v.limit) c.self.view_is in
    let room = ap (λ (r : ℕ). cond c.self.inside.closed 0 r) (ap (λ (b : Held). b.room) c.consume-in-Ok-Some.ensures ∙ ap (λ (b : Held). b.room) c.consume.ensures) ∙ ap (λ (v : Cutting). v.room) c.self.view_is in
    let found = given c in
    ((found.0, found.1, found.2, found.3), same_cutting limit refl refl room)

pub returns-in-Ok-Some-clause-whole : goal.returns-in-Ok-Some-clause-whole
returns-in-Ok-Some-clause-whole c = λ _.
    let found = given c in
    rw (ap (λ (v : Cutting). v.limit) c.self.view_is, found.3) found.1

pub returns-in-Ok-None-clause-answer : goal.returns-in-Ok-None-clause-answer
returns-in-Ok-None-clause-answer c =
    let old = c.args.self.now in
    let limit : c.self.inside.limit ≡ old.limit = ap (λ (v : Cutting). v.limit) c.self.view_is in
    let held : c.bytes-held.result.now ≡ old.unread = cc (ap (λ (v : Cutting). v.unread) c.self.view_is) in
    let front : c.without_serial-front.result.now ≡ without_serial old.unread = c.without_serial-front.ensures ∙ ap without_serial held in
    let good : rest_fault old.limit old.unread ≡ None = sym (rw (limit, front) at c.in-Ok-None.ensures.fault) in
    let short : IsShort (without_serial old.unread) = rw front at c.in-Ok-None.ensures.short (ap Ok c.in-Ok-None.field-0-is) in
    let left = room_left old.limit old.unread (rw (← limit) c.self.invariant.least) good short in
    let fault = λ (h : c.self.inside.closed ≡ true). c.self.invariant.bad h (rw (limit, ap (λ (v : Cutting). v.unread) c.self.view_is) good) in
    let not_closed : c.self.inside.closed ≡ false = false_from_ne_true _ fault in
    let bytes : c.compact.new.self.bytes ≡ old.unread = ap (λ (b : Held). b.bytes) c.compact.ensures ∙ sym c.bytes-held.ensures.value ∙ held in
    let room : c.compact.new.self.room ≡ old.limit + 4 - length old.unread =
    ap (λ (b : Held). b.room) c.compact.ensures
    ∙ ap (λ (b : Held). b.capacity - length b.bytes) c.consume.ensures
    ∙ ap (λ (x : List ℕ). c.self.inside.buffer.capacity - length x) (ap (λ (v : Cutting). v.unread) c.self.view_is)
    ∙ ap (λ (x : ℕ). x - length old.unread) (c.self.invariant.longest ∙ ap (λ (x : ℕ). x + 4) limit) in
    (record { good = good; ends = short_no_piece old.limit old.unread short }, rw (not_closed, room) (omega (arith, left)), same_cutting limit bytes refl (rw not_closed room))
