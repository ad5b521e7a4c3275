use Rattle.std.proofs.Common.{◌≡◌, ◌<◌, ◌-◌, ◌∙◌, ℕ, List, Some, inl, inr, length, sym, ap, subst, arith}
use Rattle.std.specs.Prelude.{slice_get}
use Rattle.std.proofs.lemmas.Bool.Decides.{eqb_tells}
use Rattle.std.proofs.lemmas.Option.{slice_get-get_or}
use Rattle.dl_bytes.specs.Limits.{message_limit}
use Rattle.dl_rounds.specs.declared.listener.Listener.{Listener}
use Rattle.dl_rounds.specs.Ready.{fresh_listener}
use Rattle.dl_rounds.specs.ListenerPool.{Seated}
use Rattle.dl_rounds.proofs.SeatedListeners.{takes_over}
use Rattle.dl_rounds.proofs.Turned.{open_and_gone, open_within}
use Rattle.dl_rounds.proofs.listener_pool.ListenerPool.seat.Goals as goal
use Rattle.dl_lemmas.proofs.Lists.{set_here, set_other, there}

pub seat_of_gone-seat-requires-clause-waits : goal.seat_of_gone-seat-requires-clause-waits
seat_of_gone-seat-requires-clause-waits c = λ seat is.
    c.has_seat.ensures.none c.if-has_seat.false
    (seat, subst (λ (x : Seated). slice_get x.clients seat ≡ Some c.args.client) c.self.view_is (subst (λ (cs : List ℕ). slice_get cs seat ≡ Some c.args.client) c.deref.ensures.value is))

pub invariant_of-self : goal.invariant_of-self
invariant_of-self c =
    let s = c.self.inside in
    let seat = c.seat_of_gone-seat.result in
    let within : seat < length s.clients.items = omega (arith, c.seat_of_gone-seat.ensures.within, ap (λ (cs : List ℕ). length cs) c.deref.ensures.value) in
    let none = λ (other : ℕ) (is : slice_get s.clients.items other ≡ Some c.args.client).
    c.has_seat.ensures.none c.if-has_seat.false (other, subst (λ (x : Seated). slice_get x.clients other ≡ Some c.args.client) c.self.view_is is) in
    let was = c.index_mut-2.result.now in
    let at : slice_get s.listeners.items seat ≡ Some was =
    slice_get-get_or s.listeners.items seat was (omega (arith, within, c.self.invariant.seats, c.self.invariant.many)) ∙ ap (λ (l : Listener). Some l) (sym c.index_mut-2.ensures.value) in
    (takes_over s.clients.items s.listeners.items s.past.listeners c.past_of-self-inside.result.listeners seat c.args.client was c.clear.new.self c.self.invariant within
    (open_within c.args.hub.now c.args.client c.requires.open).0 none
    (subst (λ (x : Seated). slice_get x.listeners (c.args.client - 1) ≡ Some fresh_listener) (sym c.self.view_is) (c.requires.waits (c.has_seat.ensures.none c.if-has_seat.false)))
    (subst (λ (x : Seated). (place : ℕ) (l : Listener) → slice_get x.listeners place ≡ Some l → l.cutter.limit ≡ message_limit) (sym c.self.view_is) c.requires.limits)
    at c.clear.ensures (c.past_of-self-inside.ensures ∙ sym (ap (λ (x : Seated). x.listeners) c.self.view_is))).0

pub returns-clause-listeners : goal.returns-clause-listeners
returns-clause-listeners c =
    let s = c.self.inside in
    let seat = c.seat_of_gone-seat.result in
    let within : seat < length s.clients.items = omega (arith, c.seat_of_gone-seat.ensures.within, ap (λ (cs : List ℕ). length cs) c.deref.ensures.value) in
    let none = λ (other : ℕ) (is : slice_get s.clients.items other ≡ Some c.args.client).
    c.has_seat.ensures.none c.if-has_seat.false (other, subst (λ (x : Seated). slice_get x.clients other ≡ Some c.args.client) c.self.view_is is) in
    let was = c.index_mut-2.result.now in
    let at : slice_get s.listeners.items seat ≡ Some was =
    slice_get-get_or s.listeners.items seat was (omega (arith, within, c.self.invariant.seats, c.self.invariant.many)) ∙ ap (λ (l : Listener). Some l) (sym c.index_mut-2.ensures.value) in
    (takes_over s.clients.items s.listeners.items s.past.listeners c.past_of-self-inside.result.listeners seat c.args.client was c.clear.new.self c.self.invariant within
    (open_within c.args.hub.now c.args.client c.requires.open).0 none
    (subst (λ (x : Seated). slice_get x.listeners (c.args.client - 1) ≡ Some fresh_listener) (sym c.self.view_is) (c.requires.waits (c.has_seat.ensures.none c.if-has_seat.false)))
    (subst (λ (x : Seated). (place : ℕ) (l : Listener) → slice_get x.listeners place ≡ Some l → l.cutter.limit ≡ message_limit) (sym c.self.view_is) c.requires.limits)
    at c.clear.ensures (c.past_of-self-inside.ensures ∙ sym (ap (λ (x : Seated). x.listeners) c.self.view_is))).1 ∙ ap (λ (x : Seated). x.listeners) c.self.view_is

pub returns-clause-has : goal.returns-clause-has
returns-clause-has c =
    let s = c.self.inside in
    let seat = c.seat_of_gone-seat.result in
    let within : seat < length s.clients.items = omega (arith, c.seat_of_gone-seat.ensures.within, ap (λ (cs : List ℕ). length cs) c.deref.ensures.value) in
    let was = there s.clients.items seat within in (seat, set_here s.clients.items seat was.0 c.args.client was.1)

pub returns-clause-stay : goal.returns-clause-stay
returns-clause-stay c = λ number open_so has.
    let s = c.self.inside in
    let seat = c.seat_of_gone-seat.result in
    let own : slice_get s.clients.items has.0 ≡ Some number = subst (λ (x : Seated). slice_get x.clients has.0 ≡ Some number) (sym c.self.view_is) has.1 in
    elim (eqb_tells has.0 seat) [
      | inl this ↦
          let here = subst (λ (n : ℕ). slice_get s.clients.items n ≡ Some number) this.1 own in
          open_and_gone c.args.hub.now number open_so (c.seat_of_gone-seat.ensures.gone number (subst (λ (cs : List ℕ). slice_get cs seat ≡ Some number) (sym c.deref.ensures.value) here))
      | inr else ↦ (has.0, set_other s.clients.items seat has.0 c.args.client else.1 ∙ own)
    ]
