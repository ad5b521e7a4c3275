use Rattle.std.proofs.Common.{List, ℕ, Some, ◌≡◌, ◌-◌, ◌≤◌, ◌<◌, ◌∙◌, length, refl, sym, ap, subst, arith}
use Rattle.std.specs.Prelude.{slice_get}
use Rattle.std.proofs.lemmas.Option.{slice_get-get_or}
use Rattle.dl_rounds.specs.declared.listener.Listener.{Listener}
use Rattle.dl_rounds.specs.Lends.{with_listener}
use Rattle.dl_rounds.specs.ListenerPool.{Seated}
use Rattle.dl_lemmas.proofs.Lists.{within_of}
use Rattle.dl_rounds.proofs.SeatedListeners.{fits_lent, laid_get, laid_length, lent_set}
use Rattle.dl_rounds.proofs.listener_pool.ListenerPool.of_mut.Goals as goal

pub invariant_of-self-lent : goal.invariant_of-self-lent
invariant_of-self-lent c = λ w.
    let s = c.self.inside in
    let has : slice_get s.clients.items c.seat_of-seat.result ≡ Some c.args.client = subst (λ (cs : List ℕ). slice_get cs c.seat_of-seat.result ≡ Some c.args.client) c.deref.ensures.value c.seat_of-seat.ensures in
    let within = subst (λ (x : Seated). c.args.client ≤ length x.listeners) (sym c.self.view_is) c.requires.within in
    fits_lent s.clients.items s.listeners.items s.past.listeners c.seat_of-seat.result c.args.client w c.self.invariant has within

pub returns : goal.returns
returns c =
    let s = c.self.inside in
    let has : slice_get s.clients.items c.seat_of-seat.result ≡ Some c.args.client = subst (λ (cs : List ℕ). slice_get cs c.seat_of-seat.result ≡ Some c.args.client) c.deref.ensures.value c.seat_of-seat.ensures in
    let within = subst (λ (x : Seated). c.args.client ≤ length x.listeners) (sym c.self.view_is) c.requires.within in
    let below : c.seat_of-seat.result < length s.listeners.items = omega (arith, within_of s.clients.items c.seat_of-seat.result c.args.client has, c.self.invariant.seats, c.self.invariant.many) in
    let at : slice_get s.listeners.items c.seat_of-seat.result ≡ Some c.index_mut.result.now =
    slice_get-get_or s.listeners.items c.seat_of-seat.result c.index_mut.result.now below ∙ ap (λ (l : Listener). Some l) (sym c.index_mut.ensures.value) in
    let stands = laid_get s.clients.items s.listeners.items s.past.listeners c.seat_of-seat.result c.args.client c.index_mut.result.now c.self.invariant.apart c.self.invariant.from_one has at
    (omega (arith, within, laid_length s.clients.items s.listeners.items s.past.listeners)) in (
      (
        refl,
        λ w.
            ap (λ (ls : List Listener). record { listeners = ls; clients = s.clients.items })
            (lent_set s.clients.items s.listeners.items s.past.listeners c.seat_of-seat.result c.args.client w c.self.invariant has)
            ∙ ap (λ (x : Seated). with_listener x c.args.client w) c.self.view_is,
      ),
      record { value = subst (λ (x : Seated). slice_get x.listeners (c.args.client - 1) ≡ Some c.index_mut.result.now) c.self.view_is stands; writes_back = tt },
    )
