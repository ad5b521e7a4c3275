use Rattle.std.proofs.Common.{◌≡◌, ℕ, Some, inl, inr, sym, subst, arith}
use Rattle.std.specs.Prelude.{get_or, slice_get, IsSome}
use Rattle.std.proofs.lemmas.Bool.{cases_lt}
use Rattle.dl_hub.specs.State.{outbox_of}
use Rattle.dl_lemmas.proofs.Lists.{get_or-there}
use Rattle.dl_rounds.proofs.GoneSeats.{seat_below}
use Rattle.dl_rounds.proofs.listener_pool.seat_of_gone.Goals as goal

pub bounds-clients-seat : goal.bounds-clients-seat
bounds-clients-seat c =
    seat_below c.args.hub.now c.args.clients.now c.args.client c.loop-seat.seat c.requires.seats c.requires.apart c.requires.open c.requires.waits c.few_are_open.ensures c.loop-seat.invariant.all_open

pub loop-seat-preserved : goal.loop-seat-preserved
loop-seat-preserved c =
    let below = seat_below c.args.hub.now c.args.clients.now c.args.client c.loop-seat.seat c.requires.seats c.requires.apart c.requires.open c.requires.waits c.few_are_open.ensures c.loop-seat.invariant.all_open in
    record {
      within = omega (arith, below);
      all_open = λ seat number before is. elim (cases_lt seat c.loop-seat.seat) [
        | inl less ↦ c.loop-seat.invariant.all_open seat number less is
        | inr here ↦
            let this : c.loop-seat.seat ≡ seat = omega (arith, here, before) in
            let own : get_or c.args.clients.now c.loop-seat.seat 0 ≡ number = get_or-there c.args.clients.now c.loop-seat.seat number 0 (subst (λ (n : ℕ). slice_get c.args.clients.now n ≡ Some number) (sym this) is) in
            subst (λ (n : ℕ). IsSome (outbox_of c.args.hub.now n)) own (c.is_open.ensures.0 c.loop-seat-test.true)
      ];
    }

pub returns-clause-within : goal.returns-clause-within
returns-clause-within c =
    seat_below c.args.hub.now c.args.clients.now c.args.client c.loop-seat.seat c.requires.seats c.requires.apart c.requires.open c.requires.waits c.few_are_open.ensures c.loop-seat.invariant.all_open
