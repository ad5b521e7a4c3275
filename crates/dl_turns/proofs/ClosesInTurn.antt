-- A client that is closed at the end of a turn, a pump or a stop is so in its turn.
use Rattle.std.proofs.Common.{◌≡◌, ℕ, Bool, true, false, cond, List, [], ◌∷◌, Option, Some, None, inl, inr, refl, sym, subst}
use Rattle.std.specs.Prelude.{IfSome, IsSomeAnd}
use Rattle.dl_bytes.specs.declared.outcome.Done.TheVariants as did
use Rattle.dl_events.specs.declared.event.Event.TheVariants as event
use Rattle.dl_events.specs.declared.event.Why.{Why}
use Rattle.dl_events.specs.declared.event.Why.TheVariants.{Left, Broken, Slow, Malformed, TooMany, NoMemory, Stuck, Stopped}
use Rattle.dl_outside.specs.Told.{LinkTold}
use Rattle.dl_outside.specs.declared.link.Gave.{Gave}
use Rattle.dl_outside.specs.declared.link.Gave.TheVariants as gave
use Rattle.dl_core.specs.State.{Core}
use Rattle.dl_core.specs.Next.{CanEnd, ComesInTurn}
use Rattle.dl_core.proofs.InTurn.{close_at_reply, other_close}
use Rattle.dl_turns.specs.State.{Side}
use Rattle.dl_turns.specs.Stopping.{IsStop}
use Rattle.dl_turns.specs.Turns.{ClosesFor, Heeds, Refuses, SendsRightly, ServesEach}

-- where the client can be closed for this cause, its Close stands in its turn
abbrev EndsInTurn : ℕ → Core → Why → Type 0
EndsInTurn client core why = CanEnd core client why → ComesInTurn (event.Close client why) [] core

-- the same of a cause that may be there
abbrev pub MayEndInTurn : ℕ → Core → Option Why → Type 0
MayEndInTurn client core why = IfSome why (EndsInTurn client core)

by_cause : (client : ℕ) (core : Core) (why cause : Option Why) → why ≡ cause → MayEndInTurn client core cause → MayEndInTurn client core why
by_cause client core why cause is ends = subst (MayEndInTurn client core) (sym is) ends

refused_ends : (client : ℕ) (frame : List ℕ) (core : Core) (why : Option Why) → IsSomeAnd why (λ cause. Refuses client frame cause core) → MayEndInTurn client core why
refused_ends client frame core (Some TooMany) refused = λ end. other_close core client TooMany [] end refl
refused_ends client frame core (Some NoMemory) refused = λ end. other_close core client NoMemory [] end refl
refused_ends client frame core (Some (Slow room need)) refused =
    λ end. close_at_reply core client room need [] end (record { frame = frame; answer = did.Yes; size_is = refused.3 did.Yes; limit = refused.4 })
refused_ends client frame core (Some Left) refused = absurd refused
refused_ends client frame core (Some Broken) refused = absurd refused
refused_ends client frame core (Some Malformed) refused = absurd refused
refused_ends client frame core (Some (Stuck left)) refused = absurd refused
refused_ends client frame core (Some Stopped) refused = absurd refused
refused_ends client frame core None refused = absurd refused

bad_ends : (client : ℕ) (core : Core) (bad : Bool) → MayEndInTurn client core (cond bad (Some Malformed) None)
bad_ends client core true = λ end. other_close core client Malformed [] end refl
bad_ends client core false = tt

each_ends : (client : ℕ) (frames : List (List ℕ)) (bad : Bool) (why : Option Why) (old new : Side) → ServesEach client frames bad why old new → MayEndInTurn client new.core why
each_ends client [] bad why old new all = by_cause client new.core why (cond bad (Some Malformed) None) all.0 (bad_ends client new.core bad)
each_ends client (frame ∷ frames) bad why old new (inl refused) = subst (λ (s : Side). MayEndInTurn client s.core why) (sym refused.1) (refused_ends client frame old.core why refused.0)
each_ends client (frame ∷ frames) bad why old new (inr served) = each_ends client frames bad why served.0 new served.2

pub heeds_end : (client : ℕ) (unread : List ℕ) (answer : Gave) (into : List ℕ) (why : Option Why) (old new : Side) → Heeds client unread answer into why old new → MayEndInTurn client new.core why
heeds_end client unread (gave.Bytes count) into why old new heeds = each_ends client _ _ why old new heeds
heeds_end client unread gave.NotYet into why old new heeds = by_cause client new.core why None heeds.0 tt
heeds_end client unread gave.End into why old new heeds = by_cause client new.core why (Some Left) heeds.0 (λ end. other_close new.core client Left [] end refl)
heeds_end client unread gave.Failed into why old new heeds = by_cause client new.core why (Some Broken) heeds.0 (λ end. other_close new.core client Broken [] end refl)

pub sends_end : (client : ℕ) (why : Option Why) (core : Core) (link link_now : LinkTold) → SendsRightly client why core link link_now → MayEndInTurn client core why
sends_end client None core link link_now sends = tt
sends_end client (Some Broken) core link link_now sends = λ end. other_close core client Broken [] end refl
sends_end client (Some Left) core link link_now sends = absurd sends
sends_end client (Some Malformed) core link link_now sends = absurd sends
sends_end client (Some TooMany) core link link_now sends = absurd sends
sends_end client (Some NoMemory) core link link_now sends = absurd sends
sends_end client (Some (Slow room need)) core link link_now sends = absurd sends
sends_end client (Some (Stuck left)) core link link_now sends = absurd sends
sends_end client (Some Stopped) core link link_now sends = absurd sends

pub stop_ends : (client : ℕ) (why : Why) (core : Core) → IsStop why → MayEndInTurn client core (Some why)
stop_ends client Stopped core stop = λ end. other_close core client Stopped [] end refl
stop_ends client (Stuck left) core stop = λ end. other_close core client (Stuck left) [] end refl
stop_ends client _ core stop = absurd stop

-- and it can be closed, since it is
pub comes : (client : ℕ) (why : Option Why) (old new : Side) → MayEndInTurn client old.core why → ClosesFor client why old new → IfSome why (λ cause. ComesInTurn (event.Close client cause) [] old.core)
comes client None old new may closes = tt
comes client (Some why) old new may closes = may (record { settled = closes.settled; may = closes.may; limit = closes.limit })
