-- What serving comes to, by the laws of its rounds and of its closing.
use Rattle.std.proofs.Common.{◌≡◌, ℕ, zero, suc, Bool, true, List, ◌++◌, map, Some, refl, sym, ap, subst, ◌∙◌, append_assoc}
use Rattle.std.specs.Prelude.{◌↔◌, IsSome}
use Rattle.std.proofs.lemmas.List.{length-map}
use Rattle.dl_bytes.specs.declared.moment.Moment.{Moment}
use Rattle.dl_core.specs.Follows.{IsAfter, Run}
use Rattle.dl_core.specs.State.{Core}
use Rattle.dl_events.specs.Journal.{Journaled}
use Rattle.dl_events.specs.declared.event.Event.{Event}
use Rattle.dl_hub.specs.State.{outbox_of}
use Rattle.dl_loop.specs.Daemon.{TellTaken}
use Rattle.dl_model.specs.Journal.{IsOpen}
use Rattle.dl_outside.specs.Links.{Links}
use Rattle.dl_outside.specs.Told.{FolderTold, LinkTold, NetTold}
use Rattle.dl_server.specs.Closing.{IsClosed}
use Rattle.dl_server.specs.Holds.{GoesOn, GoesOnUntilClosed, Holds}
use Rattle.dl_server.specs.Round.{IsRound}
use Rattle.dl_server.specs.State.{State, seen}
use Rattle.dl_server.proofs.HeldStates.{goes_both, goes_same}
use Rattle.dl_startup.specs.Setup.{IsBegun}
use Rattle.dl_startup.specs.Unchanged.{IsQuiet}
use Rattle.dl_turns.specs.Gone.{TellTheEnd}
use Rattle.dl_serve.specs.declared.beginning.Begun.{Begun}
use Rattle.dl_serve.specs.declared.closed.Closed.{Closed}
use Rattle.dl_serve.specs.Comes.{IsComeTo}
use Rattle.dl_serve.specs.Open.{setting}
use Rattle.dl_serve.specs.Program.{HasOpened}
use Rattle.dl_serve.specs.Rounds.{AreRounds, kept}
use Rattle.dl_serve.specs.Told.{Told}
use Rattle.dl_serve.proofs.CameTo.{IsFresh, come_to}

-- a server goes on, and then it goes out
pub then_out : (Tell Held : Type 0) (old between new : State) → GoesOn Tell Held old between → GoesOnUntilClosed Tell Held between new → GoesOnUntilClosed Tell Held old new
then_out Tell Held old between new first second = λ run events holds.
    let one = first run events holds in
    let two = second run (events ++ one.0) one.1 in
    (one.0 ++ two.0, subst (λ (es : List Event). Holds Tell Held ⊥ run es new) (append_assoc events one.0 two.0) two.1)

module _ {L : Type 0} (link_told : L → LinkTold) (Held : Type 0)
    (round : (net net_now users users_now : NetTold L) (old new : State) → IsRound link_told net net_now users users_now old new → GoesOn (TellTaken link_told) Held old new) where
  pub rounds_on : (many : ℕ) (net net_now users users_now : NetTold L) (old new : State) → AreRounds link_told many net net_now users users_now old new → GoesOn (TellTaken link_told) Held old new
  rounds_on zero net net_now users users_now old new h = goes_same (TellTaken link_told) Held old new h.2
  rounds_on (suc many) net net_now users users_now old new h =
      goes_both (TellTaken link_told) Held old h.2 new (rounds_on many net h.0 users h.1 old h.2 h.3) (round h.0 net_now h.1 users_now h.2 new h.5)

module _ {L : Type 0} (link_told : L → LinkTold)
    (round : (held : Bool) (net net_now users users_now : NetTold L) (old new : State) → IsRound link_told net net_now users users_now old new → GoesOn (TellTaken link_told) (held ≡ true) old new)
    (close : (held : Bool) (moment : Moment) (old new : State) → IsClosed (TellTheEnd link_told) moment old new → GoesOnUntilClosed (TellTaken link_told) (held ≡ true) old new)
    (outbox : (run : Run) (events : List Event) (taken : ℕ → List ℕ) (core : Core) (client : ℕ) → IsAfter run events taken core → IsSome (outbox_of core.hub client) ↔ IsOpen client events) where
  module _ (begun : Begun) (old new : Told L) (full : Bool) (closed : Closed L) (first : FolderTold) (begins : IsBegun begun.conf first.files begun.trace) (quiet : IsQuiet first old.folder)
      (has : HasOpened link_told begun full old new closed) where
    abbrev start : State
    start = seen link_told kept true old.folder has.opened.server

    fresh : IsFresh (setting begun) begun start
    fresh = record {
      kept = ap (λ (j : Journaled). Some j.events) has.is_opened.made.journal_is;
      begins = has.is_opened.begins;
      trace = ap (λ (c : Core). c.trace) has.is_opened.made.core_is;
      no_client = ap (λ (ls : Links L). map link_told ls.links) has.is_opened.made.no_client;
      many = has.is_opened.is_server.linked.many ∙ sym (length-map has.opened.server.clients.links link_told);
      settled = has.is_opened.is_server.linked.settled;
      directory = refl;
    }

    goes : (held : Bool) → GoesOnUntilClosed (TellTaken link_told) (held ≡ true) start has.run.closes.0
    goes held =
        then_out (TellTaken link_told) (held ≡ true) start has.run.last has.run.closes.0
        (rounds_on link_told (held ≡ true) (round held) has.run.served.many has.net new.net has.users new.users start has.run.last has.run.served.rounds) (close held has.run.moment has.run.last has.run.closes.0 has.run.closes.2)

    pub served_to : IsComeTo link_told (setting begun) begun first new.folder closed
    served_to =
        subst (λ (f : FolderTold). IsComeTo link_told (setting begun) begun first f closed) has.run.closes.1
        (come_to link_told outbox (setting begun) begun first begins start has.run.closes.0 quiet fresh goes has.run.closes.2.clients.none_open closed has.run.closes.3)
