-- Why a client is still open after its turn.
use Rattle.std.proofs.Common.{ℕ, List, None, inl, inr, ◌⊎◌, arith, take}
use Rattle.std.proofs.lemmas.List.{length-take}
use Rattle.dl_outside.specs.Outside.{HasRisen}
use Rattle.dl_outside.specs.Told.{LinkTold}
use Rattle.dl_outside.specs.declared.link.Gave.{Gave}
use Rattle.dl_outside.specs.declared.link.Gave.TheVariants as gave
use Rattle.dl_turns.specs.State.{Side, Stage}
use Rattle.dl_turns.specs.Turns.{HasGiven, Hears, Heeds, IsTurn}

stays_by : (client : ℕ) (link link_now : LinkTold) (unread : List ℕ) (answer : Gave) (into : List ℕ) (old new : Side) → Hears link link_now answer into → Heeds client unread answer into None old new
    → HasGiven link.given link_now.given ⊎ HasRisen link.idles link_now.idles
stays_by client link link_now unread (gave.Bytes count) into old new hears heeds = inl (take count into, hears.given, omega (arith, hears.bytes.0, hears.bytes.1, length-take count into))
stays_by client link link_now unread gave.NotYet into old new hears heeds = inr hears.cause.1
stays_by client link link_now unread gave.End into old new hears heeds = absurd (cc heeds.0)
stays_by client link link_now unread gave.Failed into old new hears heeds = absurd (cc heeds.0)

pub stays_since : (client : ℕ) (old new : Stage) → IsTurn client None old new → HasGiven old.link.given new.link.given ⊎ HasRisen old.link.idles new.link.idles
stays_since client old new turn =
    let listens = turn.listens in stays_by client old.link new.link old.cutter.unread listens.answer listens.into old.side turn.between listens.hears listens.heeds
