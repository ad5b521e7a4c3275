-- A server goes on for its journal with a client that comes, and where links of clients that are gone are shut.
use Rattle.std.proofs.Common.{◌≡◌, ◌+◌, ◌-◌, ℕ, Bool, inl, inr, List, [], ◌∷◌, ◌++◌, Option, length, map, refl, sym, ap, subst, ◌∙◌, arith, append-nil, length-append}
use Rattle.std.specs.Prelude.{IfSome}
use Rattle.std.proofs.lemmas.List.{map-append}
use Rattle.dl_core.specs.Follows.{HoldsTrace, IsAfter, source_of}
use Rattle.dl_core.specs.State.{Core}
use Rattle.dl_events.specs.Journal as notes
use Rattle.dl_events.specs.declared.event.Event.{Event}
use Rattle.dl_events.specs.declared.event.Event.TheVariants as event
use Rattle.dl_loop.specs.Daemon.{TellTaken}
use Rattle.dl_loop.specs.Holds.{AreTaken}
use Rattle.dl_model.specs.Journal.{IsInTurn}
use Rattle.dl_outside.specs.Links.{Links}
use Rattle.dl_outside.specs.Told.{FolderTold, LinkTold, NetTold}
use Rattle.dl_model.proofs.LongerJournals.{goes_on}
use Rattle.dl_registry.specs.Kept.{owed_change}
use Rattle.dl_rounds.specs.Arrivals.{Arrives, Connects, ConnectsAs}
use Rattle.dl_rounds.specs.declared.accepting.Arrival.{Arrival}
use Rattle.dl_rounds.specs.declared.accepting.Arrival.TheVariants as arrival
use Rattle.dl_core.proofs.Connecting.{connect_in_turn}
use Rattle.dl_core.proofs.Following.{running_on}
use Rattle.dl_server.specs.Accepts.{AcceptsClientIfMay, AcceptsProgramIfMay}
use Rattle.dl_server.specs.Holds.{GoesOn, Holds}
use Rattle.dl_server.specs.State.{State, with_want}
use Rattle.dl_server.specs.Steps.{PartsClients}
use Rattle.dl_server.proofs.HeldStates.{goes_aside, goes_same}
use Rattle.dl_loop.proofs.Accepted.{taken_one_more}
use Rattle.dl_loop.proofs.Parted.{taken_parted}
use Rattle.dl_lemmas.proofs.Options.{nothing_taken}

-- ---- a client comes

module _ {L : Type 0} (told : L → LinkTold) (Held : Type 0) where
  connected : (number : ℕ) (old new : State) (link : L) → Connects number old.core new.core old.events new.events → IfSome (told link).taken (λ bytes. bytes ≡ []) → new.folder ≡ old.folder
      → new.clients ≡ old.clients ++ told link ∷ [] → GoesOn (TellTaken told) Held old new
  connected number old new link connects fresh folder clients = λ run events holds.
      let after = connects.after old.folder run events holds.took tt holds.after in
      let longer : length new.clients ≡ length old.clients + 1 = ap (λ (ls : List LinkTold). length ls) clients ∙ length-append old.clients (told link ∷ []) in
      let more_clients : length new.core.hub.clients ≡ length old.core.hub.clients + 1 = ap length connects.comes.1 ∙ length-append old.core.hub.clients (connects.comes.0 ∷ []) in (
        event.Connect number ∷ [],
        record {
          kept = subst (λ (o : Option (List Event)). notes.Adds o new.events (event.Connect number)) holds.kept connects.event;
          took = holds.took;
          after = after.0;
          taken = λ tells. subst (λ (ls : List LinkTold). AreTaken ls holds.took) (sym clients) (taken_one_more old.clients (told link) holds.took
              (holds.after.hub.untaken (length old.clients + 1) (omega (arith, holds.many))) (nothing_taken (told link).taken (tells link) fresh) (holds.taken tells));
          many = omega (arith, more_clients, longer, holds.many);
          settled = ap (λ (c : Core). owed_change c.registry) connects.rest ∙ holds.settled;
          running = λ so. running_on events (event.Connect number ∷ []) (holds.running tt) refl;
          formed = goes_on run.setting (source_of run) events (event.Connect number ∷ []) holds.formed (
            subst (λ n. IsInTurn run.setting (source_of run) events (event.Connect n) []) (sym connects.next)
                (connect_in_turn old.core [] connects.place holds.settled run events holds.took holds.after (holds.running tt) holds.formed),
            tt,
          );
          trace = λ held. subst (λ (f : FolderTold). HoldsTrace run (events ++ event.Connect number ∷ []) new.core f) (sym folder) (after.1 (holds.trace held));
        },
      )

  -- nobody came
  aside : (old new : State) (links links_now : Links L) → new.core ≡ old.core → new.events ≡ old.events → new.folder ≡ old.folder → old.clients ≡ map told links.links → new.clients ≡ map told links_now.links
      → links_now ≡ links → GoesOn (TellTaken told) Held old new
  aside old new links links_now core events folder were are same =
      goes_aside (TellTaken told) Held old new core events folder (are ∙ ap (λ (ls : Links L). map told ls.links) same ∙ sym were)

  accepts_on : (came : Arrival) (net net_now : NetTold L) (old new : State) (links links_now : Links L) → old.clients ≡ map told links.links → new.clients ≡ map told links_now.links → new.folder ≡ old.folder
      → Arrives told came net net_now links links_now old.dropped new.dropped → ConnectsAs came old.core new.core old.events new.events → GoesOn (TellTaken told) Held old new
  accepts_on (arrival.Client number) net net_now old new links links_now were are folder arrives connects =
      connected number old new arrives.0 connects arrives.1.1.nothing_taken folder
      (are ∙ ap (λ (ls : Links L). map told ls.links) arrives.2 ∙ map-append told links.links (arrives.0 ∷ []) ∙ ap (λ (ls : List LinkTold). ls ++ told arrives.0 ∷ []) (sym were))
  accepts_on arrival.Dropped net net_now old new links links_now were are folder arrives connects = aside old new links links_now connects.1 connects.2 folder were are arrives.2
  accepts_on arrival.Nobody net net_now old new links links_now were are folder arrives connects = aside old new links links_now connects.0 connects.1 folder were are arrives.3
  accepts_on arrival.Failed net net_now old new links links_now were are folder arrives connects = aside old new links links_now connects.0 connects.1 folder were are arrives.2
  accepts_on arrival.OutOfMemory net net_now old new links links_now were are folder arrives connects = aside old new links links_now connects.0 connects.1 folder were are arrives.2

  want_on : (old new : State) → new ≡ with_want old → GoesOn (TellTaken told) Held old new
  want_on old new want = goes_aside (TellTaken told) Held old new (ap (λ (s : State). s.core) want) (ap (λ (s : State). s.events) want) (ap (λ (s : State). s.folder) want) (ap (λ (s : State). s.clients) want)

  pub client_on : (moved : Bool) (net net_now : NetTold L) (old new : State) → AcceptsClientIfMay told moved net net_now old new → GoesOn (TellTaken told) Held old new
  client_on moved net net_now old new (inl none) = goes_same (TellTaken told) Held old new none.3
  client_on moved net net_now old new (inr (inl want)) = want_on old new want.3
  client_on moved net net_now old new (inr (inr came)) =
      let one = came.1 in
      let accepts = one.2 in
      accepts_on one.0 net net_now old new accepts.links accepts.links_now accepts.were accepts.are (ap (λ (s : State). s.folder) accepts.rest) accepts.arrives accepts.connects

  pub program_on : (moved : Bool) (net net_now : NetTold L) (old new : State) → AcceptsProgramIfMay told moved net net_now old new → GoesOn (TellTaken told) Held old new
  program_on moved net net_now old new (inl none) = goes_same (TellTaken told) Held old new none.3
  program_on moved net net_now old new (inr came) =
      let rest = came.3.rest in
      goes_aside (TellTaken told) Held old new (ap (λ (s : State). s.core) rest) (ap (λ (s : State). s.events) rest) (ap (λ (s : State). s.folder) rest) (ap (λ (s : State). s.clients) rest)

-- ---- links that are shut

pub parts_on : (Tell Held : Type 0) (old new : State) → PartsClients old new → GoesOn Tell Held old new
parts_on Tell Held old new parts = λ run events holds.
    let core : new.core ≡ old.core = ap (λ (s : State). s.core) parts.rest in
    let folder : new.folder ≡ old.folder = ap (λ (s : State). s.folder) parts.rest in (
      [],
      subst (λ (es : List Event). Holds Tell Held (Unit {0}) run es new) (sym (append-nil events)) (record {
        kept = ap (λ (s : State). s.events) parts.rest ∙ holds.kept;
        took = holds.took;
        after = subst (IsAfter run events holds.took) (sym core) holds.after;
        taken = λ tells. taken_parted old.core.hub old.clients new.clients holds.took parts.shuts (holds.taken tells);
        many = ap (λ (c : Core). length c.hub.clients) core ∙ holds.many ∙ sym parts.shuts.many;
        settled = ap (λ (c : Core). owed_change c.registry) core ∙ holds.settled;
        running = holds.running;
        formed = holds.formed;
        trace = λ held. subst (λ (f : FolderTold). HoldsTrace run events new.core f) (sym folder) (subst (λ (c : Core). HoldsTrace run events c old.folder) (sym core) (holds.trace held));
      }),
    )
