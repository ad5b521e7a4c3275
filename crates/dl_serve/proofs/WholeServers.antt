-- What the links of channels that go on took is all that was put for them, behind each round of a server.
use Rattle.std.proofs.Common.{◌≡◌, ◌<◌, ◌+◌, ℕ, Bool, false, true, inl, inr, List, [], ◌++◌, length, map, take, Option, Some, None, refl, sym, ap, subst, ◌∙◌, arith, append-nil}
use Rattle.std.specs.Prelude.{IsSome, slice_get}
use Rattle.std.proofs.lemmas.Bool.Decides.{eqb_tells}
use Rattle.dl_bytes.specs.declared.moment.Moment.{Moment}
use Rattle.dl_channel.specs.declared.outcome.ChannelEnd.{ChannelEnd}
use Rattle.dl_channel_turns.specs.State.{outbox_of}
use Rattle.dl_core.specs.State.{Core}
use Rattle.dl_events.specs.declared.event.Event.{Event}
use Rattle.dl_lemmas.proofs.Lists.{within_of}
use Rattle.dl_loop.specs.Daemon.{TellTaken}
use Rattle.dl_model.specs.Journal.{registry_of}
use Rattle.dl_model.specs.Registry.{Registry}
use Rattle.dl_model.specs.Setting.{Setting}
use Rattle.dl_outside.specs.Told.{LinkTold, NetTold}
use Rattle.dl_registry.specs.Kept.{owed_change}
use Rattle.dl_rounds.specs.Arrivals.{ConnectsAs}
use Rattle.dl_rounds.specs.Clients.{Clients}
use Rattle.dl_rounds.specs.Passing.{AreLater}
use Rattle.dl_rounds.specs.Visits.{ClosesAll}
use Rattle.dl_rounds.specs.declared.accepting.Arrival.{Arrival}
use Rattle.dl_rounds.specs.declared.accepting.Arrival.TheVariants as arrival
use Rattle.dl_server.proofs.HeldStates.{all_heard_on, all_sent_on}
use Rattle.dl_server.specs.Accepts.{AcceptsClientIfMay, AcceptsProgramIfMay}
use Rattle.dl_server.specs.Closing.{IsClosed}
use Rattle.dl_server.specs.Round.{IsRound}
use Rattle.dl_server.specs.State.{State, scene_of}
use Rattle.dl_server.specs.Steps.{HearsClientsIfMay, PumpsClientsIfMay}
use Rattle.dl_socket.specs.Channels.{Channels, IsOpen}
use Rattle.dl_turns.specs.Gone.{TellTheEnd}
use Rattle.dl_machine.specs.Steps.{Goes, IsToldBy, Stopping}
use Rattle.dl_machine.specs.State as machine
use Rattle.dl_machine.proofs.Composed.{goes_both, goes_one, steps_keep}
use Rattle.dl_machine.proofs.Joined.{joined_get, joined_length}
use Rattle.dl_machine.proofs.LowNumbers.{low_keys}
use Rattle.dl_machine.proofs.NamedSlots.{AreApart}
use Rattle.dl_machine.proofs.ProgramSteps.{program_with, programs_with}
use Rattle.dl_serve.proofs.ServerSteps.{IsReady, TellsOvers, close_programs, closing_goes, round_leads, sent_leads, state_in, state_of}
use Rattle.dl_serve.specs.declared.closed.Closed.{Closed}
use Rattle.dl_serve.specs.Closed.{IsLeft}
use Rattle.dl_serve.specs.Levels.{AllTookLevels, TookLevels, levels_put}
use Rattle.dl_serve.proofs.EmptiedChannels.{EachOpen, IsEmptied, all_emptied}
use Rattle.dl_serve.proofs.OtherEntries.{none_found, taken_at}
use Rattle.dl_serve.proofs.TakenLevels.{Takes, emptied_took}
use Rattle.dl_serve.proofs.TookSteps.{Keeps, Known, gone_apart_of, of_program, step_keeps}
use Rattle.dl_serve.proofs.WholeClosings.{AllWhole, closing_whole}

-- ---- no level is owed

-- no level is owed in a state
abbrev pub IsSettled : State → Type 0
IsSettled s = owed_change s.core.registry ≡ None

pub kept_settled : (old new : State) → new.core.registry ≡ old.core.registry → IsSettled old → IsSettled new
kept_settled old new kept settled = ap owed_change kept ∙ settled

core_settled : (old new : State) → new.core ≡ old.core → IsSettled old → IsSettled new
core_settled old new core settled = kept_settled old new (ap (λ (c : Core). c.registry) core) settled

connected : (came : Arrival) (old new : State) → ConnectsAs came old.core new.core old.events new.events → IsSettled old → IsSettled new
connected (arrival.Client number) old new connects settled = kept_settled old new (ap (λ (c : Core). c.registry) connects.rest) settled
connected arrival.Dropped old new connects settled = core_settled old new connects.1 settled
connected _ old new connects settled = core_settled old new connects.0 settled

module _ {L : Type 0} (told : L → LinkTold) where
  client_came : (came : Bool) (net net_now : NetTold L) (old new : State) → AcceptsClientIfMay told came net net_now old new → IsSettled old → IsSettled new
  client_came came net net_now old new (inl none) settled = subst IsSettled (sym none.3) settled
  client_came came net net_now old new (inr (inl want)) settled = core_settled old new (ap (λ (s : State). s.core) want.3) settled
  client_came came net net_now old new (inr (inr accepts)) settled = connected accepts.1.0 old new accepts.1.2.connects settled

  program_came : (came : Bool) (net net_now : NetTold L) (old new : State) → AcceptsProgramIfMay told came net net_now old new → IsSettled old → IsSettled new
  program_came came net net_now old new (inl none) settled = subst IsSettled (sym none.3) settled
  program_came came net net_now old new (inr accepts) settled = core_settled old new (ap (λ (s : State). s.core) accepts.3.rest) settled

  clients_heard : (moved : Bool) (old new : State) → HearsClientsIfMay moved old new → IsSettled old → IsSettled new
  clients_heard moved old new (inl nobody) settled = subst IsSettled (sym nobody.2) settled
  clients_heard moved old new (inr (inl want)) settled = core_settled old new (ap (λ (s : State). s.core) want.1) settled
  clients_heard moved old new (inr (inr hears)) settled = hears.settled

  clients_pumped : (moved : Bool) (old new : State) → PumpsClientsIfMay moved old new → IsSettled old → IsSettled new
  clients_pumped moved old new (inl want) settled = core_settled old new (ap (λ (s : State). s.core) want.1) settled
  clients_pumped moved old new (inr pumps) settled = pumps.settled

  module _ (net net_now users users_now : NetTold L) (old new : State) (round : IsRound told net net_now users users_now old new) where
    sent_settled : IsSettled old → IsSettled round.pumps.sent
    sent_settled settled =
        let accepts = round.accepts in
        let hears = round.hears in
        let one = client_came accepts.came net net_now old accepts.accepted accepts.accepts settled in
        let two = program_came accepts.entered users users_now accepts.accepted round.accepted accepts.enters one in
        let heard = all_heard_on hears.moment hears.moved (scene_of hears.served) (scene_of round.heard) hears.programs.hears (clients_heard hears.asked round.accepted hears.served hears.clients two) in
        clients_pumped round.pumps.moved round.heard round.pumps.sent round.pumps.clients heard.1

    -- behind a round
    round_settled : IsSettled old → IsSettled new
    round_settled settled =
        let pumps = round.pumps in
        core_settled pumps.pumped new (ap (λ (s : State). s.core) pumps.parts.rest)
        (all_sent_on pumps.moment (scene_of pumps.sent) (scene_of pumps.pumped) pumps.programs.pumps (sent_settled settled)).1

  -- ---- what is known behind each round

  module _ (setting : Setting) (room : ℕ) where
    abbrev Tells : Type 0
    Tells = TellTaken told

    abbrev pub Kept : machine.State → Type 0
    Kept s = Keeps Tells setting room s

    pub keeps_on : (old new : machine.State) → Goes (IsToldBy told) old new → Kept old → Kept new
    keeps_on old new goes keeps =
        steps_keep (IsToldBy told) Kept (step_keeps Tells setting (IsToldBy told) (λ link is tell. subst (λ (l : LinkTold). IsSome l.taken) (sym is.1) (tell is.0)) room) goes.kinds old new goes.steps keeps

    -- It is known what links took; no level is owed; and what links of channels that go on took is all that was put for them.
    pub record Stands (s : State) : Type 0 where
      pub keeps : Kept (state_of s)
      pub ready : IsReady s
      pub settled : IsSettled s
      pub whole : (past : List Event) → s.events ≡ Some past → AllWhole Tells setting past s.programs s.ends

    -- one that came may have come
    some_may : (stops : Bool) (s : State) → Kept (state_in stops s) → (place : ℕ) (link : LinkTold) → slice_get s.programs place ≡ Some link → 0 < room
    some_may stops s keeps place link there = omega (arith, within_of s.programs place link there, joined_length program_with None s.programs s.ends, keeps.1)

    at_place : (s : State) (place : ℕ) (link : LinkTold) (end : Option ChannelEnd) → slice_get s.programs place ≡ Some link → slice_get s.ends place ≡ Some end
        → slice_get (programs_with s.programs s.ends) place ≡ Some (program_with link end)
    at_place s place link end there slot = joined_get program_with None s.programs s.ends place link end there slot

    -- what the link of one that came took of what these events put
    pub takes_at : (stops : Bool) (s : State) → Kept (state_in stops s) → (events : List Event) → s.events ≡ Some events → (place : ℕ) (link : LinkTold) (end : Option ChannelEnd) → slice_get s.programs place ≡ Some link
        → slice_get s.ends place ≡ Some end → Takes Tells (levels_put setting (place + 1) events) link end (outbox_of s.channels.outboxes (place + 1))
    takes_at stops s keeps events kept place link end there slot =
        let known = keeps.2 (some_may stops s keeps place link there) in
        let same : known.0 ≡ events = cc (sym known.1 ∙ kept) in
        subst (λ (es : List Event). Takes Tells (levels_put setting (place + 1) es) link end (outbox_of s.channels.outboxes (place + 1))) same
        (of_program Tells setting known.0 (state_in stops s) known.4 place (program_with link end) (at_place s place link end there slot)).0

    -- those that go on are open
    are_open : (s : State) → Known Tells setting (state_of s) → EachOpen (λ place link. IsOpen (place + 1) s.channels) s.programs s.ends
    are_open s known = λ place link there slot. elim (of_program Tells setting known.0 (state_of s) known.4 place (program_with link None) (at_place s place link None there slot)).1 [
      | inl is ↦ is
      | inr ended ↦ absurd (elim ended.0.1 [ inl some ↦ (let bad : false ≡ true = some in cc bad) | inr stops ↦ (let bad : false ≡ true = stops in cc bad) ])
    ]

    module _ (net net_now users users_now : NetTold L) (old new : State) (round : IsRound told net net_now users users_now old new) (tells : TellsOvers told old.clients) (stands : Stands old) where
      -- nothing waits for a channel that goes on, where its link never had to wait
      emptied : 0 < room → EachOpen (λ place link. IsEmptied new.channels place link) new.programs new.ends
      emptied some =
          let pumps = round.pumps in
          let lead = sent_leads told net net_now users users_now old new round tells stands.ready in
          let known : Known Tells setting (state_of pumps.sent) = (keeps_on (state_of old) (state_of pumps.sent) lead.0 stands.keeps).2 some in
          let rest = pumps.parts.rest in
          subst (λ (c : Channels). EachOpen (λ place link. IsEmptied c place link) new.programs new.ends) (sym (ap (λ (s : State). s.channels) rest))
          (subst (λ (ls : List LinkTold). EachOpen (λ place link. IsEmptied pumps.pumped.channels place link) ls new.ends) (sym (ap (λ (s : State). s.programs) rest))
          (subst (λ (es : List (Option ChannelEnd)). EachOpen (λ place link. IsEmptied pumps.pumped.channels place link) pumps.pumped.programs es) (sym (ap (λ (s : State). s.ends) rest))
          (all_emptied setting pumps.moment known.0 (scene_of pumps.sent) (scene_of pumps.pumped) (low_keys pumps.sent.channels.inboxes lead.1.low) pumps.programs.pumps known.2
          (sent_settled net net_now users users_now old new round stands.settled) (are_open pumps.sent known))))

      pub round_stands : Stands new
      round_stands =
          let lead = round_leads told net net_now users users_now old new round tells stands.ready in
          let keeps : Kept (state_of new) = keeps_on (state_of old) (state_of new) lead.0 stands.keeps in record {
            keeps = keeps;
            ready = lead.1;
            settled = round_settled net net_now users users_now old new round stands.settled;
            whole = λ past kept place link there slot never.
                emptied_took Tells (levels_put setting (place + 1) past) link None (outbox_of new.channels.outboxes (place + 1)) (emptied (some_may false new keeps place link there) place link there slot never)
                (takes_at false new keeps past kept place link None there slot);
          }

    -- ---- at the end

    module _ (closed_so : (old new : Clients) → ClosesAll (TellTheEnd told) old new → AreLater old new) (moment : Moment) (last final : State) (closes : IsClosed (TellTheEnd told) moment last final) (stands : Stands last) where
      final_keeps : Kept (state_in true final)
      final_keeps = keeps_on (state_of last) (state_in true final) (closing_goes told moment last final stands.ready.low closes) stands.keeps

      -- behind the channels no application of one is there
      all_gone : 0 < room → (events : List Event) → closes.between.events ≡ Some events → (place : ℕ) → AreApart (place + 1) (registry_of setting events).apps
      all_gone some events kept place =
          let between : State = closes.between in
          let goes = goes_both (IsToldBy told) (state_of last) (state_in true last) (state_in true between) (goes_one (IsToldBy told) Stopping (state_of last) (state_in true last) refl)
          (close_programs told moment last between stands.ready.low closes.programs) in
          let known = (keeps_on (state_of last) (state_in true between) goes stands.keeps).2 some in
          let same : known.0 ≡ events = cc (sym known.1 ∙ kept) in
          subst (λ (es : List Event). AreApart (place + 1) (registry_of setting es).apps) same
          (subst (λ (r : Registry). AreApart (place + 1) r.apps) known.2.registry.registry
          (gone_apart_of Tells setting (levels_put setting (place + 1) known.0) (state_in true between) (place + 1) (known.4 (place + 1) (omega arith)) (none_found (place + 1) between.channels.inboxes closes.programs.stops.1)))

      final_whole : 0 < room → (events : List Event) → final.events ≡ Some events → AllWhole Tells setting events final.programs final.ends
      final_whole some events kept =
          let known = stands.keeps.2 some in
          let whole = closing_whole Tells setting closed_so moment last final known.0 closes (all_gone some) known.1 known.2 stands.settled (stands.whole known.0 known.1) in
          let same : known.0 ++ whole.0 ≡ events = cc (sym whole.1 ∙ kept) in
          subst (λ (es : List Event). AllWhole Tells setting es final.programs final.ends) same whole.2

      -- of one channel
      took_levels : (events : List Event) → final.events ≡ Some events → (place : ℕ) (link : LinkTold) (end : Option ChannelEnd) → slice_get final.programs place ≡ Some link → slice_get final.ends place ≡ Some end
          → TookLevels Tells setting events (place + 1) link end
      took_levels events kept place link end there slot =
          by end slot (takes_at true final final_keeps events kept place link end there slot)
        where
          of_all : (end : Option ChannelEnd) → Takes Tells (levels_put setting (place + 1) events) link end (outbox_of final.channels.outboxes (place + 1)) → (end ≡ None → link.waits ≡ 0 → ⊥)
              → TookLevels Tells setting events (place + 1) link end
          of_all end t ends = record { taken = t.sent; rest = t.rest; all = t.front; told = t.told; slow = t.slow; complete = λ goes_on never. absurd (ends goes_on never) }

          by : (end : Option ChannelEnd) → slice_get final.ends place ≡ Some end → Takes Tells (levels_put setting (place + 1) events) link end (outbox_of final.channels.outboxes (place + 1))
              → TookLevels Tells setting events (place + 1) link end
          by (Some cause) slot t = of_all (Some cause) t (λ none never. cc none)
          by None slot t = elim (eqb_tells link.waits 0) [
            | inl never ↦ record {
              taken = levels_put setting (place + 1) events;
              rest = [];
              all = sym (append-nil (levels_put setting (place + 1) events));
              told = λ tells. final_whole (some_may true final final_keeps place link there) events kept place link there slot never.1 tells;
              slow = t.slow;
              complete = λ goes_on never. refl;
            }
            | inr waited ↦ of_all None t (λ goes_on never. waited.1 never)
          ]

      -- and this was left of it
      pub left_took : (closed : Closed L) → IsLeft told final closed → AllTookLevels Tells setting closed.events.events (map told closed.users.links) closed.ends
      left_took closed left =
          subst (λ (es : List (Option ChannelEnd)). AllTookLevels Tells setting closed.events.events (map told closed.users.links) es) (sym left.ends)
          (subst (λ (ls : List LinkTold). AllTookLevels Tells setting closed.events.events ls (take (length final.programs) final.ends)) (sym left.users)
          (λ place link end there slot. took_levels closed.events.events left.events place link end there (taken_at final.ends (length final.programs) place end slot)))
