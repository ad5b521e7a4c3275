-- Why links were dropped, step by step.
use Rattle.std.proofs.Common.{◌≡◌, ◌≤◌, ◌+◌, ℕ, Bool, true, inl, inr, List, [], ◌∷◌, ◌++◌, length, map, Option, None, refl, sym, ap, subst, ◌∙◌, arith, length-append}
use Rattle.std.proofs.lemmas.Bool.{cases_lt}
use Rattle.std.proofs.lemmas.List.{length-map}
use Rattle.std.proofs.lemmas.List.Sums.{count_by-le-length}
use Rattle.dl_bytes.specs.Limits.{client_limit, open_client_limit}
use Rattle.dl_bytes.specs.declared.outcome.Ends.{Ends}
use Rattle.dl_core.specs.State.{Core}
use Rattle.dl_hub.specs.State.{Hub, HasPlace, is_open}
use Rattle.dl_outside.specs.Links.{Links}
use Rattle.dl_events.specs.declared.event.Event.{Event}
use Rattle.dl_outside.specs.Told.{FolderTold, LinkTold}
use Rattle.dl_rounds.specs.Ready.{fresh_listener}
use Rattle.dl_server.specs.Server.{IsMade}
use Rattle.dl_server.specs.State as server
use Rattle.dl_server.specs.declared.server.Server.{Server}
use Rattle.dl_socket.specs.Channels.{Channels, channel_limit, open_channel_limit}
use Rattle.dl_machine.specs.State.{State, new_client, new_program}
use Rattle.dl_machine.specs.Steps.{Came, Entered, Goes, IsStep, IsToldBy, Kind, LetGo, Levelled, MayLetGo, OfClient, OfProgram, OfRings, PartedAll, Renewed, Stopping, Wanted}
use Rattle.dl_machine.proofs.Standing.{Sizes, clients_stand, parted_length, programs_stand, renewed_stands, rings_stand, sizes}
use Rattle.dl_machine.proofs.ClientSteps.{client_with}
use Rattle.dl_machine.proofs.Composed.{steps_keep}
use Rattle.dl_machine.proofs.Joined.{joined_length}
use Rattle.dl_machine.proofs.ProgramSteps.{program_with}
use Rattle.dl_serve.proofs.ServerSteps.{state_in, state_of}
use Rattle.dl_serve.specs.declared.beginning.Begun.{Begun}
use Rattle.dl_serve.specs.declared.closed.Closed.{Closed}
use Rattle.dl_serve.specs.Closed.{IsLeft}
use Rattle.dl_serve.specs.Dropped.{DropsFor, HasDropped}
use Rattle.dl_serve.specs.Program.{HasOpened}
use Rattle.dl_serve.specs.Rounds.{kept}
use Rattle.dl_serve.specs.Told.{Told}
use Rattle.dl_user.specs.Channel as cutter
use Rattle.dl_serve.proofs.ServingSteps.{final, first, serving_goes}

-- ---- what is counted

pub record Counts : Type 0 where
  pub hub : Sizes
  pub clients : ℕ
  pub at_once : ℕ
  pub in_all : ℕ
  pub opened : ℕ
  pub open_now : ℕ
  pub programs : ℕ
  pub wanted : Bool
  pub dropped : ℕ

abbrev pub counts : State → Counts
counts s = record {
  hub = sizes s.core.hub;
  clients = length s.clients;
  at_once = s.channels.at_once;
  in_all = s.channels.in_all;
  opened = s.channels.opened;
  open_now = length s.channels.inboxes;
  programs = length s.programs;
  wanted = s.wanted;
  dropped = s.dropped;
}

-- As many clients may come as may be open at once, and as many channels, or more. Each client that came has a link, and so has each channel; no more channels
-- are open; and links were dropped for a cause.
pub record IsKept (c : Counts) : Type 0 where
  pub limit : open_client_limit ≤ c.hub.limit
  pub linked : c.hub.came ≡ c.clients
  pub at_once : open_channel_limit ≤ c.at_once
  pub in_all : open_channel_limit ≤ c.in_all
  pub many : c.opened ≡ c.programs
  pub open_few : c.open_now ≤ c.programs
  pub drops : DropsFor c.clients c.programs c.wanted c.dropped

-- ---- causes stay

more_came : (clients clients_now programs programs_now : ℕ) (wanted : Bool) (dropped : ℕ) → clients ≤ clients_now → programs ≤ programs_now → DropsFor clients programs wanted dropped
    → DropsFor clients_now programs_now wanted dropped
more_came clients clients_now programs programs_now wanted dropped more grown (inl none) = inl none
more_came clients clients_now programs programs_now wanted dropped more grown (inr (inl want)) = inr (inl want)
more_came clients clients_now programs programs_now wanted dropped more grown (inr (inr (inl came))) = inr (inr (inl (omega (arith, came, more))))
more_came clients clients_now programs programs_now wanted dropped more grown (inr (inr (inr came))) = inr (inr (inr (omega (arith, came, grown))))

no_place : (hub : Hub) → open_client_limit ≤ hub.limit → (HasPlace hub → ⊥) → open_client_limit ≤ length hub.clients
no_place hub limit none = elim (cases_lt (length hub.clients) open_client_limit) [
  | inl below ↦ absurd (none (omega (arith, below, limit), omega (arith, below, count_by-le-length is_open hub.clients)))
  | inr enough ↦ omega (arith, enough)
]

let_go : (s : State) (dropped : ℕ) → MayLetGo s → IsKept (counts s) → DropsFor (length s.clients) (length s.programs) s.wanted dropped
let_go s dropped (inl none) k = inr (inr (inl (omega (arith, no_place s.core.hub k.limit none, k.linked))))
let_go s dropped (inr (inl spent)) k = inr (inr (inr (omega (arith, spent, k.many, k.in_all))))
let_go s dropped (inr (inr (inl full))) k = inr (inr (inr (omega (arith, full.1, k.at_once, k.open_few))))
let_go s dropped (inr (inr (inr wanted))) k = inr (inl wanted)

-- ---- each step

module _ (IsTold : LinkTold → Type 0) where
  still : (old new : State) → counts new ≡ counts old → IsKept (counts old) → IsKept (counts new)
  still old new same k = subst IsKept (sym same) k

  pub step_keeps : (kind : Kind) (old new : State) → IsStep IsTold kind old new → IsKept (counts old) → IsKept (counts new)
  step_keeps (Came number link) old new step k =
      let one : length (old.clients ++ new_client link ∷ []) ≡ length old.clients + 1 = length-append old.clients (new_client link ∷ []) in
      let came : length new.core.hub.clients ≡ length old.core.hub.clients + 1 =
      ap (λ (cs : List _). length cs) step.2.comes.1 ∙ length-append old.core.hub.clients (step.2.comes.0 ∷ []) in
      subst (λ (s : State). IsKept (counts s)) (sym step.3) (record {
        limit = (let same = step.2.same.limit in omega (arith, same, k.limit));
        linked = omega (arith, one, came, k.linked);
        at_once = k.at_once;
        in_all = k.in_all;
        many = k.many;
        open_few = k.open_few;
        drops = more_came (length old.clients) _ (length old.programs) (length old.programs) old.wanted old.dropped (omega (arith, one)) (omega arith) k.drops;
      })
  step_keeps (Entered number link) old new step k =
      let opens = step.2 in
      let one : length (old.programs ++ new_program link ∷ []) ≡ length old.programs + 1 = length-append old.programs (new_program link ∷ []) in
      let opened : new.channels.opened ≡ number = ap (λ (c : Channels). c.opened) opens.3 in
      let inboxes : length new.channels.inboxes ≡ length old.channels.inboxes + 1 = ap (λ (c : Channels). length c.inboxes) opens.3 ∙ length-append old.channels.inboxes _ in
      subst (λ (s : State). IsKept (counts s)) (sym step.3) (record {
        limit = k.limit;
        linked = k.linked;
        at_once = (let same = ap (λ (c : Channels). c.at_once) opens.3 in omega (arith, same, k.at_once));
        in_all = (let same = ap (λ (c : Channels). c.in_all) opens.3 in omega (arith, same, k.in_all));
        many = omega (arith, opened, opens.2, k.many, one);
        open_few = omega (arith, k.open_few, inboxes, one);
        drops = more_came (length old.clients) (length old.clients) (length old.programs) _ old.wanted old.dropped (omega arith) (omega (arith, one)) k.drops;
      })
  step_keeps LetGo old new step k =
      subst (λ (s : State). IsKept (counts s)) (sym step.1)
      (record { limit = k.limit; linked = k.linked; at_once = k.at_once; in_all = k.in_all; many = k.many; open_few = k.open_few; drops = let_go old _ step.0 k })
  step_keeps Wanted old new step k =
      subst (λ (s : State). IsKept (counts s)) (sym step)
      (record { limit = k.limit; linked = k.linked; at_once = k.at_once; in_all = k.in_all; many = k.many; open_few = k.open_few; drops = inr (inl refl) })
  step_keeps (Levelled change) old new step k = still old new (ap counts step.1 ∙ (λ i. record (counts old) { hub = sizes (step.0.core i).hub })) k
  step_keeps (OfClient number kind) old new step k =
      let stand = clients_stand number kind old new step.1 in
      still old new (ap counts step.2 ∙ (λ i. record (counts old) { hub = stand.0 i; clients = stand.1 i })) k
  step_keeps (OfProgram number kind) old new step k =
      let stand = programs_stand number kind old new step.1 in
      let room = stand.1 in
      let few : length new.channels.inboxes ≤ length old.programs = omega (arith, room.fewer, k.open_few) in
      subst (λ (s : State). IsKept (counts s)) (sym step.2)
      (subst IsKept (sym (λ i. record (counts old) { hub = stand.0 i; at_once = room.at_once i; in_all = room.in_all i; opened = room.opened i; open_now = length new.channels.inboxes; programs = stand.2 i }))
      (record { limit = k.limit; linked = k.linked; at_once = k.at_once; in_all = k.in_all; many = k.many; open_few = few; drops = k.drops }))
  step_keeps (OfRings kind) old new step k = still old new (ap counts step.1 ∙ (λ i. record (counts old) { hub = rings_stand kind old new step.0 i })) k
  step_keeps PartedAll old new step k = still old new (ap counts step.3 ∙ (λ i. record (counts old) { clients = parted_length old.clients new.clients step.2 i })) k
  step_keeps Stopping old new step k = still old new (ap counts step) k
  step_keeps Renewed old new step k = still old new (ap counts step.1 ∙ (λ i. record (counts old) { hub = renewed_stands old new step.0 i })) k

-- ---- the whole

-- before anybody came to a server that was made like this
pub first_kept : {J L : Type 0} (told : L → LinkTold) (events : J → Option (List Event)) (may_run_out : Bool) (folder : FolderTold) (core : Core) (journal : J) (channels : Channels) (clients programs : ℕ) (s : Server J L)
    → IsMade core journal channels clients programs s → length core.hub.clients ≡ 0 → channels.opened ≡ 0 → channels.inboxes ≡ [] → open_client_limit ≤ core.hub.limit → open_channel_limit ≤ channels.at_once
    → open_channel_limit ≤ channels.in_all → IsKept (counts (state_of (server.seen told events may_run_out folder s)))
first_kept told events may_run_out folder core journal channels clients programs s made nobody opened inboxes limit at_once in_all =
    let start : State = state_of (server.seen told events may_run_out folder s) in
    let no_program : length start.programs ≡ 0 = joined_length program_with None _ _ ∙ ap (λ (ls : Links _). length (map told ls.links)) made.no_program in
    let no_client : length start.clients ≡ 0 = joined_length client_with fresh_listener _ _ ∙ ap (λ (ls : Links _). length (map told ls.links)) made.no_client in
    let no_inbox : length start.channels.inboxes ≡ 0 = ap (λ (c : Channels). length c.inboxes) made.channels_are ∙ ap (λ (is : List (ℕ × cutter.Channel)). length is) inboxes in record {
      limit = (let same = ap (λ (c : Core). c.hub.limit) made.core_is in omega (arith, same, limit));
      linked = ap (λ (c : Core). length c.hub.clients) made.core_is ∙ nobody ∙ sym no_client;
      at_once = (let same = ap (λ (c : Channels). c.at_once) made.channels_are in omega (arith, same, at_once));
      in_all = (let same = ap (λ (c : Channels). c.in_all) made.channels_are in omega (arith, same, in_all));
      many = ap (λ (c : Channels). c.opened) made.channels_are ∙ opened ∙ sym no_program;
      open_few = omega (arith, no_inbox);
      drops = inl made.none_dropped;
    }

module _ {L : Type 0} (link_told : L → LinkTold) where
  -- a server to which nobody had come came to this by steps, and this was left of it
  pub left_dropped : (old new : server.State) (closed : Closed L) → Goes (IsToldBy link_told) (state_of old) (state_in true new) → IsKept (counts (state_of old)) → IsLeft link_told new closed → HasDropped closed
  left_dropped old new closed goes begins left =
      let k : IsKept (counts (state_in true new)) =
      steps_keep (IsToldBy link_told) (λ (s : State). IsKept (counts s)) (step_keeps (IsToldBy link_told)) goes.kinds (state_of old) (state_in true new) goes.steps begins in
      let clients : length (state_in true new).clients ≡ length closed.clients.links =
      joined_length client_with fresh_listener _ _ ∙ sym (ap (λ (ls : List LinkTold). length ls) left.clients) ∙ length-map closed.clients.links link_told in
      let users : length (state_in true new).programs ≡ length closed.users.links =
      joined_length program_with None _ _ ∙ sym (ap (λ (ls : List LinkTold). length ls) left.users) ∙ length-map closed.users.links link_told in
      let dropped : closed.state.dropped ≡ new.dropped = ap (λ (e : Ends). e.dropped) left.state in
      subst (λ (b : Bool). DropsFor (length closed.clients.links) (length closed.users.links) b closed.state.dropped) (sym left.memory)
      (subst (λ (n : ℕ). DropsFor (length closed.clients.links) (length closed.users.links) new.wanted n) (sym dropped)
      (more_came (length (state_in true new).clients) _ (length (state_in true new).programs) _ new.wanted new.dropped (omega (arith, clients)) (omega (arith, users)) k.drops))

  pub dropped_so : (begun : Begun) (old new : Told L) (full : Bool) (closed : Closed L) → HasOpened link_told begun full old new closed → HasDropped closed
  dropped_so begun old new full closed has =
      left_dropped (first link_told begun old new full closed has) (final link_told begun old new full closed has) closed (serving_goes link_told begun old new full closed has)
      (first_kept link_told kept true old.folder _ _ _ client_limit channel_limit has.opened.server has.is_opened.made refl refl refl (omega arith) (omega arith) (omega arith)) has.run.closes.3
