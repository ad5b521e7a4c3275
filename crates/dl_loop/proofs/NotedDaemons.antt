-- A daemon's clients stay as its journal has them.
use Rattle.std.proofs.Common.{◌≡◌, ℕ, ◌+◌, ◌-◌, ◌<◌, ◌≤◌, inl, inr, Bool, true, false, cond, List, [], ◌∷◌, ◌++◌, length, map, slice_get, append-nil, append_assoc, length-append, Option, Some, None, is_some, refl, sym, ap, subst, ◌∙◌, arith}
use Rattle.std.specs.Prelude.{IsSome, get_or}
use Rattle.std.proofs.lemmas.Bool.{ne_eqb}
use Rattle.std.proofs.lemmas.Bool.Decides.{eqb_tells}
use Rattle.std.proofs.lemmas.List.Elements.{filter_map-append}
use Rattle.std.proofs.lemmas.Option.{slice_get-get_or, slice_get_within}
use Rattle.dl_bytes.specs.Limits.{message_limit}
use Rattle.dl_bytes.specs.declared.conf.AppSpec.{AppSpec}
use Rattle.dl_events.specs.declared.event.Event.{Event}
use Rattle.dl_events.specs.declared.event.Event.TheVariants as event
use Rattle.dl_events.specs.declared.event.Why.TheVariants as why
use Rattle.dl_message.specs.Requests.{requests}
use Rattle.dl_message.proofs.Pieces.{short_no_piece}
use Rattle.dl_model.specs.ClientEnds.{LinkDid, asked_by, asked_in}
use Rattle.dl_outside.specs.Told.{FolderTold, LinkTold}
use Rattle.dl_desk.specs.Told.{ControlTold}
use Rattle.dl_hub.specs.State.{Client as HubClient, Hub, Waiting, client_of, outbox_of}
use Rattle.dl_core.specs.Follows.{IsAfter, Run}
use Rattle.dl_core.specs.State.{Core}
use Rattle.dl_core.proofs.Answered.{replies_are}
use Rattle.dl_turns.specs.Sent.{HasCut}
use Rattle.dl_turns.specs.State.{Side, side}
use Rattle.dl_rounds.specs.Clients.{Client, Clients, IsClient}
use Rattle.dl_rounds.specs.Partings.{ShutsGone}
use Rattle.dl_rounds.specs.Passing.{AreAsNoted, Did, IsAsNoted, IsOverIfLeft, StayAsNoted, TellFrom, took_all}
use Rattle.dl_rounds.specs.Ready.{fresh_listener}
use Rattle.dl_rounds.specs.declared.listener.Listener.{Listener}
use Rattle.dl_rounds.proofs.ByPlace.{get_before}
use Rattle.dl_rounds.proofs.NotedClients.{gone_longer}
use Rattle.dl_rounds.proofs.Turned.{open_and_gone, placed}
use Rattle.dl_taking.specs.Drained.{GivesTook, IsDrain}
use Rattle.dl_taking.specs.Side.{Side as Taking}
use Rattle.dl_settling.specs.State.{clients_at}
use Rattle.dl_settling.specs.Went.{TellBytes}
use Rattle.dl_settling.proofs.NotedDrains.{noted_drain}
use Rattle.dl_loop.specs.Holds.{AreNoted, AreTaken}
use Rattle.dl_settling.proofs.WentClients.{each_told, did_before}
use Rattle.dl_lemmas.proofs.Options.{one_is}
use Rattle.dl_settling.proofs.ShownDrains.{outbox_at}
use Rattle.dl_turns.proofs.HeardSides.{how_many}
use Rattle.dl_lemmas.proofs.Lists.{empty_of as nothing, get_end}

-- ---- what links tell

-- where all links of a kind tell what they gave and took, these do
pub each_tells : {L : Type 0} (told : L → LinkTold) (links : List L) → TellBytes told → TellFrom 0 (map told links)
each_tells told links tells = λ place link above at. each_told told (λ (l : LinkTold). IsSome l.given × IsSome l.taken) links place link tells at

took_of : (links : List LinkTold) (took : ℕ → List ℕ) → AreTaken links took → (place : ℕ) (link : LinkTold) (bytes : List ℕ) → slice_get links place ≡ Some link → link.taken ≡ Some bytes → bytes ≡ took (place + 1)
took_of links took taken place link bytes at is = one_is bytes (took (place + 1)) link.taken is (taken place link at)

-- ---- a client is seen by its link, its listener and the core

alike : (run : Run) (events : List Event) (number : ℕ) (was now : Client) → now.side.core ≡ was.side.core → now.link ≡ was.link → now.listener ≡ was.listener → IsAsNoted run events number was
    → IsAsNoted run events number now
alike run events number was now core link listener noted = record {
  open_so = λ some given is.
      let so = noted.open_so (subst (λ (k : Core). IsSome (outbox_of k.hub number)) core some) given (ap (λ (l : LinkTold). l.given) (sym link) ∙ is) in
      (subst (λ (l : Listener). HasCut given l.cutter) (sym listener) so.0, so.1);
  gone_so = λ none did tells over. noted.gone_so (ap (λ (k : Core). outbox_of k.hub number) (sym core) ∙ none) did (subst (λ (l : LinkTold). Did l did) link tells) over;
}

pub noted_any : (run : Run) (events : List Event) (took : ℕ → List ℕ) (clients : Clients) → AreAsNoted run events took clients → AreNoted run events took clients.links clients.listeners clients.side.core
noted_any run events took clients noted = λ desk journal folder. record {
  after = noted.after;
  took = noted.took;
  each = λ number client at there.
      let was : Client = record { link = client.link; listener = client.listener; side = clients.side } in
      alike run events number was client (ap (λ (s : Side). s.core) at.side) refl refl (noted.each number was (record { link = at.link; listener = at.listener; side = refl }) there);
}

-- ---- nobody came

pub noted_none : (run : Run) (events : List Event) (took : ℕ → List ℕ) (listeners : List Listener) (core : Core) → IsAfter run events took core → AreNoted run events took [] listeners core
noted_none run events took listeners core after = λ desk journal folder. record {
  after = after;
  took = λ place link bytes at is. absurd (cc at);
  each = λ number client at there. absurd (cc at.link);
}

-- ---- clients were visited

pub noted_later : (run : Run) (events : List Event) (took : ℕ → List ℕ) (old new : Clients) (stays : StayAsNoted old new) → TellFrom 0 old.links → AreAsNoted run events took old
    → AreNoted run (events ++ stays.later.more) (took_all took stays.later.sent) new.links new.listeners new.side.core
noted_later run events took old new stays tells noted = noted_any run (events ++ stays.later.more) (took_all took stays.later.sent) new (stays.stay run events took tells noted)

-- ---- a client came

client_here : (hub : Hub) (number : ℕ) (c : HubClient) → 0 < number → slice_get hub.clients (number - 1) ≡ Some c → client_of hub number ≡ Some c
client_here hub number c some at = ap (λ (b : Bool). cond b None (slice_get hub.clients (number - 1))) (ne_eqb number 0 (λ same. omega (arith, some, same))) ∙ at

asked_none : (run : Run) (events : List Event) (took : ℕ → List ℕ) (core : Core) (number : ℕ) (c : HubClient) → IsAfter run events took core → client_of core.hub number ≡ Some c → c.replies ≡ 0 → asked_by number events ≡ []
asked_none run events took core number c after there none = nothing (asked_by number events) (how_many number events ∙ sym (replies_are run events took core number c after there) ∙ none)

-- who sent nothing has nothing cut
nothing_cut : HasCut [] fresh_listener.cutter
nothing_cut = record { limit = refl; rest = refl; good = record { good = refl; ends = short_no_piece message_limit [] (inl (omega arith)) } }

asked_still : (number : ℕ) (past more : List Event) → asked_by number more ≡ [] → asked_by number (past ++ more) ≡ asked_by number past
asked_still number past more none = filter_map-append (asked_in number) past more ∙ ap (λ (fs : List (List ℕ)). asked_by number past ++ fs) none ∙ append-nil (asked_by number past)

over_before : (past : List Event) (other number : ℕ) (did : LinkDid) → IsOverIfLeft (past ++ event.Connect other ∷ []) number did → IsOverIfLeft past number did
over_before past other number did over before after is =
    over before (after ++ event.Connect other ∷ [])
    (ap (λ (es : List Event). es ++ event.Connect other ∷ []) is ∙ append_assoc before (event.Close number why.Left ∷ after) (event.Connect other ∷ []))

module _ (run : Run) (events : List Event) (took : ℕ → List ℕ) (old new : Core) (number : ℕ) (c : HubClient) (links : List LinkTold) (listeners : List Listener) (link : LinkTold)
    (next : number ≡ length old.hub.clients + 1) (clients : new.hub.clients ≡ old.hub.clients ++ c ∷ []) (open_now : IsSome c.outbox) (unasked : c.replies ≡ 0)
    (many : length old.hub.clients ≡ length links) (given : link.given ≡ Some [])
    (unused : (place : ℕ) (listener : Listener) → slice_get listeners place ≡ Some listener → length old.hub.clients ≤ place → listener ≡ fresh_listener)
    (after : IsAfter run (events ++ event.Connect number ∷ []) took new) (taken : AreTaken (links ++ link ∷ []) took) (noted : AreNoted run events took links listeners old)
    (desk : ControlTold) (journal : Option (List Event)) (folder : FolderTold) where
  abbrev before : Clients
  before = record { links = links; listeners = listeners; side = side old desk journal folder }

  abbrev now : Clients
  now = record { links = links ++ link ∷ []; listeners = listeners; side = side new desk journal folder }

  -- one that had come is as it was
  had_come : (n : ℕ) (client : Client) → IsClient n now client → (k : HubClient) → 0 < n → n - 1 < length old.hub.clients → slice_get new.hub.clients (n - 1) ≡ Some k
      → IsAsNoted run (events ++ event.Connect number ∷ []) n client
  had_come n client at k some below there =
      let at_before : slice_get old.hub.clients (n - 1) ≡ Some k = sym (get_before old.hub.clients (c ∷ []) (n - 1) below) ∙ ap (λ (cs : List HubClient). slice_get cs (n - 1)) (sym clients) ∙ there in
      let k_was = client_here old.hub n k some at_before in
      let k_now = client_here new.hub n k some there in
      let was : Client = record { link = client.link; listener = client.listener; side = before.side } in
      let was_at : IsClient n before was = record { link = sym (get_before links (link ∷ []) (n - 1) (omega (arith, below, many))) ∙ at.link; listener = at.listener; side = refl } in
      let was_so = (noted desk journal folder).each n was was_at (ap is_some k_was) in
      let core : client.side.core ≡ new = ap (λ (s : Side). s.core) at.side in
      let outbox : outbox_of client.side.core.hub n ≡ k.outbox = ap (λ (h : Core). outbox_of h.hub n) core ∙ outbox_at new.hub n k k_now in
      let outbox_was : outbox_of old.hub n ≡ k.outbox = outbox_at old.hub n k k_was in
      let back : n - 1 + 1 ≡ n = omega (arith, some) in
      let asked : asked_by n (events ++ event.Connect number ∷ []) ≡ asked_by n events = asked_still n events (event.Connect number ∷ []) refl in
      record {
        open_so = λ open_so given is_given.
            let so = was_so.open_so (subst (λ (o : Option Waiting). IsSome o) (outbox ∙ sym outbox_was) open_so) given is_given in (so.0, asked ∙ so.1);
        gone_so = λ none did tells over.
            let gone = was_so.gone_so (outbox_was ∙ sym outbox ∙ none) did tells (over_before events number n did over) in
            let took_did : did.taken ≡ took n = (noted desk journal folder).took (n - 1) client.link did.taken was_at.link tells.taken ∙ ap took back in
            gone_longer run events (event.Connect number ∷ []) took took old new n did k k (noted desk journal folder).after after k_was k_now (sym outbox ∙ none) (sym outbox ∙ none) refl refl took_did gone;
      }

  -- the one that came is open, and its link gave nothing
  comes_now : (n : ℕ) (client : Client) → IsClient n now client → 0 < n → n - 1 ≡ length old.hub.clients → slice_get new.hub.clients (n - 1) ≡ Some c → IsAsNoted run (events ++ event.Connect number ∷ []) n client
  comes_now n client at some last there =
      let c_now = client_here new.hub n c some there in
      let at_end : slice_get (links ++ link ∷ []) (n - 1) ≡ Some link = ap (λ (p : ℕ). slice_get (links ++ link ∷ []) p) (last ∙ many) ∙ get_end links link in
      let same : client.link ≡ link = one_is client.link link (slice_get (links ++ link ∷ []) (n - 1)) at.link at_end in
      let fresh : client.listener ≡ fresh_listener = unused (n - 1) client.listener at.listener (omega (arith, last)) in
      let outbox : outbox_of client.side.core.hub n ≡ c.outbox = ap (λ (s : Side). outbox_of s.core.hub n) at.side ∙ outbox_at new.hub n c c_now in
      record {
        open_so = λ open_so bytes is_given.
            let none : bytes ≡ [] = one_is bytes [] link.given (ap (λ (l : LinkTold). l.given) (sym same) ∙ is_given) given in (
              subst (λ (bs : List ℕ). HasCut bs client.listener.cutter) (sym none) (subst (λ (l : Listener). HasCut [] l.cutter) (sym fresh) nothing_cut),
              asked_none run (events ++ event.Connect number ∷ []) took new n c after c_now unasked ∙ ap requests (sym none),
            );
        gone_so = λ none did tells over. absurd (let bad : false ≡ true = ap is_some (sym (sym outbox ∙ none)) ∙ open_now in cc bad);
      }

  connected_so : AreAsNoted run (events ++ event.Connect number ∷ []) took now
  connected_so = record {
    after = after;
    took = took_of (links ++ link ∷ []) took taken;
    each = λ n client at there.
        let p = placed new.hub n there in
        let within : n - 1 < length old.hub.clients + 1 = omega (arith, slice_get_within new.hub.clients (n - 1) p.0 p.2, ap (λ (cs : List HubClient). length cs) clients, length-append old.hub.clients (c ∷ [])) in
        elim (eqb_tells (n - 1) (length old.hub.clients)) [
          | inl last ↦ comes_now n client at p.3 last.1 (ap (λ (cs : List HubClient). slice_get cs (n - 1)) clients ∙ ap (λ (m : ℕ). slice_get (old.hub.clients ++ c ∷ []) m) last.1 ∙ get_end old.hub.clients c)
          | inr apart ↦ had_come n client at p.0 p.3 (omega (arith, within, apart.1)) p.2
        ];
  }

-- with a client that came
pub noted_connected : (run : Run) (events : List Event) (took : ℕ → List ℕ) (old new : Core) (number : ℕ) (c : HubClient) (links : List LinkTold) (listeners : List Listener) (link : LinkTold)
    → number ≡ length old.hub.clients + 1 → new.hub.clients ≡ old.hub.clients ++ c ∷ [] → IsSome c.outbox → c.replies ≡ 0 → length old.hub.clients ≡ length links → link.given ≡ Some []
    → ((place : ℕ) (listener : Listener) → slice_get listeners place ≡ Some listener → length old.hub.clients ≤ place → listener ≡ fresh_listener)
    → IsAfter run (events ++ event.Connect number ∷ []) took new → AreTaken (links ++ link ∷ []) took → AreNoted run events took links listeners old
    → AreNoted run (events ++ event.Connect number ∷ []) took (links ++ link ∷ []) listeners new
noted_connected run events took old new number c links listeners link next clients open_now unasked many given unused after taken noted = λ desk journal folder.
    connected_so run events took old new number c links listeners link next clients open_now unasked many given unused after taken noted desk journal folder

-- ---- calls, claims and losses were taken

pub noted_taken : (run : Run) (events : List Event) (took : ℕ → List ℕ) (specs : List AppSpec) (old new : Taking) (drain : IsDrain specs old new) → GivesTook specs new.took run
    → (links : List LinkTold) (listeners : List Listener) → AreNoted run events took links listeners old.part.core → AreNoted run (events ++ drain.more) took links listeners new.part.core
noted_taken run events took specs old new drain gives links listeners noted =
    noted_any run (events ++ drain.more) took (clients_at links listeners new) (noted_drain run events took specs old new links listeners drain gives (noted old.desk old.part.events old.part.folder))

-- ---- the links of clients that are gone were shut

module _ (run : Run) (events : List Event) (took : ℕ → List ℕ) (core : Core) (listeners : List Listener) (old new : List LinkTold) (shuts : ShutsGone core.hub old new) (tells : TellFrom 0 old)
    (noted : AreNoted run events took old listeners core) (desk : ControlTold) (journal : Option (List Event)) (folder : FolderTold) where
  abbrev unparted : Clients
  unparted = record { links = old; listeners = listeners; side = side core desk journal folder }

  abbrev parted : Clients
  parted = record { links = new; listeners = listeners; side = side core desk journal folder }

  each_parted : (number : ℕ) (client : Client) → IsClient number parted client → IsSome (client_of core.hub number) → (o : Option Waiting) → outbox_of core.hub number ≡ o → IsAsNoted run events number client
  each_parted number client at there (Some outbox) open_so =
      let p = placed core.hub number there in
      let stands = shuts.others number (omega (arith, p.3)) (inr (subst (λ (o : Option Waiting). IsSome o) (sym open_so) refl)) in
      let was : Client = record { link = client.link; listener = client.listener; side = unparted.side } in
      alike run events number was client (ap (λ (s : Side). s.core) at.side) refl refl
      ((noted desk journal folder).each number was (record { link = sym stands ∙ at.link; listener = at.listener; side = refl }) there)
  each_parted number client at there None gone =
      let p = placed core.hub number there in
      let within : number - 1 < length old = omega (arith, slice_get_within new (number - 1) client.link at.link, shuts.many) in
      let link = get_or old (number - 1) client.link in
      let was_link : slice_get old (number - 1) ≡ Some link = slice_get-get_or old (number - 1) client.link within in
      let shut = shuts.gone number link client.link (omega (arith, p.3)) (omega (arith, within, p.3)) gone was_link at.link in
      let was : Client = record { link = link; listener = client.listener; side = unparted.side } in
      let was_so = (noted desk journal folder).each number was (record { link = was_link; listener = at.listener; side = refl }) there in
      let told = tells (number - 1) link (omega arith) was_link in
      let gone_now : outbox_of client.side.core.hub number ≡ None = ap (λ (s : Side). outbox_of s.core.hub number) at.side ∙ gone in
      record {
        open_so = λ some given is. open_and_gone client.side.core.hub number some gone_now;
        gone_so = λ none did does over. was_so.gone_so gone did (did_before link client.link did shut told.0 told.1 does) over;
      }

  parted_so : AreTaken new took → AreAsNoted run events took parted
  parted_so taken = record {
    after = (noted desk journal folder).after;
    took = took_of new took taken;
    each = λ number client at there. each_parted number client at there (outbox_of core.hub number) refl;
  }

pub noted_parted : (run : Run) (events : List Event) (took : ℕ → List ℕ) (core : Core) (listeners : List Listener) (old new : List LinkTold) → ShutsGone core.hub old new → TellFrom 0 old → AreTaken new took
    → AreNoted run events took old listeners core → AreNoted run events took new listeners core
noted_parted run events took core listeners old new shuts tells taken noted = λ desk journal folder. parted_so run events took core listeners old new shuts tells noted desk journal folder taken
