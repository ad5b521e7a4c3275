-- Who is handed out in a round, and what the rest of a round leaves of the counts of who came.
use Rattle.std.proofs.Common.{◌≡◌, ◌<◌, ◌≤◌, ◌+◌, ℕ, zero, suc, min, Bool, true, false, inl, inr, List, [], ◌∷◌, drop, length, replicate, Option, Some, None, refl, sym, ap, subst, ◌∙◌, arith}
use Rattle.std.specs.Prelude.{◌||◌, IfSome, IsSome}
use Rattle.std.proofs.lemmas.List.{length-replicate}
use Rattle.dl_bytes.specs.declared.moment.Moment.{Moment}
use Rattle.dl_outside.specs.Outside.{Stays}
use Rattle.dl_outside.specs.Told.{LinkTold, NetTold}
use Rattle.dl_rounds.specs.Arrivals.{Takes}
use Rattle.dl_rounds.specs.Ready.{fresh_listener}
use Rattle.dl_rounds.specs.declared.listener.Listener.{Listener}
use Rattle.dl_server.specs.Accepts.{AcceptsClientIfMay, AcceptsProgramIfMay, has_wanted, has_wanted_to_enter}
use Rattle.dl_server.specs.Closing.{IsClosed, closing_scene}
use Rattle.dl_server.specs.Round.{Hears, IsRound, Pumps}
use Rattle.dl_server.specs.State.{State, clients_of, scene_of, with_want}
use Rattle.dl_server.specs.Steps.{HearsClientsIfMay, PumpsClientsIfMay}
use Rattle.dl_server.proofs.HeldRounds.{no_desk}
use Rattle.dl_channels.specs.Rounds.{Heard, Sent, Stopped}
use Rattle.dl_socket.specs.Channels.{open_in}
use Rattle.dl_serve.specs.WhoWaited.{AcceptsInOrder}
use Rattle.dl_serve.proofs.LastingScenes.{closed_many, each_lasts, heard_many, heard_one, pumped_many, sent_one, stopped_one}

-- ---- what waits

module _ {A : Type 0} where
  drop_next : (many : ℕ) (xs : List A) (x : A) (rest : List A) → drop many xs ≡ x ∷ rest → drop (suc many) xs ≡ rest
  drop_next zero [] x rest is = absurd (cc is)
  drop_next zero (y ∷ ys) x rest is = cc is
  drop_next (suc many) [] x rest is = absurd (cc is)
  drop_next (suc many) (y ∷ ys) x rest is = drop_next many ys x rest is

  drop_within : (many : ℕ) (xs : List A) (x : A) (rest : List A) → drop many xs ≡ x ∷ rest → many < length xs
  drop_within zero [] x rest is = absurd (cc is)
  drop_within zero (y ∷ ys) x rest is = omega arith
  drop_within (suc many) [] x rest is = absurd (cc is)
  drop_within (suc many) (y ∷ ys) x rest is = (let below = drop_within many ys x rest is in omega (arith, below))

  drop_past : (many : ℕ) (xs : List A) → drop many xs ≡ [] → drop (suc many) xs ≡ []
  drop_past zero [] is = refl
  drop_past zero (y ∷ ys) is = absurd (cc is)
  drop_past (suc many) [] is = refl
  drop_past (suc many) (y ∷ ys) is = drop_past many ys is

  drop_beyond : (many : ℕ) (xs : List A) → drop many xs ≡ [] → length xs ≤ many
  drop_beyond zero [] is = omega arith
  drop_beyond zero (y ∷ ys) is = absurd (cc is)
  drop_beyond (suc many) [] is = omega arith
  drop_beyond (suc many) (y ∷ ys) is = (let below = drop_beyond many ys is in omega (arith, below))

module _ {L : Type 0} (told : L → LinkTold) (first net net_now : NetTold L) where
  -- the one that waited longest was handed out: it came, or was dropped
  pub hands_one : (many came came_now dropped dropped_now : ℕ) (link : L) → came_now + dropped_now ≡ came + dropped + 1 → Takes told net net_now link → AcceptsInOrder many came dropped first net
      → AcceptsInOrder (suc many) came_now dropped_now first net_now
  hands_one many came came_now dropped dropped_now link more takes hands = (let both = by first.waiting hands.waits hands.all in record { waits = both.0; all = both.1 }) where
    by : (o : Option (List L)) → IfSome o (λ waiting. net.waiting ≡ Some (drop many waiting)) → IfSome o (λ waiting. came + dropped ≡ min many (length waiting))
        → IfSome o (λ waiting. net_now.waiting ≡ Some (drop (suc many) waiting)) × IfSome o (λ waiting. came_now + dropped_now ≡ min (suc many) (length waiting))
    by None waits all = (tt, tt)
    by (Some waiting) waits all =
        let there : (rest : List L) × (drop many waiting ≡ link ∷ rest) × (net_now.waiting ≡ Some rest) =
        subst (λ (o : Option (List L)). IfSome o (λ links. (rest : List L) × (links ≡ link ∷ rest) × (net_now.waiting ≡ Some rest))) waits takes.0 in
        let below : many < length waiting = drop_within many waiting link there.0 there.1 in
        (there.2 ∙ ap Some (sym (drop_next many waiting link there.0 there.1)), omega (arith, more, all, below))

  -- none waited
  pub hands_none : (many came dropped : ℕ) → IfSome net.waiting (λ waiting. waiting ≡ []) → Stays net.waiting net_now.waiting → AcceptsInOrder many came dropped first net → AcceptsInOrder (suc many) came dropped first net_now
  hands_none many came dropped none stays hands = (let both = by first.waiting hands.waits hands.all in record { waits = both.0; all = both.1 }) where
    by : (o : Option (List L)) → IfSome o (λ waiting. net.waiting ≡ Some (drop many waiting)) → IfSome o (λ waiting. came + dropped ≡ min many (length waiting))
        → IfSome o (λ waiting. net_now.waiting ≡ Some (drop (suc many) waiting)) × IfSome o (λ waiting. came + dropped ≡ min (suc many) (length waiting))
    by None waits all = (tt, tt)
    by (Some waiting) waits all =
        let nobody : drop many waiting ≡ [] = subst (λ (o : Option (List L)). IfSome o (λ links. links ≡ [])) waits none in
        let still : net_now.waiting ≡ Some (drop many waiting) = subst (λ (o : Option (List L)). Stays o net_now.waiting) waits stays in
        let beyond : length waiting ≤ many = drop_beyond many waiting nobody in
        (still ∙ ap Some (nobody ∙ sym (drop_past many waiting nobody)), omega (arith, all, beyond))

-- as many came, and as many were dropped
pub hands_same : {L : Type 0} (first net : NetTold L) (many came came_now dropped dropped_now : ℕ) → came_now ≡ came → dropped_now ≡ dropped → AcceptsInOrder many came dropped first net → AcceptsInOrder many came_now dropped_now first net
hands_same first net many came came_now dropped dropped_now came_so dropped_so hands =
    subst (λ (n : ℕ). AcceptsInOrder many n dropped_now first net) (sym came_so) (subst (λ (n : ℕ). AcceptsInOrder many came n first net) (sym dropped_so) hands)

-- ---- steps that hand out nothing

-- as many clients and channels came, and as many links were dropped; and where memory was wanting, it is
pub record Keeps (old new : State) : Type 0 where
  pub clients : length new.clients ≡ length old.clients
  pub programs : length new.programs ≡ length old.programs
  pub dropped : new.dropped ≡ old.dropped
  pub no_clients : new.no_clients ≡ old.no_clients
  pub no_programs : new.no_programs ≡ old.no_programs
  pub wanted : new.wanted ≡ false → old.wanted ≡ false

pub keeps_same : (old new : State) → new ≡ old → Keeps old new
keeps_same old new same = record {
  clients = ap (λ (s : State). length s.clients) same;
  programs = ap (λ (s : State). length s.programs) same;
  dropped = ap (λ (s : State). s.dropped) same;
  no_clients = ap (λ (s : State). s.no_clients) same;
  no_programs = ap (λ (s : State). s.no_programs) same;
  wanted = λ none. sym (ap (λ (s : State). s.wanted) same) ∙ none;
}

pub keeps_want : (old new : State) → new ≡ with_want old → Keeps old new
keeps_want old new want = record {
  clients = ap (λ (s : State). length s.clients) want;
  programs = ap (λ (s : State). length s.programs) want;
  dropped = ap (λ (s : State). s.dropped) want;
  no_clients = ap (λ (s : State). s.no_clients) want;
  no_programs = ap (λ (s : State). s.no_programs) want;
  wanted = λ none. absurd (let bad : true ≡ false = sym (ap (λ (s : State). s.wanted) want) ∙ none in cc bad);
}

pub keeps_both : (old between new : State) → Keeps old between → Keeps between new → Keeps old new
keeps_both old between new one two = record {
  clients = two.clients ∙ one.clients;
  programs = two.programs ∙ one.programs;
  dropped = two.dropped ∙ one.dropped;
  no_clients = two.no_clients ∙ one.no_clients;
  no_programs = two.no_programs ∙ one.no_programs;
  wanted = λ none. one.wanted (two.wanted none);
}

clients_heard : (moved : Bool) (old new : State) → HearsClientsIfMay moved old new → Keeps old new
clients_heard moved old new (inl nobody) = keeps_same old new nobody.2
clients_heard moved old new (inr (inl want)) = keeps_want old new want.1
clients_heard moved old new (inr (inr hears)) =
    let rest = hears.rest in record {
      clients = heard_many moved (clients_of old hears.serves.desk) (clients_of new hears.serves.desk_now) hears.serves.visits;
      programs = ap (λ (s : State). length s.programs) rest;
      dropped = ap (λ (s : State). s.dropped) rest;
      no_clients = ap (λ (s : State). s.no_clients) rest;
      no_programs = ap (λ (s : State). s.no_programs) rest;
      wanted = λ none. sym (ap (λ (s : State). s.wanted) rest) ∙ none;
    }

clients_pumped : (moved : Bool) (old new : State) → PumpsClientsIfMay moved old new → Keeps old new
clients_pumped moved old new (inl want) = keeps_want old new want.1
clients_pumped moved old new (inr pumps) =
    let listeners : List Listener = replicate (length old.clients) fresh_listener in
    let enough : length old.clients ≤ length listeners = omega (arith, length-replicate (length old.clients) fresh_listener) in
    let rest = pumps.rest in record {
      clients = pumped_many moved _ _ (pumps.pumps no_desk old.folder listeners enough);
      programs = ap (λ (s : State). length s.programs) rest;
      dropped = ap (λ (s : State). s.dropped) rest;
      no_clients = ap (λ (s : State). s.no_clients) rest;
      no_programs = ap (λ (s : State). s.no_programs) rest;
      wanted = λ none. sym (ap (λ (s : State). s.wanted) rest) ∙ none;
    }

-- the channels of a server were visited
in_scene : (old new : State) → length new.programs ≡ length old.programs → new ≡ record old { core = new.core; events = new.events; folder = new.folder; channels = new.channels; programs = new.programs; ends = new.ends }
    → Keeps old new
in_scene old new long rest = record {
  clients = ap (λ (s : State). length s.clients) rest;
  programs = long;
  dropped = ap (λ (s : State). s.dropped) rest;
  no_clients = ap (λ (s : State). s.no_clients) rest;
  no_programs = ap (λ (s : State). s.no_programs) rest;
  wanted = λ none. sym (ap (λ (s : State). s.wanted) rest) ∙ none;
}

pub hears_keep : (old new : State) → Hears old new → Keeps old new
hears_keep old new hears =
    let served = hears.served in
    let lasts = each_lasts (Heard hears.moment) (heard_one hears.moment) (open_in served.channels) hears.moved (scene_of served) (scene_of new) hears.programs.hears in
    keeps_both old served new (clients_heard hears.asked old served hears.clients) (in_scene served new lasts.links hears.programs.rest)

pub pumps_keep : (old new : State) → Pumps old new → Keeps old new
pumps_keep old new pumps =
    let sent = pumps.sent in
    let pumped = pumps.pumped in
    let lasts = each_lasts (Sent pumps.moment) (sent_one pumps.moment) (open_in sent.channels) false (scene_of sent) (scene_of pumped) pumps.programs.pumps in
    let rest = pumps.parts.rest in
    keeps_both old sent new (clients_pumped pumps.moved old sent pumps.clients) (keeps_both sent pumped new (in_scene sent pumped lasts.links pumps.programs.rest) (record {
      clients = pumps.parts.shuts.many;
      programs = ap (λ (s : State). length s.programs) rest;
      dropped = ap (λ (s : State). s.dropped) rest;
      no_clients = ap (λ (s : State). s.no_clients) rest;
      no_programs = ap (λ (s : State). s.no_programs) rest;
      wanted = λ none. sym (ap (λ (s : State). s.wanted) rest) ∙ none;
    }))

-- the closing
pub closing_keeps : {Over : Type 0} (moment : Moment) (old new : State) → IsClosed Over moment old new → Keeps old new
closing_keeps {Over} moment old new closes =
    let between = closes.between in
    let programs = closes.programs in
    let stopped = each_lasts (Stopped moment true) (stopped_one moment) (open_in old.channels) false (closing_scene old) (closing_scene between) programs.stops.0 in
    let rest = programs.rest in
    let clients = closes.clients in
    let last = clients.rest in
    keeps_both old between new (record {
      clients = ap (λ (s : State). length s.clients) rest;
      programs = stopped.links;
      dropped = ap (λ (s : State). s.dropped) rest;
      no_clients = ap (λ (s : State). s.no_clients) rest;
      no_programs = ap (λ (s : State). s.no_programs) rest;
      wanted = λ none. sym (ap (λ (s : State). s.wanted) rest) ∙ none;
    }) (record {
      clients = closed_many (clients_of between clients.serves.desk) (clients_of new clients.serves.desk_now) clients.serves.visits;
      programs = ap (λ (s : State). length s.programs) last;
      dropped = ap (λ (s : State). s.dropped) last;
      no_clients = ap (λ (s : State). s.no_clients) last;
      no_programs = ap (λ (s : State). s.no_programs) last;
      wanted = λ none. sym (ap (λ (s : State). s.wanted) last) ∙ none;
    })

-- ---- rounds

sooner : (old more now : Bool) → now ≡ (old || more) → now ≡ false → old ≡ false
sooner true more now is none = absurd (let bad : true ≡ false = sym is ∙ none in cc bad)
sooner false more now is none = refl

module _ {L : Type 0} (told : L → LinkTold) where
  -- ---- memory was not wanting before

  came_unwanted : (moved : Bool) (net net_now : NetTold L) (old new : State) → AcceptsClientIfMay told moved net net_now old new → new.wanted ≡ false → old.wanted ≡ false
  came_unwanted moved net net_now old new (inl failed) none = sym (ap (λ (s : State). s.wanted) failed.3) ∙ none
  came_unwanted moved net net_now old new (inr (inl want)) none = absurd (let bad : true ≡ false = sym (ap (λ (s : State). s.wanted) want.3) ∙ none in cc bad)
  came_unwanted moved net net_now old new (inr (inr accepts)) none = sooner old.wanted (has_wanted accepts.1.0) new.wanted accepts.1.2.wanted none

  entered_unwanted : (moved : Bool) (users users_now : NetTold L) (old new : State) → AcceptsProgramIfMay told moved users users_now old new → new.wanted ≡ false → old.wanted ≡ false
  entered_unwanted moved users users_now old new (inl failed) none = sym (ap (λ (s : State). s.wanted) failed.3) ∙ none
  entered_unwanted moved users users_now old new (inr accepts) none = sooner old.wanted (has_wanted_to_enter accepts.1) new.wanted accepts.3.wanted none

  -- not in any step of a round
  pub record Unwanted (accepted came heard old : State) : Type 0 where
    pub at_hearing : heard.wanted ≡ false
    pub at_entry : accepted.wanted ≡ false
    pub at_accept : came.wanted ≡ false
    pub at_first : old.wanted ≡ false

  pub round_unwanted : (net net_now users users_now : NetTold L) (old new : State) (round : IsRound told net net_now users users_now old new) → new.wanted ≡ false
      → Unwanted round.accepted round.accepts.accepted round.heard old
  round_unwanted net net_now users users_now old new round none =
      let heard : round.heard.wanted ≡ false = (pumps_keep round.heard new round.pumps).wanted none in
      let accepted : round.accepted.wanted ≡ false = (hears_keep round.accepted round.heard round.hears).wanted heard in
      let a = round.accepts in
      let came : a.accepted.wanted ≡ false = entered_unwanted a.entered users users_now a.accepted round.accepted a.enters accepted in
      record { at_hearing = heard; at_entry = accepted; at_accept = came; at_first = came_unwanted a.came net net_now old a.accepted a.accepts came }

  -- ---- who comes

  -- where none was dropped, one came in each accept: who comes now has the place of this one
  pub next_place : (first net net_now : NetTold L) (many came dropped : ℕ) (link : L) → IsSome first.waiting → dropped ≡ 0 → Takes told net net_now link → AcceptsInOrder many came dropped first net → many ≤ came
  next_place first net net_now many came dropped link tells none takes hands = by first.waiting tells hands.waits hands.all where
    by : (o : Option (List L)) → IsSome o → IfSome o (λ waiting. net.waiting ≡ Some (drop many waiting)) → IfSome o (λ waiting. came + dropped ≡ min many (length waiting)) → many ≤ came
    by None tells waits all = absurd (cc tells)
    by (Some waiting) tells waits all =
        let there : (rest : List L) × (drop many waiting ≡ link ∷ rest) × (net_now.waiting ≡ Some rest) =
        subst (λ (o : Option (List L)). IfSome o (λ links. (rest : List L) × (links ≡ link ∷ rest) × (net_now.waiting ≡ Some rest))) waits takes.0 in
        let below : many < length waiting = drop_within many waiting link there.0 there.1 in
        omega (arith, all, below, none)
