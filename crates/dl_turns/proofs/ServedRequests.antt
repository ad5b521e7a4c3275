-- Requests that are served one after the other.
use Rattle.std.proofs.Common.{◌≡◌, ℕ, ◌+◌, ◌<◌, ◌≤◌, Bool, true, false, List, [], ◌∷◌, ◌++◌, length, Option, Some, None, inl, inr, refl, sym, ap, subst, ◌∙◌, append_assoc, arith}
use Rattle.std.specs.Prelude.{is_some, option_map, IsSome, IsSomeAnd}
use Rattle.std.specs.List.{concat}
use Rattle.dl_bytes.specs.Limits.{message_limit, request_limit}
use Rattle.dl_bytes.specs.declared.outcome.Done.{Done}
use Rattle.dl_events.specs.declared.event.Event.{Event}
use Rattle.dl_events.specs.declared.event.Why.{Why}
use Rattle.dl_events.specs.declared.event.Why.TheVariants.{Malformed}
use Rattle.dl_message.specs.Cut.{pieces, rest_fault, rest_of}
use Rattle.dl_message.specs.Cutting.{Cutting}
use Rattle.dl_message.specs.Requests.{requests}
use Rattle.dl_message.proofs.Cuts.{all_of_both, concat_both, its_cut, one_cut}
use Rattle.dl_outside.specs.Told.{FolderTold}
use Rattle.dl_desk.specs.Told.{ControlTold}
use Rattle.dl_services.specs.declared.wish.Want.{Want}
use Rattle.dl_services.specs.declared.wish.Want.TheVariants as want
use Rattle.dl_registry.specs.Kept.{Kept, owed_change}
use Rattle.dl_hub.specs.State.{Client, Hub, Waiting, added, changed, client_of, outbox_of, with_reply, HasRoom, MayAsk}
use Rattle.dl_core.specs.Serving.{Ready, Serves, reply_now, served_now}
use Rattle.dl_core.specs.State.{Core}
use Rattle.dl_turns.specs.Events.{Asks, HasServed, IsDeskOf, IsFor, IsServing, Posts, ServesOne}
use Rattle.dl_turns.specs.Sent.{HasCut, is_bad}
use Rattle.dl_turns.specs.State.{Side, side}
use Rattle.dl_turns.specs.Turns.{Refuses, ServesEach}
use Rattle.dl_turns.proofs.ClientChanges.{client_changed, still_open}

-- ---- how many were served

-- no more than one may have
pub counted : (o : Option Client) (served : ℕ) → IsSomeAnd o (λ c. (c.replies ≡ served) × (served ≤ request_limit)) → IsSomeAnd o (λ c. c.replies ≤ request_limit)
counted None served has = absurd has
counted (Some c) served has = omega (arith, has.0, has.1)

-- a client that is open and may ask nothing more has had all
pub too_many : (hub : Hub) (client : ℕ) → IsSomeAnd (client_of hub client) (λ c. c.replies ≤ request_limit) → IsSome (outbox_of hub client) → (MayAsk hub client → ⊥)
    → IsSomeAnd (client_of hub client) (λ c. c.replies ≡ request_limit)
too_many hub client within there spent = by (client_of hub client) within (λ few. spent (there, few)) where
  by : (o : Option Client) → IsSomeAnd o (λ c. c.replies ≤ request_limit) → (IsSomeAnd o (λ c. c.replies < request_limit) → ⊥) → IsSomeAnd o (λ c. c.replies ≡ request_limit)
  by None within spent = absurd within
  by (Some c) within spent = omega (arith, within, spent)

pub few_served : (o : Option Client) (served : ℕ) → IsSomeAnd o (λ c. (c.replies ≡ served) × (served ≤ request_limit)) → IsSomeAnd o (λ c. c.replies < request_limit) → served < request_limit
few_served None served has few = absurd has
few_served (Some c) served has few = omega (arith, has.0, few)

pub has_room : (o : Option Waiting) (room need : ℕ) → IsSomeAnd o (λ b. room + length b.bytes ≡ b.capacity) → need ≤ room → IsSomeAnd o (λ b. length b.bytes + need ≤ b.capacity)
has_room None room need is enough = absurd is
has_room (Some b) room need is enough = omega (arith, is, enough)

-- one more was served
pub one_more_served : (hub new : Hub) (client served : ℕ) (frame : List ℕ) → new ≡ changed client (with_reply frame) hub → IsSomeAnd (client_of hub client) (λ c. (c.replies ≡ served) × (served ≤ request_limit)) → served < request_limit
    → IsSomeAnd (client_of new client) (λ c. (c.replies ≡ served + 1) × (served + 1 ≤ request_limit))
one_more_served hub new client served frame is has few =
    subst (λ (o : Option Client). IsSomeAnd o (λ c. (c.replies ≡ served + 1) × (served + 1 ≤ request_limit)))
    (sym (ap (λ (h : Hub). client_of h client) is ∙ client_changed hub client (with_reply frame))) (by (client_of hub client) has) where
      by : (o : Option Client) → IsSomeAnd o (λ c. (c.replies ≡ served) × (served ≤ request_limit)) → IsSomeAnd (option_map (with_reply frame) o) (λ c. (c.replies ≡ served + 1) × (served + 1 ≤ request_limit))
      by None has = absurd has
      by (Some c) has = (ap (λ (n : ℕ). n + 1) has.0, omega (arith, few))

-- ---- the stream goes on

pub rest_on : (stream more : List ℕ) → rest_of message_limit (stream ++ more) ≡ rest_of message_limit (rest_of message_limit stream ++ more)
rest_on stream more =
    let rest = rest_of message_limit stream in
    let first = its_cut message_limit stream in
    let second = its_cut message_limit (rest ++ more) in
    let ps = pieces message_limit stream in
    let qs = pieces message_limit (rest ++ more) in
    let t = rest_of message_limit (rest ++ more) in
    let parts : stream ++ more ≡ concat (ps ++ qs) ++ t =
    ap (λ (x : List ℕ). x ++ more) first.parts ∙ append_assoc (concat ps) rest more ∙ ap (λ (x : List ℕ). concat ps ++ x) second.parts
    ∙ sym (append_assoc (concat ps) (concat qs) t) ∙ ap (λ (x : List ℕ). x ++ t) (sym (concat_both ps qs)) in
    (one_cut message_limit (stream ++ more) (pieces message_limit (stream ++ more)) (ps ++ qs) (rest_of message_limit (stream ++ more)) t (its_cut message_limit (stream ++ more))
    (record { parts = parts; each = all_of_both message_limit ps qs first.each second.each; ends = second.ends })).1

pub cut_on : (stream piece bytes : List ℕ) (old new : Cutting) → rest_of message_limit (old.unread ++ piece) ≡ rest_of message_limit bytes → HasCut bytes new → HasCut stream old → HasCut (stream ++ piece) new
cut_on stream piece bytes old new same now was = record {
  limit = now.limit;
  rest = now.rest ∙ sym same ∙ ap (λ (u : List ℕ). rest_of message_limit (u ++ piece)) was.rest ∙ sym (rest_on stream piece);
  good = now.good;
}

-- ---- one after the other

module _ (client : ℕ) (bytes : List ℕ) where
  pub serves_next : (frame now : List ℕ) (old next new : Side) (why : Option Why) → requests bytes ≡ frame ∷ requests now → rest_of message_limit bytes ≡ rest_of message_limit now → ServesOne client frame old next
      → ServesEach client (requests now) (is_bad now) why next new → ServesEach client (requests bytes) (is_bad bytes) why old new
  serves_next frame now old next new why asked rest one others =
      let bad : is_bad now ≡ is_bad bytes = ap (λ (r : List ℕ). is_some (rest_fault message_limit r)) (sym rest) in
      subst (λ (frames : List (List ℕ)). ServesEach client frames (is_bad bytes) why old new) (sym asked)
      (inr (next, one, subst (λ (b : Bool). ServesEach client (requests now) b why next new) bad others))

  pub serves_refused : (frame : List ℕ) (others : List (List ℕ)) (bad : Bool) (old new : Side) (why : Why) → requests bytes ≡ frame ∷ others → Refuses client frame why old.core → new ≡ old
      → ServesEach client (requests bytes) bad (Some why) old new
  serves_refused frame others bad old new why asked refuses same = subst (λ (frames : List (List ℕ)). ServesEach client frames bad (Some why) old new) (sym asked) (inl (refuses, same))

  pub serves_bad : (side : Side) → requests bytes ≡ [] → is_bad bytes ≡ true → ServesEach client (requests bytes) (is_bad bytes) (Some Malformed) side side
  serves_bad side none bad =
      subst (λ (frames : List (List ℕ)). ServesEach client frames (is_bad bytes) (Some Malformed) side side) (sym none)
      (subst (λ (b : Bool). ServesEach client [] b (Some Malformed) side side) (sym bad) (refl, refl))

  pub serves_none : (side : Side) (cutter : Cutting) → requests bytes ≡ [] → HasCut bytes cutter → ServesEach client (requests bytes) (is_bad bytes) None side side
  serves_none side cutter none cut =
      let good : is_bad bytes ≡ false = ap (λ (r : List ℕ). is_some (rest_fault message_limit r)) (sym cut.rest) ∙ ap is_some cut.good.good in
      subst (λ (frames : List (List ℕ)). ServesEach client frames (is_bad bytes) None side side) (sym none)
      (subst (λ (b : Bool). ServesEach client [] b None side side) (sym good) (refl, refl))

-- ---- one request

reply_opens : (o : Option Waiting) (frame : List ℕ) → IsSome o → IsSome (option_map (added frame ((length frame, 0) ∷ [])) o)
reply_opens None frame there = absurd cc
reply_opens (Some w) frame there = refl

pub open_served : (hub new : Hub) (client : ℕ) (frame : List ℕ) → new ≡ changed client (with_reply frame) hub → IsSome (outbox_of hub client) → IsSome (outbox_of new client)
open_served hub new client frame is there =
    subst (λ (h : Hub). IsSome (outbox_of h client)) (sym is) (still_open hub client (with_reply frame) (λ c open_so. reply_opens c.outbox frame open_so) there)

pub asks : (client : ℕ) (frame : List ℕ) (ready : Ready) (pushed : Bool) (old before new : Core) (spare spare_now : ℕ) (desk desk_now : ControlTold)
    (events events_now : Option (List Event)) (folder folder_now : FolderTold)
    → IsFor client frame old spare spare_now ready → owed_change old.registry ≡ None → before ≡ old
    → Posts ready.want pushed desk desk_now → Serves ready pushed before new folder folder_now events events_now
    → new ≡ record before { registry = new.registry; hub = new.hub }
    → Asks client frame (side old desk events folder) (side new desk_now events_now folder_now)
asks client frame ready pushed old before new spare spare_now desk desk_now events events_now folder folder_now is_for settled same posts serves rest = record {
  few = is_for.few;
  room = is_for.room;
  settled = settled;
  ready = ready;
  of_client = is_for.of_client;
  of_frame = is_for.of_frame;
  is_ready = is_for.is_ready;
  pushed = pushed;
  posts = posts;
  serves = subst (λ (core : Core). Serves ready pushed core new folder folder_now events events_now) same serves;
  rest = rest ∙ ap (λ (core : Core). record core { registry = new.registry; hub = new.hub }) same;
}

-- the desk is that of the registry, also once an injection was posted
pub desk_posted : (kept : Kept) (wants : Want) (pushed : Bool) (old new : ControlTold) → Posts wants pushed old new → IsDeskOf kept old → IsDeskOf kept new
desk_posted kept (want.Inject app item) true old new is desk = subst (IsDeskOf kept) (sym is) (record { numbered = desk.numbered; versions = desk.versions })
desk_posted kept (want.Inject app item) false old new is desk = subst (IsDeskOf kept) (sym is.0) (record { numbered = desk.numbered; versions = desk.versions })
desk_posted kept (want.Put text stored) pushed old new is desk = subst (IsDeskOf kept) (sym is) desk
desk_posted kept want.Remove pushed old new is desk = subst (IsDeskOf kept) (sym is) desk
desk_posted kept want.Nothing pushed old new is desk = subst (IsDeskOf kept) (sym is) desk

-- what was got ready for a core like this one
pub room_as : (client client_now : ℕ) (frame frame_now : List ℕ) (core core_now : Core) → client_now ≡ client → frame_now ≡ frame → core_now ≡ core
    → ((answer : Done) → HasRoom (length (reply_now core frame answer)) core.hub client) → (answer : Done) → HasRoom (length (reply_now core_now frame_now answer)) core_now.hub client_now
room_as client client_now frame frame_now core core_now client_is frame_is core_is room answer =
    subst (λ (k : Core). HasRoom (length (reply_now k frame_now answer)) k.hub client_now) (sym core_is)
    (subst (λ (f : List ℕ). HasRoom (length (reply_now core f answer)) core.hub client_now) (sym frame_is)
    (subst (λ (n : ℕ). HasRoom (length (reply_now core frame answer)) core.hub n) (sym client_is) (room answer)))

pub left_as : (frame frame_now : List ℕ) (core core_now : Core) (kept : Kept) (answer : Done) → frame_now ≡ frame → core_now ≡ core → kept ≡ served_now core_now frame_now answer → kept ≡ served_now core frame answer
left_as frame frame_now core core_now kept answer frame_is core_is is =
    is ∙ ap (λ (k : Core). served_now k frame_now answer) core_is ∙ ap (λ (f : List ℕ). served_now core f answer) frame_is

pub hub_as : (client client_now : ℕ) (frame frame_now : List ℕ) (core core_now : Core) (new : Hub) (answer : Done) → client_now ≡ client → frame_now ≡ frame → core_now ≡ core
    → new ≡ changed client_now (with_reply (reply_now core_now frame_now answer)) core_now.hub → new ≡ changed client (with_reply (reply_now core frame answer)) core.hub
hub_as client client_now frame frame_now core core_now new answer client_is frame_is core_is is =
    is ∙ ap (λ (k : Core). changed client_now (with_reply (reply_now k frame_now answer)) k.hub) core_is
    ∙ ap (λ (f : List ℕ). changed client_now (with_reply (reply_now core f answer)) core.hub) frame_is
    ∙ ap (λ (n : ℕ). changed n (with_reply (reply_now core frame answer)) core.hub) client_is

-- the side serves on
pub serves_on : (client served : ℕ) (core new : Core) (hub : Hub) (told : ControlTold) (frame : List ℕ) → new.hub ≡ hub → hub ≡ changed client (with_reply frame) core.hub
    → IsSome (outbox_of core.hub client) → HasServed client served core → served < request_limit → owed_change new.registry ≡ None → IsDeskOf new.registry told → IsServing client (served + 1) new told
serves_on client served core new hub told frame same is open_so has few settled desk = record {
  open_so = open_served core.hub new.hub client frame (same ∙ is) open_so;
  served_so = one_more_served core.hub new.hub client served frame (same ∙ is) has few;
  settled_so = settled;
  desk_so = desk;
}

pub serving_as : (client served : ℕ) (core new : Core) (told : ControlTold) → new ≡ core → IsServing client served core told → IsServing client served new told
serving_as client served core new told same serving = subst (λ (k : Core). IsServing client served k told) (sym same) serving
