-- Visits that pump and end channels put no level; and behind the pumps of a round nothing waits for a channel that goes on, where its link never had to wait.
use Rattle.std.proofs.Common.{◌≡◌, ◌≢◌, ◌⊎◌, ◌≤◌, ◌+◌, ◌-◌, ℕ, Bool, true, false, cond, inl, inr, List, [], ◌∷◌, ◌++◌, length, Option, Some, None, refl, sym, ap, subst, ◌∙◌, arith, append-nil, append_assoc}
use Rattle.std.specs.Prelude.{IsSome, nat_eq, slice_get, slice_set}
use Rattle.std.specs.List.{AllByRecursion}
use Rattle.std.specs.Map.{keys_of, lookup, set_value}
use Rattle.std.specs.Option.{option_map_or}
use Rattle.std.proofs.lemmas.Bool.Decides.{eqb_tells}
use Rattle.dl_admission.proofs.Added.{adds_each_both, adds_each_none}
use Rattle.dl_bytes.specs.declared.moment.Moment.{Moment}
use Rattle.dl_bytes.specs.declared.user.UserMsg.TheVariants.{UnregisterApp}
use Rattle.dl_channel.specs.Pumping.{PumpsBy}
use Rattle.dl_channel.specs.State.{Outbox, empty}
use Rattle.dl_channel.specs.declared.outcome.ChannelEnd.{ChannelEnd}
use Rattle.dl_channel_turns.specs.Levels.{TellsLevels}
use Rattle.dl_channel_turns.specs.Messages.{Notes, Serves}
use Rattle.dl_channel_turns.specs.State.{Side, outbox_of}
use Rattle.dl_core.proofs.Leveled.{message_waits, one_fewer_waits}
use Rattle.dl_core.specs.Admission.{AddsEach}
use Rattle.dl_core.specs.Registering.{applied_now}
use Rattle.dl_core.specs.State.{Core}
use Rattle.dl_core.specs.Waiting.{waiting}
use Rattle.dl_events.specs.declared.event.Event.{Event}
use Rattle.dl_events.specs.declared.event.Event.TheVariants as event
use Rattle.dl_lemmas.proofs.Lists.{all_both}
use Rattle.dl_model.proofs.Order.{in_order-registry_of}
use Rattle.dl_model.specs.Registry.{IsInOrder, Registry}
use Rattle.dl_model.specs.Setting.{Setting}
use Rattle.dl_model.specs.declared.registry.LevelChange.{LevelChange}
use Rattle.dl_outside.specs.Told.{LinkTold}
use Rattle.dl_registry.specs.Kept.{Kept, owed_change}
use Rattle.dl_rounds.proofs.ByPlace.{set_cases}
use Rattle.dl_channels.specs.Rounds.{PumpsAll, Scene, Sent, VisitsEach, Visited, seen_by}
use Rattle.dl_channels.specs.Visits.{Ends, EndsFor, Pumps, side_of}
use Rattle.dl_socket.specs.Channels.{Channels, IsOpen, open_in}
use Rattle.dl_socket.specs.Closing.{UnregistersEach}
use Rattle.dl_socket.specs.Turns.{ChannelView}
use Rattle.dl_serve.proofs.NotedSteps.{Follows, IsSilent, message_follows}
use Rattle.dl_serve.proofs.OtherEntries.{gone_apart, set_apart, set_here, value_apart, value_here}

-- it is one of these
abbrev pub IsAmong : ℕ → List ℕ → Type 0
IsAmong number [] = ⊥
IsAmong number (other ∷ others) = (number ≡ other) ⊎ IsAmong number others

pub among_keys : {A : Type 0} (key : ℕ) (es : List (ℕ × A)) → IsSome (lookup (nat_eq key) es) → IsAmong key (keys_of es)
among_keys key [] some = absurd (cc some)
among_keys {A} key (e ∷ es) some = by (nat_eq key e.0) (eqb_tells key e.0) some (among_keys key es) where
  by : (b : Bool) → ((b ≡ true) × (key ≡ e.0)) ⊎ ((b ≡ false) × (key ≢ e.0)) → IsSome (cond b (Some e.1) (lookup (nat_eq key) es)) → (IsSome (lookup (nat_eq key) es) → IsAmong key (keys_of es)) → IsAmong key (keys_of (e ∷ es))
  by b (inl same) some rest = inl same.1
  by true (inr differs) some rest = absurd (cc differs.0)
  by false (inr differs) some rest = inr (rest some)

-- of each channel that goes on
abbrev pub EachOpen : (ℕ → LinkTold → Type 0) → List LinkTold → List (Option ChannelEnd) → Type 0
EachOpen P links ends = (place : ℕ) (link : LinkTold) → slice_get links place ≡ Some link → slice_get ends place ≡ Some None → P place link

-- nothing waits for it, where its link never had to wait
abbrev pub IsEmptied : Channels → ℕ → LinkTold → Type 0
IsEmptied channels place link = link.waits ≡ 0 → outbox_of channels.outboxes (place + 1) ≡ Some empty

-- ---- that an application goes changes no level

-- the levels that are told where none is owed
told_none : (changes : List LevelChange) (old new : Side) → owed_change old.core.registry ≡ None → TellsLevels changes old new → new ≡ old
told_none [] old new none levels = levels.0
told_none (next ∷ others) old new none levels = absurd (let bad : Some next ≡ None = sym levels.1.owed ∙ none in cc bad)

-- where none waits none is owed
none_owed : (kept : Kept) → length kept.held ≡ 1024 → waiting kept ≤ 0 → owed_change kept ≡ None
none_owed kept all none = by (owed_change kept) refl where
  by : (o : Option LevelChange) → owed_change kept ≡ o → o ≡ None
  by None is = refl
  by (Some change) is = absurd (let fewer = one_fewer_waits kept change all is in omega (arith, none, fewer))

module _ (setting : Setting) (channel : ℕ) (moment : Moment) where
  -- Nothing was noted that puts a message, no level is owed, and what waits for the others stands.
  pub record Quietly (past : List Event) (old new : Side) : Type 0 where
    pub more : List Event
    pub events : AddsEach old.events new.events more
    pub silent : AllByRecursion IsSilent more
    pub follows : Follows setting (past ++ more) new.core
    pub settled : owed_change new.core.registry ≡ None
    pub others : (other : ℕ) → other ≢ channel → outbox_of new.outboxes other ≡ outbox_of old.outboxes other

  abbrev Led : List Event → Side → Side → Type 0
  Led past old new = Follows setting past old.core → owed_change old.core.registry ≡ None → Quietly past old new

  same_led : (past : List Event) (old new : Side) → new ≡ old → Led past old new
  same_led past old new same = subst (Led past old) (sym same) (λ follows settled. record {
    more = [];
    events = adds_each_none old.events;
    silent = tt;
    follows = subst (λ (es : List Event). Follows setting es old.core) (sym (append-nil past)) follows;
    settled = settled;
    others = λ other apart. refl;
  })

  both_led : (past : List Event) (old between new : Side) → Led past old between → ((later : List Event) → Led later between new) → Led past old new
  both_led past old between new one two = λ follows settled.
      let first = one follows settled in
      let second = two (past ++ first.more) first.follows first.settled in record {
        more = first.more ++ second.more;
        events = adds_each_both old.events between.events new.events first.more second.more first.events second.events;
        silent = all_both IsSilent first.more second.more first.silent second.silent;
        follows = subst (λ (es : List Event). Follows setting es new.core) (append_assoc past first.more second.more) second.follows;
        settled = second.settled;
        others = λ other apart. second.others other apart ∙ first.others other apart;
      }

  -- with other outboxes, of which those of the others are the same
  with_led : (past : List Event) (old new : Side) (outboxes : List (ℕ × Outbox)) → ((other : ℕ) → other ≢ channel → outbox_of outboxes other ≡ outbox_of new.outboxes other) → Led past old new
      → Led past old (record new { outboxes = outboxes })
  with_led past old new outboxes same led = λ follows settled.
      let q = led follows settled in
      record { more = q.more; events = q.events; silent = q.silent; follows = q.follows; settled = q.settled; others = λ other apart. same other apart ∙ q.others other apart }

  one_led : (past : List Event) (apid : List ℕ) (old new : Side) → Serves false channel moment (UnregisterApp apid 0) old new → Led past old new
  one_led past apid old new serves = λ follows settled.
      let noted : Side = serves.0 in
      let notes : Notes channel moment (UnregisterApp apid 0) old noted = serves.1 in
      let user : Event = event.User channel (UnregisterApp apid 0) moment in
      let then : Follows setting (past ++ user ∷ []) noted.core = record {
        registry = message_follows setting past channel (UnregisterApp apid 0) moment old.core noted.core.registry notes.registers follows.registry;
        level = ap (λ (c : Core). c.level) notes.rest ∙ follows.level;
      } in
      let order : IsInOrder old.core.registry.registry = subst (λ (r : Registry). IsInOrder r) (sym follows.registry.registry) (in_order-registry_of setting past) in
      let waits : waiting noted.core.registry ≤ 0 = message_waits channel (UnregisterApp apid 0) old.core.registry noted.core.registry (applied_now old.core channel (UnregisterApp apid 0)) order settled notes.registers in
      let none : owed_change noted.core.registry ≡ None = none_owed noted.core.registry then.registry.all waits in
      subst (Quietly past old) (sym (told_none serves.2.0 noted new none serves.2.1))
      (record { more = user ∷ []; events = notes.notes.event; silent = (tt, tt); follows = then; settled = none; others = λ other apart. ap (λ (es : List (ℕ × Outbox)). outbox_of es other) notes.outboxes })

  each_led : (past : List Event) (apids : List (List ℕ)) (old new : Side) → UnregistersEach channel moment apids old new → Led past old new
  each_led past [] old new each = same_led past old new each
  each_led past (apid ∷ apids) old new each = both_led past old each.1 new (one_led past apid old each.1 each.2) (λ later. each_led later apids each.1 new each.3)

  pub ends_led : (past : List Event) (closed : Bool) (before after : ChannelView) (old new : Channels) → Ends channel moment closed before after old new → Led past (side_of before old) (side_of after new)
  ends_led past true before after old new ends =
      let all = ends.closes.unregistered in
      with_led past (side_of before old) (record (side_of after new) { outboxes = ends.closes.outboxes }) new.outboxes
      (λ other apart. ap (λ (c : Channels). outbox_of c.outboxes other) ends.closes.is ∙ gone_apart channel other ends.closes.outboxes apart)
      (each_led past all.0 (side_of before old) (record (side_of after new) { outboxes = ends.closes.outboxes }) all.1)
  ends_led past false before after old new ends = let all = ends.closes.unregistered in each_led past all.0 (side_of before old) (side_of after new) all.1

  for_led : (past : List Event) (end : Option ChannelEnd) (before after : ChannelView) (old new : Channels) → EndsFor end channel moment before after old new → Led past (side_of before old) (side_of after new)
  for_led past None before after old new same = same_led past (side_of before old) (side_of after new) (λ i. side_of (same.0 i) (same.1 i))
  for_led past (Some cause) before after old new ends = ends_led past ends.0 before after old new ends.1

  pub pumps_led : (past : List Event) (end end_now : Option ChannelEnd) (before after : ChannelView) (old new : Channels) → Pumps channel moment end end_now before after old new → Led past (side_of before old) (side_of after new)
  pumps_led past None end_now before after old new pumps =
      let one = pumps.2.pumps in
      let set : pumps.1.outboxes ≡ set_value (nat_eq channel) old.outboxes one.outbox_now =
      one.is ∙ ap (λ (o : Option Outbox). option_map_or (λ (x : Outbox). set_value (nat_eq channel) old.outboxes one.outbox_now) o old.outboxes) one.was in
      both_led past (side_of before old) (side_of pumps.0 pumps.1) (side_of after new)
      (with_led past (side_of before old) (record (side_of pumps.0 pumps.1) { outboxes = old.outboxes }) pumps.1.outboxes
      (λ other apart. ap (λ (es : List (ℕ × Outbox)). outbox_of es other) set ∙ value_apart channel other old.outboxes one.outbox_now apart)
      (same_led past (side_of before old) (record (side_of pumps.0 pumps.1) { outboxes = old.outboxes }) (ap (λ (s : ChannelView). side_of s old) pumps.3)))
      (λ later. for_led later end_now pumps.0 after pumps.1 new pumps.4)
  pumps_led past (Some cause) end_now before after old new pumps = same_led past (side_of before old) (side_of after new) (λ i. side_of (pumps.1 i) (pumps.2 i))

-- A pump leaves nothing behind where the channel goes on and its link never had to wait.
pub pump_empties : (channel : ℕ) (moment : Moment) (before after : ChannelView) (old new : Channels) → Pumps channel moment None None before after old new → after.link.waits ≡ 0 → outbox_of new.outboxes channel ≡ Some empty
pump_empties channel moment before after old new pumps never =
    let one = pumps.2.pumps in
    let set : pumps.1.outboxes ≡ set_value (nat_eq channel) old.outboxes one.outbox_now =
    one.is ∙ ap (λ (o : Option Outbox). option_map_or (λ (x : Outbox). set_value (nat_eq channel) old.outboxes one.outbox_now) o old.outboxes) one.was in
    let here : outbox_of pumps.1.outboxes channel ≡ Some one.outbox_now = ap (λ (es : List (ℕ × Outbox)). outbox_of es channel) set ∙ value_here channel old.outboxes one.outbox_now one.outbox one.was in
    ap (λ (c : Channels). outbox_of c.outboxes channel) pumps.4.1 ∙ here
    ∙ ap Some (by one.outbox.full one.outbox one.outbox_now before.link pumps.0.link refl one.pumps (ap (λ (s : ChannelView). s.link.waits) (sym pumps.4.0) ∙ never))
  where
    by : (b : Bool) (outbox outbox_now : Outbox) (link link_now : LinkTold) → outbox.full ≡ b → PumpsBy b None outbox outbox_now link link_now → link_now.waits ≡ 0 → outbox_now ≡ empty
    by true outbox outbox_now link link_now full pumps none = absurd (cc pumps.0)
    by false outbox outbox_now link link_now full pumps none = elim pumps.0.ends.0 [
      | inl all ↦ pumps.1 ∙ (λ i. record { waiting = all.0 i; full = full i })
      | inr left ↦ absurd (let rose = left.1 in omega (arith, rose, none))
    ]

-- ---- the pumps of a round

-- it is emptied, or is still to be visited
abbrev AreEmptied : List ℕ → Scene → Type 0
AreEmptied left s = EachOpen (λ place link. IsAmong (place + 1) left ⊎ IsEmptied s.channels place link) s.links s.ends

module _ (setting : Setting) (moment : Moment) where
  one_emptied : (channel : ℕ) (others : List ℕ) (moved : Bool) (old new : Scene) → 1 ≤ channel → Visited (Sent moment) channel moved old new
      → ((other : ℕ) → other ≢ channel → outbox_of new.channels.outboxes other ≡ outbox_of old.channels.outboxes other) → AreEmptied (channel ∷ others) old → AreEmptied others new
  one_emptied channel others moved old new one visited stand all = λ place link there slot.
      let v = visited.visit in
      let at : slice_get new.ends place ≡ slice_get (slice_set old.ends (channel - 1) v.end_now) place = ap (λ (es : List (Option ChannelEnd)). slice_get es place) v.is in
      set_cases (λ (l : LinkTold). IsAmong (place + 1) others ⊎ IsEmptied new.channels place l) old.links (channel - 1) place visited.link visited.link_now link visited.was
      (λ same.
      let number : channel ≡ place + 1 = omega (arith, same, one) in
      let end_at : slice_get new.ends place ≡ Some v.end_now = at ∙ ap (λ (n : ℕ). slice_get (slice_set old.ends (channel - 1) v.end_now) n) same ∙ set_here old.ends (channel - 1) v.end_now v.end v.was in
      let goes_on : v.end_now ≡ None = cc (sym end_at ∙ slot) in
      inr (λ never. ap (λ (n : ℕ). outbox_of new.channels.outboxes n) (sym number)
      ∙ by channel v.end v.end_now (seen_by visited.link old.part) (seen_by visited.link_now new.part) old.channels new.channels v.pumps goes_on never))
      (λ apart was.
      let differs : place + 1 ≢ channel = (λ same. apart (omega (arith, same))) in
      elim (all place link was (sym (at ∙ set_apart old.ends (channel - 1) place v.end_now apart) ∙ slot)) [
        | inl among ↦ elim among [ inl same ↦ absurd (differs same) | inr later ↦ inl later ]
        | inr emptied ↦ inr (λ never. stand (place + 1) differs ∙ emptied never)
      ]) (sym (ap (λ (ls : List LinkTold). slice_get ls place) visited.links) ∙ there)
    where
      by : (n : ℕ) (end end_now : Option ChannelEnd) (before now : ChannelView) (was is : Channels) → Pumps n moment end end_now before now was is → end_now ≡ None → now.link.waits ≡ 0 → outbox_of is.outboxes n ≡ Some empty
      by n None end_now before now was is pumps none never =
          pump_empties n moment before now was is (subst (λ (e : Option ChannelEnd). Pumps n moment None e before now was is) none pumps) never
      by n (Some cause) end_now before now was is pumps none never = absurd (let bad : Some cause ≡ None = sym pumps.0 ∙ none in cc bad)

  each_emptied : (past : List Event) (channels : List ℕ) (moved : Bool) (old new : Scene) → AllByRecursion (λ channel. 1 ≤ channel) channels → VisitsEach (Sent moment) channels moved old new → Follows setting past old.part.core
      → owed_change old.part.core.registry ≡ None → AreEmptied channels old → AreEmptied [] new
  each_emptied past [] moved old new low visits follows settled all = subst (AreEmptied []) (sym visits.1) all
  each_emptied past (channel ∷ others) moved old new low visits follows settled all =
      let between : Scene = visits.0 in
      let visited = visits.4 in
      let v = visited.visit in
      let quiet = pumps_led setting channel moment past v.end v.end_now (seen_by visited.link old.part) (seen_by visited.link_now between.part) old.channels between.channels v.pumps follows settled in
      each_emptied (past ++ quiet.more) others visits.2 between new low.1 visits.5 quiet.follows quiet.settled (one_emptied channel others visits.1 old between low.0 visited quiet.others all)

  pub all_emptied : (past : List Event) (old new : Scene) → AllByRecursion (λ channel. 1 ≤ channel) (open_in old.channels) → PumpsAll moment old new → Follows setting past old.part.core → owed_change old.part.core.registry ≡ None
      → EachOpen (λ place link. IsOpen (place + 1) old.channels) old.links old.ends → EachOpen (λ place link. IsEmptied new.channels place link) new.links new.ends
  all_emptied past old new low pumps follows settled opened = λ place link there slot.
      elim (each_emptied past (open_in old.channels) false old new low pumps follows settled (λ other its is at. inl (among_keys (other + 1) old.channels.inboxes (opened other its is at))) place link there slot) [
        | inl none ↦ absurd none
        | inr emptied ↦ emptied
      ]
