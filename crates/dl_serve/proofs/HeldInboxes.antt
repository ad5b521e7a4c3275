-- What visits to a channel leave of the inboxes of others, and that channels are numbered from 1.
use Rattle.std.proofs.Common.{◌≡◌, ◌≢◌, ◌≤◌, ℕ, Bool, true, false, cond, filter, not, inl, inr, List, [], ◌∷◌, ◌++◌, Option, Some, None, refl, sym, ap, subst, ◌∙◌}
use Rattle.std.specs.Prelude.{nat_eq}
use Rattle.std.specs.List.{AllByRecursion}
use Rattle.std.specs.Map.{keys_of}
use Rattle.dl_bytes.specs.declared.moment.Moment.{Moment}
use Rattle.dl_channel.specs.declared.outcome.ChannelEnd.{ChannelEnd}
use Rattle.dl_core.specs.Admission.{AddsEach}
use Rattle.dl_events.specs.declared.event.Event.{Event}
use Rattle.dl_channels.specs.Visits.{Ends, EndsFor, Hears, Pumps}
use Rattle.dl_channels.proofs.LeftOpen as leaving
use Rattle.dl_socket.specs.Channels.{Channels, inbox_of, open_in}
use Rattle.dl_socket.specs.Turns.{ChannelView}
use Rattle.dl_serve.proofs.OtherEntries.{gone_apart, value_apart}

pub adds_so : (before now : Option (List Event)) (past more : List Event) → before ≡ Some past → AddsEach before now more → now ≡ Some (past ++ more)
adds_so before now past more is adds = subst (λ (o : Option (List Event)). AddsEach o now more) is adds

filtered : (p : ℕ → Bool) (xs : List ℕ) → AllByRecursion (λ channel. 1 ≤ channel) xs → AllByRecursion (λ channel. 1 ≤ channel) (filter p xs)
filtered p [] all = tt
filtered p (x ∷ xs) all = by (p x) (filtered p xs all.1) where
  by : (b : Bool) → AllByRecursion (λ channel. 1 ≤ channel) (filter p xs) → AllByRecursion (λ channel. 1 ≤ channel) (cond b (x ∷ filter p xs) (filter p xs))
  by true rest = (all.0, rest)
  by false rest = rest

pub left_low : (channel : ℕ) (old new : Channels) → leaving.Leaves channel old new → AllByRecursion (λ number. 1 ≤ number) (open_in old) → AllByRecursion (λ number. 1 ≤ number) (open_in new)
left_low channel old new leaves low = elim leaves.left [
  | inl same ↦ subst (AllByRecursion (λ number. 1 ≤ number)) (sym same) low
  | inr gone ↦ subst (AllByRecursion (λ number. 1 ≤ number)) (sym gone) (filtered (λ other. not (nat_eq channel other)) (open_in old) low)
]

pub low_added : (xs : List ℕ) (channel : ℕ) → 1 ≤ channel → AllByRecursion (λ number. 1 ≤ number) xs → AllByRecursion (λ number. 1 ≤ number) (xs ++ channel ∷ [])
low_added [] channel one all = (one, tt)
low_added (x ∷ xs) channel one all = (all.0, low_added xs channel one all.1)

pub keys_added : {A : Type 0} (es : List (ℕ × A)) (channel : ℕ) (w : A) → keys_of (es ++ (channel, w) ∷ []) ≡ keys_of es ++ channel ∷ []
keys_added [] channel w = refl
keys_added (e ∷ es) channel w = ap (λ (ks : List ℕ). e.0 ∷ ks) (keys_added es channel w)

-- the other channels hold what they held
abbrev pub OthersHeld : ℕ → Channels → Channels → Type 0
OthersHeld channel old new = (other : ℕ) → other ≢ channel → inbox_of new.inboxes other ≡ inbox_of old.inboxes other

module _ (channel : ℕ) (moment : Moment) where
  same_held : (old new : Channels) → new ≡ old → OthersHeld channel old new
  same_held old new same = λ other apart. ap (λ (c : Channels). inbox_of c.inboxes other) same

  held_both : (old between new : Channels) → OthersHeld channel old between → OthersHeld channel between new → OthersHeld channel old new
  held_both old between new one two = λ other apart. two other apart ∙ one other apart

  pub ends_held : (closed : Bool) (before after : ChannelView) (old new : Channels) → Ends channel moment closed before after old new → OthersHeld channel old new
  ends_held true before after old new ends = λ other apart. ap (λ (c : Channels). inbox_of c.inboxes other) ends.closes.is ∙ gone_apart channel other old.inboxes apart
  ends_held false before after old new ends = λ other apart. ap (λ (c : Channels). inbox_of c.inboxes other) ends.closes.is

  ends_for_held : (end : Option ChannelEnd) (before after : ChannelView) (old new : Channels) → EndsFor end channel moment before after old new → OthersHeld channel old new
  ends_for_held None before after old new same = same_held old new same.1
  ends_for_held (Some cause) before after old new ends = ends_held ends.0 before after old new ends.1

  pub hears_held : (end end_now : Option ChannelEnd) (before after : ChannelView) (old new : Channels) → Hears channel moment end end_now before after old new → OthersHeld channel old new
  hears_held None end_now before after old new hears = elim hears [
    | inl turned ↦ held_both old turned.1 new (λ other apart. ap (λ (c : Channels). inbox_of c.inboxes other) turned.2.is ∙ value_apart channel other old.inboxes turned.2.inbox_now apart)
        (ends_for_held end_now turned.0 after turned.1 new turned.3)
    | inr full ↦ same_held old new full.3
  ]
  hears_held (Some cause) end_now before after old new hears = ends_held hears.1 before after old new hears.2

  pub pumps_held : (end end_now : Option ChannelEnd) (before after : ChannelView) (old new : Channels) → Pumps channel moment end end_now before after old new → OthersHeld channel old new
  pumps_held None end_now before after old new pumps =
      held_both old pumps.1 new (λ other apart. ap (λ (c : Channels). inbox_of c.inboxes other) pumps.2.is) (ends_for_held end_now pumps.0 after pumps.1 new pumps.4)
  pumps_held (Some cause) end_now before after old new pumps = same_held old new pumps.2
