-- What rounds leave of the counts of links and channels.
use Rattle.std.proofs.Common.{◌≡◌, ◌≤◌, ◌-◌, ℕ, Bool, true, false, inl, inr, List, [], ◌∷◌, length, Option, Some, None, refl, sym, ap, subst, ◌∙◌, arith}
use Rattle.std.specs.Prelude.{not, nat_eq, slice_set}
use Rattle.std.proofs.lemmas.List.Sums.{count_by-le-length, length-filter}
use Rattle.dl_bytes.specs.declared.moment.Moment.{Moment}
use Rattle.dl_channel.specs.declared.outcome.ChannelEnd.{ChannelEnd}
use Rattle.dl_loop.proofs.Visited.{visits_keep}
use Rattle.dl_outside.specs.Told.{LinkTold}
use Rattle.dl_rounds.specs.Clients.{Clients, VisitsAll}
use Rattle.dl_rounds.specs.Visits.{Closed as ClosesOne, ClosesAll, Heard as HeardOne, HearsAll, Pumped}
use Rattle.dl_rounds.proofs.ByPlace.{set_length}
use Rattle.dl_channels.specs.Rounds.{Heard, Scene, Sent, Stopped, VisitsEach, Visited, seen_by}
use Rattle.dl_channels.specs.Visits.{Ends, EndsFor, Hears, Pumps}
use Rattle.dl_channels.proofs.Behind.{others_than}
use Rattle.dl_channels.proofs.LeftOpen.{Leaves, ended_leaves, heard_leaves, pumped_leaves}
use Rattle.dl_socket.specs.Channels.{Channels, open_in}
use Rattle.dl_socket.specs.Turns.{ChannelView}
use Rattle.dl_serve.proofs.OtherEntries.{set_long}

-- ---- visits to clients

pub heard_many : (moved : Bool) (old new : Clients) → HearsAll moved old new → length new.links ≡ length old.links
heard_many moved old new hears =
    visits_keep HeardOne (λ (c : Clients). length c.links ≡ length old.links) (λ number here clients was now is heard so. set_length clients.links (number - 1) now.link ∙ so) 0 hears.0 moved old new hears.1 refl

pub pumped_many : (moved : Bool) (old new : Clients) → VisitsAll Pumped moved old new → length new.links ≡ length old.links
pumped_many moved old new pumps =
    visits_keep Pumped (λ (c : Clients). length c.links ≡ length old.links) (λ number here clients was now is pumped so. set_length clients.links (number - 1) now.link ∙ so) 0 pumps.0 moved old new pumps.1 refl

pub closed_many : {Over : Type 0} (old new : Clients) → ClosesAll Over old new → length new.links ≡ length old.links
closed_many {Over} old new closes =
    visits_keep (ClosesOne Over) (λ (c : Clients). length c.links ≡ length old.links) (λ number here clients was now is closed so. set_length clients.links (number - 1) now.link ∙ so) 0 closes.1.0 closes.0 old new
    closes.1.1 refl

-- ---- visits to channels

-- Of the channels of a scene as many may come; and no fewer have a link, and no more are open.
pub record Lasts (old new : Scene) : Type 0 where
  pub links : length new.links ≡ length old.links
  pub at_once : new.channels.at_once ≡ old.channels.at_once
  pub in_all : new.channels.in_all ≡ old.channels.in_all
  pub opened : new.channels.opened ≡ old.channels.opened
  pub open_few : length (open_in new.channels) ≤ length (open_in old.channels)

lasts_same : (old new : Scene) → new ≡ old → Lasts old new
lasts_same old new same = subst (Lasts old) (sym same) (record { links = refl; at_once = refl; in_all = refl; opened = refl; open_few = omega arith })

lasts_both : (old between new : Scene) → Lasts old between → Lasts between new → Lasts old new
lasts_both old between new first second = record {
  links = second.links ∙ first.links;
  at_once = second.at_once ∙ first.at_once;
  in_all = second.in_all ∙ first.in_all;
  opened = second.opened ∙ first.opened;
  open_few = omega (arith, first.open_few, second.open_few);
}

others_few : (channel : ℕ) (numbers : List ℕ) → length (others_than channel numbers) ≤ length numbers
others_few channel numbers =
    omega (arith, length-filter (λ other. not (nat_eq channel other)) numbers, count_by-le-length (λ other. not (nat_eq channel other)) numbers)

left_few : (channel : ℕ) (old new : Channels) → Leaves channel old new → length (open_in new) ≤ length (open_in old)
left_few channel old new leaves = elim leaves.left [
  | inl same ↦ omega (arith, ap (λ (ns : List ℕ). length ns) same)
  | inr gone ↦ omega (arith, ap (λ (ns : List ℕ). length ns) gone, others_few channel (open_in old))
]

-- as many may be open at once
ended_limit : (channel : ℕ) (moment : Moment) (closed : Bool) (before after : ChannelView) (old new : Channels) → Ends channel moment closed before after old new → new.at_once ≡ old.at_once
ended_limit channel moment true before after old new ends = ap (λ (c : Channels). c.at_once) ends.closes.is
ended_limit channel moment false before after old new ends = ap (λ (c : Channels). c.at_once) ends.closes.is

for_limit : (end : Option ChannelEnd) (channel : ℕ) (moment : Moment) (before after : ChannelView) (old new : Channels) → EndsFor end channel moment before after old new → new.at_once ≡ old.at_once
for_limit None channel moment before after old new same = ap (λ (c : Channels). c.at_once) same.1
for_limit (Some end) channel moment before after old new ends = ended_limit channel moment ends.0 before after old new ends.1

heard_limit : (channel : ℕ) (moment : Moment) (end end_now : Option ChannelEnd) (before after : ChannelView) (old new : Channels) → Hears channel moment end end_now before after old new → new.at_once ≡ old.at_once
heard_limit channel moment None end_now before after old new hears = elim hears [
  | inl turned ↦ for_limit end_now channel moment turned.0 after turned.1 new turned.3 ∙ ap (λ (c : Channels). c.at_once) turned.2.is
  | inr full ↦ ap (λ (c : Channels). c.at_once) full.3
]
heard_limit channel moment (Some cause) end_now before after old new hears = ended_limit channel moment hears.1 before after old new hears.2

pumped_limit : (channel : ℕ) (moment : Moment) (end end_now : Option ChannelEnd) (before after : ChannelView) (old new : Channels) → Pumps channel moment end end_now before after old new → new.at_once ≡ old.at_once
pumped_limit channel moment None end_now before after old new pumps = for_limit end_now channel moment pumps.0 after pumps.1 new pumps.4 ∙ ap (λ (c : Channels). c.at_once) pumps.2.is
pumped_limit channel moment (Some cause) end_now before after old new pumps = ap (λ (c : Channels). c.at_once) pumps.2

lasts_so : (channel : ℕ) (old new : Scene) (link : LinkTold) → new.links ≡ slice_set old.links (channel - 1) link → Leaves channel old.channels new.channels → new.channels.at_once ≡ old.channels.at_once → Lasts old new
lasts_so channel old new link is leaves at_once = record {
  links = ap (λ (ls : List LinkTold). length ls) is ∙ set_long old.links (channel - 1) link;
  at_once = at_once;
  in_all = leaves.in_all;
  opened = leaves.opened;
  open_few = left_few channel old.channels new.channels leaves;
}

module _ (moment : Moment) where
  pub heard_one : (channel : ℕ) (moved : Bool) (old new : Scene) → Visited (Heard moment) channel moved old new → Lasts old new
  heard_one channel moved old new visited =
      let v = visited.visit in
      let before = seen_by visited.link old.part in
      let after = seen_by visited.link_now new.part in
      lasts_so channel old new visited.link_now visited.links (heard_leaves channel moment v.end v.end_now before after old.channels new.channels v.hears)
      (heard_limit channel moment v.end v.end_now before after old.channels new.channels v.hears)

  pub sent_one : (channel : ℕ) (moved : Bool) (old new : Scene) → Visited (Sent moment) channel moved old new → Lasts old new
  sent_one channel moved old new visited =
      let v = visited.visit in
      let before = seen_by visited.link old.part in
      let after = seen_by visited.link_now new.part in
      lasts_so channel old new visited.link_now visited.links (pumped_leaves channel moment v.end v.end_now before after old.channels new.channels v.pumps)
      (pumped_limit channel moment v.end v.end_now before after old.channels new.channels v.pumps)

  pub stopped_one : (channel : ℕ) (moved : Bool) (old new : Scene) → Visited (Stopped moment true) channel moved old new → Lasts old new
  stopped_one channel moved old new visited =
      let v = visited.visit in
      let before = seen_by visited.link old.part in
      let after = seen_by visited.link_now new.part in
      lasts_so channel old new visited.link_now visited.links (ended_leaves channel moment true before after old.channels new.channels v.stops)
      (ended_limit channel moment true before after old.channels new.channels v.stops)

module _ (Visit : ℕ → Bool → List (Option ChannelEnd) → List (Option ChannelEnd) → ChannelView → ChannelView → Channels → Channels → Type 0)
    (one : (channel : ℕ) (moved : Bool) (old new : Scene) → Visited Visit channel moved old new → Lasts old new) where
  pub each_lasts : (channels : List ℕ) (moved : Bool) (old new : Scene) → VisitsEach Visit channels moved old new → Lasts old new
  each_lasts [] moved old new visits = lasts_same old new visits.1
  each_lasts (channel ∷ others) moved old new visits =
      lasts_both old visits.0 new (one channel visits.1 old visits.0 visits.4) (each_lasts others visits.2 visits.0 new visits.5)
