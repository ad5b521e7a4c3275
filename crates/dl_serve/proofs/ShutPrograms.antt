-- The link of a program whose channel has ended is shut; behind the closing, that of each.
use Rattle.std.proofs.Common.{◌≡◌, ◌⊎◌, ◌≤◌, ◌+◌, ◌-◌, ℕ, Bool, true, inl, inr, List, [], ◌∷◌, length, Option, Some, None, refl, sym, ap, subst, ◌∙◌, arith, slice_get}
use Rattle.std.specs.Prelude.{slice_set}
use Rattle.std.specs.List.{AllByRecursion}
use Rattle.std.proofs.lemmas.Bool.Decides.{eqb_tells}
use Rattle.dl_bytes.specs.declared.moment.Moment.{Moment}
use Rattle.dl_channel.specs.declared.outcome.ChannelEnd.{ChannelEnd}
use Rattle.dl_outside.specs.Told.{LinkTold}
use Rattle.dl_channels.specs.Rounds.{Heard, Scene, Sent, Stopped, VisitsEach, seen_by}
use Rattle.dl_channels.specs.Visits.{EndsFor, Hears, Pumps}
use Rattle.dl_channels.proofs.LeftOpen.{Leaves, heard_leaves, pumped_leaves}
use Rattle.dl_socket.specs.Channels.{Channels}
use Rattle.dl_socket.specs.Turns.{ChannelView}
use Rattle.dl_serve.proofs.EmptiedChannels.{IsAmong}
use Rattle.dl_serve.proofs.OtherEntries.{set_apart, set_here, set_long}

-- where a channel has ended, its link is shut
abbrev pub EndedShut : List LinkTold → List (Option ChannelEnd) → Type 0
EndedShut links ends = (place : ℕ) (link : LinkTold) (cause : ChannelEnd) → slice_get links place ≡ Some link → slice_get ends place ≡ Some (Some cause) → link.is_shut ≡ true

-- ---- one channel

one_shut : (place : ℕ) (links links_now : List LinkTold) (ends ends_now : List (Option ChannelEnd)) (link link_now : LinkTold) (end end_now : Option ChannelEnd) → slice_get links place ≡ Some link → links_now ≡ slice_set links place link_now
    → slice_get ends place ≡ Some end → ends_now ≡ slice_set ends place end_now → ((cause : ChannelEnd) → end_now ≡ Some cause → ((before : ChannelEnd) → end ≡ Some before → link.is_shut ≡ true) → link_now.is_shut ≡ true)
    → EndedShut links ends → EndedShut links_now ends_now
one_shut place links links_now ends ends_now link link_now end end_now was links_so end_was ends_so shuts all = λ other now cause there slot. elim (eqb_tells other place) [
  | inl same ↦
      let at : slice_get links_now other ≡ Some link_now = ap (λ (n : ℕ). slice_get links_now n) same.1 ∙ ap (λ (ls : List LinkTold). slice_get ls place) links_so ∙ set_here links place link_now link was in
      let end_at : slice_get ends_now other ≡ Some end_now = ap (λ (n : ℕ). slice_get ends_now n) same.1 ∙ ap (λ (es : List (Option ChannelEnd)). slice_get es place) ends_so ∙ set_here ends place end_now end end_was in
      let is : link_now ≡ now = cc (sym at ∙ there) in
      let cause_is : end_now ≡ Some cause = cc (sym end_at ∙ slot) in
      subst (λ (l : LinkTold). l.is_shut ≡ true) is (shuts cause cause_is (λ before is_before. all place link before was (end_was ∙ ap Some is_before)))
  | inr apart ↦
      all other now cause (sym (ap (λ (ls : List LinkTold). slice_get ls other) links_so ∙ set_apart links place other link_now apart.1) ∙ there)
      (sym (ap (λ (es : List (Option ChannelEnd)). slice_get es other) ends_so ∙ set_apart ends place other end_now apart.1) ∙ slot)
]

for_shut : (end : Option ChannelEnd) (cause : ChannelEnd) (channel : ℕ) (moment : Moment) (before after : ChannelView) (old new : Channels) → EndsFor end channel moment before after old new → end ≡ Some cause → after.link.is_shut ≡ true
for_shut None cause channel moment before after old new same is = absurd (cc is)
for_shut (Some end) cause channel moment before after old new ends is = ends.1.shut.shut

hears_shut : (channel : ℕ) (moment : Moment) (end end_now : Option ChannelEnd) (before after : ChannelView) (old new : Channels) → Hears channel moment end end_now before after old new → (cause : ChannelEnd) → end_now ≡ Some cause
    → after.link.is_shut ≡ true
hears_shut channel moment None end_now before after old new (inl turned) cause is = for_shut end_now cause channel moment turned.0 after turned.1 new turned.3 is
hears_shut channel moment None end_now before after old new (inr full) cause is = absurd (let bad : None ≡ Some cause = sym full.1 ∙ is in cc bad)
hears_shut channel moment (Some end) end_now before after old new hears cause is = hears.2.shut.shut

pumps_shut : (channel : ℕ) (moment : Moment) (end end_now : Option ChannelEnd) (before after : ChannelView) (old new : Channels) → Pumps channel moment end end_now before after old new → (cause : ChannelEnd) → end_now ≡ Some cause
    → ((other : ChannelEnd) → end ≡ Some other → before.link.is_shut ≡ true) → after.link.is_shut ≡ true
pumps_shut channel moment None end_now before after old new pumps cause is was = for_shut end_now cause channel moment pumps.0 after pumps.1 new pumps.4 is
pumps_shut channel moment (Some end) end_now before after old new pumps cause is was = ap (λ (s : ChannelView). s.link.is_shut) pumps.1 ∙ was end refl

-- ---- all of them

module _ (moment : Moment) where
  pub heard_shut : (channels : List ℕ) (moved : Bool) (old new : Scene) → VisitsEach (Heard moment) channels moved old new → EndedShut old.links old.ends → EndedShut new.links new.ends
  heard_shut [] moved old new visits all = subst (λ (s : Scene). EndedShut s.links s.ends) (sym visits.1) all
  heard_shut (channel ∷ others) moved old new visits all =
      let one = visits.4 in
      let v = one.visit in
      let between : Scene = visits.0 in
      heard_shut others visits.2 between new visits.5
      (one_shut (channel - 1) old.links between.links old.ends between.ends one.link one.link_now v.end v.end_now one.was one.links v.was v.is
      (λ cause is before. hears_shut channel moment v.end v.end_now (seen_by one.link old.part) (seen_by one.link_now between.part) old.channels between.channels v.hears cause is) all)

  pub sent_shut : (channels : List ℕ) (moved : Bool) (old new : Scene) → VisitsEach (Sent moment) channels moved old new → EndedShut old.links old.ends → EndedShut new.links new.ends
  sent_shut [] moved old new visits all = subst (λ (s : Scene). EndedShut s.links s.ends) (sym visits.1) all
  sent_shut (channel ∷ others) moved old new visits all =
      let one = visits.4 in
      let v = one.visit in
      let between : Scene = visits.0 in
      sent_shut others visits.2 between new visits.5
      (one_shut (channel - 1) old.links between.links old.ends between.ends one.link one.link_now v.end v.end_now one.was one.links v.was v.is
      (λ cause is before. pumps_shut channel moment v.end v.end_now (seen_by one.link old.part) (seen_by one.link_now between.part) old.channels between.channels v.pumps cause is before) all)

  -- it is shut, or is still to be visited
  abbrev pub ShutOr : List ℕ → List LinkTold → ℕ → Type 0
  ShutOr left links place = (link : LinkTold) → slice_get links place ≡ Some link → IsAmong (place + 1) left ⊎ (link.is_shut ≡ true)

  pub stopped_shut : (channels : List ℕ) (moved : Bool) (old new : Scene) → AllByRecursion (λ channel. 1 ≤ channel) channels → VisitsEach (Stopped moment true) channels moved old new → (place : ℕ) → ShutOr channels old.links place
      → ShutOr [] new.links place
  stopped_shut [] moved old new low visits place shut = subst (λ (s : Scene). ShutOr [] s.links place) (sym visits.1) shut
  stopped_shut (channel ∷ others) moved old new low visits place shut = stopped_shut others visits.2 visits.0 new low.1 visits.5 place (λ now there. elim (eqb_tells place (channel - 1)) [
    | inl same ↦
        let one = visits.4 in
        let at : slice_get visits.0.links place ≡ Some one.link_now =
        ap (λ (n : ℕ). slice_get visits.0.links n) same.1 ∙ ap (λ (ls : List LinkTold). slice_get ls (channel - 1)) one.links ∙ set_here old.links (channel - 1) one.link_now one.link one.was in
        let is : one.link_now ≡ now = cc (sym at ∙ there) in
        inr (subst (λ (l : LinkTold). l.is_shut ≡ true) is one.visit.stops.shut.shut)
    | inr apart ↦
        let one = visits.4 in
        elim (shut now (sym (ap (λ (ls : List LinkTold). slice_get ls place) one.links ∙ set_apart old.links (channel - 1) place one.link_now apart.1) ∙ there)) [
          | inl among ↦ elim among [ inl same ↦ absurd (apart.1 (omega (arith, same))) | inr later ↦ inl later ]
          | inr done ↦ inr done
        ]
  ])

-- ---- each program that came has room for why its channel ends

-- no more channels came than may, and there is room for why each of them ends
pub record HasEnds (s : Scene) : Type 0 where
  pub within : s.channels.opened ≤ s.channels.in_all
  pub enough : s.channels.in_all ≤ length s.ends

ends_as : (channel : ℕ) (old new : Scene) (end : Option ChannelEnd) → Leaves channel old.channels new.channels → new.ends ≡ slice_set old.ends (channel - 1) end → HasEnds old → HasEnds new
ends_as channel old new end leaves ends has =
    let long : length new.ends ≡ length old.ends = ap (λ (es : List (Option ChannelEnd)). length es) ends ∙ set_long old.ends (channel - 1) end in
    record { within = omega (arith, has.within, leaves.opened, leaves.in_all); enough = omega (arith, has.enough, leaves.in_all, long) }

module _ (moment : Moment) where
  pub heard_ends : (channels : List ℕ) (moved : Bool) (old new : Scene) → VisitsEach (Heard moment) channels moved old new → HasEnds old → HasEnds new
  heard_ends [] moved old new visits has = subst HasEnds (sym visits.1) has
  heard_ends (channel ∷ others) moved old new visits has =
      let one = visits.4 in
      let v = one.visit in
      heard_ends others visits.2 visits.0 new visits.5
      (ends_as channel old visits.0 v.end_now (heard_leaves channel moment v.end v.end_now (seen_by one.link old.part) (seen_by one.link_now visits.0.part) old.channels visits.0.channels v.hears) v.is has)

  pub sent_ends : (channels : List ℕ) (moved : Bool) (old new : Scene) → VisitsEach (Sent moment) channels moved old new → HasEnds old → HasEnds new
  sent_ends [] moved old new visits has = subst HasEnds (sym visits.1) has
  sent_ends (channel ∷ others) moved old new visits has =
      let one = visits.4 in
      let v = one.visit in
      sent_ends others visits.2 visits.0 new visits.5
      (ends_as channel old visits.0 v.end_now (pumped_leaves channel moment v.end v.end_now (seen_by one.link old.part) (seen_by one.link_now visits.0.part) old.channels visits.0.channels v.pumps) v.is has)
