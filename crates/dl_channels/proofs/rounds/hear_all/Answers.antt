use Rattle.std.proofs.Common.{◌≡◌, ◌-◌, ◌<◌, ◌≤◌, ◌||◌, ℕ, Bool, true, false, Some, None, List, [], Option, drop, length, refl, sym, ap, subst, ◌∙◌, arith}
use Rattle.std.specs.Prelude.{get_or, slice_get, slice_set}
use Rattle.std.proofs.lemmas.Option.{slice_get-get_or}
use Rattle.dl_channel.specs.declared.outcome.ChannelEnd.{ChannelEnd}
use Rattle.dl_outside.specs.Links.{Links}
use Rattle.dl_rounds.proofs.ByPlace.{set_length}
use Rattle.dl_rounds.proofs.Visiting.{moved_or}
use Rattle.dl_socket.specs.Channels.{open_in}
use Rattle.dl_channels.specs.Rounds.{Heard, VisitsEach, place_behind, scene, seen_by}
use Rattle.dl_channels.proofs.Behind.{next_stands, none_behind}
use Rattle.dl_channels.proofs.LeftOpen.{heard_leaves}
use Rattle.dl_channels.proofs.Visiting.{linked_again, low_place, visited_next}
use Rattle.dl_channels.proofs.rounds.hear_all.Goals as goal
use Rattle.dl_lemmas.proofs.Bools.{or_false}

pub place_behind-place-requires : goal.place_behind-place-requires
place_behind-place-requires g c = low_place c.loop-channel.channels c.loop-channel.place c.in-Some.channel c.are_apart.ensures.few (sym c.at.ensures.place ∙ c.in-Some.is)

pub loop-channel-smaller : goal.loop-channel-smaller
loop-channel-smaller g c =
    let was = c.loop-channel in
    let now = c.hear_channel-moved.new in
    let channel = c.in-Some.channel in
    let left = heard_leaves channel c.args.moment _ _ _ _ _ _ c.hear_channel-moved.ensures.hears in
    let next = next_stands channel (open_in was.channels) (open_in now.channels) was.place c.are_apart.ensures.apart (sym c.at.ensures.place ∙ c.in-Some.is) left.left in
    let behind = ap (λ (n : ℕ). length (drop n (open_in now.channels))) c.place_behind-place.ensures in
    omega (arith, ap (λ (cs : List ℕ). length cs) next, behind)

pub loop-channel-preserved : goal.loop-channel-preserved
loop-channel-preserved g c =
    let was = c.loop-channel in
    let now = c.hear_channel-moved.new in
    let so = was.invariant in
    let channel = c.in-Some.channel in
    let s = scene g.L.Link.told g.J.Journal.events g.F.Folder.told in
    let left = heard_leaves channel c.args.moment _ _ _ _ _ _ c.hear_channel-moved.ensures.hears in
    let next = next_stands channel (open_in was.channels) (open_in now.channels) was.place c.are_apart.ensures.apart (sym c.at.ensures.place ∙ c.in-Some.is) left.left in
    let number = c.in-Some.ensures.number in
    let below : channel - 1 < length was.ends = omega (arith, number.0, number.1, so.opened, so.ends, c.requires.enough) in
    let ends_now : List (Option ChannelEnd) = slice_set was.ends (channel - 1) now.end in
    let links_now : Links g.row.L.Denot = record { links = slice_set was.links.links (channel - 1) now.link; room = was.links.room } in
    let visit : Heard c.args.moment channel c.hear_channel-moved.result was.ends ends_now _ _ was.channels now.channels = record { end = _; end_now = now.end; was = slice_get-get_or was.ends (channel - 1) _ below; is = refl; hears = c.hear_channel-moved.ensures.hears; moves = c.hear_channel-moved.ensures.moves } in
    record {
      behind = λ later new rest.
          let on = subst (λ (n : ℕ). VisitsEach (Heard c.args.moment) (drop n (open_in now.channels)) later (s links_now ends_now now.channels now.core now.journal now.folder) new) c.place_behind-place.ensures rest in
          let all = visited_next g.L.Link.told g.J.Journal.events g.F.Folder.told (Heard c.args.moment) channel (drop (place_behind (open_in now.channels) was.place channel) (open_in now.channels)) c.hear_channel-moved.result later
          was.links c.of_mut-link.result.now now.link was.ends ends_now was.channels now.channels was.core now.core was.journal now.journal was.folder now.folder new c.of_mut-link.ensures.value visit on in
          let both = subst (λ (cs : List ℕ). VisitsEach (Heard c.args.moment) cs (c.hear_channel-moved.result || later) (s was.links was.ends was.channels was.core was.journal was.folder) new) (sym next) all in
          subst (λ (b : Bool). VisitsEach (Heard c.args.moment) (open_in c.args.channels.now) b (s c.args.links.now c.args.ends.now c.args.channels.now c.args.core.now c.args.journal.now c.args.folder.now) new)
          (sym (moved_or was.moved c.hear_channel-moved.result later)) (so.behind (c.hear_channel-moved.result || later) new both);
      linked = linked_again channel (channel - 1) was.links now.link was.channels now.channels so.linked left;
      ends = set_length was.ends (channel - 1) now.end ∙ so.ends;
      opened = left.opened ∙ so.opened;
      settled = c.hear_channel-moved.ensures.settled;
      few = c.hear_channel-moved.ensures.few;
    }

pub returns-clause-hears : goal.returns-clause-hears
returns-clause-hears g c =
    let was = c.loop-channel in
    let s = scene g.L.Link.told g.J.Journal.events g.F.Folder.told in
    let none = none_behind (open_in was.channels) was.place (sym c.at.ensures.place ∙ c.in_default.is) in
    let end = s was.links was.ends was.channels was.core was.journal was.folder in
    let visits = subst (λ (cs : List ℕ). VisitsEach (Heard c.args.moment) cs false end end) (sym none) (refl, refl) in
    subst (λ (b : Bool). VisitsEach (Heard c.args.moment) (open_in c.args.channels.now) b (s c.args.links.now c.args.ends.now c.args.channels.now c.args.core.now c.args.journal.now c.args.folder.now) end)
    (or_false was.moved) (was.invariant.behind false end visits)
