use Rattle.std.proofs.Common.{◌≡◌, ◌-◌, ◌<◌, ◌++◌, ℕ, Bool, true, false, List, [], ◌∷◌, drop, length, refl, sym, ap, subst, ◌∙◌, append_assoc, append-nil, arith}
use Rattle.std.specs.Prelude.{slice_get, slice_set}
use Rattle.dl_channel.specs.declared.outcome.ChannelEnd.{ChannelEnd}
use Rattle.dl_outside.specs.Links.{Links}
use Rattle.dl_socket.specs.Channels.{open_in}
use Rattle.dl_socket.specs.Turns.{sight}
use Rattle.dl_channels.specs.Rounds.{Scene, Stopped, VisitsEach, scene}
use Rattle.dl_channels.specs.Visits.{Ends}
use Rattle.dl_channels.proofs.Behind.{first_gone, from_place, none_behind}
use Rattle.dl_channels.proofs.LeftOpen.{closed_gone, ended_leaves}
use Rattle.dl_channels.proofs.Visiting.{linked_again, visited_next, visited_one}
use Rattle.dl_channels.proofs.rounds.close_channels.Goals as goal

pub loop-channel-smaller : goal.loop-channel-smaller
loop-channel-smaller g c =
    let was = c.loop-channel in
    let now = c.end_channel-closed.new in
    let so = was.invariant in
    let channel = c.in-Some.channel in
    let there = sym c.at.ensures.place ∙ c.in-Some.is in
    let ends = subst (λ (b : Bool). Ends channel c.args.moment b (sight (g.L.Link.told c.of_mut-link.result.now) was.core (g.J.Journal.events was.journal) (g.F.Folder.told was.folder))
    (sight (g.L.Link.told now.link) now.core (g.J.Journal.events now.journal) (g.F.Folder.told now.folder)) was.channels now.channels) c.if-not-closed.false c.end_channel-closed.ensures.ends in
    let first = first_gone channel (open_in was.channels) (open_in now.channels) c.are_apart.ensures.apart there (closed_gone channel c.args.moment _ _ was.channels now.channels ends) in
    omega (arith, ap (λ (cs : List ℕ). length cs) first)

pub loop-channel-preserved : goal.loop-channel-preserved
loop-channel-preserved g c =
    let was = c.loop-channel in
    let now = c.end_channel-closed.new in
    let so = was.invariant in
    let channel = c.in-Some.channel in
    let there = sym c.at.ensures.place ∙ c.in-Some.is in
    let ends = subst (λ (b : Bool). Ends channel c.args.moment b (sight (g.L.Link.told c.of_mut-link.result.now) was.core (g.J.Journal.events was.journal) (g.F.Folder.told was.folder))
    (sight (g.L.Link.told now.link) now.core (g.J.Journal.events now.journal) (g.F.Folder.told now.folder)) was.channels now.channels) c.if-not-closed.false c.end_channel-closed.ensures.ends in
    let first = first_gone channel (open_in was.channels) (open_in now.channels) c.are_apart.ensures.apart there (closed_gone channel c.args.moment _ _ was.channels now.channels ends) in
    let s = scene g.L.Link.told g.J.Journal.events g.F.Folder.told in
    record {
      done = so.done ++ channel ∷ [];
      all = so.all ∙ ap (λ (cs : List ℕ). so.done ++ cs) first ∙ sym (append_assoc so.done (channel ∷ []) (open_in now.channels));
      behind = λ others new rest.
          subst (λ (cs : List ℕ). VisitsEach (Stopped c.args.moment true) cs false (s c.args.links.now [] c.args.channels.now c.args.core.now c.args.journal.now c.args.folder.now) new)
          (sym (append_assoc so.done (channel ∷ []) others))
          (so.behind (channel ∷ others) new
          (visited_next g.L.Link.told g.J.Journal.events g.F.Folder.told (Stopped c.args.moment true) channel others false false was.links c.of_mut-link.result.now now.link [] [] was.channels now.channels
          was.core now.core was.journal now.journal was.folder now.folder new c.of_mut-link.ensures.value (record { stops = ends; ends_so = refl; moves = refl }) rest));
      linked = linked_again channel (channel - 1) was.links now.link was.channels now.channels so.linked (ended_leaves channel c.args.moment true _ _ _ _ ends);
      settled = c.end_channel-closed.ensures.settled;
      few = c.end_channel-closed.ensures.few;
    }

pub returns-then-not-closed-clause-stopped : goal.returns-then-not-closed-clause-stopped
returns-then-not-closed-clause-stopped g c =
    let was = c.loop-channel in
    let now = c.end_channel-closed.new in
    let so = was.invariant in
    let channel = c.in-Some.channel in
    let there = sym c.at.ensures.place ∙ c.in-Some.is in
    let ends = subst (λ (b : Bool). Ends channel c.args.moment b (sight (g.L.Link.told c.of_mut-link.result.now) was.core (g.J.Journal.events was.journal) (g.F.Folder.told was.folder))
    (sight (g.L.Link.told now.link) now.core (g.J.Journal.events now.journal) (g.F.Folder.told now.folder)) was.channels now.channels) c.if-not-closed.true c.end_channel-closed.ensures.ends in
    let s = scene g.L.Link.told g.J.Journal.events g.F.Folder.told in
    let between = s was.links [] was.channels was.core was.journal was.folder in
    record {
      done = so.done;
      channel = channel;
      others = drop 1 (open_in was.channels);
      all = so.all ∙ ap (λ (cs : List ℕ). so.done ++ cs) (from_place channel (open_in was.channels) 0 there);
      between = between;
      stops = subst (λ (cs : List ℕ). VisitsEach (Stopped c.args.moment true) cs false (s c.args.links.now [] c.args.channels.now c.args.core.now c.args.journal.now c.args.folder.now) between)
          (append-nil so.done) (so.behind [] between (refl, refl));
      begins = visited_one g.L.Link.told g.J.Journal.events g.F.Folder.told (Stopped c.args.moment false) channel false was.links c.of_mut-link.result.now now.link [] [] was.channels now.channels
          was.core now.core was.journal now.journal was.folder now.folder c.of_mut-link.ensures.value (record { stops = ends; ends_so = refl; moves = refl });
    }

pub returns-clause-closed : goal.returns-clause-closed
returns-clause-closed g c =
    let was = c.loop-channel in
    let s = scene g.L.Link.told g.J.Journal.events g.F.Folder.told in
    let none = none_behind (open_in was.channels) 0 (sym c.at.ensures.place ∙ c.in_default.is) in
    let end = s was.links [] was.channels was.core was.journal was.folder in (
      subst (λ (cs : List ℕ). VisitsEach (Stopped c.args.moment true) cs false (s c.args.links.now [] c.args.channels.now c.args.core.now c.args.journal.now c.args.folder.now) end)
          (sym (was.invariant.all ∙ ap (λ (cs : List ℕ). was.invariant.done ++ cs) none)) (was.invariant.behind [] end (refl, refl)),
      none,
    )
