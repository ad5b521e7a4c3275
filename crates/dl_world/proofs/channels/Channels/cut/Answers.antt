use Rattle.std.proofs.Common.{◌≡◌, ℕ, List, ◌++◌, get_or, Some, refl, sym, ap, subst, ◌∙◌}
use Rattle.std.specs.List.{position}
use Rattle.dl_bytes.specs.declared.user.UserMsg.{UserMsg}
use Rattle.dl_world.specs.State.{Channel, channel_at}
use Rattle.dl_world.specs.Fed.{told_by}
use Rattle.dl_world.proofs.ChannelPlaces.{has, cut_others, cut_here, cut_tells}
use Rattle.dl_world.proofs.channels.Channels.cut.Goals as goal

pub returns-clause-tells : goal.returns-clause-tells
returns-clause-tells c = λ stream heard.
    let channels = c.self.inside.items.items in
    let here : Channel = record { number = c.behind-self.inside.number; cutter = c.behind-self.inside.cutter } in
    let new : Channel = record { number = c.behind-self.inside.number; cutter = c.feed.new.cutter } in
    let found : position (has c.args.channel) channels ≡ Some c.in_ok-place.place = ap (position (has c.args.channel)) c.self.view_is ∙ c.in_ok-place.ensures.place.1 in
    let is : here ≡ get_or channels c.in_ok-place.place here = subst (λ (x : Channel). x ≡ get_or channels c.in_ok-place.place x) (sym c.behind-self.view_is) c.index_mut.ensures.value in
    let kept : (other : ℕ) → channel_at channels other ≡ channel_at c.args.self.now other = λ other. ap (λ (xs : List Channel). channel_at xs other) c.self.view_is ∙ c.in_ok-place.ensures.same other in
    let start = cut_here c.args.self.now channels c.args.channel c.in_ok-place.place here new found is refl kept stream heard in
    let told : c.feed.new.messages.items ≡ told_by stream c.args.bytes.now = c.in_ok-feed.ensures.tells stream start ∙ ap (λ (xs : List UserMsg). xs ++ told_by stream c.args.bytes.now) c.new-messages.ensures.items in
    cut_tells c.args.self.now channels c.args.channel c.in_ok-place.place here new found is refl kept stream c.args.bytes.now c.feed.new.messages.items (c.in_ok-feed.ensures.heard stream start) told

pub returns-clause-others : goal.returns-clause-others
returns-clause-others c =
    let channels = c.self.inside.items.items in
    let here : Channel = record { number = c.behind-self.inside.number; cutter = c.behind-self.inside.cutter } in
    let new : Channel = record { number = c.behind-self.inside.number; cutter = c.feed.new.cutter } in
    let found : position (has c.args.channel) channels ≡ Some c.in_ok-place.place = ap (position (has c.args.channel)) c.self.view_is ∙ c.in_ok-place.ensures.place.1 in
    let is : here ≡ get_or channels c.in_ok-place.place here = subst (λ (x : Channel). x ≡ get_or channels c.in_ok-place.place x) (sym c.behind-self.view_is) c.index_mut.ensures.value in
    let kept : (other : ℕ) → channel_at channels other ≡ channel_at c.args.self.now other = λ other. ap (λ (xs : List Channel). channel_at xs other) c.self.view_is ∙ c.in_ok-place.ensures.same other in
    cut_others c.args.self.now channels c.args.channel c.in_ok-place.place here new found is refl kept
