use Rattle.std.proofs.Common.{◌≡◌, ◌<◌, ◌+◌, refl, List, ◌∷◌, [], length, Some, None, sym, ap, subst, ◌∙◌, length-append, arith}
use Rattle.std.specs.List.{position}
use Rattle.dl_world.specs.State.{Channel, channel_at}
use Rattle.dl_world.proofs.ChannelPlaces.{has, put_behind, same_behind}
use Rattle.dl_world.proofs.channels.Channels.place_of.Goals as goal

pub returns-in-Some-clause-place : goal.returns-in-Some-clause-place
returns-in-Some-clause-place c =
    let same : c.deref.result.now ≡ c.args.self.now = c.deref.ensures.value ∙ c.self.view_is in (
      subst (λ (channels : List Channel). c.in-Some.place < length channels) same c.in-Some.ensures.within,
      ap (position (has c.args.channel)) (sym same) ∙ sym c.in-Some.ensures.value,
    )

pub returns-clause-place : goal.returns-clause-place
returns-clause-place c =
    let before = c.self.inside.items.items in
    let pushed = c.in_ok-push.ensures.items in
    let none : position (has c.args.channel) before ≡ None = ap (position (has c.args.channel)) (sym c.deref.ensures.value) ∙ sym c.place_in.ensures.value ∙ c.in_default.is in
    let new : Channel = record { number = c.args.channel; cutter = c.in_ok-cutter.cutter } in
    let all : length c.push.new.self.items ≡ length before + 1 = ap length pushed ∙ length-append before (new ∷ []) in
    let count : c.len.result ≡ length c.push.new.self.items = c.len.ensures ∙ c.push.new.self.ok.0 in (
      omega (arith, count, all),
      ap (position (has c.args.channel)) pushed ∙ put_behind before new c.args.channel none refl ∙ ap Some (omega (arith, count, all)),
    )

pub returns-clause-same : goal.returns-clause-same
returns-clause-same c = λ other.
    ap (λ (channels : List Channel). channel_at channels other) c.in_ok-push.ensures.items ∙ same_behind c.self.inside.items.items _ c.in_ok-cutter.ensures other
    ∙ ap (λ (channels : List Channel). channel_at channels other) c.self.view_is
