use Rattle.std.proofs.Common.{sym, subst}
use Rattle.std.specs.List.{All}
use Rattle.dl_world.specs.Fed.{CanBeTold}
use Rattle.dl_world.proofs.HeardChannels.{HasTold, told_none, told_one, told_too, shorter}
use Rattle.dl_world.proofs.channels.cut_whole.Goals as goal

pub loop-message-init : goal.loop-message-init
loop-message-init c = record { so = told_none c.args.cutter.now.unread c.args.messages.now.items; each = λ each. each }

pub loop-message-smaller : goal.loop-message-smaller
loop-message-smaller c = shorter c.loop-message.cutter.unread c.next.new.self.unread c.in-Message.message c.in-Message.ensures.0

pub loop-message-preserved : goal.loop-message-preserved
loop-message-preserved c =
    let before = c.loop-message.messages.items in
    let rest = c.loop-message.cutter.unread in
    let after = c.next.new.self.unread in
    let pushed = c.in_ok-push-in-Message.ensures.items in
    record {
      so = subst (HasTold c.args.cutter.now.unread after c.args.messages.now.items) (sym pushed)
          (told_one c.args.cutter.now.unread rest after c.args.messages.now.items before c.in-Message.message c.loop-message.invariant.so c.in-Message.ensures.0);
      each = λ each. subst (All CanBeTold) (sym pushed) (told_too before c.in-Message.message rest after c.in-Message.ensures.0 (c.loop-message.invariant.each each));
    }
