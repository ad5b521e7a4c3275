use Rattle.std.proofs.Common.{Option, ap, ◌∙◌, arith}
use Rattle.std.specs.Prelude.{option_to_list}
use Rattle.dl_bytes.specs.declared.user.UserMsg.{UserMsg}
use Rattle.dl_model.specs.Backlog.{size_of}
use Rattle.dl_core.specs.Admission.{message_frames}
use Rattle.dl_core.proofs.GatheredMessages.{need_more}
use Rattle.dl_core.proofs.daemon.Core.messages_need.Goals as goal

pub loop-place-preserved : goal.loop-place-preserved
loop-place-preserved c =
    let ecu = c.args.self.now.ecu in
    let one = c.message_len-need.ensures.value ecu ∙ ap (λ (o : Option UserMsg). size_of (message_frames ecu (option_to_list o))) c.get.ensures in record {
      sum = need_more ecu c.args.msgs.now.items c.loop-place.place c.loop-place.need c.message_len-need.result c.loop-place.invariant.sum one;
      small = omega (arith, c.loop-place.invariant.small, c.message_len-need.ensures.limit);
    }
