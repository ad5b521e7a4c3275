use Rattle.std.proofs.Common.{◌∙◌}
use Rattle.dl_channel.proofs.SentSoFar.{more_sent}
use Rattle.dl_channel.proofs.sending.send_all.Goals as goal

pub loop-piece-preserved : goal.loop-piece-preserved
loop-piece-preserved g c = record {
  sent = more_sent c.args.outbox.now.items c.loop-piece.outbox.items c.consume.new.outbox.items c.front-piece.result.now c.in-Bytes.count (g.L.Link.told c.args.link.now) (g.L.Link.told c.loop-piece.link)
      (g.L.Link.told c.send.new.self) c.loop-piece.invariant.sent c.front-piece.ensures.front c.front-piece.ensures.within c.in-Bytes.ensures.bytes.1 c.in-Bytes.ensures.bytes.2 c.consume.ensures.items
      c.in-Bytes.ensures.cause.0 c.in-Bytes.ensures.cause.1 (record {
        left = c.in-Bytes.ensures.left;
        over = c.in-Bytes.ensures.over;
        given = c.in-Bytes.ensures.ungiven;
        idles = c.in-Bytes.ensures.idles;
        shut = c.in-Bytes.ensures.shut;
      });
  capacity = c.consume.ensures.capacity ∙ c.loop-piece.invariant.capacity;
}
