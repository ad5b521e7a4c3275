use Rattle.std.proofs.Common.{◌∙◌, refl}
use Rattle.dl_hub.proofs.Pumping.{nothing-sent, more-sent, only_sent, only_sent-later}
use Rattle.dl_hub.proofs.hub.Hub.pump.Goals as goal

pub loop-piece-init : goal.loop-piece-init
loop-piece-init g c = record {
  there = c.requires;
  sent = nothing-sent c.args.client c.args.self.now (g.L.Link.told c.args.link.now) c.requires;
  faults = refl;
  waits = refl;
  rest = only_sent (g.L.Link.told c.args.link.now);
}

pub loop-piece-smaller : goal.loop-piece-smaller
loop-piece-smaller g c =
    (more-sent c.args.client c.in-Bytes.count c.args.self.now c.loop-piece.self c.took.new.self (g.L.Link.told c.args.link.now) (g.L.Link.told c.loop-piece.link) (g.L.Link.told c.send.new.self) c.front-piece.result.now
    c.loop-piece.invariant.sent c.requires c.front-piece.ensures.front c.in-Bytes.ensures.bytes.1 c.in-Bytes.ensures.bytes.0 c.in-Bytes.ensures.bytes.2 c.took.ensures).2

pub loop-piece-preserved : goal.loop-piece-preserved
loop-piece-preserved g c =
    let all = (more-sent c.args.client c.in-Bytes.count c.args.self.now c.loop-piece.self c.took.new.self (g.L.Link.told c.args.link.now) (g.L.Link.told c.loop-piece.link) (g.L.Link.told c.send.new.self) c.front-piece.result.now
    c.loop-piece.invariant.sent c.requires c.front-piece.ensures.front c.in-Bytes.ensures.bytes.1 c.in-Bytes.ensures.bytes.0 c.in-Bytes.ensures.bytes.2 c.took.ensures) in
    record {
      there = all.1;
      sent = all.0;
      faults = c.in-Bytes.ensures.cause.0 ∙ c.loop-piece.invariant.faults;
      waits = c.in-Bytes.ensures.cause.1 ∙ c.loop-piece.invariant.waits;
      rest = only_sent-later (g.L.Link.told c.args.link.now) (g.L.Link.told c.loop-piece.link) (g.L.Link.told c.send.new.self) c.loop-piece.invariant.rest (record {
        left = c.in-Bytes.ensures.left;
        over = c.in-Bytes.ensures.over;
        given = c.in-Bytes.ensures.ungiven;
        idles = c.in-Bytes.ensures.idles;
        shut = c.in-Bytes.ensures.shut;
      });
    }
