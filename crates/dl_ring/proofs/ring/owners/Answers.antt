use Rattle.std.proofs.Common.{refl, arith}
use Rattle.std.specs.Arc.{arc_value}
use Rattle.std.proofs.lemmas.List.Elements.{All-push}
use Rattle.dl_ring.specs.Passes.{Owns}
use Rattle.dl_ring.proofs.ring.owners.Goals as goal

pub loop-number-preserved : goal.loop-number-preserved
loop-number-preserved c =
    record {
      len = omega (arith, c.in_ok-push.ensures.len, c.loop-number.invariant.len);
      all = rw c.in_ok-push.ensures.items (All-push (Owns (arc_value c.args.ring.now)) _ _ c.loop-number.invariant.all (c.in_ok-owner.owner, refl, c.in_ok-owner.ensures));
    }
