use Rattle.dl_writer.proofs.ToldClaims.{keeping_fits, keeping_stops}
use Rattle.dl_writer.proofs.book.announce_into.Goals as goal

pub add-requires : goal.add-requires
add-requires g c =
    keeping_fits c.args.writer.now c.loop-claim.writer c.announce_next.new.self c.args.kept.now c.loop-claim.kept c.in-Some.claim c.requires c.loop-claim.invariant c.in-Some.ensures.taken c.have_claims.ensures

pub returns : goal.returns
returns g c =
    keeping_stops c.args.writer.now c.loop-claim.writer c.announce_next.new.self c.args.kept.now c.loop-claim.kept c.waiting.result c.in_default.ensures.none c.waiting.ensures.value c.loop-claim.invariant
