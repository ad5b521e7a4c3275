use Rattle.std.proofs.Common.{arith}
use Rattle.dl_writer.specs.WriterInside.{writer_state}
use Rattle.dl_writer.proofs.Claims.{own_first, one_fits, took_it, first_and_rest}
use Rattle.dl_writer.proofs.Writers.{announced}
use Rattle.dl_writer.proofs.writer.Writer.announce_next.Goals as goal

pub push-requires : goal.push-requires
push-requires g c =
    own_first (writer_state c.self.inside) c.in_ok-claim.claim c.in_ok-claim.ensures.first.0 c.in_ok-claim.ensures.first.1 c.self.invariant.claims

pub overflow_add-self : goal.overflow_add-self
overflow_add-self g c =
    let fits = one_fits (writer_state c.self.inside) c.in_ok-claim.claim c.in_ok-claim.ensures.first.0 c.in_ok-claim.ensures.first.1 c.self.invariant.claims in
    let claimed = c.self.invariant.claimed in
    omega arith

pub invariant_of-self-2 : goal.invariant_of-self-2
invariant_of-self-2 g c =
    let first = c.in_ok-claim.ensures.first in
    announced c.self.inside c.push.new.self c.in_ok-claim.claim c.take_first.new.self (took_it c.push.result _ c.is_err.ensures.value c.if-is_err.false c.push.ensures.pushed)
    (first_and_rest c.self.inside.waiting _ _ _ _ first.1 c.take_first.ensures) c.self.invariant
