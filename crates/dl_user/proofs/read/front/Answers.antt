use Rattle.std.proofs.Common.{arith}
use Rattle.std.proofs.lemmas.Result.{err_from_is_err_and}
use Rattle.dl_user.proofs.FrontLemmas.{read_begins, not_read}
use Rattle.dl_user.proofs.read.front.Goals as goal

pub returns-in_err-msg : goal.returns-in_err-msg
returns-in_err-msg c =
    let p = err_from_is_err_and c.from_residual.result c.from_residual.ensures.1 in
    rw (p.1, p.2) (not_read c.args.bytes.now c.in_err-msg.field-0.0 c.message.new.cursor (λ i. omega (arith, c.type_inv.bytes i)) c.in_err-msg.ensures)

pub overflow_sub-result : goal.overflow_sub-result
overflow_sub-result c = (read_begins c.args.bytes.now c.in_ok-msg.msg _ (λ i. omega (arith, c.type_inv.bytes i)) c.in_ok-msg.ensures).0

pub returns : goal.returns
returns c = (read_begins c.args.bytes.now c.in_ok-msg.msg _ (λ i. omega (arith, c.type_inv.bytes i)) c.in_ok-msg.ensures).1
