use Rattle.std.proofs.Common.{length, ap, sym, refl, ◌∙◌, arith}
use Rattle.std.proofs.lemmas.Result.{err_from_is_err_and}
use Rattle.dl_args.specs.Coming.{Coming, taken_together}
use Rattle.dl_args.proofs.read.check_args.Goals as goal

pub loop-arg-smaller : goal.loop-arg-smaller
loop-arg-smaller c =
    let given = rw c.in_ok-arg.was at c.in-Some.ensures in
    omega (arith, ap (λ (v : Coming). length v.args) given)

pub loop-arg-preserved : goal.loop-arg-preserved
loop-arg-preserved c =
    let given = rw c.in_ok-arg.was at c.in-Some.ensures in
    sym (ap (λ (v : Coming). v.fault) given) ∙ c.loop-arg.invariant

pub returns-in_err-arg-clause-first : goal.returns-in_err-arg-clause-first
returns-in_err-arg-clause-first c =
    let p = err_from_is_err_and c.from_residual.result c.from_residual.ensures.1 in
    let given = rw c.in_err-arg.was at c.in-Some.ensures in
    rw (p.1, p.2) (ap (taken_together c.args.reader.args) (sym c.loop-arg.invariant ∙ ap (λ (v : Coming). v.fault) given.0))

pub returns-clause-all : goal.returns-clause-all
returns-clause-all c =
    let none = sym c.loop-arg.invariant ∙ ap (λ (v : Coming). v.fault) c.in_default.ensures.0 in
    rw none refl
