use Rattle.std.proofs.Common.{◌∙◌, Option, ap, subst}
use Rattle.dl_bytes.specs.declared.outcome.TraceState.{TraceState}
use Rattle.dl_startup.specs.Setup.{IsBegun}
use Rattle.dl_trace.specs.State.{Trace}
use Rattle.dl_why.proofs.Standings.{stands}
use Rattle.dl_why.proofs.program.rotation_of.Goals as goal

pub returns-in-Some : goal.returns-in-Some
returns-in-Some c = λ told begun.
    let conf = c.args.conf.now in
    stands conf told c.in-Some.trace c.newest_number.result (subst (λ (o : Option Trace). IsBegun conf told o) c.in-Some.is begun)
    (λ directory stood are named. c.newest_number.ensures directory stood (c.all.ensures ∙ ap (λ (s : TraceState). s.files) c.state.ensures ∙ are) named)
