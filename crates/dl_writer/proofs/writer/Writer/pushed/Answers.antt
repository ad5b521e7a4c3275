use Rattle.std.proofs.Common.{◌≡◌, ◌+◌, length, ap, ◌∙◌, arith}
use Rattle.dl_ring.proofs.Items.{length-calls_in}
use Rattle.dl_writer.specs.State.{WriterState}
use Rattle.dl_writer.proofs.writer.Writer.pushed.Goals as goal

pub returns-clause-value : goal.returns-clause-value
returns-clause-value c =
    let pushed = c.self.inside.push.pushed in
    let parts = length-calls_in pushed in
    let calls = c.self.invariant.queued in
    let claims = c.self.invariant.claimed in
    let more = c.from.ensures in
    let all : c.self.inside.queued + c.from.result ≡ length pushed = omega (arith, parts, calls, claims, more) in
    all ∙ ap (λ (w : WriterState). length w.push.pushed) c.self.view_is
