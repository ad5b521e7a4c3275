use Rattle.std.proofs.Common.{◌≤◌, ap, sym, ◌∙◌, length, arith}
use Rattle.std.proofs.lemmas.Bool.{leb-true}
use Rattle.dl_sessions.specs.Stream.{end_of}
use Rattle.dl_sessions.proofs.Readings.{stays_bad}
use Rattle.dl_sessions.proofs.follower.Follower.is_bad.Goals as goal

pub returns-in-Bad : goal.returns-in-Bad
returns-in-Bad c = λ before bytes follows bad.
    let held = c.args.self.now.held.items in
    let enough : 20 ≤ length held = omega (arith, c.len.ensures, leb-true 20 c.len.result bad) in
    stays_bad held enough (ap end_of (sym c.deref.ensures.value) ∙ sym c.end_of.ensures ∙ c.in-Bad.is)
