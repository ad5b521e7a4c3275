use Rattle.std.proofs.Common.{arith}
use Rattle.dl_world.proofs.HandedOut.{takes_one, takes_none}
use Rattle.dl_world.proofs.world.World.take_injection.Goals as goal
use Rattle.dl_world.proofs.world.World.take_injection.Goals.{else-app-lt-APP_LIMIT-via-then-app-lt-APP_LIMIT+else-waiting-gt0, else-app-lt-APP_LIMIT-via-else-app-lt-APP_LIMIT}

pub returns-then-waiting-gt0-clause-does : goal.returns-then-waiting-gt0-clause-does
returns-then-waiting-gt0-clause-does c below = takes_one c.args.app c.args.self.now c.go.new.self below (omega (arith, c.waiting.ensures.value, c.if-waiting-gt0.true)) c.go.ensures

pub returns-else-app-lt-APP_LIMIT-clause-does : goal.returns-else-app-lt-APP_LIMIT-clause-does
returns-else-app-lt-APP_LIMIT-clause-does c below = elim c.else-app-lt-APP_LIMIT.branch [
  | else-app-lt-APP_LIMIT-via-then-app-lt-APP_LIMIT+else-waiting-gt0 w ↦ takes_none c.args.app c.args.self.now below (omega (arith, w.waiting.ensures.value, w.if-waiting-gt0.false))
  | else-app-lt-APP_LIMIT-via-else-app-lt-APP_LIMIT w ↦ absurd (omega (arith, below, w.if-app-lt-APP_LIMIT.false))
]
