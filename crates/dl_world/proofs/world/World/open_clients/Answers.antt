use Rattle.std.proofs.Common.{◌≡◌, ◌∙◌, ℕ, ◌+◌, ◌≤◌, Bool, cond, length, sym, ap, arith}
use Rattle.dl_world.proofs.Counting.{counts_none, counts_more, counts_all}
use Rattle.dl_world.proofs.world.World.open_clients.Goals.{then-is_open, else-is_open}
use Rattle.dl_world.proofs.world.World.open_clients.Goals as goal

pub loop-client-init : goal.loop-client-init
loop-client-init c = counts_none c.args.self.now

pub overflow_add-open : goal.overflow_add-open
overflow_add-open c = omega (arith, c.loop-client.invariant.few, c.loop-client-test.true, c.len-client-end.ensures.range)

nothing_more : (n : ℕ) → n ≡ n + 0
nothing_more n = omega arith

pub loop-client-preserved : goal.loop-client-preserved
loop-client-preserved c =
    let within : c.loop-client.client ≤ length c.args.self.now.clients = omega (arith, c.loop-client-test.true, c.len-client-end.ensures.value) in
    counts_more c.args.self.now c.loop-client.client c.loop-client.open c.if-is_open.open c.is_open.result c.loop-client.invariant c.loop-client.auto.client within c.is_open.ensures
    (elim c.if-is_open.branch [
      | then-is_open w ↦ w.open-is ∙ ap (λ (b : Bool). c.loop-client.open + cond {A = ℕ} b 1 0) (sym w.if-is_open.true)
      | else-is_open w ↦ w.open-is ∙ nothing_more c.loop-client.open ∙ ap (λ (b : Bool). c.loop-client.open + cond {A = ℕ} b 1 0) (sym w.if-is_open.false)
    ])

pub returns : goal.returns
returns c = counts_all c.args.self.now c.loop-client.client c.loop-client.open c.loop-client.invariant
    (let last : c.loop-client.client ≤ c.len-client-end.result + 1 = c.loop-client.auto.client-end (omega arith) in omega (arith, last, c.loop-client-test.false, c.len-client-end.ensures.value))
