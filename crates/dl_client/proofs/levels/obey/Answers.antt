use Rattle.std.proofs.Common.{List, arith, false, true, ℕ, ◌≡◌}
use Rattle.dl_client.specs.Program.{Obeys}
use Rattle.dl_client.proofs.Accounts.{ends_after}
use Rattle.dl_client.proofs.levels.obey.Goals as goal

pub returns-then-not-settle : goal.returns-then-not-settle
returns-then-not-settle c =
    let not_told : c.settle.result ≡ false = grind arith in
    (c.settle.ensures.same not_told, c.settle.ensures.full not_told)

pub returns : goal.returns
returns c =
    let is_told : c.settle.result ≡ true = grind arith in
    let context = c.context_at-context.result in (
      context,
      ends_after c.args.client.now c.settle.new.client c.set_context.new.client (Obeys c.args.place context c.args.level) c.settle.ensures.accounts
          (λ (taken : List ℕ). (
            c.context_at-context.ensures,
            c.settle.ensures.told is_told context c.context_at-context.ensures,
            c.set_context.ensures.set taken,
          )),
    )
