use Rattle.std.proofs.Common.{arith, false, inl, inr, true, ◌≡◌}
use Rattle.dl_client.proofs.Accounts.{only_both, only_same, opens_after}
use Rattle.dl_client.proofs.registering.open.Goals as goal

pub returns-then-not-settle : goal.returns-then-not-settle
returns-then-not-settle c =
    let not_told : c.settle.result ≡ false = grind arith in
    inl (c.settle.ensures.same not_told, c.settle.ensures.full not_told)

pub returns-then-not-push_registration : goal.returns-then-not-push_registration
returns-then-not-push_registration c =
    let full : c.push_registration.result ≡ false = grind arith in
    inr (
      only_both c.args.client.now c.settle.new.client c.push_registration.new.client c.settle.ensures.accounts
          (only_same c.settle.new.client c.push_registration.new.client (c.push_registration.ensures.same full)),
      c.push_registration.ensures.full full,
    )

pub returns : goal.returns
returns c =
    let is_told : c.settle.result ≡ true = grind arith in
    let pushed : c.push_registration.result ≡ true = grind arith in
    opens_after c.args.client.now c.settle.new.client c.push_registration.new.client c.set_context.new.client c.args.place c.args.opening.now
    (omega arith) c.settle.ensures.accounts (c.settle.ensures.told is_told) (c.push_registration.ensures.pushed pushed) c.set_context.ensures.set
