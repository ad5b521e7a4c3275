use Rattle.std.proofs.Common.{arith, true, ◌≡◌}
use Rattle.std.proofs.lemmas.Option.{slice_get_within}
use Rattle.dl_client.proofs.Accounts.{only_both}
use Rattle.dl_client.proofs.calls.tell_each.Goals as goal

pub returns-then-not-tell_loss-clause-accounts : goal.returns-then-not-tell_loss-clause-accounts
returns-then-not-tell_loss-clause-accounts c =
    only_both c.args.client.now c.loop-place.client c.tell_loss.new.client c.loop-place.invariant.accounts c.tell_loss.ensures.accounts

pub loop-place-preserved : goal.loop-place-preserved
loop-place-preserved c =
    let done : c.tell_loss.result ≡ true = grind arith in
    record {
      accounts = only_both c.args.client.now c.loop-place.client c.tell_loss.new.client c.loop-place.invariant.accounts c.tell_loss.ensures.accounts;
      told = c.tell_loss.ensures.told done c.loop-place.invariant.told;
      places = omega arith;
    }

pub returns-clause-told : goal.returns-clause-told
returns-clause-told c so place context is =
    c.loop-place.invariant.told place context (omega (arith, slice_get_within c.loop-place.client.contexts.now place context is)) is
