use Rattle.std.proofs.Common.{List, [], ◌∷◌, ◌++◌, ap, ◌∙◌, cond}
use Rattle.dl_sessions.specs.declared.session.Told.{Told}
use Rattle.dl_sessions.proofs.follower.Counts.add.Goals as goal

pub returns : goal.returns
returns c = λ stream after.
    let t = c.args.told.now in
    record {
      account_is = c.in_ok-add.ensures stream after.account_is;
      ledger_is = c.in_ok-add-2.ensures stream after.ledger_is;
      kept = λ keeps. c.in_ok-keep.ensures ∙ (λ i. after.kept keeps i ++ cond (keeps i) (t ∷ []) []);
    }
