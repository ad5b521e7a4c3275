use Rattle.std.proofs.Common.{ap, refl, true, ◌∙◌, ◌≡◌, arith}
use Rattle.dl_client.specs.Program.{Program, next_account, told, with_context}
use Rattle.dl_client.proofs.account.tell.Goals as goal

pub returns-clause-told : goal.returns-clause-told
returns-clause-told c so taken =
    let pushed : c.push_account.result ≡ true = grind arith in (
      c.requires.at,
      refl,
      c.count_anew.ensures.told taken
          ∙ ap (λ (p : Program). next_account (with_context p c.args.place (told c.args.context.now))) (c.push_account.ensures.pushed pushed taken),
    )
