use Rattle.std.proofs.Common.{List, [], arith, refl, subst, sym, ℕ}
use Rattle.dl_client.specs.Program.{CannotTell, Program}
use Rattle.dl_client.proofs.Accounts.{told_below, told_or_same}
use Rattle.dl_client.proofs.Places.{stays_below}
use Rattle.dl_client.proofs.calls.tell_loss.Goals as goal

pub returns-then-context-eq0-clause-accounts : goal.returns-then-context-eq0-clause-accounts
returns-then-context-eq0-clause-accounts c = ([], tt, λ (taken : List ℕ). refl)

pub returns-then-context-eq0-clause-told : goal.returns-then-context-eq0-clause-told
returns-then-context-eq0-clause-told c so below =
    stays_below c.args.client.now.contexts.now c.args.place c.context_at-context.result c.context_at-context.ensures c.if-context-eq0.true below

pub returns-clause-accounts : goal.returns-clause-accounts
returns-clause-accounts c = told_or_same c.tell.result c.args.client.now c.tell.new.client c.args.place c.context_at-context.result
    c.args.client.now.accounts c.args.ticks c.tell.ensures.told c.tell.ensures.same

pub returns-clause-told : goal.returns-clause-told
returns-clause-told c so below = told_below c.args.client.now c.tell.new.client c.args.place c.context_at-context.result
    c.args.client.now.accounts c.args.ticks (c.tell.ensures.told so) below

pub returns-clause-untold : goal.returns-clause-untold
returns-clause-untold c not_so = subst (λ (p : Program). CannotTell p c.args.ticks) (sym (c.tell.ensures.same not_so []))
    (c.args.place, c.context_at-context.result, c.context_at-context.ensures, omega arith, c.tell.ensures.full not_so)
