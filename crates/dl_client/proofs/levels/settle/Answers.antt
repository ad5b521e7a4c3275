use Rattle.std.proofs.Common.{List, [], refl, slice_get, subst, ℕ}
use Rattle.dl_lemmas.proofs.Options.{one_is}
use Rattle.dl_client.specs.Program.{IsTold}
use Rattle.dl_client.specs.declared.context.Context.{Context}
use Rattle.dl_client.proofs.Accounts.{told_here, told_or_same}
use Rattle.dl_client.proofs.levels.settle.Goals as goal

pub returns-then-is_told-clause-accounts : goal.returns-then-is_told-clause-accounts
returns-then-is_told-clause-accounts c = ([], tt, λ (taken : List ℕ). refl)

pub returns-then-is_told-clause-told : goal.returns-then-is_told-clause-told
returns-then-is_told-clause-told c so found is =
    subst (λ (x : Context). IsTold x)
    (one_is c.context_at-context.result found (slice_get c.args.client.now.contexts.now c.args.place) c.context_at-context.ensures is)
    (c.is_told.ensures c.if-is_told.true)

pub returns-clause-accounts : goal.returns-clause-accounts
returns-clause-accounts c = told_or_same c.tell.result c.args.client.now c.tell.new.client c.args.place c.context_at-context.result
    c.args.client.now.accounts c.args.ticks c.tell.ensures.told c.tell.ensures.same

pub returns-clause-told : goal.returns-clause-told
returns-clause-told c so = told_here c.args.client.now c.tell.new.client c.args.place c.context_at-context.result
    c.args.client.now.accounts c.args.ticks (c.tell.ensures.told so)

pub returns-clause-full : goal.returns-clause-full
returns-clause-full c not_so = (c.context_at-context.result, c.context_at-context.ensures, c.tell.ensures.full not_so)
