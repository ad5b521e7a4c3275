use Rattle.std.proofs.Common.{List, ap, arith, false, inl, inr, slice_get, ◌∙◌, ◌≡◌}
use Rattle.dl_client.specs.Outcomes.{gone}
use Rattle.dl_client.specs.Program.{Announces}
use Rattle.dl_client.specs.declared.context.Context.{Context}
use Rattle.dl_client.proofs.Accounts.{ends_after, only_both, only_same}
use Rattle.dl_client.proofs.registering.close.Goals as goal

pub returns-then-not-settle : goal.returns-then-not-settle
returns-then-not-settle c =
    let not_told : c.settle.result ≡ false = grind arith in
    inl (c.settle.ensures.same not_told, c.settle.ensures.full not_told)

pub returns-then-push_gone : goal.returns-then-push_gone
returns-then-push_gone c = (
  c.context_at-context.result,
  ap (λ (xs : List Context). slice_get xs c.args.place) c.push_gone.ensures.contexts ∙ c.context_at-context.ensures,
  ends_after c.args.client.now c.settle.new.client c.push_gone.new.client (Announces (gone c.context_at-context.result c.args.pid)) c.settle.ensures.accounts
      (c.push_gone.ensures.pushed c.if-push_gone.true),
)

pub returns : goal.returns
returns c = inr (
  only_both c.args.client.now c.settle.new.client c.push_gone.new.client c.settle.ensures.accounts
      (only_same c.settle.new.client c.push_gone.new.client (c.push_gone.ensures.same c.if-push_gone.false)),
  (
    c.context_at-context.result,
    ap (λ (xs : List Context). slice_get xs c.args.place) c.push_gone.ensures.contexts ∙ c.context_at-context.ensures,
    c.push_gone.ensures.full c.if-push_gone.false,
  ),
)
