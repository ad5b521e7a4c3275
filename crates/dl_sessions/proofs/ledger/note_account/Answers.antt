use Rattle.std.proofs.Common.{◌≡◌, ℕ, ◌++◌, cond, List, Option, Some, sym, ap, subst, ◌∙◌}
use Rattle.std.specs.Prelude.{unwrap_or}
use Rattle.std.specs.HashMap as hash
use Rattle.std.proofs.lemmas.Result.{on_ok_weaker}
use Rattle.dl_sessions.specs.Gaps.{context_of, entries, same_context}
use Rattle.dl_sessions.specs.Ledger.{KeepsSince, about, no_since, with_account, with_message}
use Rattle.dl_sessions.specs.declared.session.Context.{Context}
use Rattle.dl_sessions.specs.declared.session.Since.{Since}
use Rattle.dl_sessions.proofs.Noting.{entries-log, line_is}
use Rattle.dl_sessions.proofs.Sinces.{account_kept}
use Rattle.dl_sessions.proofs.ledger.note_account.Goals as goal

pub returns : goal.returns
returns c = λ before some keeps place.
    let e = c.args.entry.now in
    let calls = c.args.calls.now in
    let es = entries before in
    let at = c.about-context.ensures in
    let old = hash.get same_context c.args.kept.now in
    let mid = hash.get same_context c.note_message.new.kept in
    let since = c.since_so_far-since.ensures ∙ ap (λ (x : Context). unwrap_or (old x) no_since) at ∙ keeps (about e calls) in
    let own = c.in_ok-own.ensures.value ∙ ap (λ (s : Since). with_message s e) (keeps (context_of e)) in
    let put : (s : Context) → hash.get same_context c.insert.new.self s ≡ cond (same_context (about e calls) s) (Some c.with_account.result) (mid s) = λ s. c.in_ok-insert.ensures.updates.0 s ∙ ap (λ (x : Context). cond (same_context x s) (Some c.with_account.result) (mid s)) at in
    let kept = account_kept old es e keeps calls mid (hash.get same_context c.insert.new.self) c.in_ok-own.own c.with_account.result some c.in_ok-own.ensures.kept own put (c.with_account.ensures ∙ ap with_account since) in
    on_ok_weaker c.push_account.result
    (λ is. (
      is ∙ ap (λ (l : List ℕ). c.args.text.now.items ++ l) (line_is before e calls c.args.place c.since_so_far-since.result c.in_ok-own.own some place since own),
      subst (KeepsSince c.insert.new.self) (sym (entries-log before e)) kept,
    ))
    c.push_account.ensures
