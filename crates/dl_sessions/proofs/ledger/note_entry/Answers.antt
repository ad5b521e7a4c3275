use Rattle.std.proofs.Common.{sym, ap, subst, ◌∙◌}
use Rattle.std.specs.HashMap as hash
use Rattle.dl_sessions.specs.Gaps.{context_of, entries, same_context}
use Rattle.dl_sessions.specs.Ledger.{KeepsSince, with_message}
use Rattle.dl_sessions.specs.declared.session.Since.{Since}
use Rattle.dl_sessions.proofs.Noting.{entries-log, no_account}
use Rattle.dl_sessions.proofs.Sinces.{message_kept}
use Rattle.dl_sessions.proofs.ledger.note_entry.Goals as goal

pub returns-in-Some : goal.returns-in-Some
returns-in-Some c = λ before keeps place. c.note_account.ensures before (sym c.calls_in.ensures ∙ c.in-Some.is) keeps place

pub returns-in_ok-note_message-in-None : goal.returns-in_ok-note_message-in-None
returns-in_ok-note_message-in-None c = λ before keeps place.
    let e = c.args.entry.now in
    let none = sym c.calls_in.ensures ∙ c.in-None.is in
    let own = c.in_ok-note_message-in-None.ensures.value ∙ ap (λ (s : Since). with_message s e) (keeps (context_of e)) in
    let kept = message_kept (hash.get same_context c.args.kept.now) (entries before) e keeps (hash.get same_context c.note_message.new.kept) c.in_ok-note_message-in-None.field-0 c.in_ok-note_message-in-None.ensures.kept own none in
    (no_account before e c.args.text.now.items none, subst (KeepsSince c.note_message.new.kept) (sym (entries-log before e)) kept)
