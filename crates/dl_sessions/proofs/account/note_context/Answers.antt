use Rattle.std.proofs.Common.{ap, ◌∙◌, Option}
use Rattle.std.specs.HashMap as hash
use Rattle.dl_sessions.specs.Gaps.{context_of, same_context, turn}
use Rattle.dl_sessions.specs.declared.session.Latest.{Latest}
use Rattle.dl_sessions.proofs.OneMore.{contexts_kept}
use Rattle.dl_sessions.proofs.account.note_context.Goals as goal

pub returns : goal.returns
returns c = λ es keeps.
    let e = c.args.entry.now in (
      c.turn.ensures ∙ ap (λ (o : Option Latest). turn o e) (c.in_ok-last.ensures.old ∙ keeps (context_of e)),
      contexts_kept (hash.get same_context c.args.contexts.now) (hash.get same_context c.insert.new.self) es e c.latest_of.result c.in_ok-last.ensures.updates.0 c.latest_of.ensures keeps,
    )
