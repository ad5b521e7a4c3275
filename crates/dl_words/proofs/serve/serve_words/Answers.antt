use Rattle.std.proofs.Common.{map, string_bytes, subst, sym, ◌∙◌, List, String, Global}
use Rattle.dl_words.specs.Serve.{SaysOptions}
use Rattle.dl_words.proofs.Said.{rest_is, serve_other, serve_said_by}
use Rattle.dl_words.proofs.serve.serve_words.Goals as goal

pub returns-then-asks_to_serve-clause-said : goal.returns-then-asks_to_serve-clause-said
returns-then-asks_to_serve-clause-said c =
    serve_said_by c.args.words.now c.options.result (sym c.asks_to_serve.ensures ∙ c.if-asks_to_serve.true)
    (subst (λ (words : List (String Global)). SaysOptions (map string_bytes words) c.options.result) (rest_is c.args.words.now) c.options.ensures.said)

pub returns-else-asks_to_serve-clause-said : goal.returns-else-asks_to_serve-clause-said
returns-else-asks_to_serve-clause-said c =
    serve_other (map string_bytes c.args.words.now) (sym c.asks_to_serve.ensures ∙ c.if-asks_to_serve.false)
