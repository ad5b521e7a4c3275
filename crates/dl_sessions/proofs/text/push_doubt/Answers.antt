use Rattle.std.proofs.Common.{ℕ, List, ◌++◌, codes, ap, ◌∙◌, append_assoc}
use Rattle.std.proofs.lemmas.Result.{on_ok_weaker}
use Rattle.dl_sessions.specs.Text.{doubt_words, open_words}
use Rattle.dl_sessions.proofs.text.push_doubt.Goals as goal

pub returns : goal.returns
unfolding doubt_words
returns c =
    let words = open_words c.args.count in
    on_ok_weaker c.push_open.result
    (λ is. is ∙ ap (λ (l : List ℕ). l ++ words) c.in_ok-extend_from_slice.ensures.items ∙ append_assoc c.args.text.now.items (codes ", except where it may have begun anew: ") words)
    c.push_open.ensures
