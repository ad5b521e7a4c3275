use Rattle.std.proofs.Common.{ℕ, List, ◌++◌, codes, sym, ap, ◌∙◌, append_assoc}
use Rattle.std.specs.Fmt.{decimal}
use Rattle.std.proofs.lemmas.Result.{on_ok_weaker}
use Rattle.dl_sessions.specs.Text.{open_words}
use Rattle.dl_sessions.proofs.text.push_open.Goals as goal

pub returns : goal.returns
unfolding open_words
returns c =
    let n = decimal c.args.count in
    let text = c.args.text.now.items in
    let words = codes " and a multiple of 256, unless it began anew" in
    on_ok_weaker c.push_counted-2.result
    (λ is. is ∙ ap (λ (l : List ℕ). l ++ (n ++ words)) c.in_ok-push_counted.ensures ∙ append_assoc text (n ++ codes ", or ") (n ++ words) ∙ ap (λ (l : List ℕ). text ++ l) (sym (append_assoc (n ++ codes ", or ") n words)))
    c.push_counted-2.ensures
