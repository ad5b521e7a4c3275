use Rattle.std.proofs.Common.{ℕ, List, ◌++◌, codes, ap, ◌∙◌, append_assoc}
use Rattle.std.proofs.lemmas.Result.{on_ok_weaker}
use Rattle.dl_text.specs.IdText.{id_text}
use Rattle.dl_sessions.proofs.text.push_name.Goals as goal

pub returns : goal.returns
returns c =
    let id = id_text c.args.source.now.apid in
    on_ok_weaker c.push_id.result
    (λ is. is ∙ ap (λ (l : List ℕ). l ++ id) c.in_ok-extend_from_slice.ensures.items ∙ append_assoc c.args.text.now.items (codes "application ") id)
    c.push_id.ensures
