use Rattle.std.proofs.Common.{ap, ◌∙◌, Ok}
use Rattle.dl_headers.proofs.Again.{extended_again, same_extended}
use Rattle.dl_headers.proofs.read.read_extended.Goals as goal

pub returns-clause-again : goal.returns-clause-again
returns-clause-again c = λ head rest is e.
    let same = extended_again c.args.bytes.now head rest is e in
    ap Ok (same_extended _ head same.0 same.1 (c.from_bytes.ensures ∙ same.2) (c.from_bytes-2.ensures ∙ same.3))
