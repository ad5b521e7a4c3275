use Rattle.std.proofs.Common.{◌≡◌, ◌-◌, ◌++◌, length, Some, None, take, drop, is_some, ap, ◌∙◌}
use Rattle.std.specs.Prelude.{IfSome}
use Rattle.std.proofs.lemmas.List.{take_rest}
use Rattle.dl_headers.specs.Header.{extended_header, optional, IsExtended}
use Rattle.dl_message.proofs.Joined.{read_as, ten}
use Rattle.dl_message.proofs.message.optional_extended.Goals as goal

pub returns-then-there-clause-again : goal.returns-then-there-clause-again
returns-then-there-clause-again c = λ field rest there is e.
    let bytes = c.args.bytes.now in
    let answer =
    elim field as (λ f. is_some f ≡ c.args.there → IfSome f IsExtended → bytes ≡ optional extended_header f ++ rest → (c.ok.result ≡ f) × (take (length bytes - 10) (drop 10 bytes) ≡ rest)) [
      | None ↦ λ there is e. let no = c.if-there.true in absurd cc
      | Some head ↦ λ there is e. (read_as _ _ head c.ok.ensures.value (c.read_extended.ensures.again head rest is e), take_rest bytes 10 ∙ ap (drop 10) e ∙ ten head rest is)
    ] in
    answer there is e
