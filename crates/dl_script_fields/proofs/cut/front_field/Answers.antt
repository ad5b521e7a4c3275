use Rattle.std.proofs.Common.{◌≡◌, ◌-◌, List, ℕ, length, drop, take, ap, arith, length-drop}
use Rattle.std.proofs.lemmas.List.{take_all}
use Rattle.dl_text.specs.Lines.{is_blank}
use Rattle.dl_script_fields.proofs.Boundaries.{first_within, at_end_of_rest, ends_at_blank}
use Rattle.dl_script_fields.proofs.cut.front_field.Goals as goal

-- the bytes behind the first, as the code takes them
behind : (bytes text : List ℕ) → bytes ≡ text → take (length bytes - 1) (drop 1 bytes) ≡ drop 1 text
behind bytes text e = rw e (take_all (length text - 1) (drop 1 text) (omega (arith, length-drop 1 text)))

pub returns-in-len1-up-clause-boundary : goal.returns-in-len1-up-clause-boundary
returns-in-len1-up-clause-boundary c =
    let rest : List ℕ = take (length c.as_bytes.result.now - 1) (drop 1 c.as_bytes.result.now) in
    at_end_of_rest c.args.text.now rest c.unwrap_or.result (behind c.as_bytes.result.now c.args.text.now c.as_bytes.ensures.value)
    (omega (arith, c.in-len1-up.len_at_least, ap length c.as_bytes.ensures.value))
    (rw (c.unwrap_or.ensures, c.first_blank.ensures.value) (first_within is_blank rest))
    (rw (c.unwrap_or.ensures, c.first_blank.ensures.value) (ends_at_blank rest))
