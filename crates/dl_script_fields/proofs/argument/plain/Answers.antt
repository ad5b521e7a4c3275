use Rattle.std.proofs.Common.{◌≡◌, ◌+◌, ◌-◌, ◌<◌, ◌≤◌, Some, length, take, ap, sym, ◌∙◌, arith}
use Rattle.dl_script_fields.proofs.Marks.{says_itself}
use Rattle.dl_script_fields.proofs.argument.plain.Goals as goal

pub returns : goal.returns
returns c =
    let bytes = c.as_bytes-bytes.ensures.value in
    let first = rw bytes at c.in_ok-place.ensures.value in
    let within : c.in_ok-place.place < length c.args.quoted.now = rw bytes at c.in_ok-place.ensures.within in
    let last : length c.args.quoted.now ≤ c.in_ok-place.place + 1 = rw bytes at c.if-place-bytes.false in
    let whole : c.in_ok-place.place - 0 ≡ c.in_ok-place.place = omega arith in
    says_itself c.args.quoted.now c.in_ok-place.place (sym first) (omega (arith, within, last)) (rw bytes at c.if-bytes-place-ne34.false)
    ∙ ap Some (sym (c.range.ensures.value ∙ ap (λ n. take n c.args.quoted.now) whole))
