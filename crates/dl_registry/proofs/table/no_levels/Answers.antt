use Rattle.std.proofs.Common.{◌≡◌, replicate, None, ap, ◌∙◌, arith}
use Rattle.dl_registry.proofs.table.no_levels.Goals as goal

pub returns : goal.returns
returns c =
    let all : c.loop-slot._slot ≡ 1024 = omega arith in
    c.loop-slot.invariant ∙ ap (λ n. replicate n None) all
