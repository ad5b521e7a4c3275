use Rattle.std.proofs.Common.{◌≡◌, ◌-◌, ◌≤◌, ◌++◌, length, take, drop, Some, ap, ◌∙◌, arith, length-drop}
use Rattle.std.proofs.lemmas.List.{take_all}
use Rattle.dl_memory.specs.Wire.{Wire}
use Rattle.dl_memory.proofs.Wires.{given_grows}
use Rattle.dl_memory.proofs.wire.MemoryLinkLink.recv.Goals as goal

pub returns-clause-given : goal.returns-clause-given
returns-clause-given c =
    let n = c.min-n.result in
    let at = c.self.inside.at in
    let all = c.deref.result.now in
    let rest : take (length all - at) (drop at all) ≡ drop at all = take_all _ _ (omega (arith, length-drop at all)) in
    let fits : n ≤ length (drop at all) = omega (arith, ap length rest, c.min.ensures, c.min-n.ensures) in
    let more = given_grows at n all c.copy_from_slice.new.self (drop n c.args.into.now) fits (c.copy_from_slice.ensures.after ∙ ap (take n) rest) in
    let same = rw c.deref.ensures.value at more in
    ap Some (same ∙ ap (λ given. given ++ take n (c.copy_from_slice.new.self ++ drop n c.args.into.now)) (ap (λ (w : Wire). w.given) c.self.view_is))
