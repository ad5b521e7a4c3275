use Rattle.std.proofs.Common.{◌≡◌, ℕ, ◌<◌, List, [], ◌∷◌, ◌++◌, length, take, ap, ◌∙◌, arith}
use Rattle.std.proofs.lemmas.Grind.{common_steps}
use Rattle.dl_laws.proofs.Behind.{goes-as, arrives}
use Rattle.dl_laws.proofs.cut.add_copies.Goals as goal

pub loop-rest-preserved : goal.loop-rest-preserved
loop-rest-preserved c =
    let some : 0 < length c.loop-rest.rest.now = omega (arith, c.first_len.ensures.some, c.first_len.ensures.within) in
    let frame : c.over.result ≡ take c.first_len.result c.loop-rest.rest.now = c.over.ensures ∙ c.in_ok-from_slice.ensures.items ∙ c.split_at.ensures.front in
    let added : c.push.new.self.items ≡ c.loop-rest.frames.items ++ take c.first_len.result c.loop-rest.rest.now ∷ [] =
    c.in_ok-push.ensures.items ∙ ap (λ (f : List ℕ). c.loop-rest.frames.items ++ f ∷ []) frame in
    goes-as c.args.bytes.now c.loop-rest.rest.now c.args.frames.now.items c.loop-rest.frames.items c.push.new.self.items c.split_at.result.1.now c.first_len.result
    some c.first_len.ensures.value added c.split_at.ensures.back c.loop-rest.invariant

pub returns : goal.returns
returns c =
    let none : length c.loop-rest.rest.now ≡ 0 = grind (arith, common_steps, c.is_empty.ensures, c.loop-rest-test.false) in
    arrives c.args.bytes.now c.args.frames.now.items c.loop-rest.frames.items c.loop-rest.rest.now none c.loop-rest.invariant
