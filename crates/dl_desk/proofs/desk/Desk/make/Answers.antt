use Rattle.std.proofs.Common.{◌≡◌, ◌+◌, [], ◌∷◌, ◌++◌, length, take, refl, ap, ◌∙◌, arith}
use Rattle.std.proofs.lemmas.List.{take_more}
use Rattle.std.proofs.lemmas.Option.{slice_get_read}
use Rattle.dl_desk.proofs.Assembling.{few_taken, length-apps}
use Rattle.dl_desk.proofs.desk.Desk.make.Goals as goal

pub add-requires-clause-few : goal.add-requires-clause-few
add-requires-clause-few c =
    let specs = c.args.specs.now in
    let is = c.loop-spec.invariant in
    let long = c.loop-spec.parts.list.ok.0 ∙ ap length is.list ∙ length-apps 0 (take c.loop-spec.spec-index specs) in
    let below = few_taken specs c.loop-spec.spec-index c.loop-spec-test.true in
    let few = c.requires.few in
    omega (arith, long, below, few)

pub add-requires-clause-capacity : goal.add-requires-clause-capacity
add-requires-clause-capacity c =
    let fit = c.requires.each c.loop-spec.spec-index c.spec-item.result (slice_get_read c.args.specs.now (length c.args.specs.now) c.loop-spec.spec-index c.spec-item.result refl c.loop-spec-test.true c.spec-item.is) in
    (fit.0, fit.1)

pub add-requires-clause-text : goal.add-requires-clause-text
add-requires-clause-text c =
    (c.requires.each c.loop-spec.spec-index c.spec-item.result (slice_get_read c.args.specs.now (length c.args.specs.now) c.loop-spec.spec-index c.spec-item.result refl c.loop-spec-test.true c.spec-item.is)).2

pub loop-spec-preserved : goal.loop-spec-preserved
loop-spec-preserved c =
    let specs = c.args.specs.now in
    let spec = c.spec-item.result in
    let one_more : take (c.loop-spec.spec-index + 1) specs ≡ take c.loop-spec.spec-index specs ++ spec ∷ [] = rw c.spec-item.is (take_more specs c.loop-spec.spec-index spec c.loop-spec-test.true) in
    rw one_more (c.in_ok-add.ensures (take c.loop-spec.spec-index specs) c.loop-spec.invariant)
