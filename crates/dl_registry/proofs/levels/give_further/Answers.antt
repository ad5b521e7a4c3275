use Rattle.std.proofs.Common.{cond, Some, get_or, take, sym, ap, ◌∙◌, arith}
use Rattle.std.specs.Prelude.{◌==◌}
use Rattle.std.specs.List.{list_any}
use Rattle.dl_model.specs.Registry.{slot_of}
use Rattle.dl_registry.specs.Table.{wanted_at}
use Rattle.dl_registry.proofs.Giving.{any_more, given_one, joined}
use Rattle.dl_registry.proofs.levels.give_further.Goals as goal

pub loop-place-preserved : goal.loop-place-preserved
loop-place-preserved c =
    let is = c.loop-place.invariant in
    let places = c.args.places.now in
    let place = get_or places c.loop-place.place-index 0 in
    record {
      first = c.give.ensures.first ∙ is.first;
      held = c.give.ensures.held ∙ is.held;
      outside = λ slot beyond. c.give.ensures.beyond slot beyond ∙ is.outside slot beyond;
      levels = λ slot within.
          let so_far = list_any (λ n. slot == slot_of c.args.number n) (take c.loop-place.place-index places) in
          let old = wanted_at c.args.table.now slot in
          given_one c.loop-place.table c.give.new.self c.slot_of.result c.args.level slot c.give.ensures.level c.give.ensures.outside within
          ∙ (ap (λ at. cond (slot == at) (Some c.args.level) (wanted_at c.loop-place.table slot)) c.slot_of.ensures
          ∙ (ap (cond (slot == slot_of c.args.number place) (Some c.args.level)) (is.levels slot within)
          ∙ (joined so_far (slot == slot_of c.args.number place) (Some c.args.level) old
          ∙ sym (ap (λ b. cond b (Some c.args.level) old) (any_more (λ n. slot == slot_of c.args.number n) places c.loop-place.place-index 0 (omega (arith, c.loop-place-test.true)))))));
    }
