use Rattle.std.proofs.Common.{cond, map, reverse, Some, sym, ap, ◌∙◌}
use Rattle.std.specs.Map.Iter.{deref}
use Rattle.std.specs.Option.{option_or}
use Rattle.dl_registry.specs.Refresh.{has_slot, level_among}
use Rattle.dl_registry.specs.Table.{wanted_at}
use Rattle.dl_registry.proofs.Giving.{among_more, written_more}
use Rattle.dl_registry.proofs.levels.refresh_app.Goals as goal

pub loop-context-preserved : goal.loop-context-preserved
loop-context-preserved c =
    let is = c.loop-context.invariant in
    let number = c.number-number.result in
    record {
      first = c.give_places.ensures.first ∙ is.first;
      held = c.give_places.ensures.held ∙ is.held;
      outside = λ slot beyond. c.give_places.ensures.outside slot beyond ∙ is.outside slot beyond;
      levels = λ slot within.
          let here = has_slot number slot c.in-Some.context.now in
          let old = wanted_at c.args.table.now slot in
          let among = level_among c.args.level number (reverse (map deref c.loop-context.yielded)) slot in
          c.give_places.ensures.levels slot within
          ∙ (ap (λ l. cond here (Some l) (wanted_at c.loop-context.table slot)) c.effective.ensures
          ∙ (ap (cond here (Some _)) (is.levels slot within)
          ∙ (written_more here _ among old
          ∙ sym (ap (λ o. option_or o old) (among_more deref c.args.level number c.loop-context.yielded c.in-Some.context slot)))));
    }
