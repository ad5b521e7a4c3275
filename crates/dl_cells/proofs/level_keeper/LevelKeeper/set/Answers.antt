use Rattle.std.proofs.Common.{rules, arith, ◌∙◌, ◌<◌, ◌+◌, set, sym, subst}
use Rattle.atomic_table.specs.Seated.{TableId}
use Rattle.dl_cells.specs.declared.level_words.View.{View}
use Rattle.dl_cells.specs.LevelPasses.{AreLast}
use Rattle.dl_cells.proofs.LevelKeeping.{swaps}
use Rattle.dl_cells.proofs.LevelCounting.{counts_next, version_at}
use Rattle.dl_cells.proofs.level_keeper.LevelKeeper.set.Goals as goal

pub swap-requires : goal.swap-requires
swap-requires c = let within : c.from-place.result < c.self.inside.seat.table_id.words = search rules in let last = (c.self.invariant.last c.from-place.result within).0 in
    let found = version_at c.self.inside.seat.table_id.words c.from-place.result c.index-version.result.now c.self.inside.versions.items (sym c.self.inside.versions.ok.0 ∙ c.self.invariant.all) within c.index-version.ensures in
    (search rules, search rules, swaps _ _ _ _ _ _ (search rules) (search rules) (omega arith) (omega arith))

pub invariant_of-self : goal.invariant_of-self
invariant_of-self c = let within : c.from-place.result < c.self.inside.seat.table_id.words = search rules in let last = (c.self.invariant.last c.from-place.result within) in
    let long = sym c.self.inside.versions.ok.0 ∙ c.self.invariant.all in
    let found = version_at c.self.inside.seat.table_id.words c.from-place.result c.index-version.result.now c.self.inside.versions.items long within c.index-version.ensures in
    let fits : c.index-version.result.now + 1 < 72057594037927936 = let worn = c.if-version-eq-LAST_VERSION.false in let below = last.1 in omega arith in
    record {
      seated = search rules;
      slots = search rules;
      some = search rules;
      bare = search rules;
      keeps = search rules;
      apps = search rules;
      all = search rules;
      last = subst (λ (z : View × TableId). AreLast z.0.first z.0.sets z.1.words (set c.self.inside.versions.items c.from-place.result (c.index-version.result.now + 1)))
          (λ i. (sym c.swap.ensures.2.0 i, sym c.swap.ensures.0 i))
          (counts_next _ _ _ _ _ _ _ long within found fits c.self.invariant.last);
    }
