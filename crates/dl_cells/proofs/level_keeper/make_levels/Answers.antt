use Rattle.std.proofs.Common.{rules, arith, ◌≡◌, ◌*◌, ◌∙◌, ap, replicate}
use Rattle.dl_cells.proofs.LevelKeeping.{opens, splits}
use Rattle.dl_cells.proofs.level_keeper.make_levels.Goals as goal

pub of_words-requires : goal.of_words-requires
of_words-requires c = let count : c.from-count.result ≡ c.from.result = search rules in
    let row : c.deref.result.now ≡ replicate c.from.result (16 * c.args.first) = c.deref.ensures.value ∙ c.in_ok-row.ensures.items_if_clones_equal (λ y e. e) ∙ ap (λ n. replicate n (16 * c.args.first)) count in
    rw row (opens record { slots = c.from.result; first = c.args.first })

pub split_seat-readers-requires : goal.split_seat-readers-requires
split_seat-readers-requires c = let words = c.in_ok-table.ensures.0 in let row = c.deref.ensures.len in let long = c.in_ok-row.ensures.len in let some = c.requires.slots in (search rules, omega arith, splits _ _ _)
