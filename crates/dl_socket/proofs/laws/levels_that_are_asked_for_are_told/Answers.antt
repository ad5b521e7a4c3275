use Rattle.std.proofs.Common.{◌≡◌, List, sym, ap, ◌∙◌}
use Rattle.std.proofs.lemmas.List.{append_cancel_left}
use Rattle.std.specs.List.{filter_map}
use Rattle.dl_cells.specs.declared.level_history.Change.{Change}
use Rattle.dl_turns.specs.Later.{level_in}
use Rattle.dl_socket.specs.Turns.{told_each}
use Rattle.dl_socket.proofs.laws.levels_that_are_asked_for_are_told.Goals as goal

pub returns : goal.returns
returns c = λ number why cutter cutter_now before after old new asked.
    let later = c.a_turn_is_its_events.ensures number why _ _ asked.turn in
    let same : asked.changes ≡ filter_map level_in later.side.more = append_cancel_left asked.desk.sets asked.changes (filter_map level_in later.side.more) (sym asked.sets ∙ later.side.desk.sets) in
    record {
      more = later.side.more;
      events = later.side.events;
      outboxes = asked.told_so ∙ ap (λ (changes : List Change). told_each before.core.registry.registry changes old.outboxes) same;
    }
