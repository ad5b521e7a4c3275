use Rattle.std.proofs.Common.{◌≡◌, ◌++◌, ◌+◌, ◌∷◌, [], take, arith, length-take, sym, ap, ◌∙◌, rules}
use Rattle.std.specs.List.{filter_map}
use Rattle.std.specs.Prelude.{option_to_list}
use Rattle.std.proofs.lemmas.List.{take_more}
use Rattle.dl_report.specs.Counts.{close_in}
use Rattle.dl_report.proofs.Counting.{notes_none, notes_both, weaker, closes_more}
use Rattle.dl_report.proofs.count.count_events.Goals as goal

pub loop-event-init : goal.loop-event-init
loop-event-init c = record { noted = notes_none c.args.table.now; closes = search rules }

pub count_event-requires : goal.count_event-requires
count_event-requires c =
    weaker _ _ _ _ c.loop-event.table (omega arith)
    (omega (arith, length-take c.loop-event.event-index c.args.events.now))
    (c.loop-event.invariant.noted.bounds 0 0 c.requires)

pub loop-event-preserved : goal.loop-event-preserved
loop-event-preserved c =
    let i = c.loop-event.event-index in
    let one_more : take (i + 1) c.args.events.now ≡ take i c.args.events.now ++ c.event-item.result ∷ [] =
    rw c.event-item.is (take_more c.args.events.now i c.event-item.result c.loop-event-test.true) in
    record {
      noted = notes_both _ _ _ _ _ _ one_more c.loop-event.invariant.noted c.in_ok-count_event.ensures.table;
      closes =
          c.in_ok-count_event.ensures.closes ∙ ap (λ t. t ++ option_to_list (close_in c.event-item.result)) c.loop-event.invariant.closes
          ∙ sym (ap (filter_map close_in) one_more ∙ closes_more (take i c.args.events.now) c.event-item.result);
    }
