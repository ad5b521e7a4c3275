use Rattle.std.proofs.Common.{◌≡◌, ◌+◌, ◌++◌, ◌∷◌, [], ℕ, List, take, sym, ap, subst, ◌∙◌}
use Rattle.std.specs.Option.{option_to_list}
use Rattle.std.proofs.lemmas.List.{take_more}
use Rattle.dl_storage.specs.Passing.{frame_for, frames_for}
use Rattle.dl_storage.specs.Writing.{IsAfterFrames}
use Rattle.dl_storage.specs.declared.writing.Writing.{Writing}
use Rattle.dl_storage.proofs.Steps.{any_follows, begun, frames_more}
use Rattle.dl_storage.proofs.writing.write_events.Goals as goal

pub loop-event-init : goal.loop-event-init
loop-event-init g c = λ stood start begins same.
    subst (λ (w : Writing). IsAfterFrames c.args.trace stood [] start (g.F.Folder.told c.args.folder.now) w) (sym c.over-writing.ensures)
    (begun c.args.trace stood start (g.F.Folder.told c.args.folder.now) begins same)

pub loop-event-preserved : goal.loop-event-preserved
loop-event-preserved g c = λ stood start begins same.
    let i = c.loop-event.event-index in
    let ecu = c.args.ecu in
    let filter = c.args.filter.now in
    let records = c.args.calls.now.records.now in
    let events = c.args.events.now in
    let one_more : take (i + 1) events ≡ take i events ++ c.event-item.result ∷ [] = rw c.event-item.is (take_more events i c.event-item.result c.loop-event-test.true) in
    let frames : frames_for ecu filter records (take i events) ++ option_to_list (frame_for ecu filter records c.event-item.result) ≡ frames_for ecu filter records (take (i + 1) events) =
    sym (ap (frames_for ecu filter records) one_more ∙ frames_more ecu filter records (take i events) c.event-item.result) in
    subst (λ (fs : List (List ℕ)). IsAfterFrames c.args.trace stood fs start (g.F.Folder.told c.take_in.new.folder) c.take_in.new.writing) frames
    (any_follows c.args.trace stood (frames_for ecu filter records (take i events)) (frame_for ecu filter records c.event-item.result) start (g.F.Folder.told c.loop-event.folder) (g.F.Folder.told c.take_in.new.folder)
    c.loop-event.writing c.take_in.new.writing c.take_in.ensures.sized c.take_in.ensures.written c.take_in.ensures.others (c.loop-event.invariant stood start begins same))
