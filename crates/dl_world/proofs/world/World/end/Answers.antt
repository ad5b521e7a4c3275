use Rattle.std.proofs.Common.{ap}
use Rattle.dl_events.specs.declared.event.Why.TheVariants as why
use Rattle.dl_model.specs.Journal.{is_connect}
use Rattle.std.specs.Prelude.{map, count_by}
use Rattle.std.specs.List.{range_with_len}
use Rattle.dl_script_model.specs.Marks.{journal}
use Rattle.dl_script_model.specs.Steps.{in_sequence, close}
use Rattle.dl_world_calls.proofs.Acts.{on_ok}
use Rattle.dl_core.specs.State.{Core}
use Rattle.dl_world.specs.Follows.{Doing}
use Rattle.dl_core.proofs.LeftFiles.{leaves_alone}
use Rattle.dl_world.proofs.Ends.{ended}
use Rattle.dl_world.proofs.world.World.end.Goals as goal

pub returns-in_err-finish_all-clause-leaves : goal.returns-in_err-finish_all-clause-leaves
returns-in_err-finish_all-clause-leaves g c = leaves_alone _ _ _ (ap (λ (k : Core). k.trace) c.finish_all.ensures.core)

pub returns-clause-does : goal.returns-clause-does
returns-clause-does g c =
    let made = λ (last : Doing (λ setting done. in_sequence (map (λ client. close setting client why.Stopped) (range_with_len 1 (count_by is_connect (journal done)))) done) c.note_levels.new.self c.close_all.new.self).
    ended c.args.self.now c.finish_all.new.self c.drain_all.new.self c.note_levels.new.self c.close_all.new.self _ _
    c.in_ok-finish_all.ensures.does c.in_ok-drain_all.ensures.does c.in_ok-note_levels.ensures.does last in
    on_ok c.close_all.result _ _ made c.close_all.ensures.does
