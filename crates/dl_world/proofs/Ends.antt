-- The end of a run: what its loops come to.
use Rattle.std.proofs.Common.{◌≡◌, ℕ, List, ◌++◌, length, map, sym, ap, ◌∙◌}
use Rattle.std.proofs.lemmas.List.{length-map, append-nil}
use Rattle.std.specs.Prelude.{count_by}
use Rattle.std.specs.List.{range_with_len}
use Rattle.std.proofs.lemmas.List.FromFn.{length-range_with_len}
use Rattle.dl_events.specs.declared.event.Why.TheVariants as why
use Rattle.dl_model.specs.Journal.{is_connect}
use Rattle.dl_script_model.specs.Marks.{Mark, apps, journal, writer_numbers}
use Rattle.dl_script_model.specs.Steps.{in_sequence, finish, drain, note_levels, close, end_of}
use Rattle.dl_laws.proofs.Quiet.{came_in_journal}
use Rattle.dl_world_calls.specs.State.{Writer}
use Rattle.dl_world_calls.specs.Follows.{line_of}
use Rattle.dl_core.specs.Follows.{Run, source_of}
use Rattle.dl_outside.specs.Told.{FolderTold}
use Rattle.dl_world.specs.Follows.{IsAfter, Deed, Does, Doing}
use Rattle.dl_world.specs.declared.world.World.{World}
use Rattle.dl_world.proofs.Composing.{both, does_both}
use Rattle.dl_world.proofs.Deeds.{does_as}
use Rattle.dl_world.proofs.Turning.{from}

-- the writers are those that the marks declare
pub all_finished : (old new : World) (count : ℕ) → count ≡ length old.calls.writers
    → ((told : FolderTold) → Does (from 1 count (λ writer setting answers. finish writer)) old new told told)
    → Doing (λ setting done. in_sequence (map finish (writer_numbers done)) done) old new
all_finished old new count is each told =
    does_as (from 1 count (λ writer setting answers. finish writer)) (λ setting answers done. in_sequence (map finish (writer_numbers done)) done) old new told told
    (λ run done answers after.
    let many = ap length (sym after.so_far.calls_so.writers_are) ∙ length-map old.calls.writers (λ (writer : Writer). writer.apid) ∙ sym is in
    ap (λ (n : ℕ). in_sequence (map finish (range_with_len 1 n)) done) many)
    (each told)

-- the clients are those that came
pub came : (run : Run) (done : List Mark) (world : World) → IsAfter run done world → count_by is_connect (journal done) ≡ length world.clients
came run done world after =
    sym (came_in_journal (source_of run) (journal done)) ∙ ap length after.so_far.core_so.hub.came ∙ length-range_with_len 1 (length world.core.hub.clients) ∙ sym after.so_far.came_so

pub all_closed : (old new : World) (count : ℕ) → count ≡ length old.clients
    → ((told : FolderTold) → Does (from 1 count (λ client setting answers. close setting client why.Stopped)) old new told told)
    → Doing (λ setting done. in_sequence (map (λ client. close setting client why.Stopped) (range_with_len 1 (count_by is_connect (journal done)))) done) old new
all_closed old new count is each told =
    does_as (from 1 count (λ client setting answers. close setting client why.Stopped))
    (λ setting answers done. in_sequence (map (λ client. close setting client why.Stopped) (range_with_len 1 (count_by is_connect (journal done)))) done) old new told told
    (λ run done answers after.
    ap (λ (n : ℕ). in_sequence (map (λ client. close run.setting client why.Stopped) (range_with_len 1 n)) done) (came run done old after ∙ sym is))
    (each told)

-- the applications are those that the marks declare
pub all_drained : (old new : World) (told told_now : FolderTold) (count : ℕ) → count ≡ length old.calls.apps
    → Does (from 0 count (λ app setting answers. drain setting app)) old new told told_now
    → Does (λ setting answers done. in_sequence (map (drain setting) (range_with_len 0 (length (apps done)))) done) old new told told_now
all_drained old new told told_now count is each =
    does_as (from 0 count (λ app setting answers. drain setting app)) (λ setting answers done. in_sequence (map (drain setting) (range_with_len 0 (length (apps done)))) done) old new told told_now
    (λ run done answers after.
    let many = ap length (sym after.so_far.calls_so.apps_are) ∙ length-map old.calls.apps line_of ∙ sym is in
    ap (λ (n : ℕ). in_sequence (map (drain run.setting) (range_with_len 0 n)) done) many)
    each

-- the four parts of the end, in turn
pub ended : (a b c d e : World) (told told_now : FolderTold)
    → Doing (λ setting done. in_sequence (map finish (writer_numbers done)) done) a b
    → Does (λ setting answers done. in_sequence (map (drain setting) (range_with_len 0 (length (apps done)))) done) b c told told_now
    → Doing note_levels c d
    → Doing (λ setting done. in_sequence (map (λ client. close setting client why.Stopped) (range_with_len 1 (count_by is_connect (journal done)))) done) d e
    → Does (λ setting answers. end_of setting) a e told told_now
ended a b c d e told told_now first second third fourth =
    let f : Deed = λ setting answers done. in_sequence (map finish (writer_numbers done)) done in
    let g : Deed = λ setting answers done. in_sequence (map (drain setting) (range_with_len 0 (length (apps done)))) done in
    let h : Deed = λ setting answers. note_levels setting in
    let k : Deed = λ setting answers done. in_sequence (map (λ client. close setting client why.Stopped) (range_with_len 1 (count_by is_connect (journal done)))) done in
    let late = does_both h k c d e told_now told_now told_now (third told_now) (fourth told_now) in
    let later = does_both g (both h k) b c e told told_now told_now second late in
    does_as (both f (both g (both h k))) (λ setting answers. end_of setting) a e told told_now
    (λ run done answers after.
    let one = f run.setting answers done in
    let two = g run.setting answers (done ++ one) in
    let three = h run.setting answers ((done ++ one) ++ two) in
    ap (λ (ms : List Mark). one ++ (two ++ (three ++ ms))) (append-nil (k run.setting answers (((done ++ one) ++ two) ++ three))))
    (does_both f (both g (both h k)) a b e told told told_now (first told) later)
