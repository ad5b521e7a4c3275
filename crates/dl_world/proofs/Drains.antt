-- An application's ring and losses emptied, and a call with the take of its application.
use Rattle.std.proofs.Common.{◌≡◌, ℕ, zero, suc, ◌+◌, ◌-◌, ◌≤◌, Bool, true, false, cond, eqb, List, [], ◌∷◌, ◌++◌, length, map, Option, Some, None, refl, sym, ap, subst, ◌∙◌}
use Rattle.std.specs.Prelude.{slice_get, replicate, option_map}
use Rattle.std.specs.List.{range_with_len}
use Rattle.std.proofs.lemmas.List.{append-nil}
use Rattle.std.proofs.lemmas.Option.{slice_get-map}
use Rattle.dl_script_model.specs.declared.line.CallLine.{CallLine}
use Rattle.dl_script_model.specs.declared.step.Step.TheVariants as line
use Rattle.dl_script_model.specs.Marks.{Mark, app_of_writer, number_of, writers, held_by}
use Rattle.dl_script_model.specs.Steps.{Act, in_sequence, for_some, on_app, act_of, take_log, take_losses, drain, whole_call}
use Rattle.dl_world_calls.specs.Follows as calls
use Rattle.dl_world_calls.specs.Follows.{no_writer, IsOwned}
use Rattle.dl_world_calls.specs.State.{Writer, Calls, writer_of}
use Rattle.dl_world_calls.proofs.Places.{found}
use Rattle.dl_outside.specs.Told.{FolderTold}
use Rattle.dl_world.specs.Follows.{Deed, Does, Doing}
use Rattle.dl_world.specs.declared.world.World.{World}
use Rattle.dl_world.proofs.Composing.{both, does_both, two_turns}
use Rattle.dl_world.proofs.Deeds.{does_as, does_none}
use Rattle.dl_world.proofs.Turning.{from}
use Rattle.dl_world.proofs.Takes.{no_ring, none_lost}

-- ---- a ring and its losses

same_again : (act : Act) (first count : ℕ) → map (λ (n : ℕ). act) (range_with_len first count) ≡ replicate count act
same_again act first zero = refl
same_again act first (suc count) = ap (λ (acts : List Act). act ∷ acts) (same_again act (first + 1) count)

abbrev pub takes : ℕ → ℕ → Deed
takes app n setting answers = take_log setting app

pub drains : (old mid new : World) (told told_mid told_now : FolderTold) (app count : ℕ) → ((done : List Mark) → calls.IsAfter done old.calls → count ≡ held_by app done)
    → Does (from 0 count (takes app)) old mid told told_mid → Does (λ setting answers. take_losses setting app) mid new told_mid told_now → Does (λ setting answers. drain setting app) old new told told_now
drains old mid new told told_mid told_now app count held first second =
    does_as (both (from 0 count (takes app)) (λ setting answers. take_losses setting app)) (λ setting answers. drain setting app) old new told told_now
    (λ run done answers after.
    let act = take_log run.setting app in
    let all : in_sequence (replicate (held_by app done) act) done ≡ in_sequence (map (λ (n : ℕ). act) (range_with_len 0 count)) done =
    ap (λ (n : ℕ). in_sequence (replicate n act) done) (sym (held done after.so_far.calls_so)) ∙ ap (λ (acts : List Act). in_sequence acts done) (sym (same_again act 0 count)) in
    two_turns (λ d. in_sequence (replicate (held_by app d) act) d) (take_losses run.setting app) done
    ∙ ap (λ (ms : List Mark). ms ++ take_losses run.setting app (done ++ ms)) all)
    (does_both (from 0 count (takes app)) (λ setting answers. take_losses setting app) old mid new told told_mid told_now first second)

-- an application that was not declared has none
pub drains_nobody : (world : World) (told : FolderTold) (app : ℕ) → length world.calls.apps ≤ app → Does (λ setting answers. drain setting app) world world told told
drains_nobody world told app over =
    does_none (λ setting answers. drain setting app) world told
    (λ run done answers after.
    let act = take_log run.setting app in
    let none : held_by app done ≡ 0 = no_ring done world.calls app after.so_far.calls_so over in
    let lost = none_lost done world.calls app after.so_far.calls_so over in
    let nothing : take_losses run.setting app done ≡ [] = rw lost refl in
    two_turns (λ d. in_sequence (replicate (held_by app d) act) d) (take_losses run.setting app) done
    ∙ ap (λ (n : ℕ). in_sequence (replicate n act) done ++ take_losses run.setting app (done ++ in_sequence (replicate n act) done)) none
    ∙ ap (λ (ms : List Mark). take_losses run.setting app ms) (append-nil done) ∙ nothing)

-- ---- a writer's application

pub writer_ids : (done : List Mark) (kept : Calls) (writer : ℕ) → calls.IsAfter done kept → app_of_writer writer done ≡ option_map (λ (w : Writer). w.apid) (writer_of kept writer)
writer_ids done kept writer is = by_number (eqb writer 0) where
  by_number : (b : Bool) → cond b None (slice_get (writers done) (writer - 1)) ≡ option_map (λ (w : Writer). w.apid) (cond b None (slice_get kept.writers (writer - 1)))
  by_number true = refl
  by_number false = ap (λ (xs : List (List ℕ)). slice_get xs (writer - 1)) (sym is.writers_are) ∙ slice_get-map (λ (w : Writer). w.apid) kept.writers (writer - 1)

pub owned_at : (done : List Mark) (kept : Calls) (writer : ℕ) (w : Writer) → calls.IsAfter done kept → writer_of kept writer ≡ Some w → IsOwned done w
owned_at done kept writer w is e = by_number (eqb writer 0) e where
  by_number : (b : Bool) → cond b None (slice_get kept.writers (writer - 1)) ≡ Some w → IsOwned done w
  by_number true e = absurd cc
  by_number false e = let at = found kept.writers (writer - 1) w no_writer e in subst (IsOwned done) at.1 (is.owned (writer - 1) no_writer at.0)

-- what is asked of it
abbrev its_app : ℕ → Deed
its_app writer setting answers done = for_some (app_of_writer writer done) (λ apid. on_app apid (take_log setting)) done

owner_takes : (mid new : World) (told told_now : FolderTold) (writer app : ℕ) (o : Option Writer) → writer_of mid.calls writer ≡ o → option_map (λ (w : Writer). w.app) o ≡ Some app
    → Does (λ setting answers. take_log setting app) mid new told told_now → Does (its_app writer) mid new told told_now
owner_takes mid new told told_now writer app None is owner does = absurd cc
owner_takes mid new told told_now writer app (Some w) is owner does =
    let same : w.app ≡ app = cc in
    does_as (λ setting answers. take_log setting app) (its_app writer) mid new told told_now
    (λ run done answers after.
    let id : app_of_writer writer done ≡ Some w.apid = writer_ids done mid.calls writer after.so_far.calls_so ∙ ap (option_map (λ (x : Writer). x.apid)) is in
    let number : number_of w.apid done ≡ Some app = (owned_at done mid.calls writer w after.so_far.calls_so is).app_is ∙ ap Some same in
    ap (λ (p : Option (List ℕ)). for_some p (λ apid. on_app apid (take_log run.setting)) done) id
    ∙ ap (λ (p : Option ℕ). for_some p (take_log run.setting) done) number)
    does

nobody_takes : (mid : World) (told : FolderTold) (writer : ℕ) (o : Option Writer) → writer_of mid.calls writer ≡ o → option_map (λ (w : Writer). w.app) o ≡ None → Does (its_app writer) mid mid told told
nobody_takes mid told writer (Some w) is owner = absurd cc
nobody_takes mid told writer None is owner =
    does_none (its_app writer) mid told
    (λ run done answers after.
    let id : app_of_writer writer done ≡ None = writer_ids done mid.calls writer after.so_far.calls_so ∙ ap (option_map (λ (x : Writer). x.apid)) is in
    ap (λ (p : Option (List ℕ)). for_some p (λ apid. on_app apid (take_log run.setting)) done) id)

-- ---- a call, and the take

call_and_take : (call : CallLine) (old mid new : World) (told told_now : FolderTold) → Doing (λ setting. whole_call setting call) old mid → Does (its_app call.writer) mid new told told_now
    → Does (λ setting answers. act_of setting answers (line.Log call)) old new told told_now
call_and_take call old mid new told told_now first second =
    does_as (both (λ setting answers. whole_call setting call) (its_app call.writer)) (λ setting answers. act_of setting answers (line.Log call)) old new told told_now
    (λ run done answers after. two_turns (whole_call run.setting call) (its_app call.writer run.setting answers) done)
    (does_both (λ setting answers. whole_call setting call) (its_app call.writer) old mid new told told told_now (first told) second)

pub logs_with_take : (call : CallLine) (old mid new : World) (told told_now : FolderTold) (app : ℕ) → Doing (λ setting. whole_call setting call) old mid
    → option_map (λ (w : Writer). w.app) (writer_of mid.calls call.writer) ≡ Some app → Does (λ setting answers. take_log setting app) mid new told told_now
    → Does (λ setting answers. act_of setting answers (line.Log call)) old new told told_now
logs_with_take call old mid new told told_now app first owner does =
    call_and_take call old mid new told told_now first (owner_takes mid new told told_now call.writer app (writer_of mid.calls call.writer) refl owner does)

pub logs_alone : (call : CallLine) (old mid : World) (told : FolderTold) → Doing (λ setting. whole_call setting call) old mid
    → option_map (λ (w : Writer). w.app) (writer_of mid.calls call.writer) ≡ None → Does (λ setting answers. act_of setting answers (line.Log call)) old mid told told
logs_alone call old mid told first owner = call_and_take call old mid mid told told first (nobody_takes mid told call.writer (writer_of mid.calls call.writer) refl owner)
