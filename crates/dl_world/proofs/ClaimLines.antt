-- Claims of writers, up to their rings.
use Rattle.std.proofs.Common.{◌≡◌, ℕ, ◌+◌, ◌<◌, get_or, List, [], ◌∷◌, ◌++◌, length, map, Option, Some, None, refl, sym, ap, subst, ◌∙◌, arith}
use Rattle.std.specs.Prelude.{slice_get, IsSomeAnd}
use Rattle.std.specs.List.{filter_map}
use Rattle.std.specs.Option.{option_and_then, option_map}
use Rattle.std.proofs.lemmas.List.{append-nil, length-map}
use Rattle.std.proofs.lemmas.List.Elements.{filter_map-append}
use Rattle.dl_bytes.specs.Claim.{Claimed}
use Rattle.dl_script_model.specs.declared.line.AppLine.{AppLine}
use Rattle.dl_script_model.specs.declared.line.ClaimLine.{ClaimLine}
use Rattle.dl_script_model.specs.declared.line.ContextLine.{ContextLine}
use Rattle.dl_script_model.specs.declared.step.Step.TheVariants as line
use Rattle.dl_script_model.specs.Marks.{Mark, app_of, claim_of, context_of, writer_of as writer_marked, apps, writers, number_of, contexts_of}
use Rattle.dl_script_model.specs.Steps.{finish, claim, announce, announce_all, act_of}
use Rattle.dl_script_model.proofs.Marks.{in_sequence-one}
use Rattle.dl_world_calls.specs.Follows as calls
use Rattle.dl_world_calls.specs.Follows.{no_app, is_named}
use Rattle.dl_world_calls.specs.State.{App, Calls, Writer, owner_of, writer_of}
use Rattle.dl_world_calls.proofs.Declaring.{number_is}
use Rattle.dl_world_calls.proofs.Places.{position_to_len, there}
use Rattle.dl_world.specs.Follows.{Doing}
use Rattle.dl_world.specs.Known.{HasPlace}
use Rattle.dl_world.specs.declared.world.World.{World}
use Rattle.dl_world.proofs.CallSteps.{claim_steps, announce_steps, announce_all_steps, finish_steps, steps_doing}
use Rattle.dl_world.proofs.Composing.{both, does_both, doing_two}
use Rattle.dl_world.proofs.Deeds.{does_as}
use Rattle.dl_world.proofs.Drains.{writer_ids, owned_at}
use Rattle.dl_world.proofs.Knowing.{ArePlain, finishes}

-- ---- a place for one claim more

-- marks that declare and claim nothing leave it
place_stays : (writer : ℕ) (more : List Mark) (old mid : Calls) (has : HasPlace writer old) → ArePlain more → calls.IsAfter (has.done ++ more) mid → HasPlace writer mid
place_stays writer more old mid has plain after =
    let done = has.done in
    let apps_are : apps (done ++ more) ≡ apps done = filter_map-append app_of done more ∙ ap (λ (l : List AppLine). apps done ++ l) plain.no_apps ∙ append-nil (apps done) in
    let writers_are : writers (done ++ more) ≡ writers done = filter_map-append writer_marked done more ∙ ap (λ (l : List (List ℕ)). writers done ++ l) plain.no_writers ∙ append-nil (writers done) in
    let contexts_are : filter_map context_of (done ++ more) ≡ filter_map context_of done =
    filter_map-append context_of done more ∙ ap (λ (l : List ContextLine). filter_map context_of done ++ l) plain.no_contexts ∙ append-nil (filter_map context_of done) in
    let claims_are : filter_map claim_of (done ++ more) ≡ filter_map claim_of done =
    filter_map-append claim_of done more ∙ ap (λ (l : List Claimed). filter_map claim_of done ++ l) plain.no_claims ∙ append-nil (filter_map claim_of done) in
    record {
      done = done ++ more;
      after = after;
      apid = has.apid;
      app = has.app;
      of_writer = rw writers_are has.of_writer;
      number = rw apps_are has.number;
      room = rw (contexts_are, claims_are) has.room;
    }

-- what the open call still needs declares nothing
pub place_left : (writer : ℕ) (old mid : Calls) → HasPlace writer old → calls.Does (finish writer) old mid → HasPlace writer mid
place_left writer old mid has does = place_stays writer (finish writer has.done) old mid has (finishes writer has.done) (does has.done has.after)

pub its_writer : (kept : Calls) (writer : ℕ) (apid : List ℕ) (o : Option Writer) → writer_of kept writer ≡ o → option_map (λ (w : Writer). w.apid) o ≡ Some apid → (w : Writer) × (writer_of kept writer ≡ Some w) × (w.apid ≡ apid)
its_writer kept writer apid None at is = absurd cc
its_writer kept writer apid (Some w) at is = (w, at, cc)

-- so the writer's application has room for it
pub has_room : (writer : ℕ) (kept : Calls) → HasPlace writer kept → IsSomeAnd (owner_of kept writer) (λ (app : App). length app.contexts + app.claimed < 64)
has_room writer kept has =
    let done = has.done in
    let w = its_writer kept writer has.apid (writer_of kept writer) refl (sym (writer_ids done kept writer has.after) ∙ has.of_writer) in
    let number : Some w.0.app ≡ Some has.app = sym (owned_at done kept writer w.0 has.after w.1).app_is ∙ ap (λ (id : List ℕ). number_of id done) w.2 ∙ has.number in
    let same : w.0.app ≡ has.app = cc in
    let place = position_to_len (is_named has.apid) kept.apps has.app (number_is done kept has.apid has.after.apps_are ∙ has.number) in
    let app = get_or kept.apps has.app no_app in
    let found : owner_of kept writer ≡ Some app = ap (option_and_then (λ (v : Writer). slice_get kept.apps v.app)) w.1 ∙ ap (slice_get kept.apps) same ∙ there kept.apps has.app no_app place.1 in
    let contexts : app.contexts ≡ map (λ (context : ContextLine). context.ctid) (contexts_of has.apid done) = ap (λ (k : ℕ). (get_or kept.apps k no_app).contexts) (sym place.0) ∙ has.after.contexts_are has.apid in
    let many : length app.contexts ≡ length (contexts_of has.apid done) = ap length contexts ∙ length-map (contexts_of has.apid done) (λ (context : ContextLine). context.ctid) in
    subst (λ (o : Option App). IsSomeAnd o (λ (a : App). length a.contexts + a.claimed < 64)) (sym found) (omega (arith, has.room, many, has.after.claimed_are has.app))

-- ---- the lines

pub claims_one : (asked : ClaimLine) (old : World) (mid now : Calls) → calls.Does (finish asked.writer) old.calls mid → calls.Does (claim asked) mid now
    → Doing (λ setting. act_of setting [] (line.Claim asked)) old (record old { calls = now })
claims_one asked old mid now first second =
    doing_two (λ setting. finish asked.writer) (λ setting. claim asked) old (record old { calls = mid }) (record old { calls = now })
    (steps_doing (finish asked.writer) old mid (finish_steps asked.writer) first) (steps_doing (claim asked) (record old { calls = mid }) now (claim_steps asked) second)

pub announces_one : (writer : ℕ) (old : World) (mid now : Calls) → calls.Does (finish writer) old.calls mid → calls.Does (announce writer) mid now
    → Doing (λ setting. act_of setting [] (line.Announce writer)) old (record old { calls = now })
announces_one writer old mid now first second =
    doing_two (λ setting. finish writer) (λ setting. announce writer) old (record old { calls = mid }) (record old { calls = now })
    (steps_doing (finish writer) old mid (finish_steps writer) first) (steps_doing (announce writer) (record old { calls = mid }) now (announce_steps writer) second)

pub registers : (asked : ClaimLine) (old mid : World) (now : Calls) → Doing (λ setting. act_of setting [] (line.Claim asked)) old mid → calls.Does (announce_all asked.writer) mid.calls now
    → Doing (λ setting. act_of setting [] (line.Register asked)) old (record mid { calls = now })
registers asked old mid now first second told =
    does_as (both (λ setting answers. act_of setting [] (line.Claim asked)) (λ setting answers. announce_all asked.writer)) (λ setting answers. act_of setting [] (line.Register asked))
    old (record mid { calls = now }) told told
    (λ run done answers after. in_sequence-one (finish asked.writer ∷ claim asked ∷ []) (announce_all asked.writer) done)
    (does_both (λ setting answers. act_of setting [] (line.Claim asked)) (λ setting answers. announce_all asked.writer) old mid (record mid { calls = now }) told told told (first told)
    (steps_doing (announce_all asked.writer) mid now (announce_all_steps asked.writer) second told))
