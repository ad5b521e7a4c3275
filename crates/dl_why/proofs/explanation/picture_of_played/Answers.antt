use Rattle.std.proofs.Common.{◌≡◌, ◌∙◌, ℕ, List, ap, subst}
use Rattle.std.specs.Prelude.{IfOk}
use Rattle.dl_bytes.specs.declared.conf.AppSpec.{AppSpec}
use Rattle.dl_fates.specs.Calls.{calls_in}
use Rattle.dl_fates.specs.Told.{owners_in}
use Rattle.dl_fates.specs.declared.call.CallAt.{CallAt}
use Rattle.dl_call_timeline.specs.Timeline.{timeline}
use Rattle.dl_call_timeline.specs.declared.call.Call.{Call}
use Rattle.dl_events.specs.declared.event.Event.{Event}
use Rattle.dl_model.specs.WholeAccounts.{source_of_records}
use Rattle.dl_picture.specs.Picture.{Chart, picture}
use Rattle.dl_script_model.specs.declared.step.Step.{Step}
use Rattle.dl_fates.specs.Cases.{cases_of}
use Rattle.dl_why.proofs.explanation.picture_of_played.Goals as goal

pub returns : goal.returns
returns c = λ setting same.
    let played = c.args.played.now in
    let script = c.args.script.now in
    let records = played.records in
    let cases : List Event → List AppSpec → List CallAt → List Call = λ events specs calls. cases_of (source_of_records setting records specs) c.args.buffer records events calls in
    let events : c.events-events.result.now ≡ played.events.events = c.events-events.ensures in
    let specs : c.all-specs.result.now ≡ played.specs = c.all-specs.ensures in
    let calls : c.deref-2.result.now ≡ calls_in script.text.items script.steps =
    c.deref-2.ensures.value ∙ c.in_ok-calls.ensures ∙ ap (λ (text : List ℕ). calls_in text c.all.result.now) c.deref.ensures.value ∙ ap (λ (steps : List Step). calls_in script.text.items steps) c.all.ensures in
    let writers : c.deref-3.result.now ≡ owners_in script.steps = c.deref-3.ensures.value ∙ c.in_ok-writers.ensures ∙ ap (λ (steps : List Step). owners_in steps) c.all-2.ensures in
    let shown =
    c.in_ok-shown.ensures
    ∙ ap (λ (ws : List (List ℕ)). timeline c.args.ecu ws c.deref-4.result.now) writers
    ∙ ap (λ (cs : List Call). timeline c.args.ecu (owners_in script.steps) cs) (c.deref-4.ensures.value ∙ c.in_ok-cases.ensures setting same)
    ∙ ap (λ (es : List Event). timeline c.args.ecu (owners_in script.steps) (cases es c.all-specs.result.now c.deref-2.result.now)) events
    ∙ ap (λ (ss : List AppSpec). timeline c.args.ecu (owners_in script.steps) (cases played.events.events ss c.deref-2.result.now)) specs
    ∙ ap (λ (cs : List CallAt). timeline c.args.ecu (owners_in script.steps) (cases played.events.events played.specs cs)) calls in
    subst (λ (chart : Chart). IfOk c.draw.result (λ text. text.items ≡ picture chart)) shown c.draw.ensures
