use Rattle.std.proofs.Common.{◌≡◌, ◌∙◌, ◌++◌, ℕ, List, None, ap}
use Rattle.dl_bytes.specs.declared.conf.AppSpec.{AppSpec}
use Rattle.dl_fates.specs.Calls.{calls_in}
use Rattle.dl_fates.specs.ClaimLines.{claims_in}
use Rattle.dl_fates.specs.declared.call.CallAt.{CallAt}
use Rattle.dl_fates.specs.declared.claim_lines.ClaimAt.{ClaimAt}
use Rattle.dl_events.specs.declared.event.Event.{Event}
use Rattle.dl_model.specs.Report.{report}
use Rattle.dl_model.specs.WholeAccounts.{source_of_records}
use Rattle.dl_script_model.specs.declared.step.Step.{Step}
use Rattle.dl_fates.specs.Rows.{more_words, rows_of}
use Rattle.dl_why.proofs.explanation.text_of_played.Goals as goal

pub returns : goal.returns
returns c = λ setting stood same rotating.
    let played = c.args.played.now in
    let script = c.args.script.now in
    let records = played.records in
    let rows : List Event → List AppSpec → List CallAt → List ClaimAt → List ℕ = λ events specs calls claims.
    rows_of (source_of_records setting records specs) c.args.buffer records events specs (more_words setting stood (source_of_records setting records specs) events claims) calls in
    let told : List Event → List AppSpec → List ℕ = λ events specs. report records events specs played.ends played.backlog None in
    let events : c.events-events.result.now ≡ played.events.events = c.events-events.ensures in
    let specs : c.all-specs.result.now ≡ played.specs = c.all-specs.ensures in
    let calls : c.deref-3.result.now ≡ calls_in script.text.items script.steps =
    c.deref-3.ensures.value ∙ c.in_ok-calls.ensures ∙ ap (λ (text : List ℕ). calls_in text c.all.result.now) c.deref.ensures.value ∙ ap (λ (steps : List Step). calls_in script.text.items steps) c.all.ensures in
    let claims : c.deref-4.result.now ≡ claims_in script.text.items script.steps =
    c.deref-4.ensures.value ∙ c.in_ok-claims.ensures ∙ ap (λ (text : List ℕ). claims_in text c.all-2.result.now) c.deref-2.ensures.value ∙ ap (λ (steps : List Step). claims_in script.text.items steps) c.all-2.ensures in
    let es = c.events-events.result.now in
    let ss = c.all-specs.result.now in
    c.in_ok-extend_from_slice.ensures.items
    ∙ ap (λ (text : List ℕ). text ++ c.all-3.result.now) (c.in_ok-push_findings.ensures setting stood same rotating ∙ ap (λ (text : List ℕ). text ++ rows es ss c.deref-3.result.now c.deref-4.result.now) c.new-text.ensures.items)
    ∙ ap (λ (text : List ℕ). rows es ss c.deref-3.result.now c.deref-4.result.now ++ text) (c.all-3.ensures ∙ c.in_ok-report.ensures.text)
    ∙ ap (λ (l : List Event). rows l ss c.deref-3.result.now c.deref-4.result.now ++ told l ss) events
    ∙ ap (λ (l : List AppSpec). rows played.events.events l c.deref-3.result.now c.deref-4.result.now ++ told played.events.events l) specs
    ∙ ap (λ (l : List CallAt). rows played.events.events played.specs l c.deref-4.result.now ++ told played.events.events played.specs) calls
    ∙ ap (λ (l : List ClaimAt). rows played.events.events played.specs (calls_in script.text.items script.steps) l ++ told played.events.events played.specs) claims
