use Rattle.std.proofs.Common.{rules, ◌≡◌, ℕ, false, [], List, sym, ap, subst, refl, ◌∙◌}
use Rattle.std.specs.Prelude.{Some, None, cond}
use Rattle.dl_core.specs.Settings.{setting_of}
use Rattle.dl_events.specs.declared.record.Record.{Record}
use Rattle.dl_model.specs.Accounts.{AreNumbered}
use Rattle.dl_script_model.specs.Marks.{claims, journal, records}
use Rattle.dl_script_model.specs.Replay.{source_of}
use Rattle.dl_script_model.specs.Steps.{run}
use Rattle.dl_model.specs.WholeAccounts.{records_by}
use Rattle.dl_runs.specs.RunRecords.{refusals_of}
use Rattle.dl_report.specs.Clients.{ComeAndGo}
use Rattle.dl_startup.specs.Failures.{unserved}
use Rattle.dl_fates.specs.Written.{IsRotating}
use Rattle.dl_why.proofs.Explaining.{is_drawn, is_explained}
use Rattle.dl_why.proofs.explanation.explain.Goals as goal

pub text_of_played-requires-clause-numbered : goal.text_of_played-requires-clause-numbered
text_of_played-requires-clause-numbered c = λ number.
    let setting = setting_of c.args.setup.conf c.args.setup.stored 0 in
    let is = c.in_ok-played.ensures.played [] tt in
    let done = run setting is.answers c.args.script.now.steps in
    subst (λ (rs : List (List Record)). AreNumbered (records_by number rs)) (sym (is.records_are ∙ ap records is.run_is))
    (c.records_account_for_a_journal.ensures.numbered setting.first (journal done) (λ app. 0) (refusals_of done) (claims done) (records done) (c.runs_are_accounted.ensures.whole setting is.answers c.args.script.now.steps) number)

pub text_of_played-requires-clause-clients : goal.text_of_played-requires-clause-clients
text_of_played-requires-clause-clients c =
    let setting = setting_of c.args.setup.conf c.args.setup.stored 0 in
    let is = c.in_ok-played.ensures.played [] tt in
    let done = run setting is.answers c.args.script.now.steps in
    subst ComeAndGo (sym (is.events_are ∙ ap journal is.run_is))
    (c.clients_come_and_go.ensures setting (source_of setting done) (journal done) (c.scripts_are_well_formed.ensures.whole setting (source_of setting done) is.answers c.args.script.now.steps c.requires))

pub picture_where_wanted-requires-clause-numbered : goal.picture_where_wanted-requires-clause-numbered
picture_where_wanted-requires-clause-numbered c = λ number.
    let setting = setting_of c.args.setup.conf c.args.setup.stored 0 in
    let is = c.in_ok-played.ensures.played [] tt in
    let done = run setting is.answers c.args.script.now.steps in
    subst (λ (rs : List (List Record)). AreNumbered (records_by number rs)) (sym (is.records_are ∙ ap records is.run_is))
    (c.records_account_for_a_journal.ensures.numbered setting.first (journal done) (λ app. 0) (refusals_of done) (claims done) (records done) (c.runs_are_accounted.ensures.whole setting is.answers c.args.script.now.steps) number)

pub picture_where_wanted-requires-clause-clients : goal.picture_where_wanted-requires-clause-clients
picture_where_wanted-requires-clause-clients c =
    let setting = setting_of c.args.setup.conf c.args.setup.stored 0 in
    let is = c.in_ok-played.ensures.played [] tt in
    let done = run setting is.answers c.args.script.now.steps in
    subst ComeAndGo (sym (is.events_are ∙ ap journal is.run_is))
    (c.clients_come_and_go.ensures setting (source_of setting done) (journal done) (c.scripts_are_well_formed.ensures.whole setting (source_of setting done) is.answers c.args.script.now.steps c.requires))

pub returns-clause-text : goal.returns-clause-text
returns-clause-text c = λ stood rotating.
    let setting = setting_of c.args.setup.conf c.args.setup.stored 0 in
    let is = c.in_ok-played.ensures.played [] tt in
    let played = c.in_ok-played.played in
    let served : unserved played.events.events ≡ false = search rules in
    c.in_ok-text.ensures setting stood refl (subst (λ (d : List ℕ). IsRotating setting stood d c.args.rotation) (sym c.all.ensures) rotating)
    ∙ is_explained setting stood c.args.script.now.text.items c.args.script.now.steps played _ _ is refl refl served

pub returns-clause-picture : goal.returns-clause-picture
returns-clause-picture c =
    let setting = setting_of c.args.setup.conf c.args.setup.stored 0 in
    let is = c.in_ok-played.ensures.played [] tt in
    let played = c.in_ok-played.played in
    let served : unserved played.events.events ≡ false = search rules in
    c.in_ok-picture.ensures setting refl
    ∙ ap (λ (t : List ℕ). cond c.args.is_drawn (Some t) None) (is_drawn setting [] c.args.script.now.text.items c.args.script.now.steps played _ _ is refl refl served)
