use Rattle.std.proofs.Common.{◌≡◌, ◌∙◌, ℕ, List, refl, sym, ap, subst}
use Rattle.std.specs.Prelude.{None}
use Rattle.dl_script_model.specs.declared.step.Step.{Step}
use Rattle.dl_script_model.specs.declared.step.Step.TheVariants as line
use Rattle.dl_script.specs.Earlier.{refusal}
use Rattle.dl_script.specs.Playable.{IsInBounds}
use Rattle.dl_script.specs.Spelled.{step_claim}
use Rattle.dl_core.specs.State.{Core}
use Rattle.dl_world_calls.proofs.Acts.{on_ok}
use Rattle.dl_world.proofs.Claims.{owner_is_known, contexts_are_few, has_place}
use Rattle.dl_world.proofs.Declared.{declares_writer}
use Rattle.dl_core.proofs.LeftFiles.{leaves_alone}
use Rattle.dl_world.proofs.StepLines.{of_line, levels_line}
use Rattle.dl_world.proofs.world.World.step.Goals as goal

pub declare_context-requires-clause-few : goal.declare_context-requires-clause-few
declare_context-requires-clause-few g c =
    let may = c.requires.known in
    contexts_are_few may.known may.done c.args.self.now.calls c.in-Context.context.apid c.in-Context.context.ctid may.is_known may.after.so_far.calls_so
    (subst (λ (step : Step). refusal may.known (step_claim step) ≡ None) c.in-Context.is may.admitted)

pub add_writer-requires-clause-known : goal.add_writer-requires-clause-known
add_writer-requires-clause-known g c =
    let may = c.requires.known in
    owner_is_known may.known may.done c.args.self.now.calls c.in-Writer.apid may.is_known may.after.so_far.calls_so
    (subst (λ (step : Step). refusal may.known (step_claim step) ≡ None) c.in-Writer.is may.admitted)

pub declare_app-requires-clause-text : goal.declare_app-requires-clause-text
declare_app-requires-clause-text g c = (subst IsInBounds c.in-App.is c.requires.known.bounds).1

pub claim-requires-clause-place : goal.claim-requires-clause-place
claim-requires-clause-place g c =
    let may = c.requires.known in
    has_place may.known may.done c.args.self.now.calls c.in-Claim.asked.writer c.in-Claim.asked.ctid may.is_known may.after.so_far.calls_so
    (subst (λ (step : Step). refusal may.known (step_claim step) ≡ None) c.in-Claim.is may.admitted)

pub claim-requires-clause-named : goal.claim-requires-clause-named
claim-requires-clause-named g c = (subst IsInBounds c.in-Claim.is c.requires.known.bounds).0

pub register-requires-clause-place : goal.register-requires-clause-place
register-requires-clause-place g c =
    let may = c.requires.known in
    has_place may.known may.done c.args.self.now.calls c.in-Register.asked.writer c.in-Register.asked.ctid may.is_known may.after.so_far.calls_so
    (subst (λ (step : Step). refusal may.known (step_claim step) ≡ None) c.in-Register.is may.admitted)

pub register-requires-clause-named : goal.register-requires-clause-named
register-requires-clause-named g c = (subst IsInBounds c.in-Register.is c.requires.known.bounds).0

pub returns-in-App-clause-does : goal.returns-in-App-clause-does
returns-in-App-clause-does g c = of_line c.declare_app.result c.in-App.is c.args.self.now c.declare_app.new.self _ _ c.declare_app.ensures.does

pub returns-in-Context-clause-does : goal.returns-in-Context-clause-does
returns-in-Context-clause-does g c = of_line c.declare_context.result c.in-Context.is c.args.self.now c.declare_context.new.self _ _ c.declare_context.ensures.does

pub returns-in-Writer-clause-does : goal.returns-in-Writer-clause-does
returns-in-Writer-clause-does g c =
    let told = (g.F.Folder.told c.args.folder.now) in
    of_line c.add_writer.result c.in-Writer.is c.args.self.now (record c.args.self.now { calls = c.add_writer.new.self }) told told
    (on_ok c.add_writer.result _ _ (λ does. declares_writer c.in-Writer.apid c.args.self.now c.add_writer.new.self does told) c.add_writer.ensures)

pub returns-in-Writer-clause-leaves : goal.returns-in-Writer-clause-leaves
returns-in-Writer-clause-leaves g c = leaves_alone c.args.self.now.core c.args.self.now.core _ refl

pub returns-in-Clock-clause-does : goal.returns-in-Clock-clause-does
returns-in-Clock-clause-does g c =
    let told = (g.F.Folder.told c.args.folder.now) in
    of_line c.set_clock.result c.in-Clock.is c.args.self.now c.set_clock.new.self told told (on_ok c.set_clock.result _ _ (λ doing. doing told) c.set_clock.ensures.does)

pub returns-in-Clock-clause-leaves : goal.returns-in-Clock-clause-leaves
returns-in-Clock-clause-leaves g c = leaves_alone c.args.self.now.core c.set_clock.new.self.core _ (ap (λ (core : Core). core.trace) c.set_clock.ensures.trace)

pub returns-in-Load-clause-does : goal.returns-in-Load-clause-does
returns-in-Load-clause-does g c =
    let told = (g.F.Folder.told c.args.folder.now) in
    of_line c.begin_call.result c.in-Load.is c.args.self.now c.begin_call.new.self told told (on_ok c.begin_call.result _ _ (λ doing. doing told) c.begin_call.ensures.does)

pub returns-in-Load-clause-leaves : goal.returns-in-Load-clause-leaves
returns-in-Load-clause-leaves g c = leaves_alone c.args.self.now.core c.begin_call.new.self.core _ (ap (λ (core : Core). core.trace) c.begin_call.ensures.core)

pub returns-in-Push-clause-does : goal.returns-in-Push-clause-does
returns-in-Push-clause-does g c =
    let told = (g.F.Folder.told c.args.folder.now) in
    of_line c.push.result c.in-Push.is c.args.self.now c.push.new.self told told (on_ok c.push.result _ _ (λ doing. doing told) c.push.ensures.does)

pub returns-in-Push-clause-leaves : goal.returns-in-Push-clause-leaves
returns-in-Push-clause-leaves g c = leaves_alone c.args.self.now.core c.push.new.self.core _ (ap (λ (core : Core). core.trace) c.push.ensures.core)

pub returns-in-Count-clause-does : goal.returns-in-Count-clause-does
returns-in-Count-clause-does g c =
    let told = (g.F.Folder.told c.args.folder.now) in
    of_line c.count.result c.in-Count.is c.args.self.now c.count.new.self told told (on_ok c.count.result _ _ (λ doing. doing told) c.count.ensures.does)

pub returns-in-Count-clause-leaves : goal.returns-in-Count-clause-leaves
returns-in-Count-clause-leaves g c = leaves_alone c.args.self.now.core c.count.new.self.core _ (ap (λ (core : Core). core.trace) c.count.ensures.core)

pub returns-in-Call-clause-does : goal.returns-in-Call-clause-does
returns-in-Call-clause-does g c =
    let told = (g.F.Folder.told c.args.folder.now) in
    of_line c.whole_call.result c.in-Call.is c.args.self.now c.whole_call.new.self told told (on_ok c.whole_call.result _ _ (λ doing. doing told) c.whole_call.ensures.does)

pub returns-in-Call-clause-leaves : goal.returns-in-Call-clause-leaves
returns-in-Call-clause-leaves g c = leaves_alone c.args.self.now.core c.whole_call.new.self.core _ (ap (λ (core : Core). core.trace) c.whole_call.ensures.core)

pub returns-in-Log-clause-does : goal.returns-in-Log-clause-does
returns-in-Log-clause-does g c = of_line c.log.result c.in-Log.is c.args.self.now c.log.new.self _ _ c.log.ensures.does

pub returns-in-Claim-clause-does : goal.returns-in-Claim-clause-does
returns-in-Claim-clause-does g c =
    let told = (g.F.Folder.told c.args.folder.now) in
    of_line c.claim.result c.in-Claim.is c.args.self.now c.claim.new.self told told (on_ok c.claim.result _ _ (λ doing. doing told) c.claim.ensures.does)

pub returns-in-Claim-clause-leaves : goal.returns-in-Claim-clause-leaves
returns-in-Claim-clause-leaves g c = leaves_alone c.args.self.now.core c.claim.new.self.core _ (ap (λ (core : Core). core.trace) c.claim.ensures.core)

pub returns-in-Announce-clause-does : goal.returns-in-Announce-clause-does
returns-in-Announce-clause-does g c =
    let told = (g.F.Folder.told c.args.folder.now) in
    of_line c.announce.result c.in-Announce.is c.args.self.now c.announce.new.self told told (on_ok c.announce.result _ _ (λ doing. doing told) c.announce.ensures.does)

pub returns-in-Announce-clause-leaves : goal.returns-in-Announce-clause-leaves
returns-in-Announce-clause-leaves g c = leaves_alone c.args.self.now.core c.announce.new.self.core _ (ap (λ (core : Core). core.trace) c.announce.ensures.core)

pub returns-in-Register-clause-does : goal.returns-in-Register-clause-does
returns-in-Register-clause-does g c =
    let told = (g.F.Folder.told c.args.folder.now) in
    of_line c.register.result c.in-Register.is c.args.self.now c.register.new.self told told (on_ok c.register.result _ _ (λ doing. doing told) c.register.ensures.does)

pub returns-in-Register-clause-leaves : goal.returns-in-Register-clause-leaves
returns-in-Register-clause-leaves g c = leaves_alone c.args.self.now.core c.register.new.self.core _ (ap (λ (core : Core). core.trace) c.register.ensures.core)

pub returns-in-Take-clause-does : goal.returns-in-Take-clause-does
returns-in-Take-clause-does g c = of_line c.take_of.result c.in-Take.is c.args.self.now c.take_of.new.self _ _ c.take_of.ensures.does

pub returns-in-Losses-clause-does : goal.returns-in-Losses-clause-does
returns-in-Losses-clause-does g c = of_line c.losses_of.result c.in-Losses.is c.args.self.now c.losses_of.new.self _ _ c.losses_of.ensures.does

pub returns-in-Levels-clause-does : goal.returns-in-Levels-clause-does
returns-in-Levels-clause-does g c =
    let told = (g.F.Folder.told c.args.folder.now) in
    of_line c.set_levels.result c.in-Levels.is c.args.self.now c.set_levels.new.self told told
    (on_ok c.set_levels.result _ _ (λ doing. levels_line c.in-Levels.levels c.args.self.now c.set_levels.new.self told (doing told)) c.set_levels.ensures.does)

pub returns-in-Levels-clause-leaves : goal.returns-in-Levels-clause-leaves
returns-in-Levels-clause-leaves g c = leaves_alone c.args.self.now.core c.set_levels.new.self.core _ (ap (λ (core : Core). core.trace) c.set_levels.ensures.trace)

pub returns-in-Level-clause-does : goal.returns-in-Level-clause-does
returns-in-Level-clause-does g c =
    let told = (g.F.Folder.told c.args.folder.now) in
    of_line c.level.result c.in-Level.is c.args.self.now c.level.new.self told told (on_ok c.level.result _ _ (λ doing. doing told) c.level.ensures.does)

pub returns-in-Level-clause-leaves : goal.returns-in-Level-clause-leaves
returns-in-Level-clause-leaves g c = leaves_alone c.args.self.now.core c.level.new.self.core _ c.level.ensures.trace

pub returns-in-Connect-clause-does : goal.returns-in-Connect-clause-does
returns-in-Connect-clause-does g c =
    let told = (g.F.Folder.told c.args.folder.now) in
    of_line c.connect.result c.in-Connect.is c.args.self.now c.connect.new.self told told (on_ok c.connect.result _ _ (λ doing. doing told) c.connect.ensures.does)

pub returns-in-Connect-clause-leaves : goal.returns-in-Connect-clause-leaves
returns-in-Connect-clause-leaves g c = leaves_alone c.args.self.now.core c.connect.new.self.core _ c.connect.ensures.trace

pub returns-in-Bytes-clause-does : goal.returns-in-Bytes-clause-does
returns-in-Bytes-clause-does g c =
    of_line c.receive.result (c.in-Bytes.is ∙ ap (λ (bytes : List ℕ). line.Bytes c.in-Bytes.client bytes) (sym c.all.ensures)) c.args.self.now c.receive.new.self _ _ c.receive.ensures.does

pub returns-in-Close-clause-does : goal.returns-in-Close-clause-does
returns-in-Close-clause-does g c =
    let told = (g.F.Folder.told c.args.folder.now) in
    of_line c.close.result c.in-Close.is c.args.self.now c.close.new.self told told (on_ok c.close.result _ _ (λ doing. doing told) c.close.ensures.does)

pub returns-in-Close-clause-leaves : goal.returns-in-Close-clause-leaves
returns-in-Close-clause-leaves g c = leaves_alone c.args.self.now.core c.close.new.self.core _ c.close.ensures.trace

pub returns-in-User-clause-does : goal.returns-in-User-clause-does
returns-in-User-clause-does g c =
    of_line c.hear.result (c.in-User.is ∙ ap (λ (bytes : List ℕ). line.User c.in-User.channel bytes) (sym c.all-in-User.ensures)) c.args.self.now c.hear.new.self _ _ c.hear.ensures.does

pub returns-in-Inject-clause-does : goal.returns-in-Inject-clause-does
returns-in-Inject-clause-does g c =
    let told = (g.F.Folder.told c.args.folder.now) in
    of_line c.injection_of.result c.in-Inject.is c.args.self.now c.injection_of.new.self told told (on_ok c.injection_of.result _ _ (λ doing. doing told) c.injection_of.ensures.does)

pub returns-in-Inject-clause-leaves : goal.returns-in-Inject-clause-leaves
returns-in-Inject-clause-leaves g c = leaves_alone c.args.self.now.core c.injection_of.new.self.core _ (ap (λ (core : Core). core.trace) c.injection_of.ensures.trace)
