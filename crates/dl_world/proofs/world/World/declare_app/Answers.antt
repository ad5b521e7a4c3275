use Rattle.std.proofs.Common.{◌≡◌, ℕ, List, ◌∙◌, refl, subst}
use Rattle.dl_bytes.specs.declared.user.UserMsg.TheVariants as user
use Rattle.dl_script_model.specs.Marks.{HasApp}
use Rattle.dl_script_model.specs.Steps.{just, tell}
use Rattle.dl_world_calls.proofs.Acts.{on_ok}
use Rattle.dl_world.specs.Follows.{Does}
use Rattle.dl_world.specs.declared.world.World.{World}
use Rattle.dl_world.proofs.Declared.{declares_app, does_two}
use Rattle.dl_core.proofs.LeftFiles.{leaves_alone}
use Rattle.dl_world.proofs.world.World.declare_app.Goals as goal

pub returns-in_err-add_app-clause-leaves : goal.returns-in_err-add_app-clause-leaves
returns-in_err-add_app-clause-leaves g c = leaves_alone c.args.self.now.core c.args.self.now.core _ refl

pub returns-in_err-from_slice-clause-leaves : goal.returns-in_err-from_slice-clause-leaves
returns-in_err-from_slice-clause-leaves g c = leaves_alone c.args.self.now.core c.args.self.now.core _ refl

pub returns-clause-does : goal.returns-clause-does
returns-clause-does g c =
    let old : World = c.args.self.now in
    let app = c.args.app.now in
    let mid : World = record old { calls = c.add_app.new.self } in
    let told = (g.F.Folder.told c.args.folder.now) in
    let told_now = (g.F.Folder.told c.tell.new.folder) in
    let same : c.over-text.result ≡ app.text = c.over-text.ensures ∙ c.in_ok-from_slice.ensures.items ∙ c.all.ensures in
    let first = declares_app app old c.add_app.new.self c.requires.few c.in_ok-add_app.ensures.does told in
    on_ok c.tell.result _ _
    (λ (second : Does (λ setting answers. tell setting 0 (user.RegisterApp app.apid 0 c.over-text.result)) mid c.tell.new.self told told_now).
    does_two (λ setting answers. just (HasApp app)) (λ setting answers. tell setting 0 (user.RegisterApp app.apid 0 app.text)) old mid c.tell.new.self told told told_now first
    (subst (λ (text : List ℕ). Does (λ setting answers. tell setting 0 (user.RegisterApp app.apid 0 text)) mid c.tell.new.self told told_now) same second))
    c.tell.ensures.does
