use Rattle.std.proofs.Common.{◌≡◌, ℕ, List, ◌∙◌, refl, subst}
use Rattle.std.specs.Prelude.{negsuc}
use Rattle.dl_bytes.specs.declared.user.UserMsg.TheVariants as user
use Rattle.dl_script_model.specs.Marks.{HasContext}
use Rattle.dl_script_model.specs.Steps.{just, tell}
use Rattle.dl_world_calls.proofs.Acts.{on_ok}
use Rattle.dl_world.specs.Follows.{Does}
use Rattle.dl_world.specs.declared.world.World.{World}
use Rattle.dl_world.proofs.Declared.{declares_context, does_two}
use Rattle.dl_core.proofs.LeftFiles.{leaves_alone}
use Rattle.dl_world.proofs.world.World.declare_context.Goals as goal

pub returns-in_err-add_context-clause-leaves : goal.returns-in_err-add_context-clause-leaves
returns-in_err-add_context-clause-leaves g c = leaves_alone c.args.self.now.core c.args.self.now.core _ refl

pub returns-in_err-from_slice-clause-leaves : goal.returns-in_err-from_slice-clause-leaves
returns-in_err-from_slice-clause-leaves g c = leaves_alone c.args.self.now.core c.args.self.now.core _ refl

pub returns-clause-does : goal.returns-clause-does
returns-clause-does g c =
    let old : World = c.args.self.now in
    let context = c.args.context.now in
    let mid : World = record old { calls = c.add_context.new.self } in
    let told = (g.F.Folder.told c.args.folder.now) in
    let told_now = (g.F.Folder.told c.tell.new.folder) in
    let same : c.over-text.result ≡ context.text = c.over-text.ensures ∙ c.in_ok-from_slice.ensures.items ∙ c.all.ensures in
    let first = declares_context context old c.add_context.new.self c.in_ok-add_context.ensures told in
    on_ok c.tell.result _ _
    (λ (second : Does (λ setting answers. tell setting 0 (user.RegisterContext context.apid context.ctid 0 context.level (negsuc 0) 0 c.over-text.result)) mid c.tell.new.self told told_now).
    does_two (λ setting answers. just (HasContext context)) (λ setting answers. tell setting 0 (user.RegisterContext context.apid context.ctid 0 context.level (negsuc 0) 0 context.text)) old mid c.tell.new.self told told told_now first
    (subst (λ (text : List ℕ). Does (λ setting answers. tell setting 0 (user.RegisterContext context.apid context.ctid 0 context.level (negsuc 0) 0 text)) mid c.tell.new.self told told_now) same second))
    c.tell.ensures.does
