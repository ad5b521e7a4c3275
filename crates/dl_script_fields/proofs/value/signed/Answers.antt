use Rattle.std.proofs.Common.{◌≡◌, Some, sym, ◌∙◌, subst, refl}
use Rattle.std.specs.Prelude.{FitsSigned}
use Rattle.std.specs.Int.{w128}
use Rattle.std.proofs.lemmas.Int.{to_z-of_z}
use Rattle.dl_args.specs.Width.{int_type}
use Rattle.dl_args.specs.declared.width.Width.TheVariants.{W128}
use Rattle.dl_script_fields.specs.Value.{signed_field}
use Rattle.dl_script_fields.proofs.Numbers.{signed_fits, fitting, unfitting}
use Rattle.dl_script_fields.proofs.value.signed.Goals as goal

pub returns-then-sint_fits-clause-value : goal.returns-then-sint_fits-clause-value
returns-then-sint_fits-clause-value c =
    let told : signed_field 128 c.args.field.now ≡ Some c.in_ok-value.value = sym c.integer.ensures ∙ c.in_ok-value.was in
    let same = to_z-of_z w128 c.in_ok-value.value (signed_fits W128 c.args.field.now c.in_ok-value.value told) in
    rw same (fitting c.args.width c.args.field.now c.in_ok-value.value told (subst (FitsSigned (int_type c.args.width)) same (c.if-sint_fits.ensures.0 refl)))

pub returns-else-sint_fits-clause-value : goal.returns-else-sint_fits-clause-value
returns-else-sint_fits-clause-value c =
    let told : signed_field 128 c.args.field.now ≡ Some c.in_ok-value.value = sym c.integer.ensures ∙ c.in_ok-value.was in
    let same = to_z-of_z w128 c.in_ok-value.value (signed_fits W128 c.args.field.now c.in_ok-value.value told) in
    unfitting c.args.width c.args.field.now c.in_ok-value.value told (λ fits. let is_true = c.if-sint_fits.ensures.1 (subst (FitsSigned (int_type c.args.width)) (sym same) fits) in absurd cc)
