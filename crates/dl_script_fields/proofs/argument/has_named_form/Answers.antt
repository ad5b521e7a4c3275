use Rattle.std.proofs.Common.{◌≡◌, ℕ, true, List, Some, sym, ◌∙◌}
use Rattle.dl_script_fields.specs.Argument.{parted, may_name, value_of, with_name, named_of}
use Rattle.dl_script_fields.specs.Kind.{is_of_form}
use Rattle.dl_script_fields.proofs.Refused.{as_before}
use Rattle.dl_script_fields.proofs.argument.has_named_form.Goals as goal

named_form : (text name rest unit value : List ℕ) → Some (name, rest) ≡ parted text → Some (unit, value) ≡ parted rest → may_name name unit value ≡ true
    → is_of_form (value_of value) ≡ is_of_form (named_of text)
named_form text name rest unit value first second may = rw (← first, ← second, may) (sym (as_before (with_name name unit) (value_of value)))

pub returns-then-may_name : goal.returns-then-may_name
returns-then-may_name c =
    c.has_value_form.ensures ∙ named_form c.args.text.now c.in-Some.name.now c.in-Some.rest.now c.in-Some-parted.unit.now c.in-Some-parted.value.now
    c.in-Some.ensures c.in-Some-parted.ensures (sym c.may_name.ensures ∙ c.if-may_name.true)
