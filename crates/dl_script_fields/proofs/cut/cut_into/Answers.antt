use Rattle.std.proofs.Common.{◌≡◌, ◌+◌, ◌-◌, ◌<◌, ap, ◌++◌, ◌∷◌, [], length, sym, ◌∙◌, arith, vec_len}
use Rattle.std.proofs.lemmas.List.{map_push}
use Rattle.std.proofs.lemmas.Str.{IsUtf8-drop}
use Rattle.dl_script_fields.specs.Fields.{fields_of, texts}
use Rattle.dl_script_fields.proofs.Cutting.{ends, breaks, goes_on}
use Rattle.dl_script_fields.proofs.cut.cut_into.Goals as goal

pub returns-then-is_empty : goal.returns-then-is_empty
returns-then-is_empty c =
    ends (texts c.loop-rest.fields.items) (length c.args.line.now - vec_len c.loop-rest.fields) c.loop-rest.text.now c.skip_blanks-rest.result.now (fields_of c.args.line.now)
    c.skip_blanks-rest.ensures.value c.loop-rest.invariant.told (sym c.is_empty.ensures ∙ c.if-is_empty.true)

pub returns-in_default : goal.returns-in_default
returns-in_default c =
    breaks (texts c.loop-rest.fields.items) (length c.args.line.now - vec_len c.loop-rest.fields) c.loop-rest.text.now c.skip_blanks-rest.result.now (fields_of c.args.line.now)
    c.skip_blanks-rest.ensures.value c.loop-rest.invariant.told (sym c.is_empty.ensures ∙ c.if-is_empty.false) (sym c.front_field.ensures.value ∙ c.in_default.is)

pub loop-rest-preserved : goal.loop-rest-preserved
loop-rest-preserved c =
    let within = c.in-Some.ensures.within in
    let grown : vec_len c.push.new.self ≡ vec_len c.loop-rest.fields + 1 = c.in_ok-push.ensures.len in
    let shorter : length c.split_at.result.1.now + c.in-Some.len ≡ length c.skip_blanks-rest.result.now = c.split_at.ensures.back_len in
    let field = c.split_at.ensures.front in
    let after = c.split_at.ensures.back in
    let pushed : texts c.push.new.self.items ≡ texts c.loop-rest.fields.items ++ c.split_at.result.0.now ∷ [] =
    ap texts c.in_ok-push.ensures.items ∙ map_push (λ x. x.now) c.loop-rest.fields.items c.split_at.result.0 in
    let room : 0 < length c.args.line.now - vec_len c.loop-rest.fields = omega (arith, within.0, within.1, c.loop-rest.invariant.used, c.skip_blanks-rest.ensures.within) in
    let fuel : length c.args.line.now - vec_len c.push.new.self ≡ length c.args.line.now - vec_len c.loop-rest.fields - 1 = omega arith in
    record {
      utf8 = rw after (IsUtf8-drop c.skip_blanks-rest.result.now c.in-Some.len c.skip_blanks-rest.utf8 c.in-Some.ensures.boundary);
      used = omega (arith, within.0, within.1, c.loop-rest.invariant.used, c.skip_blanks-rest.ensures.within);
      told = rw (pushed, fuel, field, after)
          (goes_on (texts c.loop-rest.fields.items) (length c.args.line.now - vec_len c.loop-rest.fields) c.loop-rest.text.now c.skip_blanks-rest.result.now (fields_of c.args.line.now)
          c.skip_blanks-rest.ensures.value c.loop-rest.invariant.told c.in-Some.len room (sym c.is_empty.ensures ∙ c.if-is_empty.false) (sym c.front_field.ensures.value ∙ c.in-Some.is));
    }

pub loop-rest-smaller : goal.loop-rest-smaller
loop-rest-smaller c =
    let within = c.in-Some.ensures.within in
    omega (arith, within.0, within.1, c.skip_blanks-rest.ensures.within, c.split_at.ensures.back_len)
