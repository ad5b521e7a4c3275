-- What a field says as an argument has a written form.
use Rattle.std.proofs.Common.{◌≡◌, ℕ, ◌+◌, ◌*◌, ◌≤◌, Bool, true, false, ◌&&◌, leb, cond, List, [], ◌∷◌, length, Option, Some, None, Result, Ok, Err, refl, subst, length-append, append-nil, arith}
use Rattle.std.specs.Option.{option_map_or, ok_or}
use Rattle.std.specs.List.{AllByRecursion, flat_map}
use Rattle.std.proofs.lemmas.Bool.{leb-true, and_parts}
use Rattle.dl_bytes.specs.Payload.{Arguments}
use Rattle.dl_bytes.specs.declared.cursor.Order.TheVariants.{Little}
use Rattle.dl_args.specs.Argument.{written, IsValue, IsWritable}
use Rattle.dl_args.specs.Reading as reading
use Rattle.dl_args.specs.Width.{byte_count}
use Rattle.dl_args.specs.declared.arg.Arg.{Arg}
use Rattle.dl_args.specs.declared.arg.Arg.TheVariants as arg
use Rattle.dl_args.proofs.WrittenForms.{written_again}
use Rattle.dl_script_fields.specs.Kind.{◌>>=◌, made}
use Rattle.dl_script_fields.specs.Argument.{unescaped, truth_of, fill_of, raw_of, kind_of, value_by_kind, parted, behind_quote, quoted_value, word_value, value_of, may_name, with_name, behind_named, named_of, argument_of, arguments_of, payload_of}
use Rattle.dl_script_fields.specs.declared.kind.ScriptKind.{ScriptKind}
use Rattle.dl_script_fields.specs.declared.kind.ScriptKind.TheVariants as wrong
use Rattle.dl_script_fields.specs.Value.{unsigned_field, signed_field}
use Rattle.dl_script_fields.specs.declared.argument.Kind.{Kind}
use Rattle.dl_script_fields.specs.declared.argument.Kind.TheVariants as kind
use Rattle.dl_script_fields.proofs.Numbers.{signed_fits, unsigned_fits}
use Rattle.dl_script_fields.proofs.Refused.{bound}

-- what is behind a value that was made
mapped : {A B : Type 0} (f : A → B) (k : ScriptKind) (o : Option A) (b : B) → made f k o ≡ Ok b → (x : A) × (o ≡ Some x) × (f x ≡ b)
mapped f k None b e = absurd cc
mapped f k (Some x) b e = let is : f x ≡ b = cc in (x, refl, is)

chosen : {A : Type 0} (t : Bool) (r : Result A ScriptKind) (k : ScriptKind) (a : A) → cond t r (Err k) ≡ Ok a → (t ≡ true) × (r ≡ Ok a)
chosen true r k a e = (refl, e)
chosen false r k a e = absurd cc

kept : {A : Type 0} (t : Bool) (o : Option A) (a : A) → cond t o None ≡ Some a → (t ≡ true) × (o ≡ Some a)
kept true o a e = (refl, e)
kept false o a e = absurd cc

by_kind : (k : Kind) (text : List ℕ) (a : Arg) → value_by_kind k text ≡ Ok a → IsValue a
by_kind kind.Bool text a e = let m = mapped (arg.Bool None) wrong.Fields (truth_of text) a e in subst IsValue m.2 tt
by_kind kind.Fill text a e = let m = mapped (λ letters. arg.Text None letters true) wrong.Number (fill_of text) a e in subst IsValue m.2 refl
by_kind kind.Raw text a e = let m = mapped (arg.Raw None) wrong.Hex (raw_of text) a e in subst IsValue m.2 tt
by_kind (kind.Sint width) text a e =
    let m = mapped (arg.Sint None None width) wrong.Number (signed_field (8 * byte_count width) text) a e in subst IsValue m.2 (refl, signed_fits width text m.0 m.1)
by_kind (kind.Uint width) text a e =
    let m = mapped (arg.Uint None None width) wrong.Number (unsigned_field (8 * byte_count width) text) a e in subst IsValue m.2 (refl, unsigned_fits width text m.0 m.1)

quoted_is : (text : List ℕ) (a : Arg) → quoted_value text ≡ Ok a → IsValue a
quoted_is text a e = let m = mapped (λ text. arg.Text None text true) wrong.Fields (unescaped text) a e in subst IsValue m.2 refl

word_is : (text : List ℕ) (a : Arg) → word_value text ≡ Ok a → IsValue a
word_is text a e =
    let parts = bound (ok_or (parted text) wrong.Fields) (λ parts. ok_or (kind_of parts.0) wrong.Fields >>= λ kind. value_by_kind kind parts.1) a e in
    let k = bound (ok_or (kind_of parts.0.0) wrong.Fields) (λ kind. value_by_kind kind parts.0.1) a parts.2 in
    by_kind k.0 parts.0.1 a k.2

by_front : (o : Option (List ℕ)) (text : List ℕ) (a : Arg) → option_map_or quoted_value o (word_value text) ≡ Ok a → IsValue a
by_front None text a e = word_is text a e
by_front (Some quoted) text a e = quoted_is quoted a e

value_is : (text : List ℕ) (a : Arg) → value_of text ≡ Ok a → IsValue a
value_is text a e = by_front (behind_quote text) text a e

named_is : (name unit : List ℕ) (value : Arg) → IsValue value → IsValue (with_name name unit value)
named_is name unit (arg.Bool n truth) is = tt
named_is name unit (arg.Sint n u width z) is = (refl, is.1)
named_is name unit (arg.Uint n u width x) is = (refl, is.1)
named_is name unit (arg.Text n text utf8) is = is
named_is name unit (arg.Raw n bytes) is = tt

named_value_is : (text : List ℕ) (a : Arg) → named_of text ≡ Ok a → IsValue a
named_value_is text a e =
    let name = bound (ok_or (parted text) wrong.Fields) (λ name. ok_or (parted name.1) wrong.Fields >>= λ unit. cond (may_name name.0 unit.0 unit.1) (value_of unit.1 >>= λ value. Ok (with_name name.0 unit.0 value)) (Err wrong.Fields)) a e in
    let unit = bound (ok_or (parted name.0.1) wrong.Fields) (λ unit. cond (may_name name.0.0 unit.0 unit.1) (value_of unit.1 >>= λ value. Ok (with_name name.0.0 unit.0 value)) (Err wrong.Fields)) a name.2 in
    let value = chosen (may_name name.0.0 unit.0.0 unit.0.1) (value_of unit.0.1 >>= λ value. Ok (with_name name.0.0 unit.0.0 value)) wrong.Fields a unit.2 in
    let said = bound (value_of unit.0.1) (λ value. Ok (with_name name.0.0 unit.0.0 value)) a value.1 in
    let same : with_name name.0.0 unit.0.0 said.0 ≡ a = let some = said.2 in cc in
    subst IsValue same (named_is name.0.0 unit.0.0 said.0 (value_is unit.0.1 said.0 said.1))

by_name : (o : Option (List ℕ)) (field : List ℕ) (a : Arg) → option_map_or named_of o (value_of field) ≡ Ok a → IsValue a
by_name None field a e = value_is field a e
by_name (Some text) field a e = named_value_is text a e

argument_is : (field : List ℕ) (a : Arg) → argument_of field ≡ Ok a → IsValue a
argument_is field a e = by_name (behind_named field) field a e

arguments_are : (fields : List (List ℕ)) (args : List Arg) → arguments_of fields ≡ Ok args → AllByRecursion IsValue args
arguments_are [] args e = let same : [] ≡ args = cc in subst (AllByRecursion IsValue) same tt
arguments_are (field ∷ fields) args e =
    let first = bound (argument_of field) (λ first. arguments_of fields >>= λ others. Ok (first ∷ others)) args e in
    let others = bound (arguments_of fields) (λ others. Ok (first.0 ∷ others)) args first.2 in
    let same : first.0 ∷ others.0 ≡ args = let some = others.2 in cc in
    subst (AllByRecursion IsValue) same (argument_is field first.0 first.1, arguments_are fields others.0 others.1)

-- what fits a payload has a written form
writable : (args : List Arg) → AllByRecursion IsValue args → length (flat_map written args) ≤ 1390 → AllByRecursion IsWritable args
writable [] are within = tt
writable (a ∷ args) are within =
    let both : length (written a) + length (flat_map written args) ≤ 1390 = simp length-append at within in
    (record { value = are.0; len = omega arith }, writable args are.1 (omega arith))

pub read_again : (fields : List (List ℕ)) (args : List Arg) (payload : Arguments) → arguments_of fields ≡ Ok args → payload_of args ≡ Some payload
    → reading.arguments_of Little payload.args payload.bytes ≡ Ok args
read_again fields args payload said made =
    let whole : Arguments = record { bytes = flat_map written args; args = length args } in
    let fits = kept (leb (length (flat_map written args)) 1390 && leb (length args) 255) (Some whole) payload made in
    let within : length (flat_map written args) ≤ 1390 = leb-true _ 1390 (and_parts (leb (length (flat_map written args)) 1390) (leb (length args) 255) fits.0).0 in
    let same : whole ≡ payload = let some = fits.1 in cc in
    let again : reading.arguments_of Little (length args) (flat_map written args) ≡ Ok args = rw append-nil at (written_again args [] (writable args (arguments_are fields args said) within)) in
    subst (λ (p : Arguments). reading.arguments_of Little p.args p.bytes ≡ Ok args) same again
