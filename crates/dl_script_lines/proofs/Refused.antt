-- What is of a known form.
use Rattle.std.proofs.Common.{◌≡◌, ℕ, true, leb, List, length, Option, Some, None, Result, Ok, Err, refl, ap, inl, inr}
use Rattle.std.specs.Prelude.{is_some, ◌&&◌, [], ◌∷◌}
use Rattle.std.specs.Borrow.{Bor}
use Rattle.std.specs.List.{list_all}
use Rattle.std.proofs.lemmas.Bool.{cases_Bool}
use Rattle.std.specs.Option.{ok_or}
use Rattle.dl_script_fields.specs.Kind.{◌>>=◌, made, is_of_form, formed}
use Rattle.dl_bytes.specs.Payload.{Arguments}
use Rattle.dl_args.specs.declared.arg.Arg.{Arg}
use Rattle.dl_script_fields.specs.Argument.{argument_of, arguments_of, is_argument, payload_of}
use Rattle.dl_script_fields.specs.Fields.{texts}
use Rattle.dl_script_fields.proofs.Refused.{bound}
use Rattle.dl_script_lines.specs.Line.{short, payload_fields}
use Rattle.dl_script_fields.specs.declared.kind.ScriptKind.{ScriptKind}
use Rattle.dl_script_fields.specs.declared.kind.ScriptKind.TheVariants as wrong

-- ---- a text in quotes

short_or_long : (text : List ℕ) → is_of_form (short text) ≡ true
short_or_long text = elim (cases_Bool (leb (length text) 255)) [
  | inl within ↦ rw within refl
  | inr above ↦ rw above refl
]

pub as_text : (o : Option (List ℕ)) → is_of_form (ok_or o wrong.Fields >>= short) ≡ is_some o
as_text None = refl
as_text (Some text) = short_or_long text

-- ---- fields as the code holds them

pub all_texts : (fields : List (Bor (List ℕ))) → list_all (λ field. is_argument field.now) fields ≡ list_all is_argument (texts fields)
all_texts [] = refl
all_texts (field ∷ fields) = ap (λ all. is_argument field.now && all) (all_texts fields)

-- ---- what is read is of a known form

all_read : (fields : List (List ℕ)) (args : List Arg) → arguments_of fields ≡ Ok args → list_all is_argument fields ≡ true
all_read [] args e = refl
all_read (field ∷ fields) args e =
    let first = bound (argument_of field) (λ first. arguments_of fields >>= λ others. Ok (first ∷ others)) args e in
    let others = bound (arguments_of fields) (λ others. Ok (first.0 ∷ others)) args first.2 in
    rw (ap is_of_form first.1, all_read fields others.0 others.1) refl

pub payload_read : (fields : List (List ℕ)) (payload : Option Arguments) → payload_fields fields ≡ Ok payload → formed (list_all is_argument fields) ≡ Ok true
payload_read fields payload e =
    let args = bound (arguments_of fields) (λ args. Ok (payload_of args)) payload e in
    ap formed (all_read fields args.0 args.1)
