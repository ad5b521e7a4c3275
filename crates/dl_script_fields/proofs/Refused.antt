-- What is of a known form.
use Rattle.std.proofs.Common.{◌≡◌, ℕ, true, leb, List, length, Option, Some, None, Result, Ok, Err, refl, ap, inl, inr}
use Rattle.std.specs.Prelude.{is_some, ◌&&◌, [], ◌∷◌}
use Rattle.std.specs.Borrow.{Bor}
use Rattle.std.specs.List.{list_all}
use Rattle.std.proofs.lemmas.Bool.{cases_Bool}
use Rattle.std.specs.Option.{ok_or}
use Rattle.dl_script_fields.specs.Kind.{◌>>=◌, made, is_of_form, formed}
use Rattle.dl_bytes.specs.Payload.{Arguments}
use Rattle.dl_args.specs.declared.arg.Arg.{Arg}
use Rattle.dl_script_fields.specs.Argument.{argument_of, arguments_of, is_argument, payload_of}
use Rattle.dl_script_fields.specs.Fields.{texts}
use Rattle.dl_script_fields.specs.declared.kind.ScriptKind.{ScriptKind}
use Rattle.dl_script_fields.specs.declared.kind.ScriptKind.TheVariants as wrong

-- ---- what is of a known form

pub as_form : {A B : Type 0} (f : A → B) (o : Option A) → is_of_form (made f wrong.Fields o) ≡ is_some o
as_form f None = refl
as_form f (Some x) = refl

-- a number or digits that are wrong are of a known form
pub as_number : {A B : Type 0} (f : A → B) (o : Option A) → is_of_form (made f wrong.Number o) ≡ true
as_number f None = refl
as_number f (Some x) = refl

pub as_digits : {A B : Type 0} (f : A → B) (o : Option A) → is_of_form (made f wrong.Hex o) ≡ true
as_digits f None = refl
as_digits f (Some x) = refl

-- what is made of a value has its form
pub as_before : {A B : Type 0} (f : A → B) (r : Result A ScriptKind) → is_of_form (r >>= λ x. Ok (f x)) ≡ is_of_form r
as_before f (Ok x) = refl
as_before f (Err k) = refl

-- what is read after another value is read after that value
pub bound : {A B : Type 0} (r : Result A ScriptKind) (f : A → Result B ScriptKind) (b : B) → (r >>= f) ≡ Ok b → (x : A) × (r ≡ Ok x) × (f x ≡ Ok b)
bound (Ok x) f b e = (x, refl, e)
bound (Err kind) f b e = absurd cc
