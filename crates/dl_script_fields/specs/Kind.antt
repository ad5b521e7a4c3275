-- What a line or a field says, or what is wrong with it.
use Rattle.std.specs.Prelude.{◌≡◌, Bool, true, false, Option, Result, Ok, Err}
use Rattle.std.specs.Option.{ok_or}
use Rattle.dl_script_fields.specs.declared.kind.ScriptKind.{ScriptKind}
use Rattle.dl_script_fields.specs.declared.kind.ScriptKind.TheVariants.{Fields}
use Rattle.dl_script_fields.specs.declared.kind.LineError.{LineError}
use Rattle.dl_script_fields.specs.declared.kind.LineError.TheVariants.{Fault, OutOfMemory}

-- one after the other: the first that is wrong decides
infixl 10 ◌>>=◌
abbrev pub ◌>>=◌ : {A B : Type 0} → Result A ScriptKind → (A → Result B ScriptKind) → Result B ScriptKind
(Ok x) >>= f = f x
(Err kind) >>= f = Err kind

-- what is made of an option's value, or what is wrong where there is none
abbrev pub made : {A B : Type 0} → (A → B) → ScriptKind → Option A → Result B ScriptKind
made f kind o = ok_or o kind >>= λ x. Ok (f x)

-- the fields may be of another kind, or too many
abbrev pub is_of_form : {A : Type 0} → Result A ScriptKind → Bool
is_of_form (Err Fields) = false
is_of_form _ = true

-- the fields are of the form that the word wants, or not
abbrev pub formed : Bool → Result Bool ScriptKind
formed true = Ok true
formed false = Err Fields

-- What was read, seen by view, is what the text says; a refusal is the one that it says. Of want of memory this says
-- nothing.
abbrev pub Says : {A B : Type 0} → (A → B) → Result A LineError → Result B ScriptKind → Type 0
Says view (Ok x) said = said ≡ Ok (view x)
Says view (Err (Fault kind)) said = said ≡ Err kind
Says view (Err OutOfMemory) said = Unit {0}
