-- What holds of the value that a reader gives.
use Rattle.std.proofs.Common.{Bool, true, false, cond, Result, Ok, Err}
use Rattle.std.specs.Prelude.{IfOk}
use Rattle.dl_script_fields.specs.Kind.{◌>>=◌}
use Rattle.dl_script_fields.specs.declared.kind.ScriptKind.{ScriptKind}

-- the value, if there is one, is so
pub record Gives {A E : Type 0} (P : A → Type 0) (r : Result A E) : Type 0 where
  pub is : IfOk r P

pub given : {A E : Type 0} {P : A → Type 0} {x : A} → P x → Gives {E = E} P (Ok x)
given is = record { is = is }

pub refused : {A E : Type 0} {P : A → Type 0} {e : E} → Gives P (Err e)
refused = record { is = tt }

-- one thing is read after another, and this is so of the first
pub then_so : {A B : Type 0} {P : A → Type 0} {Q : B → Type 0} {r : Result A ScriptKind} {f : A → Result B ScriptKind} → Gives P r → ((x : A) → P x → Gives Q (f x)) → Gives Q (r >>= f)
then_so {r = Ok x} gives goes = goes x gives.is
then_so {r = Err kind} gives goes = refused

-- the same where nothing needs to be known of the first
pub then : {A B : Type 0} {Q : B → Type 0} {f : A → Result B ScriptKind} (r : Result A ScriptKind) → ((x : A) → Gives Q (f x)) → Gives Q (r >>= f)
then (Ok x) goes = goes x
then (Err kind) goes = refused

-- either of two results
pub either_way : {A E : Type 0} {P : A → Type 0} {r s : Result A E} (b : Bool) → Gives P r → Gives P s → Gives P (cond b r s)
either_way true first second = first
either_way false first second = second
