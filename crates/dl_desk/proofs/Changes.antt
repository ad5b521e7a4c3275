-- What follows from an answer, by cases.
use Rattle.std.specs.Prelude.{Result, Ok, Err, OnOk, OnErr}

pub on_ok : {A E : Type 0} (r : Result A E) (P Q : Type 0) → (P → Q) → OnOk r P → OnOk r Q
on_ok (Ok x) P Q so is = so is
on_ok (Err e) P Q so is = tt

pub on_err : {A E : Type 0} (r : Result A E) (P Q : Type 0) → (P → Q) → OnErr r P → OnErr r Q
on_err (Ok x) P Q so is = tt
on_err (Err e) P Q so is = so is
