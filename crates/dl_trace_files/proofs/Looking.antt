-- A folder that is looked into more than once.
use Rattle.std.proofs.Common.{◌≡◌, ℕ, Option, Some, None, refl, ap, subst, ◌∙◌}
use Rattle.std.specs.Prelude.{IfSome, Result, Ok, Err}
use Rattle.dl_outside.specs.Folder.{Answers, Files, HasCause}
use Rattle.dl_outside.specs.Outside.{Stays}
use Rattle.dl_outside.specs.Told.{FolderTold}
use Rattle.dl_outside.specs.declared.folder.FolderFault.{FolderFault}
use Rattle.dl_outside.proofs.Staying.{stays_same}
use Rattle.dl_trace_files.specs.Left.{IsLeft, ReadsFolder}

-- an answer of the same files, later
pub later : {T : Type 0} (old mid : Option Files) (r : Result T FolderFault) (of : Files → T) → Stays old mid → Answers mid r of → Answers old r of
later None mid (Ok a) of stays answers = tt
later (Some files) mid (Ok a) of stays answers = subst (λ (m : Option Files). Answers m (Ok a) of) stays answers
later None mid (Err fault) of stays answers = tt
later (Some files) mid (Err fault) of stays answers = tt

pub stays_on : (old mid new : Option Files) → Stays old mid → Stays mid new → Stays old new
stays_on None mid new first second = tt
stays_on (Some files) mid new first second = subst (λ (m : Option Files). Stays m new) first second

pub left_same : (told : FolderTold) → IsLeft told told
left_same told = record { files = stays_same told.files; changes = refl }

pub left_on : (old mid new : FolderTold) → IsLeft old mid → IsLeft mid new → IsLeft old new
left_on old mid new first second = record { files = stays_on old.files mid.files new.files first.files second.files; changes = second.changes ∙ first.changes }

pub looks_on : {T : Type 0} (old mid new : FolderTold) (r : Result T FolderFault) → IsLeft old mid → mid.faults ≡ old.faults → ReadsFolder mid new r → ReadsFolder old new r
looks_on old mid new r left well looks = record {
  left = left_on old mid new left looks.left;
  cause = subst (λ (n : ℕ). HasCause n new.faults r) well looks.cause;
}

-- an answer that is made of another one
pub answers_by : {A B : Type 0} (told : Option Files) (a : A) (b : B) (f : Files → A) (g : A → B) → IfSome told (λ files. a ≡ f files) → b ≡ g a → IfSome told (λ files. b ≡ g (f files))
answers_by None a b f g is made = tt
answers_by (Some files) a b f g is made = made ∙ ap g is
