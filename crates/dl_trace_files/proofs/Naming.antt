-- The files that names stand for.
use Rattle.std.proofs.Common.{◌≡◌, Bool, true, false, List, [], ◌∷◌, ◌++◌, Option, Some, None, refl, sym, ap, subst, ◌∙◌}
use Rattle.std.specs.Prelude.{IfSome, Result, Ok, Err, if◌then◌else◌, ℕ}
use Rattle.std.specs.List.{flat_map}
use Rattle.std.proofs.lemmas.Grind.{flat_map-append}
use Rattle.std.proofs.lemmas.List.{append-nil}
use Rattle.dl_outside.specs.Folder.{Answers, Files}
use Rattle.dl_outside.specs.Outside.{Stays}
use Rattle.dl_outside.specs.Told.{FolderTold}
use Rattle.dl_outside.specs.declared.folder.FolderFault.{FolderFault}
use Rattle.dl_trace_files.specs.Files.{files_of, front_in, is_file, listed, or_itself, plain, with_name, with_names}
use Rattle.dl_trace_files.specs.Left.{IsLeft, ReadsFolder}
use Rattle.dl_trace_files.proofs.Looking.{later, left_on, left_same}

-- the files of a name, by whether a file has it
abbrev files_if : Files → List ℕ → Bool → List (List ℕ)
files_if files name b = if b then plain name ∷ [] else or_itself name (listed files (front_in (plain name)))

-- a name that a file has
pub file_alone : (told : Option Files) (name short : List ℕ) (names : List (List ℕ)) → short ≡ plain name → IfSome told (λ files. true ≡ is_file files short) → names ≡ short ∷ []
    → IfSome told (λ files. names ≡ files_of files name)
file_alone None name short names is file alone = tt
file_alone (Some files) name short names is file alone =
    alone ∙ ap (λ s. s ∷ []) is ∙ ap (files_if files name) (file ∙ ap (is_file files) is)

other : (told : Option Files) (name short : List ℕ) (names : List (List ℕ)) → short ≡ plain name → IfSome told (λ files. false ≡ is_file files short)
    → IfSome told (λ files. names ≡ or_itself name (listed files (front_in short))) → IfSome told (λ files. names ≡ files_of files name)
other None name short names is file found = tt
other (Some files) name short names is file found =
    found ∙ ap (λ s. or_itself name (listed files (front_in s))) is ∙ ap (files_if files name) (file ∙ ap (is_file files) is)

-- a name that no file has
pub in_folder : (old mid : Option Files) (name short : List ℕ) (r : Result (List (List ℕ)) FolderFault) → short ≡ plain name → IfSome old (λ files. false ≡ is_file files short) → Stays old mid
    → Answers mid r (λ files. or_itself name (listed files (front_in short))) → Answers old r (λ files. files_of files name)
in_folder old mid name short (Ok names) is file stays answers = other old name short names is file (later old mid (Ok names) (λ files. or_itself name (listed files (front_in short))) stays answers)
in_folder old mid name short (Err fault) is file stays answers = tt

-- names behind others, in two parts
pub with_names-append : (all xs ys : List (List ℕ)) → with_names all (xs ++ ys) ≡ with_names (with_names all xs) ys
with_names-append all [] ys = refl
with_names-append all (x ∷ xs) ys = with_names-append (with_name all x) xs ys

-- each name once, of names of which the folder told
pub each_once : (told : Option Files) (found kept : List (List ℕ)) (of : Files → List (List ℕ)) → IfSome told (λ files. found ≡ of files) → kept ≡ with_names [] found
    → IfSome told (λ files. kept ≡ with_names [] (of files))
each_once None found kept of is made = tt
each_once (Some files) found kept of is made = made ∙ ap (with_names []) is

-- the names so far
pub record SoFar (old now : FolderTold) (all names : List (List ℕ)) : Type 0 where
  pub left : IsLeft old now
  pub well : now.faults ≡ old.faults
  pub found : IfSome old.files (λ files. all ≡ flat_map (files_of files) names)

nothing_yet : (told : Option Files) → IfSome told (λ files. [] ≡ flat_map (files_of files) [])
nothing_yet None = tt
nothing_yet (Some files) = refl

pub sets_out : (told : FolderTold) (all : List (List ℕ)) → all ≡ [] → SoFar told told all []
sets_out told all empty = record { left = left_same told; well = refl; found = subst (λ (l : List (List ℕ)). IfSome told.files (λ files. l ≡ flat_map (files_of files) [])) (sym empty) (nothing_yet told.files) }

more : (told : Option Files) (all files_named all_now names : List (List ℕ)) (name : List ℕ) → IfSome told (λ files. all ≡ flat_map (files_of files) names) → IfSome told (λ files. files_named ≡ files_of files name)
    → all_now ≡ all ++ files_named → IfSome told (λ files. all_now ≡ flat_map (files_of files) (names ++ name ∷ []))
more None all files_named all_now names name so_far new is = tt
more (Some files) all files_named all_now names name so_far new is =
    is ∙ ap (λ (l : List (List ℕ)). l ++ files_named) so_far ∙ ap (λ (l : List (List ℕ)). flat_map (files_of files) names ++ l) (new ∙ sym (append-nil (files_of files name)))
    ∙ sym (flat_map-append (files_of files) names (name ∷ []))

pub one_more : (old mid new : FolderTold) (all files_named all_now names : List (List ℕ)) (name : List ℕ) → SoFar old mid all names → ReadsFolder {T = List (List ℕ)} mid new (Ok files_named)
    → IfSome mid.files (λ files. files_named ≡ files_of files name) → all_now ≡ all ++ files_named → SoFar old new all_now (names ++ name ∷ [])
one_more old mid new all files_named all_now names name so_far looks found is = record {
  left = left_on old mid new so_far.left looks.left;
  well = looks.cause ∙ so_far.well;
  found = more old.files all files_named all_now names name so_far.found (later old.files mid.files (Ok files_named) (λ files. files_of files name) so_far.left.files found) is;
}
