-- What a folder holds, and what its answers say of it.
use Rattle.std.specs.Prelude.{◌≡◌, ℕ, ◌≤◌, ◌⊎◌, List, [], ◌++◌, length, take, filter, Option, Some, IfSome, option_map, unwrap_or, Result, Ok, Err}
use Rattle.std.specs.List.{starts_with}
use Rattle.std.specs.Bool.{nat_eq}
use Rattle.std.specs.Ordering.{nat_cmp}
use Rattle.std.specs.Cmp.Lexicographic.{slice_cmp}
use Rattle.std.specs.FinMap as map
use Rattle.dl_outside.specs.declared.folder.FolderFault.{FolderFault}
use Rattle.dl_outside.specs.declared.folder.FolderFault.TheVariants.{Failed, OutOfMemory}
use Rattle.dl_outside.specs.Outside.{HasRisen, Stays}

-- the files of a folder: a finite map from names to bytes, the names in byte order
abbrev pub Files : Type 0
Files = map.FinMap (slice_cmp nat_cmp) (List ℕ)

-- the names that begin with a prefix, in byte order
abbrev pub names_with : List ℕ → Files → List (List ℕ)
names_with prefix files = filter (λ name. starts_with nat_eq name prefix) (map.keys files)

-- the size of a file, or nothing where there is none of that name
abbrev pub size_in : Files → List ℕ → Option ℕ
size_in files name = option_map length (map.get files name)

-- the files where this one has a piece more; it is made where it isn't there
abbrev pub with_more : Files → List ℕ → List ℕ → Files
with_more files name piece = map.insert files name (unwrap_or (map.get files name) [] ++ piece)

-- the count of faults rose where the call failed, and stands with every other answer
abbrev pub HasCause : {T : Type 0} → ℕ → ℕ → Result T FolderFault → Type 0
HasCause before now (Ok answer) = now ≡ before
HasCause before now (Err Failed) = HasRisen before now
HasCause before now (Err OutOfMemory) = now ≡ before

-- every file but the named one is as it was
abbrev pub AllBut : List ℕ → Option Files → Option Files → Type 0
AllBut name old new = IfSome old (λ files. (now : Files) × (new ≡ Some now) × (map.remove now name ≡ map.remove files name))

-- what a call tells of the files: the answer is this function of them
abbrev pub Answers : {T : Type 0} → Option Files → Result T FolderFault → (Files → T) → Type 0
Answers told (Ok answer) of = IfSome told (λ files. answer ≡ of files)
Answers told (Err fault) of = Unit {0}

-- a file was made or replaced; after a failure the others are as they were, and want of memory changed nothing
abbrev pub Puts : Option Files → Option Files → Result (Unit {0}) FolderFault → List ℕ → List ℕ → Type 0
Puts old new (Ok done) name bytes = IfSome old (λ files. new ≡ Some (map.insert files name bytes))
Puts old new (Err Failed) name bytes = AllBut name old new
Puts old new (Err OutOfMemory) name bytes = Stays old new

-- after a failure to make or replace a file it is as it was, or has the new bytes: never a part of them
abbrev pub IsOldOrNew : Option Files → Option Files → Result (Unit {0}) FolderFault → List ℕ → List ℕ → Type 0
IsOldOrNew old new (Err Failed) name bytes = IfSome old (λ files. (new ≡ Some files) ⊎ (new ≡ Some (map.insert files name bytes)))
IsOldOrNew old new result name bytes = Unit {0}

-- a file has the piece more; after a failure it has some front of the piece more, and want of memory changed nothing
abbrev pub Appends : Option Files → Option Files → Result (Unit {0}) FolderFault → List ℕ → List ℕ → Type 0
Appends old new (Ok done) name piece = IfSome old (λ files. new ≡ Some (with_more files name piece))
Appends old new (Err Failed) name piece =
    IfSome old (λ files. (new ≡ Some files) ⊎ ((n : ℕ) × (n ≤ length piece) × (new ≡ Some (with_more files name (take n piece)))))
Appends old new (Err OutOfMemory) name piece = Stays old new

-- no file has the name any more; after a failure that file alone is unknown, and want of memory changed nothing
abbrev pub Removes : Option Files → Option Files → Result (Unit {0}) FolderFault → List ℕ → Type 0
Removes old new (Ok done) name = IfSome old (λ files. new ≡ Some (map.remove files name))
Removes old new (Err Failed) name = AllBut name old new
Removes old new (Err OutOfMemory) name = Stays old new
