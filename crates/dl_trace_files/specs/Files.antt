-- The files of a trace: those that are named, and the trace files of the folders that are named.
use Rattle.std.specs.Prelude.{ℕ, ◌==◌, ◌&&◌, ◌||◌, nat_eq, nat_le, Bool, List, [], ◌∷◌, ◌++◌, length, take, drop, filter, codes, if◌then◌else◌}
use Rattle.std.specs.List.{flat_map, list_all, list_any, slice_split, starts_with}
use Rattle.std.specs.Str.{bytes_eq}
use Rattle.dl_outside.specs.Folder.{Files, names_with}

-- ---- names

-- the parts of a name between its slashes
abbrev pub parts_of : List ℕ → List (List ℕ)
parts_of name = slice_split (λ b. b == 47) name

-- an empty part, or a point: it names nothing
abbrev pub names_nothing : List ℕ → Bool
names_nothing part = nat_eq (length part) 0 || bytes_eq part (codes ".")

-- the current folder, which has an empty name, or the root: a part stands right behind its name
abbrev pub is_open : List ℕ → Bool
is_open folder = nat_eq (length folder) 0 || bytes_eq folder (codes "/")

-- a part in a folder
abbrev pub within : List ℕ → List ℕ → List ℕ
within folder part = if is_open folder then folder ++ part else folder ++ codes "/" ++ part

-- the same where a part may name nothing
abbrev pub with_part : List ℕ → List ℕ → List ℕ
with_part folder part = if names_nothing part then folder else within folder part

abbrev pub with_parts : List ℕ → List (List ℕ) → List ℕ
with_parts folder [] = folder
with_parts folder (part ∷ parts) = with_parts (with_part folder part) parts

-- a name's folder to begin with: the root, or the current one
abbrev pub root_of : List ℕ → List ℕ
root_of name = if starts_with nat_eq name (codes "/") then codes "/" else []

-- a name without the parts that name nothing; that of the current folder is empty
abbrev pub plain : List ℕ → List ℕ
plain name = with_parts (root_of name) (parts_of name)

-- ---- trace files

-- what the names of trace files begin with
abbrev pub trace_front : List ℕ
trace_front = codes "dlt_offlinetrace."

-- the same in a folder
abbrev pub front_in : List ℕ → List ℕ
front_in folder = within folder trace_front

abbrev pub is_digit : ℕ → Bool
is_digit b = nat_le 48 b && nat_le b 57

-- six digits and `.dlt`, as the names of trace files end
abbrev pub is_numbered : List ℕ → Bool
is_numbered rest = length rest == 10 && (list_all is_digit (take 6 rest) && bytes_eq (drop 6 rest) (codes ".dlt"))

abbrev pub is_trace_name : List ℕ → List ℕ → Bool
is_trace_name front name = is_numbered (drop (length front) name)

-- the trace files whose names begin so, in the order of their numbers
abbrev pub listed : Files → List ℕ → List (List ℕ)
listed files front = filter (is_trace_name front) (names_with front files)

-- a file has this name
abbrev pub is_file : Files → List ℕ → Bool
is_file files name = list_any (bytes_eq name) (names_with name files)

abbrev pub or_itself : List ℕ → List (List ℕ) → List (List ℕ)
or_itself name [] = name ∷ []
or_itself name (file ∷ files) = file ∷ files

-- a file stands for itself, and a folder for its trace files; so does a name for itself that neither has
abbrev pub files_of : Files → List ℕ → List (List ℕ)
files_of files name = if is_file files (plain name) then plain name ∷ [] else or_itself name (listed files (front_in (plain name)))

-- a name behind others, where it isn't among them; and names, one behind the other
abbrev pub with_name : List (List ℕ) → List ℕ → List (List ℕ)
with_name all name = if list_any (bytes_eq name) all then all else all ++ name ∷ []

abbrev pub with_names : List (List ℕ) → List (List ℕ) → List (List ℕ)
with_names all [] = all
with_names all (name ∷ names) = with_names (with_name all name) names

-- The files that are asked for, in their order, each once. Without a name they are the trace files of the current folder.
abbrev pub files_asked : Files → List (List ℕ) → List (List ℕ)
files_asked files [] = listed files trace_front
files_asked files (name ∷ names) = with_names [] (flat_map (files_of files) (name ∷ names))
