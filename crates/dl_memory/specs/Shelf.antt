-- Files in one piece of memory: entries with names and sizes, and the bytes of all files, one after the other.
use Rattle.std.specs.Prelude.{◌≡◌, ◌≢◌, ℕ, suc, ◌+◌, ◌^◌, ◌<◌, ◌≤◌, ◌⊎◌, T, List, [], ◌∷◌, length, take, drop, sum_by, slice_set, Some, None, IsSome, is_some, unwrap_or, if◌then◌else◌}
use Rattle.std.specs.Ordering.{nat_cmp}
use Rattle.std.specs.Cmp.Lexicographic.{slice_cmp}
use Rattle.std.specs.FinMap.Entries.{by_order, find, is_sorted}
use Rattle.std.specs.FinMap as map
use Rattle.std.specs.List.{insert}
use Rattle.dl_outside.specs.Folder.{Files}
use Rattle.dl_memory.specs.declared.shelf.Entry.{Entry}
use Rattle.dl_memory.specs.declared.shelf.Place.{Place}

abbrev pub size_of : Entry → ℕ
size_of entry = entry.size

-- the files, each with its name and its bytes
abbrev pub files_in : List Entry → List ℕ → List (List ℕ × List ℕ)
files_in [] bytes = []
files_in (e ∷ es) bytes = (e.name.bytes, take e.size bytes) ∷ files_in es (drop e.size bytes)

-- a place behind an entry of so many bytes
abbrev pub behind : ℕ → Place → Place
behind size place = record { index = suc place.index; start = size + place.start; size = place.size }

-- where a name stands, or where it would
abbrev pub place_of : List ℕ → List Entry → Place
place_of name [] = record { index = 0; start = 0; size = None }
place_of name (e ∷ es) =
    by_order (slice_cmp nat_cmp name e.name.bytes) (record { index = 0; start = 0; size = None })
    (record { index = 0; start = 0; size = Some e.size }) (behind e.size (place_of name es))

-- an entry at a place: in place of the one that is there, or between those before and after
abbrev pub with_entry : List Entry → Place → Entry → List Entry
with_entry entries place entry = if is_some place.size then slice_set entries place.index entry else insert entries place.index entry

-- how many bytes the file at a place has
abbrev pub bytes_at : Place → ℕ
bytes_at place = unwrap_or place.size 0

-- a place is within the entries, and its file within their bytes
pub record IsWithin (entries : ℕ) (bytes : ℕ) (place : Place) : Type 0 where
  pub index : place.index ≤ entries
  pub start : place.start + bytes_at place ≤ bytes
  pub there : place.size ≢ None → place.index < entries

-- What contracts see of a folder in memory: its files in the order of their names, how many files and how many bytes
-- it has room for, and how often a file was to change and to grow.
pub record Stock : Type 0 where
  pub files : List (List ℕ × List ℕ)
  pub most_files : ℕ
  pub most_bytes : ℕ
  pub changes : ℕ
  pub appends : ℕ

-- the files as a map from names to bytes
abbrev pub files_of : Stock → Files
files_of stock = map.from_sorted {R = slice_cmp nat_cmp} stock.files

-- the bytes of a file, none where it isn't there
abbrev pub held_by : Stock → List ℕ → List ℕ
held_by stock name = unwrap_or (find (slice_cmp nat_cmp) name stock.files) []

-- all bytes of all files
abbrev pub total : List (List ℕ × List ℕ) → ℕ
total files = sum_by (λ file. length file.1) files

-- a file of so many bytes has room: its name, itself among the files, and its bytes among all
pub record HasRoom (stock : Stock) (name : List ℕ) (size : ℕ) : Type 0 where
  pub name_fits : length name ≤ 255
  pub file_fits : IsSome (find (slice_cmp nat_cmp) name stock.files) ⊎ (length stock.files < stock.most_files)
  pub bytes_fit : total stock.files + size ≤ stock.most_bytes + length (held_by stock name)

-- what stands in memory for a stock
pub record Stands (entries : List Entry) (bytes : List ℕ) (file_room byte_room most_files most_bytes : ℕ) : Type 0 where
  pub all : sum_by size_of entries ≡ length bytes
  pub sorted : T (is_sorted (slice_cmp nat_cmp) (files_in entries bytes))
  pub files_fit : most_files ≤ file_room
  pub bytes_fit : most_bytes ≤ byte_room
  pub within : length bytes ≤ most_bytes
  pub small : most_bytes < 2 ^ 63
