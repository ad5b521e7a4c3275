-- Which files are wanted.
use Rattle.std.specs.Prelude.{ℕ, List, [], ◌∷◌, map, Option, option_map}
use Rattle.dl_outside.specs.Folder.{Files}
use Rattle.dl_trace_files.specs.Files.{files_asked}
use Rattle.dl_trace_why.specs.declared.wanted.Wanted.{Wanted}
use Rattle.dl_trace_why.specs.declared.wanted.FilesWanted.{FilesWanted}
use Rattle.dl_trace_why.specs.declared.wanted.FilesWanted.TheVariants.{Traces, Stream}

-- the files whose account is wanted, in their order: those that names stand for, or one file alone
abbrev pub files_wanted : FilesWanted → Files → List (List ℕ)
files_wanted (Traces names) files = files_asked files (map (λ name. name.now) names.now)
files_wanted (Stream name) files = name.now ∷ []

-- the name of the file for the picture, where one is wanted
abbrev pub picture_wanted : Wanted → Option (List ℕ)
picture_wanted wanted = option_map (λ name. name.now) wanted.picture
