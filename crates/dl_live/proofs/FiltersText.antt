-- What the filters' file says that is there.
use Rattle.std.proofs.Common.{◌≡◌, ℕ, List, [], Option, Some, None, sym, ap, ◌∙◌}
use Rattle.std.specs.Prelude.{IfSome, Result, Ok}
use Rattle.std.specs.FinMap as map
use Rattle.std.specs.Option.{option_map_or}
use Rattle.dl_outside.specs.Folder.{Files}
use Rattle.dl_startup.specs.declared.storage_kind.StorageKind.{StorageKind}
use Rattle.dl_storage.specs.FilterLine.{Wanted}
use Rattle.dl_storage.specs.FilterWhole.{storage_said}
use Rattle.dl_live.specs.Filters.{filters_in, filters_name}

pub says_of_text : (told : Option Files) (found : Option (List ℕ)) (text : List ℕ) (said : Result (List Wanted) (ℕ × StorageKind))
    → IfSome told (λ files. found ≡ map.get files filters_name) → found ≡ Some text → storage_said text ≡ said → IfSome told (λ files. filters_in files ≡ said)
says_of_text None found text said there some is = tt
says_of_text (Some files) found text said there some is = ap (λ here. option_map_or storage_said here (Ok [])) (sym there ∙ some) ∙ is
