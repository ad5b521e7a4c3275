-- What a stored configuration says that is there.
use Rattle.std.proofs.Common.{◌≡◌, ℕ, List, Option, Some, None, sym, ap, ◌∙◌}
use Rattle.std.specs.Prelude.{IfSome, Result, Ok}
use Rattle.std.specs.FinMap as map
use Rattle.std.specs.Option.{option_map_or}
use Rattle.dl_bytes.specs.declared.conf.Stored.{Stored}
use Rattle.dl_conf.specs.Stored.{stored_said}
use Rattle.dl_conf.specs.declared.stored.StoredKind.{StoredKind}
use Rattle.dl_outside.specs.Folder.{Files}
use Rattle.dl_startup.specs.Setup.{none_stored, stored_in, stored_name}

pub says_of_text : (told : Option Files) (found : Option (List ℕ)) (text : List ℕ) (said : Result Stored (ℕ × StoredKind))
    → IfSome told (λ files. found ≡ map.get files stored_name) → found ≡ Some text → stored_said text ≡ said → IfSome told (λ files. stored_in files ≡ said)
says_of_text None found text said there some is = tt
says_of_text (Some files) found text said there some is =
    ap (λ here. option_map_or stored_said here (Ok none_stored)) (sym there ∙ some) ∙ is
