-- The bytes of a description, wherever they are.
use Rattle.std.specs.Prelude.{ℕ, List}
use Rattle.dl_model.specs.declared.described.Described.{Described}
use Rattle.dl_model.specs.declared.described.Described.TheVariants.{Told, Claimed}

abbrev pub bytes_of : Described → List ℕ
bytes_of (Told text) = text
bytes_of (Claimed text) = text
