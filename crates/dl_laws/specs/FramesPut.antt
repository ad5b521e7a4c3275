-- Frames that were put behind those that a stream had.
use Rattle.std.specs.Prelude.{◌≡◌, ℕ, List, ◌++◌}
use Rattle.std.specs.List.{concat, AllByRecursion}
use Rattle.dl_laws.specs.Frames.{TellsLen}

-- Behind these frames the stream has others: each of them tells its length, and these bytes are all of them.
pub record IsPut (frames : List (List ℕ)) (bytes : List ℕ) (stream : List (List ℕ)) : Type 0 where
  pub parts : List (List ℕ)
  pub tell : AllByRecursion TellsLen parts
  pub are : bytes ≡ concat parts
  pub behind : stream ≡ frames ++ parts
