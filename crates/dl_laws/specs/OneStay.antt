-- A client that comes once.
use Rattle.std.specs.Prelude.{◌≡◌, ℕ, false, List}
use Rattle.std.specs.List.{list_any}
use Rattle.dl_model.specs.Traffic.{Traffic, comes_or_goes}

-- The client neither comes nor goes in the traffic before its stay, within it, or after it.
pub record ComesOnce (client : ℕ) (before middle after : List Traffic) : Type 0 where
  pub none_before : list_any (comes_or_goes client) before ≡ false
  pub none_within : list_any (comes_or_goes client) middle ≡ false
  pub none_after : list_any (comes_or_goes client) after ≡ false
