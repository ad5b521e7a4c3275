-- What launching clients one after the other comes to.
use Rattle.std.specs.Prelude.{◌≡◌, ℕ, ◌+◌, ◌-◌, ◌^◌, ◌≤◌, ◌⊎◌, min, List, [], ◌∷◌, ◌++◌, length, Some, IfSome}
use Rattle.dl_outside.specs.Outside.{Stays}
use Rattle.dl_outside.specs.Told.{NetTold}
use Rattle.dl_outside.specs.declared.client.ClientScript.{ClientScript}

-- these of the clients were started, in their order, and at so many others the net failed
abbrev pub AreStarted : (all started : List ClientScript) (failed : ℕ) → Type 0
AreStarted [] started failed = (started ≡ []) × (failed ≡ 0)
AreStarted (script ∷ scripts) started failed =
    ((others : List ClientScript) × (started ≡ script ∷ others) × AreStarted scripts others failed)
    ⊎ ((fewer : ℕ) × (failed ≡ fewer + 1) × AreStarted scripts started fewer)

-- a count of faults rose by so many, as far as its 64 bits go, and stands where that is none
pub record HasRisenBy (failed before now : ℕ) : Type 0 where
  pub never_falls : before ≤ now
  pub rose : min (before + failed) (2 ^ 64 - 1) ≤ now
  pub well : failed ≡ 0 → now ≡ before

-- So many of these clients were launched, in their order: they stand behind those that the net had launched, and as many connections behind
-- those that waited. At each of the others the net failed. It listens where it did.
pub record Launched {L : Type 0} (scripts : List ClientScript) (old new : NetTold L) (count : ℕ) : Type 0 where
  pub started : List ClientScript
  pub failed : ℕ
  pub are : AreStarted scripts started failed
  pub counted : count ≡ length started
  pub launched : IfSome old.launched (λ before. new.launched ≡ Some (before ++ started))
  pub waiting : IfSome old.waiting (λ before. (links : List L) × (length links ≡ count) × (new.waiting ≡ Some (before ++ links)))
  pub listens : Stays old.listens_on new.listens_on
  pub faults : HasRisenBy failed old.faults new.faults

-- the first ones of these clients were launched, and no more
pub record LaunchedFront {L : Type 0} (scripts : List ClientScript) (old new : NetTold L) : Type 0 where
  pub front : List ClientScript
  pub others : List ClientScript
  pub parts : scripts ≡ front ++ others
  pub count : ℕ
  pub launched : Launched front old new count
