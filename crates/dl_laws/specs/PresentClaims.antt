-- Claims of applications that are there.
use Rattle.std.specs.Prelude.{List, [], ◌∷◌, ◌++◌, IsSome}
use Rattle.std.specs.Option.{option_and_then}
use Rattle.dl_events.specs.declared.event.Event.{Event}
use Rattle.dl_events.specs.declared.event.Event.TheVariants.{Claim}
use Rattle.dl_model.specs.Journal.{registry_of}
use Rattle.dl_model.specs.Registry.{app_of, apid_numbered}
use Rattle.dl_model.specs.Setting.{Setting}

-- the application of a claim is one of this process that is there, after these events
abbrev pub IsThere : Setting → List Event → Event → Type 0
IsThere setting before (Claim claim moment) = IsSome (option_and_then (app_of (registry_of setting before) 0) (apid_numbered (registry_of setting before) claim.app))
IsThere setting before _ = Unit {0}

abbrev pub AreThere : Setting → List Event → List Event → Type 0
AreThere setting before [] = Unit {0}
AreThere setting before (event ∷ events) = IsThere setting before event × AreThere setting (before ++ event ∷ []) events

-- So is that of each claim of a journal. A script declares its applications once and before other processes register theirs, so they are
-- there from then on.
abbrev pub ClaimsArePresent : Setting → List Event → Type 0
ClaimsArePresent setting events = AreThere setting [] events
