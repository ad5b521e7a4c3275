-- What the file of the stored configuration holds after a run, by its journal alone.
use Rattle.std.specs.Prelude.{◌≡◌, ℕ, List, [], ◌∷◌, ◌++◌, Option, Some, None, IsSomeAnd}
use Rattle.std.specs.FinMap as files
use Rattle.dl_bytes.specs.declared.outcome.Done.{Done}
use Rattle.dl_bytes.specs.declared.outcome.Done.TheVariants as did
use Rattle.dl_events.specs.declared.event.Event.{Event}
use Rattle.dl_events.specs.declared.event.Event.TheVariants as event
use Rattle.dl_model.specs.Journal.{registry_of, slots_of}
use Rattle.dl_model.specs.Reply.{apid_of, asked, ctid_of}
use Rattle.dl_model.specs.Setting.{Setting}
use Rattle.dl_outside.specs.Folder.{Files}
use Rattle.dl_services.specs.Wish.{wanted}
use Rattle.dl_services.specs.declared.wish.Want.{Want}
use Rattle.dl_services.specs.declared.wish.Want.TheVariants as want
use Rattle.dl_core.specs.Serving.{stored_name}

-- ---- one event

-- What the file holds after a request that wanted this: what a Store writes, nothing after a Reset. One that was not done changes nothing.
-- Neither does one that wants nothing of the file: a Reset while a slot that would change is worn, and each that is no Store and no Reset.
abbrev pub file_by : Done → Want → Option (List ℕ) → Option (List ℕ)
file_by did.Yes (want.Put text stored) was = Some text
file_by did.Yes want.Remove was = None
file_by answer wants was = was

-- What it holds after an event that stands behind these. What a request wants is by the registry and the levels that these left. No other
-- event changes the file.
abbrev pub file_with : Setting → List Event → Event → Option (List ℕ) → Option (List ℕ)
file_with setting before (event.Request client frame answer) was =
    file_by answer (wanted setting (slots_of setting before) (registry_of setting before) (apid_of frame) (ctid_of frame) (asked frame)) was
file_with setting before other was = was

-- ---- a journal

-- what it holds after events that stand behind these
abbrev pub file_from : Setting → List Event → List Event → Option (List ℕ) → Option (List ℕ)
file_from setting before [] was = was
file_from setting before (e ∷ events) was = file_from setting (before ++ e ∷ []) events (file_with setting before e was)

-- What it holds after these events: what the last Store that was done wrote; nothing, where a Reset was done since; and what stood there
-- before, where neither was done.
abbrev pub stored_after : Setting → Option (List ℕ) → List Event → Option (List ℕ)
stored_after setting first events = file_from setting [] events first

-- the folder tells its files, and among them this file is what these events made of what stood there before
abbrev pub HoldsStored : Setting → Option (List ℕ) → List Event → Option Files → Type 0
HoldsStored setting first events told = IsSomeAnd told (λ folder. files.get folder stored_name ≡ stored_after setting first events)
