-- What a folder tells, over calls in a row.
use Rattle.std.proofs.Common.{◌≡◌, ℕ, List, Option, Some, None, ap, ◌∙◌}
use Rattle.std.specs.Prelude.{IfSome, IsOk, Ok, Err, is_ok}
use Rattle.dl_outside.proofs.Staying.{stays_both}
use Rattle.dl_conf.specs.Conf.{Values}
use Rattle.dl_conf.specs.Outcome.{values_of}
use Rattle.dl_conf.specs.declared.stored.StoredKind.{StoredKind}
use Rattle.dl_outside.specs.Folder.{Files}
use Rattle.dl_outside.specs.Outside.{Stays}
use Rattle.dl_outside.specs.Told.{FolderTold}
use Rattle.dl_startup.specs.Configuration.{SayConfs}
use Rattle.dl_startup.specs.Setup.{conf_in, stored_in}
use Rattle.dl_startup.specs.Unchanged.{IsQuiet, IsUnchanged}
use Rattle.dl_startup.specs.declared.configuration.Setup.{Setup}
use Rattle.dl_lemmas.proofs.Options.{if_some_of}

-- what is known of what was told later is known of what was told before
pub known_before : {A : Type 0} → (old mid : Option A) (P : A → Type 0) → Stays old mid → IfSome mid P → IfSome old P
known_before None mid P a h = tt
known_before (Some x) mid P a h = if_some_of mid x P a h

pub unchanged_on : (old mid new : FolderTold) → IsUnchanged old mid → IsUnchanged mid new → IsUnchanged old new
unchanged_on old mid new a b = record { files = stays_both old.files mid.files new.files a.files b.files; changes = b.changes ∙ a.changes }

pub quiet_on : (old mid new : FolderTold) → IsQuiet old mid → IsQuiet mid new → IsQuiet old new
quiet_on old mid new a b = record { unchanged = unchanged_on old mid new a.unchanged b.unchanged; well = b.well ∙ a.well }

-- a call that leaves the folder alone
pub quiet : (old new : FolderTold) → Stays old.files new.files → new.changes ≡ old.changes → new.faults ≡ old.faults → IsQuiet old new
quiet old new files changes well = record { unchanged = record { files = files; changes = changes }; well = well }

-- both configurations, the second one read later
pub both_said : (name : List ℕ) (old mid : Option Files) (setup : Setup) → IfSome old (λ files. conf_in name files ≡ Ok (values_of setup.conf)) → Stays old mid → IfSome mid (λ files. stored_in files ≡ Ok setup.stored)
    → IfSome old (λ files. SayConfs name files setup)
both_said name None mid setup conf same stored = tt
both_said name (Some files) mid setup conf same stored = record { conf = conf; stored = if_some_of mid files (λ all. stored_in all ≡ Ok setup.stored) same stored }

pub stored_is_bad : (name : List ℕ) (old mid : Option Files) (values : Values) (fault : ℕ × StoredKind) → IfSome old (λ files. conf_in name files ≡ Ok values) → Stays old mid → IfSome mid (λ files. stored_in files ≡ Err fault)
    → IfSome old (λ files. IsOk (conf_in name files) × (stored_in files ≡ Err fault))
stored_is_bad name None mid values fault conf same stored = tt
stored_is_bad name (Some files) mid values fault conf same stored = (ap is_ok conf, if_some_of mid files (λ all. stored_in all ≡ Err fault) same stored)
