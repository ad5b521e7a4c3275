-- The trace files that a run begins with, and the rotation that goes on with them.
use Rattle.std.proofs.Common.{◌≡◌, ℕ, ◌<◌, ◌≤◌, List, [], ◌∷◌, length, map, Option, Some, None, sym, subst, arith}
use Rattle.std.specs.List.{AllByRecursion}
use Rattle.dl_bytes.specs.declared.conf.Conf.{Conf}
use Rattle.dl_core.specs.Settings.{HasSizes}
use Rattle.dl_model.specs.Setting.{Setting}
use Rattle.dl_model.specs.TraceFiles.{StoredFile, greatest, number_limit}
use Rattle.dl_outside.specs.Folder.{Files}
use Rattle.dl_startup.specs.Setup.{IsBegun}
use Rattle.dl_fates.specs.declared.stored_calls.Rotation.{Rotation}
use Rattle.dl_trace.specs.InFolder.{AreRising}
use Rattle.dl_trace.specs.State.{Trace, listed}
use Rattle.dl_why.specs.Program.{Standing}
use Rattle.dl_fates.specs.Written.{IsRotating}

abbrev IsNamed : StoredFile → Type 0
IsNamed file = file.number ≤ number_limit

named : (least : ℕ) (files : List StoredFile) → AreRising least files → AllByRecursion IsNamed files
named least [] rising = tt
named least (file ∷ files) rising = (rising.1, named file.number files rising.2)

abbrev rotation_by : Conf → ℕ → Option Rotation
rotation_by conf newest = Some (record { file_size = conf.file_size; max_size = conf.max_size; newest = newest })

rotates : (conf : Conf) (stood : List StoredFile) (newest : ℕ) → 0 < length conf.directory → greatest stood ≡ newest → (setting : Setting) → HasSizes conf setting → IsRotating setting stood conf.directory (rotation_by conf newest)
rotates conf stood newest some is setting sizes = (
  subst (λ (d : List ℕ). 0 < length d) sizes.directory some,
  sym sizes.directory,
  record { file_size = sym sizes.file_size; max_size = sym sizes.max_size; newest = is },
)

-- Where the folder does not tell its files, some file of that number may stand.
pub stands : (conf : Conf) (told : Option Files) (trace : Trace) (newest : ℕ) → IsBegun conf told (Some trace) →
    ((directory : List ℕ) (stood : List StoredFile) → trace.state.files ≡ map (listed directory) stood → AllByRecursion IsNamed stood → newest ≡ greatest stood) →
    Standing conf (rotation_by conf newest) told
stands conf None trace newest begun reads =
    let stood : List StoredFile = record { number = newest; bytes = [] } ∷ [] in
    record { stood = stood; rotates = rotates conf stood newest begun.0 (omega arith); stand = λ some. tt }
stands conf (Some files) trace newest begun reads =
    let stood = begun.2.0 in
    let holds = begun.2.2 in
    record {
      stood = stood;
      rotates = rotates conf stood newest begun.0 (sym (reads trace.directory stood begun.2.1.files (named 0 stood holds.rising)));
      stand = λ some. holds;
    }
