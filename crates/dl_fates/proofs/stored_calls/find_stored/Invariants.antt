use Rattle.std.proofs.Common.{◌≡◌, [], take, drop}
use Rattle.dl_model.specs.Setting.{Setting}
use Rattle.dl_model.specs.WholeAccounts.{source_of_records}
use Rattle.dl_fates.specs.StoredFound.{TellsFiles, file_from, file_sizes}
use Rattle.dl_fates.proofs.stored_calls.find_stored.Given as goal

-- the files so far, and what was found with the search from here on tells all
abbrev pub invariant-loop-place : goal.invariant-loop-place
invariant-loop-place l = record {
  sizes : (setting : Setting) → setting.ecu ≡ l.sources.ecu → l.sizes.items ≡ file_sizes (source_of_records setting l.sources.records.now l.sources.specs.now) l.rotation.file_size (take l.place l.events);
  tells : (setting : Setting) → setting.ecu ≡ l.sources.ecu →
      let source = source_of_records setting l.sources.records.now l.sources.specs.now in
      TellsFiles source l.rotation.file_size (λ name. file_from source l.rotation.file_size name.writer name.call [] l.events) l.files (take l.place l.events) (drop l.place l.events);
}
