use Rattle.std.proofs.Common.{◌≡◌, map}
use Rattle.std.specs.List.{AllByRecursion, range_with_len}
use Rattle.dl_model.specs.Setting.{Setting}
use Rattle.dl_model.specs.WholeAccounts.{source_of_records}
use Rattle.dl_fates.specs.Written.{TellWhole}
use Rattle.dl_fates.specs.declared.fates.Fates.{Fates}
use Rattle.dl_fates.proofs.findings.find_all.Given as goal

-- the clients so far, each with what was found for it
abbrev pub invariant-loop-place : goal.invariant-loop-place
invariant-loop-place l = record {
  clients : map (λ (fates : Fates). fates.client) l.all.items ≡ range_with_len 1 l.place;
  fates : (setting : Setting) → setting.ecu ≡ l.sources.ecu →
      AllByRecursion (TellWhole (source_of_records setting l.sources.records.now l.sources.specs.now) l.buffer l.events) l.all.items;
}
