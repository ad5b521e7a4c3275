-- What a trace keeps to.
use Rattle.std.specs.Prelude.{◌≡◌, ◌*◌, ◌<◌, ◌≤◌, true, length, All}
use Rattle.std.specs.List.{list_all}
use Rattle.dl_bytes.specs.Conf.{is_printable}
use Rattle.dl_bytes.specs.declared.outcome.TraceFile.{TraceFile}
use Rattle.dl_model.specs.TraceFiles.{number_limit}
use Rattle.dl_trace.specs.State.{Trace}
use Rattle.dl_trace.specs.InFolder.{IsTraceName}
use Rattle.dl_trace.specs.Pieces.{last_size}

-- sizes are in their ranges, numbers have six digits, and what is told of are trace files of the directory
pub record IsSound (trace : Trace) : Type 0 where
  pub letters : list_all is_printable trace.directory ≡ true
  pub least : 2000 ≤ trace.file_size
  pub most : trace.max_size ≤ 1000000000
  pub two_files : 2 * trace.file_size ≤ trace.max_size
  pub last : trace.last ≤ number_limit
  pub named : All (λ (file : TraceFile). IsTraceName trace.directory file.name) trace.state.files
  pub some : trace.begun ≡ true → 0 < length trace.state.files
  pub room : trace.begun ≡ true → last_size trace.state.files ≤ trace.file_size
