-- The trace of a filter, as it is made. (Of the code alone: no promise rests on these words.)
use Rattle.std.specs.Prelude.{◌≡◌, List}
use Rattle.dl_bytes.specs.declared.conf.Conf.{Conf}
use Rattle.dl_outside.specs.Told.{FolderTold}
use Rattle.dl_model.specs.TraceFiles.{StoredFile}
use Rattle.dl_trace.specs.State.{Trace}
use Rattle.dl_storage.specs.declared.filter.Filter.{Filter}
use Rattle.dl_storage.specs.Passing.{directory_of}
use Rattle.dl_storage.specs.Writing.{Begins}

-- the configuration has the filter's directory and sizes
pub record IsConf (filter : Filter) (conf : Conf) : Type 0 where
  pub directory : conf.directory ≡ directory_of filter
  pub file_size : conf.file_size ≡ filter.size
  pub max_size : conf.max_size ≡ filter.max

-- so has the trace, which begins over the files that stand in its directory
pub record IsFiltersTrace (filter : Filter) (trace : Trace) (folder : FolderTold) : Type 0 where
  pub directory : trace.directory ≡ directory_of filter
  pub file_size : trace.file_size ≡ filter.size
  pub max_size : trace.max_size ≡ filter.max
  pub stood : List StoredFile
  pub begins : Begins trace stood folder
