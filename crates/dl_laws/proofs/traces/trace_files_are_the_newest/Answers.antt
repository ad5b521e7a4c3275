use Rattle.dl_model.proofs.Rotation.{made_bytes, suffix, within_size}
use Rattle.dl_laws.proofs.traces.trace_files_are_the_newest.Goals as goal

pub returns-clause-bytes : goal.returns-clause-bytes
returns-clause-bytes c = made_bytes

pub returns-clause-suffix : goal.returns-clause-suffix
returns-clause-suffix c = suffix

pub returns-clause-sizes : goal.returns-clause-sizes
returns-clause-sizes c = within_size
