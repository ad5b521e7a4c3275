use Rattle.dl_laws.proofs.FileSuffix.{bytes_suffix, own_within}
use Rattle.dl_laws.proofs.StoredFrames.{own_short}
use Rattle.dl_laws.proofs.files.what_stands_is_the_newest.Goals as goal

pub returns-clause-suffix : goal.returns-clause-suffix
returns-clause-suffix c = bytes_suffix

pub returns-clause-sizes : goal.returns-clause-sizes
returns-clause-sizes c = own_within

pub returns-clause-of_events : goal.returns-clause-of_events
returns-clause-of_events c = own_short
