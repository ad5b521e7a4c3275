use Rattle.dl_fates.proofs.Standing.{left_cut, left_whole}
use Rattle.dl_fates.proofs.stored_laws.the_files_left_are_trace_files.Goals as goal

pub returns-clause-whole : goal.returns-clause-whole
returns-clause-whole c = left_whole

pub returns-clause-ended : goal.returns-clause-ended
returns-clause-ended c = left_cut
