use Rattle.dl_runs.proofs.KeptIds.{named_id, kept_id, placed_id}
use Rattle.dl_runs.proofs.call_frames.applications_keep_their_ids.Goals as goal

pub returns-clause-named : goal.returns-clause-named
returns-clause-named c = named_id

pub returns-clause-kept : goal.returns-clause-kept
returns-clause-kept c = kept_id

pub returns-clause-placed : goal.returns-clause-placed
returns-clause-placed c = placed_id
