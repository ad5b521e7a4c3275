use Rattle.std.proofs.Common.{refl}
use Rattle.dl_client.proofs.laws.a_call_is_written_as_by_libdlt.Goals as goal

pub returns : goal.returns
returns c = refl
