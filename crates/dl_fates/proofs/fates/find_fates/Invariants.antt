use Rattle.std.proofs.Common.{◌≡◌, [], take, drop}
use Rattle.dl_model.specs.Setting.{Setting}
use Rattle.dl_model.specs.WholeAccounts.{source_of_records}
use Rattle.dl_laws.specs.Fates.{next_client, of_queued}
use Rattle.dl_fates.specs.Followed.{IsFollowing}
use Rattle.dl_fates.specs.Found.{TellsAll}
use Rattle.dl_fates.proofs.fates.find_fates.Given as goal

-- the client is followed up to here, the one that comes next is known, and what was found with the search from here on tells all
abbrev pub invariant-loop-place : goal.invariant-loop-place
invariant-loop-place l = record {
  follows : IsFollowing l.sources (take l.place l.events) l.follower;
  client : l.follower.client ≡ l.client;
  limit : l.follower.waiting.limit ≡ l.buffer;
  next : l.next ≡ next_client (drop l.place l.events);
  tells : (setting : Setting) → setting.ecu ≡ l.sources.ecu →
      let source = source_of_records setting l.sources.records.now l.sources.specs.now in
      TellsAll source l.buffer l.client (λ name. of_queued source l.buffer l.client name.writer name.call [] l.events) l.calls (take l.place l.events) (drop l.place l.events);
}
