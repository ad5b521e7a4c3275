-- Links are dropped only where they may be.
use Rattle.std.proofs.Common.{◌≡◌, ◌⊎◌, ◌+◌, ◌<◌, ◌≤◌, inl, inr, List, [], ◌++◌, length, count_by, ap, ◌∙◌, arith}
use Rattle.std.specs.Prelude.{cond}
use Rattle.std.proofs.lemmas.List.Sums.{sum_by-append}
use Rattle.dl_bytes.specs.Limits.{open_client_limit}
use Rattle.dl_events.specs.declared.event.Event.{Event}
use Rattle.dl_account.specs.State.{AccountState}
use Rattle.dl_model.specs.ClientEnds.{MayDrop}
use Rattle.dl_outside.specs.Links.{Links}
use Rattle.dl_outside.specs.Told.{FolderTold, LinkTold, NetTold}
use Rattle.dl_loop.specs.Later.{GoesRound}
use Rattle.dl_model.specs.Journal.{is_connect}
use Rattle.dl_loop.specs.Scene.{Scene}
use Rattle.dl_loop.specs.State.{DaemonState}
use Rattle.dl_loop.specs.Stops.{IsStopped}

-- with more events no fewer clients came
both_count : (past more : List Event) → count_by is_connect (past ++ more) ≡ count_by is_connect past + count_by is_connect more
both_count past more = sum_by-append (λ (e : Event). cond (is_connect e) 1 0) past more

pub may_drop_after_rounds : {L : Type 0} (net net_now : NetTold L) (old new : Scene L) → old.daemon.links.links ≡ [] → old.daemon.dropped ≡ 0 → GoesRound net net_now old new
    → MayDrop new.daemon.journal.events new.daemon.dropped
may_drop_after_rounds {L} net net_now old new nobody none goes = λ few. by goes.dropped few where
  came : ◌≤◌ (length new.daemon.links.links) (count_by is_connect new.daemon.journal.events)
  came = omega (
    arith,
    goes.later.connects,
    ap (λ (ls : List L). length ls) nobody,
    both_count old.daemon.journal.events goes.more,
    ap (λ (es : List Event). count_by is_connect es) goes.later.events,
  )

  by : (new.daemon.dropped ≡ old.daemon.dropped) ⊎ (open_client_limit ≤ length new.daemon.links.links) → count_by is_connect new.daemon.journal.events < open_client_limit → new.daemon.dropped ≡ 0
  by (inl same) few = same ∙ none
  by (inr full) few = absurd (omega (arith, full, few, came))

pub may_drop_after_stop : {L : Type 0} (told : L → LinkTold) (d : DaemonState L) (account : AccountState) (links : Links L) (folder folder_now : FolderTold) → MayDrop d.journal.events d.dropped
    → IsStopped told d account links folder folder_now → MayDrop account.events account.outcome.dropped
may_drop_after_stop told d account links folder folder_now may stopped = λ few.
    stopped.dropped
    ∙ may (omega (arith, few, both_count d.journal.events stopped.more, ap (λ (es : List Event). count_by is_connect es) stopped.events))
