use Rattle.std.proofs.Common.{◌≡◌, Bool, ℕ, List, Some, refl, ap, subst, ◌∙◌}
use Rattle.std.specs.Prelude.{IfSome, nat_lt}
use Rattle.dl_ending.specs.Storage.{Concludes}
use Rattle.dl_core.proofs.LeftFiles.{changes_none}
use Rattle.dl_startup.specs.declared.failures.Failures.{Failures}
use Rattle.dl_startup.specs.declared.status.Status.TheVariants.{OutOfMemory}
use Rattle.dl_storage.specs.Storing.{ChangesFiltersFiles}
use Rattle.dl_storage.specs.declared.filter.Filter.{Filter}
use Rattle.dl_live.specs.Ends.{failed_so}
use Rattle.dl_live.specs.Performing.{status_of}
use Rattle.dl_live.specs.Told.{told}
use Rattle.dl_live.proofs.BegunRuns.{performs_nothing, unheard}
use Rattle.dl_live.proofs.PerformedRuns.{can_be_played, can_report, heard_so, made_trace, own_changes, performs_so}
use Rattle.dl_live.proofs.StoredRuns.{leaves_so}
use Rattle.dl_live.proofs.program.perform.Goals as goal

pub assemble-requires-clause-trace : goal.assemble-requires-clause-trace
assemble-requires-clause-trace g c = made_trace c.args.begun c.requires.begun

pub returns-in-Err-clause-performs : goal.returns-in-Err-clause-performs
returns-in-Err-clause-performs g c = λ first begins quiet.
    performs_nothing g.N.L.Link.told c.args.begun (told first (g.N.Net.told c.args.net.now) (g.O.Sink.told c.args.out.now))
    (told (g.F.Folder.told c.args.folder.now) (g.N.Net.told c.args.net.now) (g.O.Sink.told c.args.out.now)) c.to_nothing.result.status OutOfMemory c.to_nothing.result.account
    c.to_nothing.result.storage c.to_nothing.result.links c.to_nothing.ensures.status c.to_nothing.ensures.account c.to_nothing.ensures.storage c.to_nothing.ensures.links tt refl

pub returns-in-Err-clause-others : goal.returns-in-Err-clause-others
returns-in-Err-clause-others g c =
    let files = (g.F.Folder.told c.args.folder.now).files in leaves_so c.args.begun files files (changes_none c.args.begun.trace files)

pub returns-in-Err-listen-clause-performs : goal.returns-in-Err-listen-clause-performs
returns-in-Err-listen-clause-performs g c = λ first begins quiet.
    let old = told first (g.N.Net.told c.args.net.now) (g.O.Sink.told c.args.out.now) in
    let new = told (g.F.Folder.told c.args.folder.now) (g.N.Net.told c.listen.new.self) (g.O.Sink.told c.args.out.now) in
    performs_nothing g.N.L.Link.told c.args.begun old new c.to_nothing-in-Err-listen.result.status (status_of c.in-Err-listen.fault) c.to_nothing-in-Err-listen.result.account
    c.to_nothing-in-Err-listen.result.storage c.to_nothing-in-Err-listen.result.links (c.to_nothing-in-Err-listen.ensures.status ∙ c.unheard_of.ensures) c.to_nothing-in-Err-listen.ensures.account
    c.to_nothing-in-Err-listen.ensures.storage c.to_nothing-in-Err-listen.ensures.links
    (unheard c.in-Err-listen.fault old new c.in-Err-listen.ensures.cause c.in-Err-listen.ensures.port quiet.unchanged) refl

pub returns-in-Err-listen-clause-others : goal.returns-in-Err-listen-clause-others
returns-in-Err-listen-clause-others g c =
    let files = (g.F.Folder.told c.args.folder.now).files in leaves_so c.args.begun files files (changes_none c.args.begun.trace files)

pub play-requires-clause-can : goal.play-requires-clause-can
play-requires-clause-can g c κs within = can_be_played c.args.begun c.in-Ok.players c.requires.runnable c.in-Ok.ensures

pub returns-in-Err-play-clause-performs : goal.returns-in-Err-play-clause-performs
returns-in-Err-play-clause-performs g c = λ first begins quiet.
    performs_nothing g.N.L.Link.told c.args.begun (told first (g.N.Net.told c.args.net.now) (g.O.Sink.told c.args.out.now))
    (told (g.F.Folder.told c.play.new.folder) (g.N.Net.told c.play.new.net) (g.O.Sink.told c.args.out.now)) c.to_nothing-in-Err-play.result.status OutOfMemory c.to_nothing-in-Err-play.result.account
    c.to_nothing-in-Err-play.result.storage c.to_nothing-in-Err-play.result.links c.to_nothing-in-Err-play.ensures.status c.to_nothing-in-Err-play.ensures.account
    c.to_nothing-in-Err-play.ensures.storage c.to_nothing-in-Err-play.ensures.links tt refl

pub returns-in-Err-play-clause-others : goal.returns-in-Err-play-clause-others
returns-in-Err-play-clause-others g c =
    let old = g.F.Folder.told c.args.folder.now in
    let settled = g.F.Folder.told c.play.new.folder in
    leaves_so c.args.begun old.files settled.files (own_changes c.args.begun c.in-Ok.players old settled c.in-Ok.ensures c.play.ensures.leaves.1.others)

pub conclude-status-requires : goal.conclude-status-requires
conclude-status-requires g c =
    let played = c.in-Ok-play.played in
    can_report g.N.L.Link.told c.args.begun c.in-Ok.players played.wanted played.failed (g.N.Net.told c.listen.new.self) (g.N.Net.told c.play.new.net) (g.F.Folder.told c.args.folder.now)
    (g.F.Folder.told c.play.new.folder) played.account played.links c.requires.runnable c.in-Ok.ensures c.requires.begun c.in-Ok-play.ensures.played

pub returns-clause-performs : goal.returns-clause-performs
returns-clause-performs g c = λ first begins quiet.
    let played = c.in-Ok-play.played in
    let before = g.N.Net.told c.args.net.now in
    let net = g.N.Net.told c.listen.new.self in
    let heard = heard_so c.args.begun.port before net (subst (λ (n : ℕ). IfSome before.listens_on (λ _. net.listens_on ≡ Some (Some n))) c.in-Ok.ensures.port c.in-Ok-listen.ensures.port)
    c.listen.ensures.launched c.listen.ensures.waiting c.in-Ok-listen.ensures.cause in
    let net_failed = nat_lt c.faults-net_before.result c.faults-net_after.result in
    let folder_failed = nat_lt c.faults-folder_before.result c.faults-folder_after.result in
    let wrong = c.went_wrong-failures.ensures ∙ ap (λ (net : Bool). failed_so net folder_failed played.wanted) c.either.ensures in
    let old = g.F.Folder.told c.args.folder.now in
    let settled = g.F.Folder.told c.play.new.folder in
    let last = g.F.Folder.told c.conclude-status.new.folder in
    performs_so g.N.L.Link.told c.args.begun c.in-Ok.players played.wanted played.failed before net (g.N.Net.told c.play.new.net) first old settled played.account played.links
    c.requires.runnable c.in-Ok.ensures begins quiet heard c.in-Ok-play.ensures.played played.conf played.filters last (g.O.Sink.told c.args.out.now) (g.O.Sink.told c.conclude-status.new.out)
    net_failed folder_failed c.conclude-status.result.status c.conclude-status.result.storage
    (c.in-Ok-play.ensures.conf.0 ∙ c.in-Ok.ensures.conf) (c.in-Ok-play.ensures.conf.1 ∙ c.in-Ok.ensures.filters) (λ i. nat_lt (c.faults-net_before.ensures i) (c.faults-net_after.ensures i))
    (λ i. nat_lt (c.faults-folder_before.ensures i) (c.faults-folder_after.ensures i))
    (own_changes c.args.begun c.in-Ok.players old settled c.in-Ok.ensures c.play.ensures.leaves.1.others) c.conclude-status.ensures.others
    (λ s is. subst (λ (f : Failures). Concludes s played.account played.filters f settled last (g.O.Sink.told c.args.out.now) (g.O.Sink.told c.conclude-status.new.out) c.conclude-status.result.status c.conclude-status.result.storage) wrong
    (c.conclude-status.ensures.concludes s is))

pub returns-clause-others : goal.returns-clause-others
returns-clause-others g c =
    let old = g.F.Folder.told c.args.folder.now in
    let settled = g.F.Folder.told c.play.new.folder in
    let last = g.F.Folder.told c.conclude-status.new.folder in (
      settled.files,
      own_changes c.args.begun c.in-Ok.players old settled c.in-Ok.ensures c.play.ensures.leaves.1.others,
      subst (λ (filters : List Filter). ChangesFiltersFiles filters settled.files last.files) (c.in-Ok-play.ensures.conf.1 ∙ c.in-Ok.ensures.filters) c.conclude-status.ensures.others,
    )
