use Rattle.std.proofs.Common.{ℕ, List, Err, refl, sym, ap, subst, ◌∙◌, drop}
use Rattle.dl_trace.specs.State.{Trace}
use Rattle.dl_trace.specs.InFolder.{ChangesTraceFiles}
use Rattle.dl_trace.specs.Batch.{parted}
use Rattle.dl_trace.specs.Storing.{HasCause, StoresOrStops}
use Rattle.dl_trace.specs.Kept.{IsSound}
use Rattle.dl_trace.proofs.Joined.{unchanged, changes_later}
use Rattle.dl_trace.proofs.Looping.{SoFar, sets_out, goes_on, stops, if_none}
use Rattle.dl_trace.proofs.trace.Trace.store.Goals as goal

pub returns-in-Some-clause-others : goal.returns-in-Some-clause-others
returns-in-Some-clause-others g c = unchanged c.args.self.now.directory (g.F.Folder.told c.args.folder.now).files

pub loop-sizes-init : goal.loop-sizes-init
loop-sizes-init g c = (
  sets_out c.args.self.now (g.F.Folder.told c.args.folder.now).files c.args.sizes.now c.args.bytes.now (g.F.Folder.told c.args.folder.now).appends c.requires (subst IsSound c.self.view_is c.self.invariant)
      (ap (λ (t : Trace). t.state.end) (sym c.self.view_is) ∙ c.in-None.is),
  refl,
  unchanged c.args.self.now.directory (g.F.Folder.told c.args.folder.now).files,
)

pub loop-sizes-preserved : goal.loop-sizes-preserved
loop-sizes-preserved g c =
    let frames = parted c.args.sizes.now c.args.bytes.now in
    let old = c.args.self.now in
    let far = c.loop-sizes.invariant.0 in
    let told = (g.F.Folder.told c.args.folder.now).files in
    let now = (g.F.Folder.told c.loop-sizes.folder).files in
    let later = (g.F.Folder.told c.store_next.new.folder).files in
    let first = (g.F.Folder.told c.args.folder.now).appends in
    let more = goes_on frames old c.loop-sizes.self c.store_next.new.self told now later c.loop-sizes.sizes.now c.loop-sizes.bytes.now first (g.F.Folder.told c.loop-sizes.folder).appends (g.F.Folder.told c.store_next.new.folder).appends
    c.in-Ok.piece.frames c.in-Ok.piece.bytes far c.in-Ok.ensures.next c.in-Ok.ensures.stored c.store_next.ensures.appends in (
      subst (λ (ns : List ℕ). SoFar frames old c.store_next.new.self told later ns c.split_at-in-Ok.result.1.now first (g.F.Folder.told c.store_next.new.folder).appends) (sym c.split_at.ensures.back)
          (subst (λ (bs : List ℕ). SoFar frames old c.store_next.new.self told later (drop c.in-Ok.piece.frames c.loop-sizes.sizes.now) bs first (g.F.Folder.told c.store_next.new.folder).appends) (sym c.split_at-in-Ok.ensures.back) more),
      c.in-Ok.ensures.cause ∙ c.loop-sizes.invariant.1,
      changes_later old.directory told now later c.loop-sizes.invariant.2 (subst (λ (d : List ℕ). ChangesTraceFiles d now later) far.stored.same.directory c.store_next.ensures.others),
    )

pub returns-in-Err-clause-stored : goal.returns-in-Err-clause-stored
returns-in-Err-clause-stored g c =
    let frames = parted c.args.sizes.now c.args.bytes.now in
    let old = c.args.self.now in
    let told = g.F.Folder.told c.args.folder.now in
    let between = g.F.Folder.told c.loop-sizes.folder in
    let later = g.F.Folder.told c.store_next.new.folder in
    if_none old.state.end (StoresOrStops frames (Err c.in-Err.end) old c.store_next.new.self told later) (ap (λ (t : Trace). t.state.end) (sym c.self.view_is) ∙ c.in-None.is) (
      (stops frames old c.loop-sizes.self c.store_next.new.self told.files between.files later.files c.loop-sizes.sizes.now c.loop-sizes.bytes.now told.appends between.appends later.appends
          c.in-Err.end c.loop-sizes.invariant.0 c.in-Err.ensures.stopped c.store_next.ensures.appends).0,
      subst (λ (n : ℕ). HasCause {T = Unit {0}} n later.faults (Err c.in-Err.end)) c.loop-sizes.invariant.1 c.in-Err.ensures.cause,
    )

pub returns-in-Err-clause-others : goal.returns-in-Err-clause-others
returns-in-Err-clause-others g c =
    changes_later c.args.self.now.directory (g.F.Folder.told c.args.folder.now).files (g.F.Folder.told c.loop-sizes.folder).files (g.F.Folder.told c.store_next.new.folder).files c.loop-sizes.invariant.2
    (subst (λ (d : List ℕ). ChangesTraceFiles d (g.F.Folder.told c.loop-sizes.folder).files (g.F.Folder.told c.store_next.new.folder).files) c.loop-sizes.invariant.0.stored.same.directory c.store_next.ensures.others)
