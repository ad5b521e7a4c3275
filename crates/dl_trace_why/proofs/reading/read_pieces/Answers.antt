use Rattle.std.proofs.Common.{ℕ, ◌+◌, Option, refl, sym, subst, ◌∙◌}
use Rattle.std.specs.Prelude.{Ok}
use Rattle.dl_pieces.specs.Pieces.{ReadsAt}
use Rattle.dl_trace_files.proofs.Looking.{left_on, left_same}
use Rattle.dl_trace_why.proofs.Pieces.{bad_ends, ends_there, goes_on, ok_says, sets_out}
use Rattle.dl_trace_why.proofs.reading.read_pieces.Goals as goal

pub loop-place-init : goal.loop-place-init
loop-place-init g c =
    let old = g.F.Folder.told c.args.folder.now in
    record { within = λ before at. sets_out before c.args.name.now old.files c.args.follower.now at; left = left_same old; well = refl }

pub returns-then-count-eq0-clause-read : goal.returns-then-count-eq0-clause-read
returns-then-count-eq0-clause-read g c = λ before at.
    let i = c.loop-place.invariant in
    let now = (g.F.Folder.told c.loop-place.folder).files in
    let found = subst (λ (o : Option ℕ). ReadsAt now c.args.name.now c.loop-place.place c.read_at.new.into (Ok o)) c.in-Ok-Some.field-0-is c.in-Ok-Some.ensures.found in
    ends_there before c.args.name.now c.read_at.new.into (g.F.Folder.told c.args.folder.now).files now c.loop-place.place c.in-Ok-Some.count c.loop-place.follower (i.within before at) i.left.files c.if-count-eq0.true
    found.1

pub returns-then-is_bad-clause-read : goal.returns-then-is_bad-clause-read
returns-then-is_bad-clause-read g c = λ before at.
    let i = c.loop-place.invariant in
    let old = (g.F.Folder.told c.args.folder.now).files in
    let now = (g.F.Folder.told c.loop-place.folder).files in
    let piece = c.read_at.new.into in
    let count = c.in-Ok-Some.count in
    let found = subst (λ (o : Option ℕ). ReadsAt now c.args.name.now c.loop-place.place piece (Ok o)) c.in-Ok-Some.field-0-is c.in-Ok-Some.ensures.found in
    let within = goes_on before c.args.name.now piece old now c.loop-place.place count c.loop-place.follower c.take.new.self (i.within before at) i.left.files found.0 found.1
    (λ told bytes follows. ok_says c.take.result (sym c.is_err.ensures.value ∙ c.if-is_err.false) (c.take.ensures told bytes follows)) in
    bad_ends before c.args.name.now piece old now (c.loop-place.place + count) c.loop-place.place count c.take.new.self within i.left.files (c.is_bad.ensures before within.bytes within.follows c.if-is_bad.true) found.1

pub loop-place-preserved : goal.loop-place-preserved
loop-place-preserved g c =
    let i = c.loop-place.invariant in
    let old = g.F.Folder.told c.args.folder.now in
    let now = g.F.Folder.told c.loop-place.folder in
    let new = g.F.Folder.told c.read_at.new.self in
    let piece = c.read_at.new.into in
    let found = subst (λ (o : Option ℕ). ReadsAt now.files c.args.name.now c.loop-place.place piece (Ok o)) c.in-Ok-Some.field-0-is c.in-Ok-Some.ensures.found in
    record {
      within = λ before at.
          goes_on before c.args.name.now piece old.files now.files c.loop-place.place c.in-Ok-Some.count c.loop-place.follower c.take.new.self (i.within before at) i.left.files found.0 found.1
          (λ told bytes follows. ok_says c.take.result (sym c.is_err.ensures.value ∙ c.if-is_err.false) (c.take.ensures told bytes follows));
      left = left_on old now new i.left (record { files = c.in-Ok-Some.ensures.stays; changes = c.in-Ok-Some.ensures.unchanged });
      well = c.in-Ok-Some.ensures.cause ∙ i.well;
    }
