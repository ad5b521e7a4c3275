use Rattle.std.proofs.Common.{ℕ, List, Option, refl, subst}
use Rattle.std.specs.Prelude.{Ok}
use Rattle.dl_trace_why.specs.Reads.{EndsFile, HasAdded, HasRead, ReadsPieces}
use Rattle.dl_trace_why.specs.declared.reading.Reading.{Reading}
use Rattle.dl_trace_why.proofs.Telling.{added_file, bad_file}
use Rattle.dl_trace_why.proofs.reading.add_file.Goals as goal

pub returns-in-Ok-None-end_file-clause-adds : goal.returns-in-Ok-None-end_file-clause-adds
returns-in-Ok-None-end_file-clause-adds g c = λ before at.
    let told = (g.F.Folder.told c.args.folder.now).files in
    let old = c.args.reading.now in
    let mid : Reading = record old { follower = c.read_pieces.new.follower } in
    let new = c.end_file.new.reading in
    let length = c.in-Ok-Some.length in
    let found = subst (λ (o : Option ℕ). ReadsPieces before c.as_str.result.now told mid.follower (Ok o)) c.in-Ok-Some.field-0-is (c.in-Ok-Some.ensures.read before at) in
    let read = subst (λ (n : List ℕ). HasRead before n told length mid.follower) c.as_str.ensures found in
    let ended =
    subst (λ (o : Option ℕ). EndsFile c.called.result.now before read.bytes length mid new (Ok o)) c.in-Ok-None-end_file.field-0-is (c.in-Ok-None-end_file.ensures before read.bytes read.follows) in
    let added = subst (λ (l : List ℕ). HasAdded l before read.bytes mid.follower.held.items mid new) c.called.ensures ended in
    (c.in-Ok-Some.ensures.looks.cause, added_file c.args.is_alone c.args.name before told length old mid new read refl added)

pub returns-in-Ok-Some-end_file-clause-adds : goal.returns-in-Ok-Some-end_file-clause-adds
returns-in-Ok-Some-end_file-clause-adds g c = λ before at.
    let told = (g.F.Folder.told c.args.folder.now).files in
    let mid : Reading = record c.args.reading.now { follower = c.read_pieces.new.follower } in
    let length = c.in-Ok-Some.length in
    let found = subst (λ (o : Option ℕ). ReadsPieces before c.as_str.result.now told mid.follower (Ok o)) c.in-Ok-Some.field-0-is (c.in-Ok-Some.ensures.read before at) in
    let read = subst (λ (n : List ℕ). HasRead before n told length mid.follower) c.as_str.ensures found in
    let bad = subst (λ (o : Option ℕ). EndsFile c.called.result.now before read.bytes length mid c.end_file.new.reading (Ok o)) c.in-Ok-Some-end_file.field-0-is
    (c.in-Ok-Some-end_file.ensures before read.bytes read.follows) in
    (refl, bad_file before c.args.name told length c.in-Ok-Some-end_file.place mid read bad.0 bad.1)
