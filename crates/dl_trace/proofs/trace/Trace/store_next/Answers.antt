use Rattle.std.proofs.Common.{◌≡◌, ℕ, ◌+◌, cond, length, take, ◌∙◌, sym, ap, subst, Some, Ok, Err}
use Rattle.dl_trace.specs.State.{Trace, counted}
use Rattle.dl_trace.specs.Kept.{IsSound}
use Rattle.dl_trace.specs.Batch.{parted}
use Rattle.dl_trace.specs.Pieces.{room_of, room_for}
use Rattle.dl_trace.specs.Storing.{Stops}
use Rattle.dl_trace.proofs.Batches.{length-parted}
use Rattle.dl_trace.proofs.Placed.{ended_with}
use Rattle.dl_trace.proofs.Next.{placed_at, not_placed_at, open_begun}
use Rattle.dl_trace.proofs.Others.{places_changes}
use Rattle.dl_trace.proofs.trace.Trace.store_next.Goals as goal

pub returns-in-Ok-clause-others : goal.returns-in-Ok-clause-others
returns-in-Ok-clause-others g c =
    places_changes c.begins-begins.result c.args.self.now c.place.new.self (g.F.Folder.told c.args.folder.now).files (g.F.Folder.told c.place.new.folder).files (Ok c.in-Ok.field-0) (take c.front_of-piece.result.bytes c.args.bytes.now) (subst IsSound c.self.view_is c.self.invariant)
    (λ e. open_begun c.args.self.now c.args.sizes.now c.args.bytes.now c.requires.some c.requires.sizes (c.begins-begins.ensures.open e)) c.in-Ok.ensures.trace

pub returns-in-Ok-clause-stored : goal.returns-in-Ok-clause-stored
returns-in-Ok-clause-stored g c =
    let b = c.begins-begins.result in
    let room : c.room_for.result ≡ room_for b c.args.self.now = c.room_for.ensures ∙ ap (λ (r : ℕ). cond b c.self.inside.file_size r) c.room.ensures.value ∙ ap (λ (t : Trace). cond b t.file_size (room_of c.args.self.now)) c.self.view_is in
    placed_at b c.args.self.now c.place.new.self c.args.sizes.now c.args.bytes.now (g.F.Folder.told c.args.folder.now).files (g.F.Folder.told c.place.new.folder).files c.room_for.result c.front_of-piece.result.frames c.front_of-piece.result.bytes
    c.requires.some c.requires.sizes (subst IsSound c.self.view_is c.self.invariant) c.requires.goes_on c.begins-begins.ensures.new c.begins-begins.ensures.open room c.front_of-piece.ensures.frames c.front_of-piece.ensures.bytes c.front_of-piece.ensures.room c.in-Ok.ensures.trace

pub returns-in-Err-clause-stopped : goal.returns-in-Err-clause-stopped
returns-in-Err-clause-stopped g c =
    let b = c.begins-begins.result in
    let told = (g.F.Folder.told c.args.folder.now).files in
    let now = (g.F.Folder.told c.place.new.folder).files in
    let frames = parted c.args.sizes.now c.args.bytes.now in
    let ended : ℕ → Trace → Trace = λ n t. record t { state = record { files = t.state.files; end = Some c.in-Err.end }; unstored = counted (t.unstored + n) } in
    let counts : c.miss.new.self ≡ ended_with c.in-Err.end frames c.place.new.self =
    c.miss.ensures ∙ ap (ended (length c.args.sizes.now)) c.self-in-Err.view_is ∙ ap (λ (n : ℕ). ended n c.place.new.self) (sym (length-parted c.args.sizes.now c.args.bytes.now)) in
    let room : c.room_for.result ≡ room_for b c.args.self.now = c.room_for.ensures ∙ ap (λ (r : ℕ). cond b c.self.inside.file_size r) c.room.ensures.value ∙ ap (λ (t : Trace). cond b t.file_size (room_of c.args.self.now)) c.self.view_is in
    subst (λ (t : Trace). Stops c.in-Err.end frames c.args.self.now t told now) (sym counts)
    (not_placed_at b c.args.self.now c.place.new.self c.args.sizes.now c.args.bytes.now told now c.in-Err.end c.room_for.result c.front_of-piece.result.bytes
    c.requires.some c.requires.sizes (subst IsSound c.self.view_is c.self.invariant) c.begins-begins.ensures.new c.begins-begins.ensures.open room c.front_of-piece.ensures.bytes c.front_of-piece.ensures.room c.in-Err.ensures.trace)

pub returns-in-Err-clause-others : goal.returns-in-Err-clause-others
returns-in-Err-clause-others g c =
    places_changes c.begins-begins.result c.args.self.now c.place.new.self (g.F.Folder.told c.args.folder.now).files (g.F.Folder.told c.place.new.folder).files (Err c.in-Err.end) (take c.front_of-piece.result.bytes c.args.bytes.now) (subst IsSound c.self.view_is c.self.invariant)
    (λ e. open_begun c.args.self.now c.args.sizes.now c.args.bytes.now c.requires.some c.requires.sizes (c.begins-begins.ensures.open e)) c.in-Err.ensures.trace
