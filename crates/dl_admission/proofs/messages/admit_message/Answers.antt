use Rattle.std.proofs.Common.{◌+◌, List, ℕ, length, ap, sym, subst, ◌∙◌, arith}
use Rattle.dl_model.specs.Backlog.{size_of}
use Rattle.dl_model.specs.Frames.{user_frames}
use Rattle.dl_hub.specs.State.{EachHasRoom}
use Rattle.dl_core.specs.Admission.{has_frames}
use Rattle.dl_core.specs.State.{Core}
use Rattle.dl_admission.specs.Part.{part}
use Rattle.dl_admission.specs.Slow.{ClosesSlow}
use Rattle.dl_admission.proofs.Entries.{message_admits, only_hub, settled_behind, sure, uses_one}
use Rattle.dl_admission.proofs.messages.admit_message.Goals as goal

pub user-refusal-requires-clause-settled : goal.user-refusal-requires-clause-settled
user-refusal-requires-clause-settled g c = settled_behind c.user_need-need.result _ _ (c.close_slow.ensures.closes (g.F.Folder.told c.args.folder.now)) c.requires.settled

pub user-refusal-requires-clause-room : goal.user-refusal-requires-clause-room
user-refusal-requires-clause-room g c =
    let closes = c.close_slow.ensures.closes (g.F.Folder.told c.args.folder.now) in
    let ecu = ap (λ (k : Core). k.ecu) closes.core in
    subst (λ (n : ℕ). EachHasRoom n c.close_slow.new.core.hub) (c.user_need-need.ensures ∙ ap (λ (e : List ℕ). size_of (user_frames e c.args.msg)) (sym ecu)) c.close_slow.ensures.room

pub user-refusal-requires-clause-few : goal.user-refusal-requires-clause-few
user-refusal-requires-clause-few g c =
    let closes = c.close_slow.ensures.closes (g.F.Folder.told c.args.folder.now) in
    omega (arith, c.requires.few, ap (λ (k : Core). k.hub.admitted + length (user_frames k.ecu c.args.msg)) closes.core)

pub returns-clause-forwards : goal.returns-clause-forwards
returns-clause-forwards g c =
    let told = g.F.Folder.told c.args.folder.now in
    let user = c.user-refusal.ensures in
    let same = sure c.user-refusal.result (has_frames c.args.msg) _ user.memory c.requires.frames user.registry c.requires.frames in
    message_admits c.args.channel c.args.msg c.args.moment (part c.args.core.now (g.J.Journal.events c.args.journal.now) told)
    (part c.close_slow.new.core (g.J.Journal.events c.close_slow.new.journal) told) _ c.requires.settled
    (subst (λ (n : ℕ). ClosesSlow n (part c.args.core.now (g.J.Journal.events c.args.journal.now) told) (part c.close_slow.new.core (g.J.Journal.events c.close_slow.new.journal) told))
    c.user_need-need.ensures (c.close_slow.ensures.closes told))
    (sure c.user-refusal.result (has_frames c.args.msg) _ user.memory c.requires.frames user.notes)
    (only_hub c.close_slow.new.core c.user-refusal.new.self same user.rest)

pub returns-clause-uses : goal.returns-clause-uses
returns-clause-uses g c =
    let user = c.user-refusal.ensures in
    let notes = sure c.user-refusal.result (has_frames c.args.msg) _ user.memory c.requires.frames user.notes in
    uses_one _ _ c.close_slow.new.core.hub _ _ _ _ _ _ _ c.close_slow.ensures.open c.close_slow.ensures.noted c.close_slow.ensures.spare notes.still_open
    (sure c.user-refusal.result (has_frames c.args.msg) _ user.memory c.requires.frames user.noted)
    (sure c.user-refusal.result (has_frames c.args.msg) _ user.memory c.requires.frames user.spare c.requires.frames)
