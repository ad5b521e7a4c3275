use Rattle.std.proofs.Common.{◌≡◌, ℕ, ◌+◌, ◌++◌, ◌∷◌, [], List, length, map, take, sym, ap, subst, ◌∙◌, append_assoc, arith}
use Rattle.std.proofs.Math.Seq.{take-length}
use Rattle.std.proofs.lemmas.List.{append-nil, map-append}
use Rattle.dl_lemmas.proofs.Lists.{item_here}
use Rattle.dl_sessions.specs.Account.{holes, totals_of}
use Rattle.dl_sessions.specs.Gaps.{entries}
use Rattle.dl_sessions.specs.declared.session.Hole.{Hole}
use Rattle.dl_timeline.specs.Timeline.{KeepsMarks, hole_mark}
use Rattle.dl_timeline.specs.declared.timeline.SpotMark.{SpotMark}
use Rattle.dl_timeline.proofs.timeline.add_holes.Goals as goal

pub loop-hole-init : goal.loop-hole-init
loop-hole-init c = λ stream marks after keeps. subst (KeepsMarks c.args.spots.now) (sym (append-nil marks)) keeps

pub loop-hole-preserved : goal.loop-hole-preserved
loop-hole-preserved c = λ stream marks after keeps.
    let i = c.loop-hole.hole-index in
    let all = c.holes-holes.result.now in
    let hole : Hole = c.hole-item.result in
    let mark : Hole → SpotMark = hole_mark c.args.axis (λ session. totals_of session (entries stream)) in
    let one : take (i + 1) all ≡ take i all ++ hole ∷ [] = (item_here all i hole c.loop-hole-test.true c.hole-item.is).0 in
    let more : marks ++ map mark (take (i + 1) all) ≡ (marks ++ map mark (take i all)) ++ c.hole_mark.result ∷ [] =
    ap (λ (l : List Hole). marks ++ map mark l) one ∙ ap (λ (l : List SpotMark). marks ++ l) (map-append mark (take i all) (hole ∷ []))
    ∙ sym (append_assoc marks (map mark (take i all)) (mark hole ∷ [])) ∙ ap (λ (m : SpotMark). (marks ++ map mark (take i all)) ++ m ∷ []) (sym (c.hole_mark.ensures stream after)) in
    subst (KeepsMarks c.add_mark.new.spots) (sym more) (c.in_ok-add_mark.ensures (marks ++ map mark (take i all)) (c.loop-hole.invariant stream marks after keeps))

pub returns : goal.returns
returns c = λ stream marks after keeps.
    let all = c.holes-holes.result.now in
    let mark : Hole → SpotMark = hole_mark c.args.axis (λ session. totals_of session (entries stream)) in
    let end : c.loop-hole.hole-index ≡ length all = omega arith in
    let whole : take c.loop-hole.hole-index all ≡ holes stream = ap (λ (n : ℕ). take n all) end ∙ take-length all ∙ c.holes-holes.ensures stream after in
    subst (λ (l : List Hole). KeepsMarks c.loop-hole.spots (marks ++ map mark l)) whole (c.loop-hole.invariant stream marks after keeps)
