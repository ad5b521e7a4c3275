-- What is kept of marks and of reports, with one more.
use Rattle.std.proofs.Common.{◌≡◌, ◌+◌, Bool, true, false, cond, eqb, List, [], ◌∷◌, ◌++◌, Option, Some, refl, sym, ap, ◌∙◌}
use Rattle.std.specs.Prelude.{unwrap_or}
use Rattle.std.proofs.lemmas.Bool.{eqb-true}
use Rattle.dl_lemmas.proofs.Lists.{fold-one}
use Rattle.dl_lemmas.proofs.Bools.{both}
use Rattle.dl_picture.specs.declared.chart.Bin.{Bin}
use Rattle.dl_picture.specs.Tally.{joined, no_bin}
use Rattle.dl_sessions.specs.Gaps.{same_session, same_source}
use Rattle.dl_sessions.proofs.OneMore.{session_is, source_is}
use Rattle.dl_timeline.specs.declared.timeline.Report.{Report}
use Rattle.dl_timeline.specs.declared.timeline.ReportSpot.{ReportSpot}
use Rattle.dl_timeline.specs.declared.timeline.Spot.{Spot}
use Rattle.dl_timeline.specs.declared.timeline.SpotMark.{SpotMark}
use Rattle.dl_timeline.specs.Timeline.{marked, reported, same_report, same_spot, with_mark, with_report}

spot_is : (a b : Spot) → same_spot a b ≡ true → a ≡ b
spot_is a b e =
    let parts = both (same_session a.session b.session) (eqb a.column b.column) e in
    let p = session_is a.session b.session parts.0 in
    let q = eqb-true a.column b.column parts.1 in
    λ i. record { session = p i; column = q i }

report_is : (a b : ReportSpot) → same_report a b ≡ true → a ≡ b
report_is a b e =
    let parts = both (same_source a.source b.source) (eqb a.column b.column) e in
    let p = source_is a.source b.source parts.0 in
    let q = eqb-true a.column b.column parts.1 in
    λ i. record { source = p i; column = q i }

pub spot_kept : (old new : Spot → Option Bin) (marks : List SpotMark) (m : SpotMark) (now : Bin) → ((spot : Spot) → new spot ≡ cond (same_spot m.spot spot) (Some now) (old spot)) →
    now ≡ joined (marked m.spot marks) m.bin → ((spot : Spot) → unwrap_or (old spot) no_bin ≡ marked spot marks) → (spot : Spot) → unwrap_or (new spot) no_bin ≡ marked spot (marks ++ m ∷ [])
spot_kept old new marks m now noted is keeps spot = ap (λ (o : Option Bin). unwrap_or o no_bin) (noted spot) ∙ by_test (same_spot m.spot spot) refl ∙ sym (fold-one (with_mark spot) no_bin marks m) where
  by_test : (b : Bool) → same_spot m.spot spot ≡ b → unwrap_or (cond b (Some now) (old spot)) no_bin ≡ with_mark spot (marked spot marks) m
  by_test true same = is ∙ ap (λ (c : Spot). joined (marked c marks) m.bin) (spot_is m.spot spot same) ∙ sym (ap (λ (b : Bool). cond b (joined (marked spot marks) m.bin) (marked spot marks)) same)
  by_test false apart = keeps spot ∙ sym (ap (λ (b : Bool). cond b (joined (marked spot marks) m.bin) (marked spot marks)) apart)

pub report_kept : (old new : ReportSpot → Option Bin) (so_far : List Report) (m : Report) (now : Bin) → ((spot : ReportSpot) → new spot ≡ cond (same_report m.spot spot) (Some now) (old spot)) →
    now ≡ joined (reported m.spot so_far) m.bin → ((spot : ReportSpot) → unwrap_or (old spot) no_bin ≡ reported spot so_far) → (spot : ReportSpot) → unwrap_or (new spot) no_bin ≡ reported spot (so_far ++ m ∷ [])
report_kept old new so_far m now noted is keeps spot = ap (λ (o : Option Bin). unwrap_or o no_bin) (noted spot) ∙ by_test (same_report m.spot spot) refl ∙ sym (fold-one (with_report spot) no_bin so_far m) where
  by_test : (b : Bool) → same_report m.spot spot ≡ b → unwrap_or (cond b (Some now) (old spot)) no_bin ≡ with_report spot (reported spot so_far) m
  by_test true same = is ∙ ap (λ (c : ReportSpot). joined (reported c so_far) m.bin) (report_is m.spot spot same) ∙ sym (ap (λ (b : Bool). cond b (joined (reported spot so_far) m.bin) (reported spot so_far)) same)
  by_test false apart = keeps spot ∙ sym (ap (λ (b : Bool). cond b (joined (reported spot so_far) m.bin) (reported spot so_far)) apart)
