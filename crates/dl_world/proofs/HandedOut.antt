-- An application takes an injection.
use Rattle.std.proofs.Common.{◌≡◌, ◌<◌, ℕ, Bool, false, List, [], ◌∷◌, refl, sym, ap, subst, ◌∙◌}
use Rattle.std.specs.Prelude.{slice_index, nat_lt}
use Rattle.dl_script_model.specs.Marks.{Mark, Handed, injections, journal}
use Rattle.dl_script_model.specs.Steps.{just, when, take_injection}
use Rattle.dl_core.specs.Follows.{Run, HoldsTrace}
use Rattle.dl_core.specs.Standing.{KeepsTrace}
use Rattle.dl_world_calls.specs.Injections.{Counts}
use Rattle.dl_world.specs.Follows.{IsAfter, Doing}
use Rattle.dl_world.specs.declared.world.World.{World}
use Rattle.dl_world.proofs.Deeds.{does_none}
use Rattle.dl_world.proofs.Doings.{ComesTo, doing_by}
use Rattle.dl_world.proofs.Quiet.{handed_after, journal_same}
use Rattle.dl_lemmas.proofs.Numbers.{above_zero}

is_some_waiting : (run : Run) (done : List Mark) (app : ℕ) (old : World) → app < 16 → IsAfter run done old → injections app done ≡ slice_index old.injections app
is_some_waiting run done app old below after = after.so_far.injections_so.each app below

zero_tells : (n : ℕ) → n ≡ 0 → nat_lt 0 n ≡ false
zero_tells n none = rw none refl

-- one waits
pub takes_one : (app : ℕ) (old : World) (waiting : List ℕ) → app < 16 → 0 < slice_index old.injections app → Counts (just (Handed app)) old.injections waiting
    → Doing (λ setting. take_injection app) old (record old { injections = waiting })
takes_one app old waiting below some counts =
    doing_by (λ setting. take_injection app) old (record old { injections = waiting }) refl
    (λ run done after is_run.
    let there : take_injection app done ≡ Handed app ∷ [] =
    ap (λ (b : Bool). when b (just (Handed app)) done) (ap (nat_lt 0) (is_some_waiting run done app old below after) ∙ above_zero (slice_index old.injections app) some) in
    subst (λ (more : List Mark). ComesTo run done more old (record old { injections = waiting })) (sym there)
    (record {
      after = handed_after run done old after app waiting (counts done after.so_far.injections_so);
      holds = λ told (held : HoldsTrace run (journal done) old.core told). rw (journal_same done (Handed app ∷ []) refl) held;
      stands = λ told first (kept : KeepsTrace run first (journal done) old.core told). rw (journal_same done (Handed app ∷ []) refl) kept;
      unasked = refl;
    }))

-- none waits
pub takes_none : (app : ℕ) (world : World) → app < 16 → slice_index world.injections app ≡ 0 → Doing (λ setting. take_injection app) world world
takes_none app world below none told =
    does_none (λ setting answers. take_injection app) world told
    (λ run done answers after. ap (λ (b : Bool). when b (just (Handed app)) done) (ap (nat_lt 0) (is_some_waiting run done app world below after) ∙ zero_tells (slice_index world.injections app) none))
