-- A claim that was taken out of its application's ring is noted.
use Rattle.std.proofs.Common.{◌≡◌, ℕ, ◌<◌, List, [], ◌∷◌, ◌++◌, length, Option, Some, None, refl, sym, ap, subst, ◌∙◌}
use Rattle.std.specs.Prelude.{slice_get}
use Rattle.std.specs.Option.{option_and_then, option_map}
use Rattle.std.proofs.lemmas.List.{append-nil}
use Rattle.dl_lemmas.proofs.Options.{some_is}
use Rattle.dl_bytes.specs.Claim.{Claimed}
use Rattle.dl_bytes.specs.declared.moment.Moment.{Moment}
use Rattle.dl_events.specs.declared.event.Event.{Event}
use Rattle.dl_events.specs.declared.event.Event.TheVariants as event
use Rattle.dl_events.specs.Journal as notes
use Rattle.dl_events.specs.Journal.{Journaled}
use Rattle.dl_model.specs.ClientStream.{stream, traffic}
use Rattle.dl_script_model.specs.Marks.{Mark, Noted, Pushed, OfCall, OfClaim, journal, moment, pushes, taken}
use Rattle.dl_script_model.specs.Steps.{just}
use Rattle.dl_world_calls.specs.State.{Calls, as_held, claim_held, next_claim}
use Rattle.dl_world_calls.specs.Follows as calls
use Rattle.dl_world_calls.proofs.Changing.{next_tells}
use Rattle.dl_laws.proofs.FramesBehind.{traffic-append}
use Rattle.dl_core.specs.Follows.{Run, AddsAlone, HoldsTrace, source_of}
use Rattle.dl_core.specs.State.{Core}
use Rattle.dl_outside.specs.Told.{FolderTold}
use Rattle.dl_core.specs.Standing.{KeepsTrace}
use Rattle.dl_core.proofs.StandingFiles.{keeps_quiet, kept_same}
use Rattle.dl_world.specs.Follows.{IsAfter, Doing, noting}
use Rattle.dl_world.specs.State.{taken_by}
use Rattle.dl_world.specs.declared.world.World.{World}
use Rattle.dl_world.proofs.Doings.{ComesTo, after_quiet_event, doing_by, nothing_told, the_events}
use Rattle.dl_world.proofs.LoggedEvents.{pushed_at}
use Rattle.dl_world.proofs.Noting.{IsNoTurn, noted_before, journal_noted}

no_turn_claim : (claim : Claimed) (at : Moment) → IsNoTurn (event.Claim claim at)
no_turn_claim claim at = record { connects = refl; closes = refl; nobody = λ number. refl }

-- it puts nothing into any stream
claim_stream : (run : Run) (events : List Event) (claim : Claimed) (at : Moment) (number : ℕ)
    → stream (source_of run) run.setting.buffer number (events ++ event.Claim claim at ∷ []) ≡ stream (source_of run) run.setting.buffer number events
claim_stream run events claim at number =
    ap (Rattle.dl_model.specs.ClientStream.sent run.setting.ecu run.setting.buffer number)
    (traffic-append (source_of run) events (event.Claim claim at ∷ []) ∙ append-nil (traffic (source_of run) events))

-- the claim that is next in a ring is of the ring's application
next_is_own : (done : List Mark) (kept : Calls) (app : ℕ) (claim : Claimed) → app < length kept.apps → calls.IsAfter done kept → next_claim kept app ≡ Some claim → claim.app ≡ app
next_is_own done kept app claim below after next =
    by (slice_get (pushes app done) (taken app done)) refl (sym (ap (option_and_then claim_held) (next_tells done kept app below after)) ∙ next) where
      by : (o : Option Pushed) → slice_get (pushes app done) (taken app done) ≡ o → option_and_then claim_held (option_map as_held o) ≡ Some claim → claim.app ≡ app
      by None at is = absurd cc
      by (Some (OfCall call)) at is = absurd cc
      by (Some (OfClaim first)) at is = ap (λ (c : Claimed). c.app) (sym (some_is is)) ∙ pushed_at app done (taken app done) (OfClaim first) at

module _ (old : World) (app : ℕ) (claim : Claimed) (core_now : Core) (made kept : Journaled) (calls_now : Calls)
    (below : app < length old.calls.apps) (next : next_claim old.calls app ≡ Some claim) (made_is : made.events ≡ old.journal.events)
    (adds : AddsAlone (event.Claim claim old.moment ∷ []) old.core core_now)
    (noted : notes.Adds (Some made.events) (Some kept.events) (event.Claim claim old.moment))
    (took : (other : Claimed) (at : Moment) → other.app ≡ app → calls.Does (just (Noted (event.Claim other at))) old.calls calls_now)
    (still : core_now.trace ≡ old.core.trace) where
  abbrev new : World
  new = record old { core = core_now; journal = kept; calls = calls_now }

  comes_claim : (run : Run) (done : List Mark) → IsAfter run done old → ComesTo run done (Noted (event.Claim claim (moment done)) ∷ []) old new
  comes_claim run done after =
      let e = event.Claim claim (moment done) in
      let same : event.Claim claim old.moment ≡ e = ap (event.Claim claim) after.so_far.moment_so in
      let core_noted = λ (told : FolderTold). adds told run (journal done) (taken_by old.clients) tt after.so_far.core_so in
      let own = next_is_own done old.calls app claim below after.so_far.calls_so next in
      let before = noted_before run done e old new (no_turn_claim claim (moment done)) after (record {
        core_noted = subst (λ (x : Event). Rattle.dl_core.specs.Follows.IsAfter run (journal done ++ x ∷ []) (taken_by old.clients) core_now) same (core_noted nothing_told).0;
        gives = tt;
        calls_noted = took claim (moment done) own done after.so_far.calls_so;
        events_noted = the_events made.events kept.events old.journal.events e made_is (subst (λ (x : Event). Some kept.events ≡ Some (made.events ++ x ∷ [])) same noted);
        rest = record { injections_rest = refl; clients_rest = refl; channels_rest = refl; moment_rest = refl; later_rest = refl };
      }) in
      record {
        after = after_quiet_event run done e old new refl after (claim_stream run (journal done) claim (moment done)) before.so_far;
        holds = λ told held. subst (λ (es : List Event). HoldsTrace run es core_now told) (sym (journal_noted done e))
            (subst (λ (x : Event). HoldsTrace run (journal done ++ x ∷ []) core_now told) same ((core_noted told).1 held));
        stands = λ told first kept. subst (λ (es : List Event). KeepsTrace run first es core_now told) (sym (journal_noted done e))
            (keeps_quiet run first (journal done) e old.core core_now told told still refl (kept_same told.files) kept);
        unasked = refl;
      }

  pub claim_does : (other : Claimed) → next_claim old.calls app ≡ Some other → Doing (noting (λ now. event.Claim other (moment now))) old new
  claim_does other is =
      subst (λ (c : Claimed). Doing (noting (λ now. event.Claim c (moment now))) old new) (some_is (sym next ∙ is))
      (doing_by (noting (λ now. event.Claim claim (moment now))) old new still (λ run done after is_run. comes_claim run done after))
