-- An event that is noted behind the Level events that wait, and messages of a channel in turn.
use Rattle.std.proofs.Common.{◌≡◌, ℕ, true, false, eqb, List, [], ◌∷◌, ◌++◌, map, inl, inr, refl, sym, ap, subst, ◌∙◌, eq-eqb}
use Rattle.std.specs.List.{flat_map}
use Rattle.std.proofs.lemmas.Bool.{ne_eqb}
use Rattle.std.proofs.lemmas.Bool.Decides.{eqb_tells}
use Rattle.std.proofs.lemmas.Grind.{flat_map-append}
use Rattle.std.proofs.lemmas.List.{append-nil, map-append}
use Rattle.dl_bytes.specs.declared.user.UserMsg.{UserMsg}
use Rattle.dl_events.specs.declared.event.Event.{Event}
use Rattle.dl_script_model.specs.Marks.{Mark, Heard, heard, heard_of}
use Rattle.dl_script_model.specs.Steps.{Act, in_sequence, just, note, tell, hear, new_messages, note_levels, note_levels_now}
use Rattle.dl_script_model.proofs.Marks.{in_sequence-one}
use Rattle.dl_world_calls.proofs.Changing.{no-call-stays}
use Rattle.dl_world_calls.proofs.InjectionCounts.{no-injection-stays}
use Rattle.dl_core.specs.Follows.{Run, HoldsTrace}
use Rattle.dl_core.specs.Standing.{KeepsTrace}
use Rattle.dl_world.specs.Fed.{IsHeardBy, Tells}
use Rattle.dl_outside.specs.Told.{FolderTold}
use Rattle.dl_world.specs.Follows.{IsAfter, Deed, Does, Doing, noting}
use Rattle.dl_world.specs.State.{Channel, channel_at}
use Rattle.dl_world.specs.declared.world.World.{World}
use Rattle.dl_world.proofs.Composing.{both, does_both}
use Rattle.dl_world.proofs.Deeds.{does_as}
use Rattle.dl_world.proofs.Doings.{doing_by}
use Rattle.dl_world.proofs.Quiet.{held, goes_on, apps_same, fed_same, heard_same, moment_same, later_same, journal_same}

-- ---- three acts in turn

three_turns : (first second third : Act) (done : List Mark)
    → in_sequence (first ∷ second ∷ third ∷ []) done ≡ first done ++ (second (done ++ first done) ++ third ((done ++ first done) ++ second (done ++ first done)))
three_turns first second third done =
    ap (λ (ms : List Mark). first done ++ (second (done ++ first done) ++ ms)) (append-nil (third ((done ++ first done) ++ second (done ++ first done))))

-- the Level events that wait, an event, and those that it owes
pub does_note : (make : List Mark → Event) (old mid noted new : World) (told told_now : FolderTold) → Doing note_levels old mid → Does (λ setting answers. noting make setting) mid noted told told_now
    → Doing note_levels_now noted new → Does (λ setting answers. note setting make) old new told told_now
does_note make old mid noted new told told_now before event behind =
    let first : Deed = λ setting answers. note_levels setting in
    let second : Deed = λ setting answers. noting make setting in
    let third : Deed = λ setting answers. note_levels_now setting in
    does_as (both first (both second third)) (λ setting answers. note setting make) old new told told_now
    (λ run done answers after. three_turns (note_levels run.setting) (noting make run.setting) (note_levels_now run.setting) done)
    (does_both first (both second third) old mid new told told told_now (before told) (does_both second third mid noted new told told_now told_now event (behind told_now)))

-- ---- messages in turn

-- messages that come on a channel, one after the other
abbrev pub tell_all : ℕ → List UserMsg → Deed
tell_all channel messages setting answers = in_sequence (map (tell setting channel) messages)

-- one message more
pub does_message : (channel : ℕ) (before : List UserMsg) (msg : UserMsg) (old mid new : World) (told told_mid told_now : FolderTold) → Does (tell_all channel before) old mid told told_mid
    → Does (λ setting answers. tell setting channel msg) mid new told_mid told_now → Does (tell_all channel (before ++ msg ∷ [])) old new told told_now
does_message channel before msg old mid new told told_mid told_now one two =
    let last : Deed = λ setting answers. tell setting channel msg in
    does_as (both (tell_all channel before) last) (tell_all channel (before ++ msg ∷ [])) old new told told_now
    (λ run done answers after.
    ap (λ (acts : List Act). in_sequence acts done) (map-append (tell run.setting channel) before (msg ∷ []))
    ∙ in_sequence-one (map (tell run.setting channel) before) (tell run.setting channel msg) done)
    (does_both (tell_all channel before) last old mid new told told_mid told_now one two)

-- ---- bytes on a channel

heard_here : (done : List Mark) (channel : ℕ) (bytes : List ℕ) → heard channel (done ++ Heard channel bytes ∷ []) ≡ heard channel done ++ bytes
heard_here done channel bytes =
    let same : eqb channel channel ≡ true = eq-eqb channel channel refl in
    let last : flat_map (heard_of channel) (Heard channel bytes ∷ []) ≡ bytes = rw same (append-nil bytes) in
    flat_map-append (heard_of channel) done (Heard channel bytes ∷ []) ∙ ap (λ (xs : List ℕ). heard channel done ++ xs) last

heard_elsewhere : (done : List Mark) (channel other : ℕ) (bytes : List ℕ) → (other ≡ channel → ⊥) → heard other (done ++ Heard channel bytes ∷ []) ≡ heard other done
heard_elsewhere done channel other bytes apart =
    let differs : eqb channel other ≡ false = ne_eqb channel other (λ e. apart (sym e)) in
    heard_same other done (Heard channel bytes ∷ []) (rw differs refl)

-- the bytes were cut, and nothing else changed
module _ (channel : ℕ) (bytes : List ℕ) (messages : List UserMsg) (old : World) (now : List Channel)
    (tells_so : (stream : List ℕ) → IsHeardBy stream (channel_at old.channels channel) → Tells stream bytes [] messages (channel_at now channel))
    (others : (other : ℕ) → (other ≡ channel → ⊥) → channel_at now other ≡ channel_at old.channels other) where
  abbrev mid : World
  mid = record old { channels = now }

  module _ (run : Run) (done : List Mark) (after : IsAfter run done old) where
    abbrev marks : List Mark
    marks = Heard channel bytes ∷ []

    heard_now : (other : ℕ) → IsHeardBy (heard other (done ++ marks)) (channel_at now other)
    heard_now other = elim (eqb_tells other channel) [
      | inl same ↦ subst (λ (n : ℕ). IsHeardBy (heard n (done ++ marks)) (channel_at now n)) (sym same.1)
          (subst (λ (s : List ℕ). IsHeardBy s (channel_at now channel)) (sym (heard_here done channel bytes)) (tells_so (heard channel done) (after.so_far.heard_so channel)).heard)
      | inr apart ↦ rw (heard_elsewhere done channel other bytes apart.1, others other apart.1) (after.so_far.heard_so other)
    ]

    heard_after : IsAfter run (done ++ marks) mid
    heard_after =
        let was = held after in
        goes_on run done marks old mid after refl (record {
          calls_held = no-call-stays done (Heard channel bytes) old.calls refl was.calls_held;
          few_held = rw (apps_same done marks refl) was.few_held;
          injections_held = no-injection-stays done (Heard channel bytes) old.injections refl was.injections_held;
          fed_held = λ number. rw (fed_same number done marks refl) (was.fed_held number);
          unfed_held = λ number nobody. fed_same number done marks refl ∙ was.unfed_held number nobody;
          heard_held = heard_now;
          moment_held = was.moment_held ∙ sym (moment_same done marks refl);
          later_held = was.later_held ∙ sym (later_same done marks refl);
        }) refl refl refl

    new_messages_are : new_messages channel bytes done ≡ messages
    new_messages_are = sym (tells_so (heard channel done) (after.so_far.heard_so channel)).told

  heard_does : Doing (λ setting. just (Heard channel bytes)) old mid
  heard_does = doing_by (λ setting. just (Heard channel bytes)) old mid refl (λ run done after is_run. record {
    after = heard_after run done after;
    holds = λ told holds. subst (λ (es : List Event). HoldsTrace run es old.core told) (sym (journal_same done (Heard channel bytes ∷ []) refl)) holds;
    stands = λ told first kept. subst (λ (es : List Event). KeepsTrace run first es old.core told) (sym (journal_same done (Heard channel bytes ∷ []) refl)) kept;
    unasked = refl;
  })

  -- and the messages that they make whole were told
  pub does_hear : (new : World) (told told_now : FolderTold) → Does (tell_all channel messages) mid new told told_now → Does (λ setting answers. hear setting channel bytes) old new told told_now
  does_hear new told told_now rest =
      let first : Deed = λ setting answers. just (Heard channel bytes) in
      does_as (both first (tell_all channel messages)) (λ setting answers. hear setting channel bytes) old new told told_now
      (λ run done answers after.
      ap (λ (ms : List UserMsg). Heard channel bytes ∷ in_sequence (map (tell run.setting channel) ms) (done ++ Heard channel bytes ∷ [])) (new_messages_are run done after))
      (does_both first (tell_all channel messages) old mid new told told told_now (heard_does told) rest)
