-- Bytes of a client: what they make whole is asked in turn, and a bad header closes it.
use Rattle.std.proofs.Common.{◌≡◌, ◌≢◌, ℕ, ◌≤◌, inl, inr, eqb, eq-eqb, Bool, true, false, List, [], ◌∷◌, ◌++◌, length, map, Option, Some, None, refl, sym, ap, subst, ◌∙◌}
use Rattle.std.specs.Prelude.{IfSome, IsSomeAnd, is_some, nat_lt, count_by, if◌then◌else◌}
use Rattle.std.specs.List.{AllByRecursion, concat, flat_map}
use Rattle.std.specs.Option.{option_map_or}
use Rattle.std.proofs.lemmas.Bool.{ne_eqb}
use Rattle.std.proofs.lemmas.Bool.Decides.{eqb_tells}
use Rattle.std.proofs.lemmas.Grind.{flat_map-append}
use Rattle.std.proofs.lemmas.List.{append-nil, map-append}
use Rattle.dl_bytes.specs.Limits.{message_limit}
use Rattle.dl_bytes.specs.declared.outcome.Done.{Done}
use Rattle.dl_bytes.specs.declared.outcome.Done.TheVariants as did
use Rattle.dl_events.specs.declared.event.Event.{Event}
use Rattle.dl_events.specs.declared.event.Event.TheVariants as event
use Rattle.dl_events.specs.declared.event.Why.TheVariants as why
use Rattle.dl_message.specs.Cut.{rest_fault, rest_of}
use Rattle.dl_model.specs.declared.registry.LevelChange.{LevelChange}
use Rattle.dl_model.specs.Setting.{Setting}
use Rattle.dl_model.specs.Journal.{is_request_of, need_after}
use Rattle.dl_script_model.specs.Marks.{Mark, Noted, Fed, Injected, fed, fed_of, injections, is_later, journal}
use Rattle.dl_model.specs.Reply.{asked, Need}
use Rattle.dl_model.specs.Reply as needs
use Rattle.dl_script_model.specs.Steps as steps
use Rattle.dl_script_model.specs.Steps.{Act, in_sequence, ask, changes, close, close_malformed, note_levels, note_levels_now, just, level_noted, new_requests, note, receive, request_now, served, when}
use Rattle.dl_script_model.proofs.Marks.{in_sequence-one}
use Rattle.dl_world_calls.proofs.Changing.{no-call-stays}
use Rattle.dl_world_calls.proofs.InjectionCounts.{no-injection-stays}
use Rattle.dl_core.specs.Follows.{Run, HoldsTrace}
use Rattle.dl_core.specs.Standing.{KeepsTrace}
use Rattle.dl_world.specs.Fed.{Asks, IsFedBy}
use Rattle.dl_outside.specs.Told.{FolderTold}
use Rattle.dl_world.specs.Follows.{IsAfter, Deed, Does, Doing, stream_in}
use Rattle.dl_world.specs.State.{Client, client_at, taken_by, with_client, with_cutter}
use Rattle.dl_world.specs.declared.world.World.{World}
use Rattle.dl_world.proofs.ByNumber.{at_there, with_long, with_other, with_same}
use Rattle.dl_world.proofs.Composing.{both, does_both}
use Rattle.dl_world.proofs.Deeds.{does_as, does_none}
use Rattle.dl_world.proofs.Doings.{doing_by}
use Rattle.dl_world.proofs.Quiet.{held, goes_on_where, journal_same, apps_same, fed_same, heard_same, moment_same, later_same}
use Rattle.dl_lemmas.proofs.Options.{if_some}

-- ---- requests in turn

-- whole requests of a client, one after the other
abbrev pub ask_all : ℕ → List (List ℕ) → Deed
ask_all client requests setting answers = in_sequence (map (ask setting answers client) requests)

-- one request more
pub does_asked : (client : ℕ) (before : List (List ℕ)) (frame : List ℕ) (old mid new : World) (told told_mid told_now : FolderTold) → Does (ask_all client before) old mid told told_mid
    → Does (λ setting answers. ask setting answers client frame) mid new told_mid told_now → Does (ask_all client (before ++ frame ∷ [])) old new told told_now
does_asked client before frame old mid new told told_mid told_now one two =
    let last : Deed = λ setting answers. ask setting answers client frame in
    does_as (both (ask_all client before) last) (ask_all client (before ++ frame ∷ [])) old new told told_now
    (λ run done answers after.
    ap (λ (acts : List Act). in_sequence acts done) (map-append (ask run.setting answers client) before (frame ∷ []))
    ∙ in_sequence-one (map (ask run.setting answers client) before) (ask run.setting answers client frame) done)
    (does_both (ask_all client before) last old mid new told told_mid told_now one two)

-- ---- no bytes come while a request is asked

module _ (client : ℕ) where
  abbrev pub IsUnfed : Act → Type 0
  IsUnfed act = (done : List Mark) → fed client (act done) ≡ []

  unfed_both : (xs ys : List Mark) → fed client xs ≡ [] → fed client ys ≡ [] → fed client (xs ++ ys) ≡ []
  unfed_both xs ys one two = flat_map-append (fed_of client) xs ys ∙ rw (one, two) refl

  unfed_turns : (acts : List Act) → AllByRecursion IsUnfed acts → IsUnfed (in_sequence acts)
  unfed_turns [] all done = refl
  unfed_turns (act ∷ acts) all done = unfed_both (act done) (in_sequence acts (done ++ act done)) (all.0 done) (unfed_turns acts all.1 (done ++ act done))

  unfed_levels : (cs : List LevelChange) → fed client (map level_noted cs) ≡ []
  unfed_levels [] = refl
  unfed_levels (c ∷ cs) = unfed_levels cs

  unfed_hand_out : (setting : Setting) → IsUnfed (note_levels setting)
  unfed_hand_out setting done = unfed_levels (changes setting (journal done))

  unfed_hand_out_now : (setting : Setting) → IsUnfed (note_levels_now setting)
  unfed_hand_out_now setting done = by (is_later done) where
    by : (b : Bool) → fed client (if b then [] else note_levels setting done) ≡ []
    by true = refl
    by false = unfed_hand_out setting done

  unfed_note : (setting : Setting) (make : List Mark → Event) → IsUnfed (note setting make)
  unfed_note setting make = unfed_turns (note_levels setting ∷ (λ done. Noted (make done) ∷ []) ∷ note_levels_now setting ∷ []) (unfed_hand_out setting, ((λ done. refl), (unfed_hand_out_now setting, tt)))

  unfed_when : (b : Bool) (act : Act) → IsUnfed act → IsUnfed (when b act)
  unfed_when true act unfed done = unfed done
  unfed_when false act unfed done = refl

  unfed_served : (answers : List Done) (frame : List ℕ) (need : Need) → IsUnfed (served answers client frame need)
  unfed_served answers frame needs.Nothing done = refl
  unfed_served answers frame needs.Folder done = refl
  unfed_served answers frame (needs.Queue app) done = by (nat_lt (injections app done) 16) where
    by : (b : Bool) → fed client (if b then Injected app ∷ Noted (event.Request client frame did.Yes) ∷ [] else Noted (event.Request client frame did.Failed) ∷ []) ≡ []
    by true = refl
    by false = refl

  unfed_request : (setting : Setting) (answers : List Done) (frame : List ℕ) → IsUnfed (request_now setting answers client frame)
  unfed_request setting answers frame done = unfed_served answers frame (need_after setting (journal done) frame) done

  unfed_ask : (setting : Setting) (answers : List Done) (frame : List ℕ) → IsUnfed (ask setting answers client frame)
  unfed_ask setting answers frame done = by (nat_lt (count_by (is_request_of client) (journal done)) 1000) where
    by : (b : Bool) → fed client (if b then when (steps.is_open client done) (in_sequence (note_levels setting ∷ request_now setting answers client frame ∷ note_levels_now setting ∷ [])) done else close setting client why.TooMany done) ≡ []
    by true =
        unfed_when (steps.is_open client done) (in_sequence (note_levels setting ∷ request_now setting answers client frame ∷ note_levels_now setting ∷ []))
        (unfed_turns (note_levels setting ∷ request_now setting answers client frame ∷ note_levels_now setting ∷ []) (unfed_hand_out setting, (unfed_request setting answers frame, (unfed_hand_out_now setting, tt)))) done
    by false = unfed_when (steps.is_open client done) (note setting (λ _. event.Close client why.TooMany)) (unfed_note setting (λ _. event.Close client why.TooMany)) done

  unfed_asks : (setting : Setting) (answers : List Done) (requests : List (List ℕ)) → IsUnfed (in_sequence (map (ask setting answers client) requests))
  unfed_asks setting answers requests = unfed_turns (map (ask setting answers client) requests) (each requests) where
    each : (frames : List (List ℕ)) → AllByRecursion IsUnfed (map (ask setting answers client) frames)
    each [] = tt
    each (frame ∷ frames) = (unfed_ask setting answers frame, each frames)

-- ---- bytes come

fed_here : (done : List Mark) (client : ℕ) (bytes : List ℕ) → fed client (done ++ Fed client bytes ∷ []) ≡ fed client done ++ bytes
fed_here done client bytes =
    let same : eqb client client ≡ true = eq-eqb client client refl in
    let last : flat_map (fed_of client) (Fed client bytes ∷ []) ≡ bytes = rw same (append-nil bytes) in
    flat_map-append (fed_of client) done (Fed client bytes ∷ []) ∙ ap (λ (xs : List ℕ). fed client done ++ xs) last

fed_elsewhere : (done : List Mark) (client other : ℕ) (bytes : List ℕ) → other ≢ client → fed other (done ++ Fed client bytes ∷ []) ≡ fed other done
fed_elsewhere done client other bytes apart =
    let differs : eqb client other ≡ false = ne_eqb client other (λ e. apart (sym e)) in
    fed_same other done (Fed client bytes ∷ []) (rw differs refl)

some_and : {A : Type 0} (P : A → Type 0) (o : Option A) → IsSomeAnd o P → (x : A) × (o ≡ Some x) × P x
some_and P None is = absurd is
some_and P (Some x) is = (x, refl, is)

-- The bytes of a client were cut, and its cutter alone changed.
module _ (client : ℕ) (bytes : List ℕ) (made : List (List ℕ)) (bad : Bool) (old : World) (now : List Client) (known : (1 ≤ client) × (client ≤ length old.clients))
    (asks_so : (stream : List ℕ) → IfSome (client_at old.clients client) (λ c. IsFedBy stream c.cutter) → IfSome (client_at now client) (λ c. Asks stream bytes bad [] made c.cutter))
    (others : IsSomeAnd (client_at now client) (λ c. now ≡ with_client client (with_cutter c.cutter) old.clients)) where
  abbrev mid : World
  mid = record old { clients = now }

  -- the client before, and after
  was : (x : Client) × (client_at old.clients client ≡ Some x)
  was = let it = at_there old.clients client known.0 known.1 in (it.0, it.1)

  is_now : (c : Client) × (client_at now client ≡ Some c) × (now ≡ with_client client (with_cutter c.cutter) old.clients)
  is_now = some_and (λ (c : Client). now ≡ with_client client (with_cutter c.cutter) old.clients) (client_at now client) others

  same_other : (other : ℕ) → other ≢ client → client_at now other ≡ client_at old.clients other
  same_other other apart =
      ap (λ (cs : List Client). client_at cs other) is_now.2 ∙ with_other old.clients client other (with_cutter is_now.0.cutter) was.0 known.0 was.1 apart

  here_now : client_at now client ≡ Some (with_cutter is_now.0.cutter was.0)
  here_now = ap (λ (cs : List Client). client_at cs client) is_now.2 ∙ with_same old.clients client (with_cutter is_now.0.cutter) was.0 known.0 known.1 was.1

  long_now : length now ≡ length old.clients
  long_now = ap length is_now.2 ∙ with_long old.clients client (with_cutter is_now.0.cutter) was.0 was.1

  taken_at : (number : ℕ) → taken_by now number ≡ taken_by old.clients number
  taken_at number = elim (eqb_tells number client) as (λ _. taken_by now number ≡ taken_by old.clients number) [
    | inl same ↦ subst (λ (n : ℕ). taken_by now n ≡ taken_by old.clients n) (sym same.1)
        (ap (λ (o : Option Client). option_map_or (λ (c : Client). concat c.frames) o []) here_now ∙ sym (ap (λ (o : Option Client). option_map_or (λ (c : Client). concat c.frames) o []) was.1))
    | inr apart ↦ ap (λ (o : Option Client). option_map_or (λ (c : Client). concat c.frames) o []) (same_other number apart.1)
  ]

  taken_now : taken_by now ≡ taken_by old.clients
  taken_now = λ i number. taken_at number i

  module _ (run : Run) (done : List Mark) (after : IsAfter run done old) where
    abbrev marks : List Mark
    marks = Fed client bytes ∷ []

    asked_here : IfSome (client_at now client) (λ c. Asks (fed client done) bytes bad [] made c.cutter)
    asked_here = asks_so (fed client done) (after.so_far.fed_so client)

    asks_now : Asks (fed client done) bytes bad [] made is_now.0.cutter
    asks_now = subst (λ (o : Option Client). IfSome o (λ c. Asks (fed client done) bytes bad [] made c.cutter)) is_now.1 asked_here

    frames_now : (number : ℕ) → IfSome (client_at now number) (λ c. c.frames ≡ stream_in run done number)
    frames_now number = elim (eqb_tells number client) as (λ _. IfSome (client_at now number) (λ c. c.frames ≡ stream_in run done number)) [
      | inl same ↦ subst (λ (n : ℕ). IfSome (client_at now n) (λ c. c.frames ≡ stream_in run done n)) (sym same.1)
          (subst (λ (o : Option Client). IfSome o (λ c. c.frames ≡ stream_in run done client)) (sym here_now)
          (subst (λ (o : Option Client). IfSome o (λ c. c.frames ≡ stream_in run done client)) was.1 (after.taken client)))
      | inr apart ↦ subst (λ (o : Option Client). IfSome o (λ c. c.frames ≡ stream_in run done number)) (sym (same_other number apart.1)) (after.taken number)
    ]

    fed_now : (number : ℕ) → IfSome (client_at now number) (λ c. IsFedBy (fed number (done ++ marks)) c.cutter)
    fed_now number = elim (eqb_tells number client) as (λ _. IfSome (client_at now number) (λ c. IsFedBy (fed number (done ++ marks)) c.cutter)) [
      | inl same ↦ subst (λ (n : ℕ). IfSome (client_at now n) (λ c. IsFedBy (fed n (done ++ marks)) c.cutter)) (sym same.1)
          (if_some (λ (c : Client). Asks (fed client done) bytes bad [] made c.cutter) (λ (c : Client). IsFedBy (fed client (done ++ marks)) c.cutter) (client_at now client)
          (λ c asks. subst (λ (s : List ℕ). IsFedBy s c.cutter) (sym (fed_here done client bytes)) asks.fed) asked_here)
      | inr apart ↦ rw (fed_elsewhere done client number bytes apart.1, same_other number apart.1) (after.so_far.fed_so number)
    ]

    unfed_now : (number : ℕ) → client_at now number ≡ None → fed number (done ++ marks) ≡ []
    unfed_now number nobody = elim (eqb_tells number client) as (λ _. fed number (done ++ marks) ≡ []) [
      | inl same ↦ absurd (let bad : Some is_now.0 ≡ None = sym is_now.1 ∙ ap (λ (n : ℕ). client_at now n) (sym same.1) ∙ nobody in cc)
      | inr apart ↦ fed_elsewhere done client number bytes apart.1 ∙ after.so_far.unfed_so number (sym (same_other number apart.1) ∙ nobody)
    ]

    fed_after : IsAfter run (done ++ marks) mid
    fed_after =
        let then_was = held after in
        goes_on_where run done marks old mid after refl (record {
          calls_held = no-call-stays done (Fed client bytes) old.calls refl then_was.calls_held;
          few_held = rw (apps_same done marks refl) then_was.few_held;
          injections_held = no-injection-stays done (Fed client bytes) old.injections refl then_was.injections_held;
          fed_held = fed_now;
          unfed_held = unfed_now;
          heard_held = λ channel. rw (heard_same channel done marks refl) (then_was.heard_held channel);
          moment_held = then_was.moment_held ∙ sym (moment_same done marks refl);
          later_held = then_was.later_held ∙ sym (later_same done marks refl);
        }) refl refl long_now taken_now frames_now

    new_requests_are : new_requests client bytes done ≡ made
    new_requests_are = sym asks_now.asked

    -- the bytes that came show a bad header, or none, whatever was asked since
    shows_bad : (more : List Mark) → fed client more ≡ [] → is_some (rest_fault message_limit (rest_of message_limit (fed client ((done ++ marks) ++ more)))) ≡ bad
    shows_bad more none =
        ap (λ (s : List ℕ). is_some (rest_fault message_limit (rest_of message_limit s))) (fed_same client (done ++ marks) more none ∙ fed_here done client bytes) ∙ sym asks_now.bad_is

  fed_does : Doing (λ setting. just (Fed client bytes)) old mid
  fed_does = doing_by (λ setting. just (Fed client bytes)) old mid refl (λ run done after is_run. record {
    after = fed_after run done after;
    holds = λ told holds. subst (λ (es : List Event). HoldsTrace run es old.core told) (sym (journal_same done (Fed client bytes ∷ []) refl)) holds;
    stands = λ told first kept. subst (λ (es : List Event). KeepsTrace run first es old.core told) (sym (journal_same done (Fed client bytes ∷ []) refl)) kept;
    unasked = refl;
  })

  -- and the requests that they make whole were asked, and a bad header closed it
  pub does_receive : (asked new : World) (told told_now : FolderTold) → ((run : Run) (done : List Mark) → IsAfter run done old → steps.is_open client done ≡ true)
      → Does (ask_all client made) mid asked told told_now → Does (λ setting answers. when bad (close setting client why.Malformed)) asked new told_now told_now
      → Does (λ setting answers. receive setting answers client bytes) old new told told_now
  does_receive asked new told told_now opens asks ends =
      let first : Deed = λ setting answers. just (Fed client bytes) in
      let ending : Deed = λ setting answers. when bad (close setting client why.Malformed) in
      does_as (both first (both (ask_all client made) ending)) (λ setting answers. receive setting answers client bytes) old new told told_now
      (λ run done answers after.
      let since : List Mark = done ++ Fed client bytes ∷ [] in
      let each : List (List ℕ) → List Act = map (ask run.setting answers client) in
      let more : List Mark = in_sequence (each made) since in
      ap (λ (b : Bool). when b (in_sequence (just (Fed client bytes) ∷ (each (new_requests client bytes done) ++ close_malformed run.setting client ∷ []))) done) (opens run done after)
      ∙ ap (λ (frames : List (List ℕ)). Fed client bytes ∷ in_sequence (each frames ++ close_malformed run.setting client ∷ []) since) (new_requests_are run done after)
      ∙ ap (λ (ms : List Mark). Fed client bytes ∷ ms) (in_sequence-one (each made) (close_malformed run.setting client) since)
      ∙ ap (λ (b : Bool). Fed client bytes ∷ (more ++ when b (close run.setting client why.Malformed) (since ++ more))) (shows_bad run done after more (unfed_asks client run.setting answers made since)))
      (does_both first (both (ask_all client made) ending) old mid new told told told_now (fed_does told) (does_both (ask_all client made) ending mid asked new told told_now told_now asks ends))

-- of a client that is not open, nothing
pub receives_nothing : (client : ℕ) (bytes : List ℕ) (world : World) (told : FolderTold) → ((run : Run) (done : List Mark) → IsAfter run done world → steps.is_open client done ≡ false)
    → Does (λ setting answers. receive setting answers client bytes) world world told told
receives_nothing client bytes world told shut =
    does_none (λ setting answers. receive setting answers client bytes) world told
    (λ run done answers after.
    ap (λ (b : Bool). when b (in_sequence (just (Fed client bytes) ∷ (map (ask run.setting answers client) (new_requests client bytes done) ++ close_malformed run.setting client ∷ []))) done) (shut run done after))
