-- A line of bytes that is cut in two comes to the same but for its own marks.
use Rattle.std.proofs.Common.{◌≡◌, ℕ, ◌+◌, ◌≤◌, Bool, true, false, cond, eqb, List, [], ◌∷◌, ◌++◌, length, drop, Option, Some, refl, sym, ap, subst, ◌∙◌, arith, inl, inr}
use Rattle.std.specs.Prelude.{map, count_by, is_some, ◌⊎◌}
use Rattle.std.specs.Option.{option_map_or}
use Rattle.std.proofs.lemmas.Bool.{ne_eqb, eqb-true}
use Rattle.std.proofs.lemmas.List.Elements.{filter_map-append}
use Rattle.std.proofs.lemmas.List.Concat.{flat_map-append}
use Rattle.dl_bytes.specs.Limits.{message_limit}
use Rattle.dl_bytes.specs.declared.outcome.Done.{Done}
use Rattle.dl_bytes.specs.declared.user.UserMsg.{UserMsg}
use Rattle.dl_message.specs.Cut.{rest_fault, rest_of}
use Rattle.dl_message.specs.Requests.{requests}
use Rattle.dl_user.specs.Cut.{messages_of}
use Rattle.dl_events.specs.declared.event.Event.{Event}
use Rattle.dl_events.specs.declared.event.Event.TheVariants as event
use Rattle.dl_events.specs.declared.event.Why.TheVariants as why
use Rattle.dl_script_model.specs.declared.step.Step.{Step}
use Rattle.dl_script_model.specs.declared.step.Step.TheVariants as line
use Rattle.dl_model.specs.Along.{last_that}
use Rattle.dl_model.specs.Setting.{Setting}
use Rattle.dl_model.specs.Journal.{is_connect, comes_or_goes}
use Rattle.dl_script_model.specs.Marks.{Mark, Noted, Fed, Heard, journal, event_of, fed_of, fed, heard_of, heard}
use Rattle.dl_script_model.specs.Steps.{in_sequence, just, when, is_open, close, ask, new_requests, close_malformed, receive, new_messages, tell, hear, act_of}
use Rattle.dl_script_model.proofs.Marks.{in_sequence-one}
use Rattle.dl_model.proofs.Lists.{last_that-one, count_by-append}
use Rattle.dl_runs.proofs.Relations.{AreAll, holds_on}
use Rattle.dl_runs.proofs.Turns.{NoStop, Turn, line_in_turn}
use Rattle.dl_runs.proofs.WellFormed.{plain}
use Rattle.dl_runs.proofs.Unfed.{unfed, Blind, unfed-append, when_same, turns_blind, each_blind}
use Rattle.dl_runs.proofs.BlindActs.{is_open_blind, close_blind, ask_blind, tell_blind, plain_blind}

-- ---- clients that have gone

pub record Gone (client : ℕ) (done : List Mark) : Type 0 where
  pub was : client ≤ count_by is_connect (journal done)
  pub shut : is_open client done ≡ false

-- whether a client is open by the last that came or went
abbrev pub open_by : Option Event → Bool
open_by o = option_map_or is_connect o false

pub open_more : (client : ℕ) (done : List Mark) (e : Event) → is_open client (done ++ Noted e ∷ []) ≡ open_by (cond (comes_or_goes client e) (Some e) (last_that (comes_or_goes client) (journal done)))
open_more client done e =
    ap (λ (events : List Event). open_by (last_that (comes_or_goes client) events)) (filter_map-append event_of done (Noted e ∷ [])) ∙ ap open_by (last_that-one (comes_or_goes client) (journal done) e)

came_more : (done : List Mark) (e : Event) → count_by is_connect (journal (done ++ Noted e ∷ [])) ≡ count_by is_connect (journal done) + cond (is_connect e) 1 0
came_more done e =
    let all = ap (count_by is_connect) (filter_map-append event_of done (Noted e ∷ [])) ∙ count_by-append is_connect (journal done) (e ∷ []) in
    omega (arith, all)

still_shut : (client : ℕ) (done : List Mark) (e : Event) (b : Bool) → is_connect e ≡ false → is_open client done ≡ false → open_by (cond b (Some e) (last_that (comes_or_goes client) (journal done))) ≡ false
still_shut client done e true never shut = never
still_shut client done e false never shut = shut

not_come : (setting : Setting) (Only : Event → Type 0) (client : ℕ) (done : List Mark) (e : Event) → Turn setting Only done (Noted e) → Gone client done →
    open_by (cond (comes_or_goes client e) (Some e) (last_that (comes_or_goes client) (journal done))) ≡ false
not_come setting Only client done (event.Connect other) turn gone =
    let apart : eqb other client ≡ false = ne_eqb other client (λ same. omega (arith, same, turn.0.number, gone.was)) in
    ap (λ (b : Bool). open_by (cond b (Some (event.Connect other)) (last_that (comes_or_goes client) (journal done)))) apart ∙ gone.shut
not_come setting Only client done e turn gone = still_shut client done e (comes_or_goes client e) refl gone.shut

gone_more : (setting : Setting) (Only : Event → Type 0) (client : ℕ) (done : List Mark) (mark : Mark) → Gone client done → Turn setting Only done mark → Gone client (done ++ mark ∷ [])
gone_more setting Only client done (Noted e) gone turn =
    record { was = omega (arith, gone.was, came_more done e); shut = open_more client done e ∙ not_come setting Only client done e turn gone }
gone_more setting Only client done mark gone turn =
    let same = sym (plain done mark refl) in
    record {
      was = subst (λ (events : List Event). client ≤ count_by is_connect events) same gone.was;
      shut = subst (λ (events : List Event). open_by (last_that (comes_or_goes client) events) ≡ false) same gone.shut;
    }

gone_on : (setting : Setting) (Only : Event → Type 0) (client : ℕ) (done ms : List Mark) → Gone client done → AreAll (Turn setting Only) done ms → Gone client (done ++ ms)
gone_on setting Only client done ms gone all = holds_on (Turn setting Only) (Gone client) (gone_more setting Only client) done ms gone all

-- a client that is open has come
abbrev OpenCame : List Mark → Type 0
OpenCame done = (client : ℕ) → is_open client done ≡ true → client ≤ count_by is_connect (journal done)

came_by : (setting : Setting) (Only : Event → Type 0) (done : List Mark) (e : Event) → OpenCame done → Turn setting Only done (Noted e) → (client : ℕ) (b : Bool) → comes_or_goes client e ≡ b →
    open_by (cond b (Some e) (last_that (comes_or_goes client) (journal done))) ≡ true → client ≤ count_by is_connect (journal (done ++ Noted e ∷ []))
came_by setting Only done e all turn client false is there = omega (arith, all client there, came_more done e)
came_by setting Only done (event.Connect other) all turn client true is there =
    let more : count_by is_connect (journal (done ++ Noted (event.Connect other) ∷ [])) ≡ count_by is_connect (journal done) + 1 = came_more done (event.Connect other) in
    omega (arith, eqb-true other client is, turn.0.number, more)
came_by setting Only done e all turn client true is there = absurd cc

came_goes_on : (setting : Setting) (Only : Event → Type 0) (done : List Mark) (mark : Mark) → OpenCame done → Turn setting Only done mark → OpenCame (done ++ mark ∷ [])
came_goes_on setting Only done (Noted e) all turn client there = came_by setting Only done e all turn client (comes_or_goes client e) refl (sym (open_more client done e) ∙ there)
came_goes_on setting Only done mark all turn client there =
    let same = sym (plain done mark refl) in
    subst (λ (events : List Event). client ≤ count_by is_connect events) same
    (all client (subst (λ (events : List Event). open_by (last_that (comes_or_goes client) events) ≡ true) (sym same) there))

pub open_came : (setting : Setting) (Only : Event → Type 0) (ms : List Mark) → AreAll (Turn setting Only) [] ms → OpenCame ms
open_came setting Only ms all = holds_on (Turn setting Only) OpenCame (came_goes_on setting Only) [] ms (λ client there. absurd cc) all

-- ---- runs that are alike but for the marks of bytes

pub record Alike (done other : List Mark) : Type 0 where
  pub same : unfed done ≡ unfed other
  pub fed_so : (client : ℕ) → (Gone client done) ⊎ (fed client done ≡ fed client other)
  pub heard_so : (channel : ℕ) → heard channel done ≡ heard channel other

pub blind_same : {A : Type 0} (W : List Mark → A) → Blind W → (done other : List Mark) → unfed done ≡ unfed other → W done ≡ W other
blind_same W blind done other same = blind done ∙ ap W same ∙ sym (blind other)

pub unfed_more : (done other ms : List Mark) → unfed done ≡ unfed other → unfed (done ++ ms) ≡ unfed (other ++ ms)
unfed_more done other ms same = unfed-append done ms ∙ ap (λ (xs : List Mark). xs ++ unfed ms) same ∙ sym (unfed-append other ms)

pub alike_more : (setting : Setting) (Only : Event → Type 0) (done other ms : List Mark) → Alike done other → AreAll (Turn setting Only) done ms → Alike (done ++ ms) (other ++ ms)
alike_more setting Only done other ms alike all = record {
  same = unfed_more done other ms alike.same;
  fed_so = λ client. by_client client (alike.fed_so client);
  heard_so = λ channel. flat_map-append (heard_of channel) done ms ∙ ap (λ (bytes : List ℕ). bytes ++ heard channel ms) (alike.heard_so channel) ∙ sym (flat_map-append (heard_of channel) other ms);
} where
  by_client : (client : ℕ) → (Gone client done) ⊎ (fed client done ≡ fed client other) → (Gone client (done ++ ms)) ⊎ (fed client (done ++ ms) ≡ fed client (other ++ ms))
  by_client client (inl gone) = inl (gone_on setting Only client done ms gone all)
  by_client client (inr same) = inr (flat_map-append (fed_of client) done ms ∙ ap (λ (bytes : List ℕ). bytes ++ fed client ms) same ∙ sym (flat_map-append (fed_of client) other ms))

-- ---- one line

-- what a client that is open is served for bytes
abbrev pub asked_now : Setting → List Done → ℕ → List (List ℕ) → List Mark → List Mark
asked_now setting answers client frames done = in_sequence (map (ask setting answers client) frames) done

pub asks_blind : (setting : Setting) (answers : List Done) (client : ℕ) (frames : List (List ℕ)) → Blind (asked_now setting answers client frames)
asks_blind setting answers client frames = turns_blind (map (ask setting answers client) frames) (each_blind (ask setting answers client) (ask_blind setting answers client) frames)

-- a client is closed for a bad header in both
pub malformed_same : (setting : Setting) (client : ℕ) (done other : List Mark) → unfed done ≡ unfed other → fed client done ≡ fed client other → close_malformed setting client done ≡ close_malformed setting client other
malformed_same setting client done other same same_fed =
    when_same (is_some (rest_fault message_limit (rest_of message_limit (fed client done)))) (is_some (rest_fault message_limit (rest_of message_limit (fed client other))))
    (close setting client why.Malformed) (close setting client why.Malformed) done other
    (ap (λ (bytes : List ℕ). is_some (rest_fault message_limit (rest_of message_limit bytes))) same_fed)
    (λ _. blind_same (close setting client why.Malformed) (close_blind setting client why.Malformed) done other same)

-- what an open client's bytes come to
abbrev pub received : Setting → List Done → ℕ → List ℕ → List (List ℕ) → List Mark → List Mark
received setting answers client bytes frames done =
    let fed_now = done ++ Fed client bytes ∷ [] in
    let served = asked_now setting answers client frames fed_now in
    Fed client bytes ∷ (served ++ close_malformed setting client (fed_now ++ served))

received_is : (setting : Setting) (answers : List Done) (client : ℕ) (bytes : List ℕ) (frames : List (List ℕ)) (done : List Mark) →
    in_sequence (just (Fed client bytes) ∷ (map (ask setting answers client) frames ++ close_malformed setting client ∷ [])) done ≡ received setting answers client bytes frames done
received_is setting answers client bytes frames done =
    ap (λ (ms : List Mark). Fed client bytes ∷ ms) (in_sequence-one (map (ask setting answers client) frames) (close_malformed setting client) (done ++ Fed client bytes ∷ []))

pub receive_open : (setting : Setting) (answers : List Done) (client : ℕ) (bytes : List ℕ) (done : List Mark) → is_open client done ≡ true →
    receive setting answers client bytes done ≡ received setting answers client bytes (new_requests client bytes done) done
receive_open setting answers client bytes done there =
    ap (λ (b : Bool). when b (in_sequence (just (Fed client bytes) ∷ (map (ask setting answers client) (new_requests client bytes done) ++ close_malformed setting client ∷ []))) done) there
    ∙ received_is setting answers client bytes (new_requests client bytes done) done

pub receive_shut : (setting : Setting) (answers : List Done) (client : ℕ) (bytes : List ℕ) (done : List Mark) → is_open client done ≡ false → receive setting answers client bytes done ≡ []
receive_shut setting answers client bytes done shut =
    ap (λ (b : Bool). when b (in_sequence (just (Fed client bytes) ∷ (map (ask setting answers client) (new_requests client bytes done) ++ close_malformed setting client ∷ []))) done) shut

pub fed-append : (client : ℕ) (xs ys : List Mark) → fed client (xs ++ ys) ≡ fed client xs ++ fed client ys
fed-append client xs ys = flat_map-append (fed_of client) xs ys

pub heard-append : (channel : ℕ) (xs ys : List Mark) → heard channel (xs ++ ys) ≡ heard channel xs ++ heard channel ys
heard-append channel xs ys = flat_map-append (heard_of channel) xs ys

fed_same : (client : ℕ) (done other ms : List Mark) → fed client done ≡ fed client other → fed client (done ++ ms) ≡ fed client (other ++ ms)
fed_same client done other ms same = fed-append client done ms ∙ ap (λ (bytes : List ℕ). bytes ++ fed client ms) same ∙ sym (fed-append client other ms)

received_same : (setting : Setting) (answers : List Done) (client : ℕ) (bytes : List ℕ) (frames : List (List ℕ)) (done other : List Mark) → unfed done ≡ unfed other → fed client done ≡ fed client other →
    received setting answers client bytes frames done ≡ received setting answers client bytes frames other
received_same setting answers client bytes frames done other same same_fed =
    let d = done ++ Fed client bytes ∷ [] in
    let o = other ++ Fed client bytes ∷ [] in
    let now : unfed d ≡ unfed o = unfed_more done other (Fed client bytes ∷ []) same in
    let asks = asked_now setting answers client frames d in
    let served : asks ≡ asked_now setting answers client frames o = blind_same (asked_now setting answers client frames) (asks_blind setting answers client frames) d o now in
    let closed : close_malformed setting client (d ++ asks) ≡ close_malformed setting client (o ++ asks) =
    malformed_same setting client (d ++ asks) (o ++ asks) (unfed_more d o asks now) (fed_same client d o asks (fed_same client done other (Fed client bytes ∷ []) same_fed)) in
    ap (λ (ms : List Mark). Fed client bytes ∷ (asks ++ ms)) closed
    ∙ ap (λ (ms : List Mark). Fed client bytes ∷ (ms ++ close_malformed setting client (o ++ ms))) served

receive_same : (setting : Setting) (answers : List Done) (client : ℕ) (bytes : List ℕ) (done other : List Mark) → Alike done other → receive setting answers client bytes done ≡ receive setting answers client bytes other
receive_same setting answers client bytes done other alike = by_open (is_open client done) refl where
  open_same : is_open client done ≡ is_open client other
  open_same = blind_same (is_open client) (is_open_blind client) done other alike.same

  same_bytes : is_open client done ≡ true → (Gone client done) ⊎ (fed client done ≡ fed client other) → fed client done ≡ fed client other
  same_bytes there (inl gone) = absurd cc
  same_bytes there (inr same) = same

  by_open : (b : Bool) → is_open client done ≡ b → receive setting answers client bytes done ≡ receive setting answers client bytes other
  by_open true there =
      let same = same_bytes there (alike.fed_so client) in
      receive_open setting answers client bytes done there
      ∙ received_same setting answers client bytes (new_requests client bytes done) done other alike.same same
      ∙ ap (λ (f : List ℕ). received setting answers client bytes (drop (length (requests f)) (requests (f ++ bytes))) other) same
      ∙ sym (receive_open setting answers client bytes other (sym open_same ∙ there))
  by_open false shut = receive_shut setting answers client bytes done shut ∙ sym (receive_shut setting answers client bytes other (sym open_same ∙ shut))

-- what bytes on a channel come to
pub tells_blind : (setting : Setting) (channel : ℕ) (msgs : List UserMsg) → Blind (in_sequence (map (tell setting channel) msgs))
tells_blind setting channel msgs = turns_blind (map (tell setting channel) msgs) (each_blind (tell setting channel) (tell_blind setting channel) msgs)

hear_same : (setting : Setting) (channel : ℕ) (bytes : List ℕ) (done other : List Mark) → Alike done other → hear setting channel bytes done ≡ hear setting channel bytes other
hear_same setting channel bytes done other alike =
    let told = λ (h : List ℕ). drop (length (messages_of h)) (messages_of (h ++ bytes)) in
    ap (λ (ms : List Mark). Heard channel bytes ∷ ms)
    (blind_same (in_sequence (map (tell setting channel) (new_messages channel bytes done))) (tells_blind setting channel (new_messages channel bytes done))
    (done ++ Heard channel bytes ∷ []) (other ++ Heard channel bytes ∷ []) (unfed_more done other (Heard channel bytes ∷ []) alike.same))
    ∙ ap (λ (h : List ℕ). Heard channel bytes ∷ in_sequence (map (tell setting channel) (told h)) (other ++ Heard channel bytes ∷ [])) (alike.heard_so channel)

pub line_same : (setting : Setting) (answers : List Done) (step : Step) (done other : List Mark) → Alike done other → act_of setting answers step done ≡ act_of setting answers step other
line_same setting answers (line.Bytes client bytes) done other alike = receive_same setting answers client bytes done other alike
line_same setting answers (line.User channel bytes) done other alike = hear_same setting channel bytes done other alike
line_same setting answers step done other alike = blind_same (act_of setting answers step) (plain_blind setting answers step tt) done other alike.same

pub lines_same : (setting : Setting) (answers : List Done) (steps : List Step) (done other : List Mark) → Alike done other → in_sequence (map (act_of setting answers) steps) done ≡ in_sequence (map (act_of setting answers) steps) other
lines_same setting answers [] done other alike = refl
lines_same setting answers (step ∷ steps) done other alike =
    let first = act_of setting answers step done in
    let same : first ≡ act_of setting answers step other = line_same setting answers step done other alike in
    let later = lines_same setting answers steps (done ++ first) (other ++ first) (alike_more setting NoStop done other first alike (line_in_turn setting answers step done)) in
    ap (λ (ms : List Mark). first ++ ms) later ∙ ap (λ (ms : List Mark). ms ++ in_sequence (map (act_of setting answers) steps) (other ++ ms)) same
