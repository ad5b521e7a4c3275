-- Which user messages each step notes, of which channel.
use Rattle.std.proofs.Common.{◌≡◌, ◌≢◌, ◌==◌, ◌≤◌, ℕ, Bool, true, false, cond, inl, inr, List, [], ◌∷◌, ◌++◌, map, Option, Some, None, is_some, refl, sym, ap, ◌∙◌, append-nil, arith}
use Rattle.std.specs.Prelude.{if◌then◌else◌, IsSome}
use Rattle.std.proofs.lemmas.Bool.Decides.{eqb_tells}
use Rattle.std.proofs.lemmas.List.Elements.{filter_map-append}
use Rattle.dl_admission.specs.Admission.{AreNoted, Entry, call_entry, loss_entries, message_entry}
use Rattle.dl_admission.specs.Part.{Part}
use Rattle.dl_admission.specs.Slow.{Slow, slow_close}
use Rattle.dl_bytes.specs.declared.item.Item.{Item}
use Rattle.dl_bytes.specs.declared.moment.Moment.{Moment}
use Rattle.dl_bytes.specs.declared.user.UserMsg.{UserMsg}
use Rattle.dl_bytes.specs.declared.user.UserMsg.TheVariants.{UnregisterApp}
use Rattle.dl_channel_turns.specs.Heard.{message_of, messages_in}
use Rattle.dl_core.specs.Admission.{AddsEach, lost_frames}
use Rattle.dl_events.specs.Journal.{Adds}
use Rattle.dl_events.specs.declared.event.Event.{Event}
use Rattle.dl_events.specs.declared.event.Event.TheVariants as event
use Rattle.dl_model.specs.Backlog.{size_of}
use Rattle.dl_outside.specs.Told.{LinkTold}
use Rattle.dl_rounds.specs.Greetings.{own_channel}
use Rattle.dl_taking.specs.Takes.{owned}
use Rattle.dl_machine.specs.State.{State}
use Rattle.dl_machine.specs.Steps.{Asked, Came, ClientKind, Closed, Ended, Entered, Forwarded, Gave, Greeted, IsClientStep, IsProgramStep, IsRingStep, IsStep, Kind, LetGo, Levelled, Noted, OfClient, OfProgram, OfRings, Parted, PartedAll, ProgramKind, Renewed, RingKind, Said, Sent, ShutOff, Stopping, TookCalls, TookClaim, TookLevels, TookLosses, Unregistered, Wanted}

-- the messages of a channel among the events, where they are kept
abbrev pub told_of : Option (List Event) → ℕ → List UserMsg
told_of None channel = []
told_of (Some events) channel = messages_in channel events

-- Where events are kept, they go on to be; and those that were noted have these messages of each channel outside.
pub record Says (said : ℕ → List UserMsg) (old new : Option (List Event)) : Type 0 where
  pub kept : IsSome old → IsSome new
  pub says : IsSome old → (channel : ℕ) → 1 ≤ channel → told_of new channel ≡ told_of old channel ++ said channel

abbrev pub nothing : ℕ → List UserMsg
nothing channel = []

-- these of one channel, and none of another
abbrev pub only : ℕ → List UserMsg → ℕ → List UserMsg
only number msgs channel = if number == channel then msgs else []

pub only_it : (number : ℕ) (msgs : List UserMsg) → only number msgs number ≡ msgs
only_it number msgs = elim (eqb_tells number number) [ inl same ↦ rw same.0 refl | inr other ↦ absurd (other.1 refl) ]

pub only_other : (number channel : ℕ) (msgs : List UserMsg) → number ≢ channel → only number msgs channel ≡ []
only_other number channel msgs apart = elim (eqb_tells number channel) [ inl same ↦ absurd (apart same.1) | inr other ↦ rw other.0 refl ]

says_same : (old new : Option (List Event)) → new ≡ old → Says nothing old new
says_same old new same = record {
  kept = λ some. ap is_some same ∙ some;
  says = λ some channel low. ap (λ (o : Option (List Event)). told_of o channel) same ∙ sym (append-nil (told_of old channel));
}

says_more : (said : ℕ → List UserMsg) (old new : Option (List Event)) (more : List Event) → AddsEach old new more → ((channel : ℕ) → 1 ≤ channel → messages_in channel more ≡ said channel) → Says said old new
says_more said None new more adds says = record { kept = λ some. absurd (cc some); says = λ some. absurd (cc some) }
says_more said (Some events) new more adds says = record {
  kept = λ some. ap is_some adds;
  says = λ some channel low. ap (λ (o : Option (List Event)). told_of o channel) adds ∙ filter_map-append (message_of channel) events more
      ∙ ap (λ (ms : List UserMsg). messages_in channel events ++ ms) (says channel low);
}

adds_one : (old new : Option (List Event)) (e : Event) → Adds old new e → AddsEach old new (e ∷ [])
adds_one None new e adds = adds
adds_one (Some events) new e adds = adds

-- ---- what is admitted

closes_pass : (channel need : ℕ) (slows : List Slow) (later : List Event) → messages_in channel (map (slow_close need) slows ++ later) ≡ messages_in channel later
closes_pass channel need [] later = refl
closes_pass channel need (s ∷ slows) later = closes_pass channel need slows later

noted_says : (channel : ℕ) (entries : List Entry) (more : List Event) → AreNoted entries more → messages_in channel more ≡ messages_in channel (map (λ (e : Entry). e.event) entries)
noted_says channel [] more noted = ap (messages_in channel) noted
noted_says channel (entry ∷ entries) more noted =
    ap (messages_in channel) noted.2 ∙ closes_pass channel entry.need noted.0 (entry.event ∷ noted.1) ∙ filter_map-append (message_of channel) (entry.event ∷ []) noted.1
    ∙ ap (λ (ms : List UserMsg). messages_in channel (entry.event ∷ []) ++ ms) (noted_says channel entries noted.1 noted.5)
    ∙ sym (filter_map-append (message_of channel) (entry.event ∷ []) (map (λ (e : Entry). e.event) entries))

calls_say : (ecu : List ℕ) (moment : Moment) (channel : ℕ) (items : List Item) → messages_in channel (map (λ (e : Entry). e.event) (map (call_entry ecu moment) items)) ≡ []
calls_say ecu moment channel [] = refl
calls_say ecu moment channel (item ∷ items) = calls_say ecu moment channel items

losses_say : (ecu : List ℕ) (moment : Moment) (app : ℕ) (apid : List ℕ) (count channel : ℕ) → messages_in channel (map (λ (e : Entry). e.event) (loss_entries ecu moment app apid count)) ≡ []
losses_say ecu moment app apid count channel = by (count == 0) (size_of (lost_frames ecu apid count)) where
  by : (b : Bool) (need : ℕ) → messages_in channel (map (λ (e : Entry). e.event) (cond b [] (record { event = event.Lost app count moment; need = need } ∷ []))) ≡ []
  by true need = refl
  by false need = refl

forwards_say : (ecu : List ℕ) (moment : Moment) (number channel : ℕ) (msgs : List UserMsg)
    → messages_in channel (map (λ (e : Entry). e.event) (map (message_entry ecu moment number) msgs)) ≡ only number msgs channel
forwards_say ecu moment number channel msgs = elim (eqb_tells number channel) [ inl same ↦ rw same.0 (all same.0 msgs) | inr other ↦ rw other.0 (none other.0 msgs) ] where
  all : (number == channel) ≡ true → (msgs : List UserMsg) → messages_in channel (map (λ (e : Entry). e.event) (map (message_entry ecu moment number) msgs)) ≡ msgs
  all is [] = refl
  all is (msg ∷ msgs) = rw is (ap (λ (ms : List UserMsg). msg ∷ ms) (all is msgs))

  none : (number == channel) ≡ false → (msgs : List UserMsg) → messages_in channel (map (λ (e : Entry). e.event) (map (message_entry ecu moment number) msgs)) ≡ []
  none is [] = refl
  none is (msg ∷ msgs) = rw is (none is msgs)

one_says : (moment : Moment) (number channel : ℕ) (msg : UserMsg) → messages_in channel (event.User number msg moment ∷ []) ≡ only number (msg ∷ []) channel
one_says moment number channel msg = elim (eqb_tells number channel) [ inl same ↦ rw same.0 refl | inr other ↦ rw other.0 refl ]

-- ---- each kind

client_says : (number : ℕ) (kind : ClientKind) (old new : State) → IsClientStep number kind old new → Says nothing old.events new.events
client_says number (Gave due link cut) old new step = says_same old.events new.events (ap (λ (p : Part). p.events) step.9)
client_says number (Asked frame) old new step =
    let serves = step.2.serves in
    says_more nothing old.events new.events _ (adds_one old.events new.events (event.Request step.2.ready.client step.2.ready.frame serves.answer) serves.notes) (λ channel low. refl)
client_says number (Sent due link) old new step = says_same old.events new.events (ap (λ (p : Part). p.events) step.6)
client_says number (Closed cause) old new step = says_more nothing old.events new.events _ step.4.events (λ channel low. refl)
client_says number (Parted link) old new step = says_same old.events new.events (ap (λ (p : Part). p.events) step.3)

-- what a step of a channel notes of it
abbrev pub said_in : ProgramKind → List UserMsg
said_in (Forwarded moment msgs) = msgs
said_in (Noted moment msg) = msg ∷ []
said_in (Unregistered moment apid) = UnregisterApp apid 0 ∷ []
said_in other = []

only_none : (number : ℕ) (old new : Option (List Event)) → new ≡ old → Says (only number []) old new
only_none number old new same = record {
  kept = λ some. ap is_some same ∙ some;
  says = λ some channel low. ap (λ (o : Option (List Event)). told_of o channel) same ∙ sym (append-nil (told_of old channel)) ∙ ap (λ (ms : List UserMsg). told_of old channel ++ ms) (sym (by (number == channel)));
} where
  by : (b : Bool) → cond {A = List UserMsg} b [] [] ≡ []
  by true = refl
  by false = refl

pub program_says : (number : ℕ) (kind : ProgramKind) (old new : State) → IsProgramStep number kind old new → Says (only number (said_in kind)) old.events new.events
program_says number (Said ends link inbox msgs) old new step = only_none number old.events new.events (ap (λ (p : Part). p.events) step.11)
program_says number (Forwarded moment msgs) old new step =
    says_more (only number msgs) old.events new.events step.1.more step.1.events
    (λ channel low. noted_says channel _ step.1.more step.1.noted ∙ forwards_say old.core.ecu moment number channel msgs)
program_says number (Noted moment msg) old new step = says_more (only number (msg ∷ [])) old.events new.events _ step.1.notes.event (λ channel low. one_says moment number channel msg)
program_says number (Unregistered moment apid) old new step =
    says_more (only number (UnregisterApp apid 0 ∷ [])) old.events new.events _ step.1.notes.event (λ channel low. one_says moment number channel (UnregisterApp apid 0))
program_says number (TookLevels ends link) old new step = only_none number old.events new.events (ap (λ (p : Part). p.events) step.5)
program_says number (ShutOff link) old new step = only_none number old.events new.events (ap (λ (p : Part). p.events) step.4)
program_says number Ended old new step = only_none number old.events new.events (ap (λ (p : Part). p.events) step.3)

rings_say : (kind : RingKind) (old new : State) → IsRingStep kind old new → Says nothing old.events new.events
rings_say (TookCalls app moment items) old new step =
    says_more nothing old.events new.events step.0.more step.0.events (λ channel low. noted_says channel _ step.0.more step.0.noted ∙ calls_say old.core.ecu moment channel (map (owned app) items))
rings_say (TookClaim app moment claim) old new step = says_more nothing old.events new.events _ (step.0 old.folder).event (λ channel low. refl)
rings_say (TookLosses app moment apid count) old new step =
    says_more nothing old.events new.events step.0.more step.0.events (λ channel low. noted_says channel _ step.0.more step.0.noted ∙ losses_say old.core.ecu moment app apid count channel)
rings_say (Greeted moment msg) old new step =
    says_more nothing old.events new.events _ step.0.event
    (λ channel low. one_says moment own_channel channel msg ∙ only_other own_channel channel (msg ∷ []) (λ same. omega (arith, same, low)))

-- what a step notes of a channel
abbrev pub said_by : Kind → ℕ → List UserMsg
said_by (OfProgram number kind) = only number (said_in kind)
said_by other = nothing

module _ (IsTold : LinkTold → Type 0) where
  pub step_says : (kind : Kind) (old new : State) → IsStep IsTold kind old new → Says (said_by kind) old.events new.events
  step_says (Came number link) old new step = says_more nothing old.events new.events _ (adds_one old.events new.events (event.Connect number) step.2.event) (λ channel low. refl)
  step_says (Entered number link) old new step = says_same old.events new.events (ap (λ (s : State). s.events) step.3)
  step_says LetGo old new step = says_same old.events new.events (ap (λ (s : State). s.events) step.1)
  step_says Wanted old new step = says_same old.events new.events (ap (λ (s : State). s.events) step)
  step_says (Levelled change) old new step = says_more nothing old.events new.events _ step.0.events (λ channel low. refl)
  step_says (OfClient number kind) old new step = client_says number kind old new step.1
  step_says (OfProgram number kind) old new step = program_says number kind old new step.1
  step_says (OfRings kind) old new step = rings_say kind old new step.0
  step_says PartedAll old new step = says_same old.events new.events (ap (λ (s : State). s.events) step.3)
  step_says Renewed old new step = says_same old.events new.events (ap (λ (s : State). s.events) step.1)
  step_says Stopping old new step = says_same old.events new.events (ap (λ (s : State). s.events) step)
