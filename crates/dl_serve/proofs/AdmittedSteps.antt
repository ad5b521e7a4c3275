-- What became of all that programs outside sent, step by step.
use Rattle.std.proofs.Common.{◌≡◌, ◌≢◌, ◌<◌, ◌≤◌, ◌+◌, ◌-◌, ◌⊎◌, ℕ, Bool, true, false, inl, inr, List, [], ◌∷◌, ◌++◌, length, map, take, Option, Some, None, is_some, refl, sym, ap, subst, ◌∙◌, arith, append-nil, append_assoc, length-append}
use Rattle.std.specs.Prelude.{IfSome, IsSome, slice_get}
use Rattle.std.specs.List.{AllByRecursion}
use Rattle.std.proofs.lemmas.Bool.Decides.{eqb_tells}
use Rattle.dl_bytes.specs.Cutting.{AreCut}
use Rattle.dl_bytes.proofs.Cutting.{cut_more, cut_on}
use Rattle.dl_bytes.specs.declared.user.UserMsg.{UserMsg}
use Rattle.dl_bytes.specs.declared.user.UserMsg.TheVariants.{UnregisterApp}
use Rattle.dl_channel.specs.Pumping.{PumpsBy}
use Rattle.dl_channel.specs.State.{Outbox}
use Rattle.dl_channel.specs.declared.outcome.ChannelEnd.{ChannelEnd}
use Rattle.dl_channel.specs.declared.outcome.ChannelEnd.TheVariants.{Left, Broken, Bad, Slow, NoMemory}
use Rattle.dl_channel_turns.specs.Turns.{StopsAt}
use Rattle.dl_channel_turns.proofs.HeardMore.{nothing_heard}
use Rattle.dl_events.specs.declared.event.Event.{Event}
use Rattle.dl_lemmas.proofs.Lists.{all_both, last_or_before, set_again, within_of}
use Rattle.dl_loop.proofs.LaterDaemons.{grown}
use Rattle.dl_events.specs.Journal.{Journaled}
use Rattle.dl_outside.specs.Links.{Links}
use Rattle.dl_outside.specs.Outside.{Stays}
use Rattle.dl_outside.specs.Told.{LinkTold}
use Rattle.dl_outside.specs.declared.link.Gave.{Gave as Answer}
use Rattle.dl_outside.specs.declared.link.Gave.TheVariants as gave
use Rattle.dl_outside.proofs.Staying.{stays_same}
use Rattle.dl_server.specs.State as server
use Rattle.dl_socket.specs.Channels.{Channels, inbox_of}
use Rattle.dl_turns.specs.Turns.{Hears}
use Rattle.dl_user.specs.Channel as cutter
use Rattle.dl_user.specs.Channel.{unfed}
use Rattle.dl_user.specs.Cut.{Begins, Stops}
use Rattle.dl_user.specs.declared.fault.Stop.TheVariants as stops
use Rattle.dl_user.proofs.Cuts.{begins_more}
use Rattle.dl_machine.specs.State.{Changes, Program, State, new_program}
use Rattle.dl_machine.specs.Steps.{Came, Ended, Entered, Forwarded, Goes, IsProgramStep, IsStep, IsToldBy, Kind, LetGo, Levelled, Noted, OfClient, OfProgram, OfRings, PartedAll, ProgramKind, Renewed, Said, Says, ShutOff, Stopping, TookLevels, Unregistered, Wanted}
use Rattle.dl_machine.proofs.Composed.{steps_keep}
use Rattle.dl_machine.proofs.Joined.{EachNumbered, joined_get, numbered_changed}
use Rattle.dl_machine.proofs.ProgramSteps.{program_with, programs_with}
use Rattle.dl_machine.proofs.SaidEvents as events
use Rattle.dl_machine.proofs.SaidEvents.{only, only_it, only_other, program_says, said_by, step_says, told_of}
use Rattle.dl_serve.proofs.ServerSteps.{state_in, state_of}
use Rattle.dl_machine.proofs.Standing.{changed_length}
use Rattle.dl_serve.specs.declared.beginning.Begun.{Begun}
use Rattle.dl_serve.specs.declared.closed.Closed.{Closed}
use Rattle.dl_serve.specs.Admitted.{AllAdmitted, IsFarewell, StopsFor, TellGiven}
use Rattle.dl_serve.specs.Closed.{IsLeft}
use Rattle.dl_serve.specs.Program.{HasOpened}
use Rattle.dl_serve.specs.Told.{Told}
use Rattle.dl_serve.proofs.OtherEntries.{added_apart, added_here, gone_apart, gone_here, taken_at, value_apart, value_here}
use Rattle.dl_serve.proofs.ServingSteps.{first, serving_goes}

-- ---- what is known of one program

-- The messages that were noted and those still to be taken in are all of what its link gave, and then farewells; what is left says why there are no more. While
-- its channel goes on there are no farewells, and what is left is held.
pub record Heard (said : List UserMsg) (inbox : Option cutter.Channel) (stop : Bool) (p : Program) : Type 0 where
  pub stream : List ℕ
  pub given : p.link.given ≡ Some stream
  pub msgs : List UserMsg
  pub left : List ℕ
  pub farewells : List UserMsg
  pub all : said ++ p.said ≡ msgs ++ farewells
  pub each : AllByRecursion IsFarewell farewells
  pub cut : AreCut Begins stream msgs left
  pub ends : StopsFor p.end left
  pub goes_on : p.end ≡ None → stop ≡ false → (farewells ≡ []) × ((held : cutter.Channel) → inbox ≡ Some held → held.unread ≡ left)

stays_some : {A : Type 0} (before now : Option A) (x : A) → before ≡ Some x → Stays before now → now ≡ Some x
stays_some before now x is stays = subst (λ (o : Option _). Stays o now) is stays

-- all that was noted is all that is to be taken in, where nothing more is
said_all : (said : List UserMsg) (inbox : Option cutter.Channel) (stop : Bool) (p : Program) (h : Heard said inbox stop p) → p.said ≡ [] → said ≡ h.msgs ++ h.farewells
said_all said inbox stop p h none = sym (append-nil said) ∙ ap (λ (ms : List UserMsg). said ++ ms) (sym none) ∙ h.all

-- ---- what a program said

stopped_for : (end : Option ChannelEnd) (left : List ℕ) (inbox : cutter.Channel) → StopsAt end left inbox → StopsFor end left
stopped_for None left inbox stopped = stopped.0
stopped_for (Some (Bad fault)) left inbox stopped = stopped
stopped_for (Some NoMemory) left inbox stopped = tt
stopped_for (Some Left) left inbox stopped = absurd stopped
stopped_for (Some Broken) left inbox stopped = absurd stopped
stopped_for (Some Slow) left inbox stopped = absurd stopped

module _ (said : List UserMsg) (was : Program) (open_so : was.end ≡ None) (none : was.said ≡ []) (held : cutter.Channel) (o o_now : Option cutter.Channel) (is_held : o ≡ Some held)
    (h : Heard said o false was) where
  no_farewell : h.farewells ≡ []
  no_farewell = (h.goes_on open_so refl).0

  is_left : held.unread ≡ h.left
  is_left = (h.goes_on open_so refl).1 held is_held

  all_said : (more : List UserMsg) → (said ++ []) ++ more ≡ (h.msgs ++ more) ++ []
  all_said more =
      let so_far : said ++ [] ≡ h.msgs =
      append-nil said ∙ said_all said o false was h none ∙ ap (λ (ms : List UserMsg). h.msgs ++ ms) no_farewell ∙ append-nil h.msgs in
      ap (λ (ms : List UserMsg). ms ++ more) so_far ∙ sym (append-nil (h.msgs ++ more))

  stops_so : Stops h.left stops.NeedMore
  stops_so = subst (λ (e : Option ChannelEnd). StopsFor e h.left) open_so h.ends

  held_now : (inbox : cutter.Channel) → o_now ≡ Some inbox → (left : List ℕ) → inbox.unread ≡ left → (x : cutter.Channel) → o_now ≡ Some x → x.unread ≡ left
  held_now inbox is left unread x there = (let same : Some inbox ≡ Some x = sym is ∙ there in let it : inbox ≡ x = cc same in subst (λ (c : cutter.Channel). c.unread ≡ left) it unread)

  -- nothing came
  nothing_said : (link : LinkTold) (end : Option ChannelEnd) (msgs : List UserMsg) (inbox : cutter.Channel) (stop : Bool) → Stays was.link.given link.given → msgs ≡ [] → inbox ≡ held → o_now ≡ Some inbox
      → StopsFor end h.left → Heard (said ++ []) o_now stop (record { link = link; end = end; said = msgs })
  nothing_said link end msgs inbox stop stays no_msg same is stops_for = record {
    stream = h.stream;
    given = stays_some was.link.given link.given h.stream h.given stays;
    msgs = h.msgs ++ msgs;
    left = h.left;
    farewells = [];
    all = all_said msgs;
    each = tt;
    cut = subst (λ (ms : List UserMsg). AreCut Begins h.stream ms h.left) (sym (ap (λ (ms : List UserMsg). h.msgs ++ ms) no_msg ∙ append-nil h.msgs)) h.cut;
    ends = stops_for;
    goes_on = λ goes runs. (refl, held_now inbox is h.left (ap (λ (c : cutter.Channel). c.unread) same ∙ is_left));
  }

  said_heard : (link : LinkTold) (end : Option ChannelEnd) (msgs : List UserMsg) (answer : Answer) (into : List ℕ) (inbox : cutter.Channel) → Hears was.link link answer into → Says answer into end held inbox msgs
      → o_now ≡ Some inbox → Heard (said ++ []) o_now false (record { link = link; end = end; said = msgs })
  said_heard link end msgs (gave.Bytes count) into inbox hears says is = record {
    stream = h.stream ++ take count into;
    given = grown was.link.given link.given h.stream (take count into) h.given hears.given;
    msgs = h.msgs ++ msgs;
    left = says.0;
    farewells = [];
    all = all_said msgs;
    each = tt;
    cut = cut_on Begins (h.stream ++ take count into) (held.unread ++ take count into) says.0 h.msgs msgs
        (cut_more Begins begins_more h.stream held.unread (take count into) h.msgs (subst (λ (l : List ℕ). AreCut Begins h.stream h.msgs l) (sym is_left) h.cut)) says.1;
    ends = stopped_for end says.0 inbox says.2;
    goes_on = λ goes runs. (refl, held_now inbox is says.0 (let at_none : StopsAt None says.0 inbox = subst (λ (e : Option ChannelEnd). StopsAt e says.0 inbox) goes says.2 in at_none.1));
  }
  said_heard link end msgs gave.NotYet into inbox hears says is =
      nothing_said link end msgs inbox false hears.given says.0 says.2 is (subst (λ (e : Option ChannelEnd). StopsFor e h.left) (sym says.1) stops_so)
  said_heard link end msgs gave.End into inbox hears says is =
      nothing_said link end msgs inbox false hears.given says.0 says.2 is (subst (λ (e : Option ChannelEnd). StopsFor e h.left) (sym says.1) stops_so)
  said_heard link end msgs gave.Failed into inbox hears says is =
      nothing_said link end msgs inbox false hears.given says.0 says.2 is (subst (λ (e : Option ChannelEnd). StopsFor e h.left) (sym says.1) stops_so)

-- ---- what was taken in, told and sent

noted_heard : (said more rest : List UserMsg) (o o_now : Option cutter.Channel) (stop : Bool) (was : Program) → was.said ≡ more ++ rest → o_now ≡ o → Heard said o stop was
    → Heard (said ++ more) o_now stop (record was { said = rest })
noted_heard said more rest o o_now stop was split same h = record {
  stream = h.stream;
  given = h.given;
  msgs = h.msgs;
  left = h.left;
  farewells = h.farewells;
  all = append_assoc said more rest ∙ ap (λ (ms : List UserMsg). said ++ ms) (sym split) ∙ h.all;
  each = h.each;
  cut = h.cut;
  ends = h.ends;
  goes_on = λ goes runs. ((h.goes_on goes runs).0, λ held there. (h.goes_on goes runs).1 held (sym same ∙ there));
}

farewell_heard : (said : List UserMsg) (o o_now : Option cutter.Channel) (stop : Bool) (p : Program) (apid : List ℕ) → p.said ≡ [] → IsSome p.end ⊎ (stop ≡ true) → Heard said o stop p
    → Heard (said ++ UnregisterApp apid 0 ∷ []) o_now stop p
farewell_heard said o o_now stop p apid none may h =
    let bye : List UserMsg = UnregisterApp apid 0 ∷ [] in record {
      stream = h.stream;
      given = h.given;
      msgs = h.msgs;
      left = h.left;
      farewells = h.farewells ++ bye;
      all = ap (λ (ms : List UserMsg). (said ++ bye) ++ ms) none ∙ append-nil (said ++ bye) ∙ ap (λ (ms : List UserMsg). ms ++ bye) (said_all said o stop p h none) ∙ append_assoc h.msgs h.farewells bye;
      each = all_both IsFarewell h.farewells bye h.each (refl, tt);
      cut = h.cut;
      ends = h.ends;
      goes_on = λ goes runs. absurd (elim may [ inl some ↦ (let bad : false ≡ true = ap is_some (sym goes) ∙ some in cc bad) | inr stopping ↦ (let bad : true ≡ false = sym stopping ∙ runs in cc bad) ]);
    }

-- its link changed, and gave nothing
link_heard : (said : List UserMsg) (o o_now : Option cutter.Channel) (stop : Bool) (was : Program) (link : LinkTold) (end : Option ChannelEnd) → Stays was.link.given link.given → o_now ≡ o
    → ((left : List ℕ) → StopsFor was.end left → StopsFor end left) → (end ≡ None → was.end ≡ None) → Heard said o stop was → Heard (said ++ []) o_now stop (record was { link = link; end = end })
link_heard said o o_now stop was link end stays same stops_for went h = record {
  stream = h.stream;
  given = stays_some was.link.given link.given h.stream h.given stays;
  msgs = h.msgs;
  left = h.left;
  farewells = h.farewells;
  all = ap (λ (ms : List UserMsg). ms ++ was.said) (append-nil said) ∙ h.all;
  each = h.each;
  cut = h.cut;
  ends = stops_for h.left h.ends;
  goes_on = λ goes runs. ((h.goes_on (went goes) runs).0, λ held there. (h.goes_on (went goes) runs).1 held (sym same ∙ there));
}

pumped_given : (b : Bool) (end : Option ChannelEnd) (outbox outbox_now : Outbox) (link link_now : LinkTold) → PumpsBy b end outbox outbox_now link link_now → Stays link.given link_now.given
pumped_given true end outbox outbox_now link link_now pumps = subst (λ (l : LinkTold). Stays link.given l.given) (sym pumps.2) (stays_same link.given)
pumped_given false end outbox outbox_now link link_now pumps = pumps.0.only_sent.given

pumped_stops : (b : Bool) (end : Option ChannelEnd) (left : List ℕ) (outbox outbox_now : Outbox) (link link_now : LinkTold) → PumpsBy b end outbox outbox_now link link_now → Stops left stops.NeedMore → StopsFor end left
pumped_stops true end left outbox outbox_now link link_now pumps open_so = subst (λ (e : Option ChannelEnd). StopsFor e left) (sym pumps.0) open_so
pumped_stops false None left outbox outbox_now link link_now pumps open_so = open_so
pumped_stops false (Some Broken) left outbox outbox_now link link_now pumps open_so = open_so
pumped_stops false (Some Left) left outbox outbox_now link link_now pumps open_so = open_so
pumped_stops false (Some Slow) left outbox outbox_now link link_now pumps open_so = open_so
pumped_stops false (Some (Bad fault)) left outbox outbox_now link link_now pumps open_so = absurd pumps.0.ends
pumped_stops false (Some NoMemory) left outbox outbox_now link link_now pumps open_so = tt

-- ---- all programs

-- of each that came this is known, by number; and of those to come nothing was noted and nothing is held
pub record Knows (said : ℕ → List UserMsg) (channels : Channels) (programs : List Program) (stop : Bool) : Type 0 where
  pub many : channels.opened ≡ length programs
  pub each : EachNumbered (λ number (p : Program). Heard (said number) (inbox_of channels.inboxes number) stop p) programs
  pub unsaid : (number : ℕ) → length programs < number → said number ≡ []
  pub unheld : (number : ℕ) → length programs < number → inbox_of channels.inboxes number ≡ None

-- where events are kept
abbrev pub Keeps : State → Type 0
Keeps s = IsSome s.events × Knows (told_of s.events) s.channels s.programs s.stops

one_low : (place : ℕ) → 1 ≤ place + 1
one_low place = omega arith

-- nothing was noted of programs, and these and their channels stand
quiet : (old new : State) → events.Says events.nothing old.events new.events → (channels : Channels) → channels.opened ≡ old.channels.opened → channels.inboxes ≡ old.channels.inboxes → (stop : Bool)
    → ((p : Program) (said : List UserMsg) (o : Option cutter.Channel) → Heard said o old.stops p → Heard said o stop p) → Keeps old → IsSome new.events × Knows (told_of new.events) channels old.programs stop
quiet old new says channels opened inboxes stop stops_so k =
    let same : (number : ℕ) → 1 ≤ number → told_of new.events number ≡ told_of old.events number = (λ number low. says.says k.0 number low ∙ append-nil (told_of old.events number)) in (
      says.kept k.0,
      record {
        many = opened ∙ k.1.many;
        each = λ place p there.
            stops_so p (told_of new.events (place + 1)) (inbox_of channels.inboxes (place + 1))
            (subst (λ (ms : List UserMsg). Heard ms (inbox_of channels.inboxes (place + 1)) old.stops p) (sym (same (place + 1) (one_low place)))
            (subst (λ (is : List (ℕ × cutter.Channel)). Heard (told_of old.events (place + 1)) (inbox_of is (place + 1)) old.stops p) (sym inboxes) (k.1.each place p there)));
        unsaid = λ number above. same number (omega (arith, above)) ∙ k.1.unsaid number above;
        unheld = λ number above. ap (λ (is : List (ℕ × cutter.Channel)). inbox_of is number) inboxes ∙ k.1.unheld number above;
      },
    )

-- it is known of one afterwards, and nothing was noted of others
changed : (number : ℕ) (low : 1 ≤ number) (old new : State) (more : List UserMsg) (was now : Program) → Changes number was now old.programs new.programs → events.Says (only number more) old.events new.events
    → new.channels.opened ≡ old.channels.opened → ((other : ℕ) → other ≢ number → inbox_of new.channels.inboxes other ≡ inbox_of old.channels.inboxes other)
    → (Heard (told_of old.events number) (inbox_of old.channels.inboxes number) old.stops was → Heard (told_of old.events number ++ more) (inbox_of new.channels.inboxes number) old.stops now) → Keeps old
    → IsSome new.events × Knows (told_of new.events) new.channels new.programs old.stops
changed number low old new more was now c says opened others step k = (
  says.kept k.0,
  record {
    many = opened ∙ k.1.many ∙ sym long;
    each = numbered_changed (λ n (p : Program). Heard (told_of old.events n) (inbox_of old.channels.inboxes n) old.stops p) (λ n (p : Program). Heard (told_of new.events n) (inbox_of new.channels.inboxes n) old.stops p)
        number was now old.programs new.programs low c
        (λ other p first apart h. subst (λ (ms : List UserMsg). Heard ms (inbox_of new.channels.inboxes other) old.stops p) (sym (unsaid_of other first apart))
        (subst (λ (o : Option cutter.Channel). Heard (told_of old.events other) o old.stops p) (sym (others other apart)) h))
        (λ h. subst (λ (ms : List UserMsg). Heard ms (inbox_of new.channels.inboxes number) old.stops now)
        (sym (says.says k.0 number low ∙ ap (λ (ms : List UserMsg). told_of old.events number ++ ms) (only_it number more))) (step h))
        k.1.each;
    unsaid = λ n above. (let past_all : length old.programs < n = omega (arith, above, long) in
        unsaid_of n (omega (arith, past_all)) (λ same. omega (arith, same, past_all, inside, low)) ∙ k.1.unsaid n past_all);
    unheld = λ n above. (let past_all : length old.programs < n = omega (arith, above, long) in others n (λ same. omega (arith, same, past_all, inside, low)) ∙ k.1.unheld n past_all);
  },
) where
  long : length new.programs ≡ length old.programs
  long = changed_length number was now old.programs new.programs c

  inside : number - 1 < length old.programs
  inside = within_of old.programs (number - 1) was c.there

  unsaid_of : (other : ℕ) → 1 ≤ other → other ≢ number → told_of new.events other ≡ told_of old.events other
  unsaid_of other first apart =
      says.says k.0 other first ∙ ap (λ (ms : List UserMsg). told_of old.events other ++ ms) (only_other number other more (λ same. apart (sym same))) ∙ append-nil (told_of old.events other)

-- ---- each step

inboxes_same : (old new : Channels) → new ≡ old → (number : ℕ) → inbox_of new.inboxes number ≡ inbox_of old.inboxes number
inboxes_same old new same number = ap (λ (c : Channels). inbox_of c.inboxes number) same

program_keeps : (number : ℕ) (low : 1 ≤ number) (kind : ProgramKind) (old new : State) → IsProgramStep number kind old new → Keeps old → IsSome new.events × Knows (told_of new.events) new.channels new.programs old.stops
program_keeps number low (Said ends link inbox msgs) old new step k =
    let inboxes : (other : ℕ) → other ≢ number → inbox_of new.channels.inboxes other ≡ inbox_of old.channels.inboxes other =
    (λ other apart. ap (λ (c : Channels). inbox_of c.inboxes other) step.10 ∙ value_apart number other old.channels.inboxes inbox apart) in
    let now : inbox_of new.channels.inboxes number ≡ Some inbox = ap (λ (c : Channels). inbox_of c.inboxes number) step.10 ∙ value_here number old.channels.inboxes inbox step.3 step.4 in
    changed number low old new [] step.0 _ step.2 (program_says number (Said ends link inbox msgs) old new step) (ap (λ (c : Channels). c.opened) step.10) inboxes
    (λ h. subst (λ (b : Bool). Heard (told_of old.events number ++ []) (inbox_of new.channels.inboxes number) b (record { link = link; end = ends; said = msgs })) (sym step.12)
    (said_heard (told_of old.events number) step.0 step.1.0 step.1.1 step.3 (inbox_of old.channels.inboxes number) (inbox_of new.channels.inboxes number) step.4
    (subst (λ (b : Bool). Heard (told_of old.events number) (inbox_of old.channels.inboxes number) b step.0) step.12 h) link ends msgs step.5 step.6 inbox step.8 step.9 now)) k
program_keeps number low (Forwarded moment msgs) old new step k =
    changed number low old new msgs step.0.0 _ step.0.3 (program_says number (Forwarded moment msgs) old new step) (ap (λ (c : Channels). c.opened) step.2) (λ other apart. inboxes_same old.channels new.channels step.2 other)
    (noted_heard (told_of old.events number) msgs step.0.1 _ _ old.stops step.0.0 step.0.2 (inboxes_same old.channels new.channels step.2 number)) k
program_keeps number low (Noted moment msg) old new step k =
    changed number low old new (msg ∷ []) step.0.0 _ step.0.3 (program_says number (Noted moment msg) old new step) (ap (λ (c : Channels). c.opened) step.2)
    (λ other apart. ap (λ (c : Channels). inbox_of c.inboxes other) step.2)
    (noted_heard (told_of old.events number) (msg ∷ []) step.0.1 _ _ old.stops step.0.0 step.0.2 (ap (λ (c : Channels). inbox_of c.inboxes number) step.2)) k
program_keeps number low (Unregistered moment apid) old new step k =
    let may = step.4 in
    let c : Changes number may.0 may.0 old.programs new.programs = record { there = may.1; is = step.3 ∙ sym (set_again old.programs (number - 1) may.0 may.1) } in
    changed number low old new (UnregisterApp apid 0 ∷ []) may.0 may.0 c (program_says number (Unregistered moment apid) old new step) (ap (λ (ch : Channels). ch.opened) step.2)
    (λ other apart. inboxes_same old.channels new.channels step.2 other) (farewell_heard (told_of old.events number) _ _ old.stops may.0 apid may.2 may.3) k
program_keeps number low (TookLevels ends link) old new step k =
    let p = step.3 in
    changed number low old new [] step.0 _ step.2 (program_says number (TookLevels ends link) old new step) (ap (λ (c : Channels). c.opened) step.4) (λ other apart. ap (λ (c : Channels). inbox_of c.inboxes other) step.4)
    (link_heard (told_of old.events number) _ _ old.stops step.0 link ends (pumped_given p.outbox.full ends p.outbox p.outbox_now step.0.link link p.pumps) (ap (λ (c : Channels). inbox_of c.inboxes number) step.4)
    (λ left stopped. pumped_stops p.outbox.full ends left p.outbox p.outbox_now step.0.link link p.pumps (subst (λ (e : Option ChannelEnd). StopsFor e left) step.1 stopped)) (λ goes. step.1)) k
program_keeps number low (ShutOff link) old new step k =
    changed number low old new [] step.0 _ step.1 (program_says number (ShutOff link) old new step) (ap (λ (c : Channels). c.opened) step.3) (λ other apart. inboxes_same old.channels new.channels step.3 other)
    (link_heard (told_of old.events number) _ _ old.stops step.0 link step.0.end step.2.given (inboxes_same old.channels new.channels step.3 number) (λ left stopped. stopped) (λ goes. goes)) k
program_keeps number low Ended old new step k =
    let says = program_says number Ended old new step in
    let same : (n : ℕ) → 1 ≤ n → told_of new.events n ≡ told_of old.events n = (λ n first. says.says k.0 n first ∙ ap (λ (ms : List UserMsg). told_of old.events n ++ ms) (none n) ∙ append-nil (told_of old.events n)) in (
      says.kept k.0,
      subst (λ (ps : List Program). Knows (told_of new.events) new.channels ps old.stops) (sym step.2) (record {
        many = ap (λ (c : Channels). c.opened) step.1 ∙ k.1.many;
        each = λ place p there.
            subst (λ (ms : List UserMsg). Heard ms (inbox_of new.channels.inboxes (place + 1)) old.stops p) (sym (same (place + 1) (one_low place)))
            (left_heard (told_of old.events (place + 1)) (inbox_of old.channels.inboxes (place + 1)) (inbox_of new.channels.inboxes (place + 1)) p (now (place + 1)) (k.1.each place p there));
        unsaid = λ n above. same n (omega (arith, above)) ∙ k.1.unsaid n above;
        unheld = λ n above. elim (now n) [ inl none_now ↦ none_now | inr stands ↦ stands ∙ k.1.unheld n above ];
      }),
    )
  where
    none : (n : ℕ) → only number [] n ≡ []
    none n = elim (eqb_tells number n) [ inl same ↦ ap (λ (m : ℕ). only number [] m) (sym same.1) ∙ only_it number [] | inr other ↦ only_other number n [] other.1 ]

    now : (n : ℕ) → (inbox_of new.channels.inboxes n ≡ None) ⊎ (inbox_of new.channels.inboxes n ≡ inbox_of old.channels.inboxes n)
    now n = elim (eqb_tells n number) [
      | inl same ↦ inl (ap (λ (m : ℕ). inbox_of new.channels.inboxes m) same.1 ∙ ap (λ (c : Channels). inbox_of c.inboxes number) step.1 ∙ gone_here number old.channels.inboxes)
      | inr other ↦ inr (ap (λ (c : Channels). inbox_of c.inboxes n) step.1 ∙ gone_apart number n old.channels.inboxes other.1)
    ]

    left_heard : (said : List UserMsg) (o o_now : Option cutter.Channel) (p : Program) → (o_now ≡ None) ⊎ (o_now ≡ o) → Heard said o old.stops p → Heard said o_now old.stops p
    left_heard said o o_now p either h = record {
      stream = h.stream;
      given = h.given;
      msgs = h.msgs;
      left = h.left;
      farewells = h.farewells;
      all = h.all;
      each = h.each;
      cut = h.cut;
      ends = h.ends;
      goes_on = λ goes runs. (
        (h.goes_on goes runs).0,
        λ held there. elim either [
          | inl none_now ↦ absurd (let bad : None ≡ Some held = sym none_now ∙ there in cc bad)
          | inr stands ↦ (h.goes_on goes runs).1 held (sym stands ∙ there)
        ],
      );
    }

-- a program came, over a link that gave nothing
nothing_given : (given : Option (List ℕ)) → IsSome given → IfSome given (λ bytes. bytes ≡ []) → given ≡ Some []
nothing_given None some nothing = absurd (cc some)
nothing_given (Some bytes) some nothing = ap Some nothing

new_heard : (link : LinkTold) (o : Option cutter.Channel) (stop : Bool) → link.given ≡ Some [] → ((held : cutter.Channel) → o ≡ Some held → held ≡ unfed) → Heard [] o stop (new_program link)
new_heard link o stop given fresh = record {
  stream = [];
  given = given;
  msgs = [];
  left = [];
  farewells = [];
  all = refl;
  each = tt;
  cut = refl;
  ends = nothing_heard.open_so;
  goes_on = λ goes runs. (refl, λ held there. ap (λ (c : cutter.Channel). c.unread) (fresh held there));
}

-- while the daemon runs more is known than once it stops
stopping_heard : (stop : Bool) (p : Program) (said : List UserMsg) (o : Option cutter.Channel) → Heard said o stop p → Heard said o true p
stopping_heard stop p said o h = record {
  stream = h.stream;
  given = h.given;
  msgs = h.msgs;
  left = h.left;
  farewells = h.farewells;
  all = h.all;
  each = h.each;
  cut = h.cut;
  ends = h.ends;
  goes_on = λ goes runs. absurd (let bad : true ≡ false = runs in cc bad);
}

module _ (IsTold : LinkTold → Type 0) (tells : (link : LinkTold) → IsTold link → IsSome link.given) where
  still : (kind : Kind) (old new : State) → IsStep IsTold kind old new → said_by kind ≡ events.nothing → (as_now : State) → new ≡ as_now → as_now.events ≡ new.events → as_now.programs ≡ old.programs
      → as_now.channels.opened ≡ old.channels.opened → as_now.channels.inboxes ≡ old.channels.inboxes → as_now.stops ≡ old.stops → Keeps old → Keeps new
  still kind old new step none as_now is same_events programs opened inboxes stop k =
      let says : events.Says events.nothing old.events new.events = subst (λ (f : ℕ → List UserMsg). events.Says f old.events new.events) none (step_says IsTold kind old new step) in
      let known = quiet old new says as_now.channels opened inboxes old.stops (λ p said o h. h) k in
      subst Keeps (sym is) (subst (λ (es : Option (List Event)). IsSome es × Knows (told_of es) as_now.channels as_now.programs as_now.stops) (sym same_events)
      (known.0, subst (λ (b : Bool). Knows (told_of new.events) as_now.channels as_now.programs b) (sym stop) (subst (λ (ps : List Program). Knows (told_of new.events) as_now.channels ps old.stops) (sym programs) known.1)))

  pub step_keeps : (kind : Kind) (old new : State) → IsStep IsTold kind old new → Keeps old → Keeps new
  step_keeps (Came number link) old new step k = still (Came number link) old new step refl _ step.3 refl refl refl refl refl k
  step_keeps (Entered number link) old new step k =
      let opens = step.2 in
      let knows = k.1 in
      let says = step_says IsTold (Entered number link) old new step in
      let next : number ≡ length old.programs + 1 = omega (arith, opens.2, knows.many) in
      let long : length (old.programs ++ new_program link ∷ []) ≡ length old.programs + 1 = length-append old.programs (new_program link ∷ []) in
      let inboxes : new.channels.inboxes ≡ old.channels.inboxes ++ (number, unfed) ∷ [] = ap (λ (c : Channels). c.inboxes) opens.3 in
      let apart : (other : ℕ) → other ≢ number → inbox_of new.channels.inboxes other ≡ inbox_of old.channels.inboxes other =
      (λ other no. ap (λ (is : List (ℕ × cutter.Channel)). inbox_of is other) inboxes ∙ added_apart number other old.channels.inboxes unfed no) in
      let held : inbox_of new.channels.inboxes number ≡ Some unfed =
      ap (λ (is : List (ℕ × cutter.Channel)). inbox_of is number) inboxes ∙ added_here number old.channels.inboxes unfed (knows.unheld number (omega (arith, next))) in
      subst Keeps (sym step.3) (
        k.0,
        record {
          many = ap (λ (c : Channels). c.opened) opens.3 ∙ next ∙ sym long;
          each = λ place p there.
              last_or_before old.programs (new_program link) p place there (Heard (told_of old.events (place + 1)) (inbox_of new.channels.inboxes (place + 1)) old.stops p)
              (λ before. let below = within_of old.programs place p before in
              subst (λ (o : Option cutter.Channel). Heard (told_of old.events (place + 1)) o old.stops p) (sym (apart (place + 1) (λ same. omega (arith, same, next, below)))) (knows.each place p before))
              (λ last same. let its : place + 1 ≡ number = omega (arith, next, last) in
              subst (λ (q : Program). Heard (told_of old.events (place + 1)) (inbox_of new.channels.inboxes (place + 1)) old.stops q) same
              (subst (λ (ms : List UserMsg). Heard ms (inbox_of new.channels.inboxes (place + 1)) old.stops (new_program link)) (sym (knows.unsaid (place + 1) (omega (arith, last))))
              (new_heard link (inbox_of new.channels.inboxes (place + 1)) old.stops (nothing_given link.given (tells link step.1) step.0.nothing_given)
              (λ x at. let there_is : Some x ≡ Some unfed = sym at ∙ ap (λ (n : ℕ). inbox_of new.channels.inboxes n) its ∙ held in cc there_is))));
          unsaid = λ n above. knows.unsaid n (omega (arith, above, long));
          unheld = λ n above. apart n (λ same. omega (arith, same, above, long, next)) ∙ knows.unheld n (omega (arith, above, long));
        },
      )
  step_keeps LetGo old new step k = still LetGo old new step refl _ step.1 (sym (ap (λ (s : State). s.events) step.1)) refl refl refl refl k
  step_keeps Wanted old new step k = still Wanted old new step refl _ step (sym (ap (λ (s : State). s.events) step)) refl refl refl refl k
  step_keeps (Levelled change) old new step k = still (Levelled change) old new step refl _ step.1 refl refl refl refl refl k
  step_keeps (OfClient number kind) old new step k = still (OfClient number kind) old new step refl _ step.2 refl refl refl refl refl k
  step_keeps (OfProgram number kind) old new step k = subst Keeps (sym step.2) (program_keeps number step.0 kind old new step.1 k)
  step_keeps (OfRings kind) old new step k = still (OfRings kind) old new step refl _ step.1 refl refl refl refl refl k
  step_keeps PartedAll old new step k = still PartedAll old new step refl _ step.3 (sym (ap (λ (s : State). s.events) step.3)) refl refl refl refl k
  step_keeps Renewed old new step k = still Renewed old new step refl _ step.1 (sym (ap (λ (s : State). s.events) step.1)) refl refl refl refl k
  step_keeps Stopping old new step k =
      let says = step_says IsTold Stopping old new step in
      let known = quiet old old (record { kept = λ some. some; says = λ some number low. sym (append-nil (told_of old.events number)) }) old.channels refl refl true (stopping_heard old.stops) k in
      subst Keeps (sym step) known

-- whenever nothing waits to be noted
pub all_admitted : (kept : List Event) (links : List LinkTold) (ends : List (Option ChannelEnd)) (channels : Channels) (stop : Bool) → Knows (told_of (Some kept)) channels (programs_with links ends) stop
    → AllAdmitted kept links ends
all_admitted kept links ends channels stop knows = λ place link end there slot.
    let h = knows.each place (program_with link end) (joined_get program_with None links ends place link end there slot) in (
      h.stream,
      h.given,
      record {
        msgs = h.msgs;
        left = h.left;
        farewells = h.farewells;
        all = said_all (told_of (Some kept) (place + 1)) _ stop (program_with link end) h refl;
        each = h.each;
        cut = h.cut;
        stops = h.ends;
      },
    )

-- ---- the whole

-- before any program came
pub none_admitted : (s : server.State) → s.events ≡ Some [] → s.programs ≡ [] → s.channels.opened ≡ 0 → s.channels.inboxes ≡ [] → Keeps (state_of s)
none_admitted s none_kept no_program none_opened no_inbox =
    let none : programs_with s.programs s.ends ≡ [] = ap (λ (ls : List LinkTold). programs_with ls s.ends) no_program in (
      ap is_some none_kept,
      record {
        many = none_opened ∙ ap (λ (ps : List Program). length ps) (sym none);
        each = λ place p there. absurd (let bad : slice_get [] place ≡ Some p = subst (λ (ps : List Program). slice_get ps place ≡ Some p) none there in cc bad);
        unsaid = λ number above. ap (λ (o : Option (List Event)). told_of o number) none_kept;
        unheld = λ number above. ap (λ (is : List (ℕ × cutter.Channel)). inbox_of is number) no_inbox;
      },
    )

module _ {L : Type 0} (link_told : L → LinkTold) (tells : TellGiven link_told) where
  pub goes_keep : (old new : State) → Goes (IsToldBy link_told) old new → Keeps old → Keeps new
  goes_keep old new goes k =
      let given : (link : LinkTold) → IsToldBy link_told link → IsSome link.given = (λ link is. ap (λ (l : LinkTold). is_some l.given) is.1 ∙ tells is.0) in
      steps_keep (IsToldBy link_told) Keeps (step_keeps (IsToldBy link_told) given) goes.kinds old new goes.steps k

  -- a server to which no program had come came to this by steps, and this was left of it
  pub left_admitted : (old new : server.State) (closed : Closed L) → Goes (IsToldBy link_told) (state_of old) (state_in true new) → old.events ≡ Some [] → old.programs ≡ [] → old.channels.opened ≡ 0
      → old.channels.inboxes ≡ [] → IsLeft link_told new closed → AllAdmitted closed.events.events (map link_told closed.users.links) closed.ends
  left_admitted old new closed goes none_kept no_program none_opened no_inbox left =
      let last : Keeps (state_in true new) = goes_keep (state_of old) (state_in true new) goes (none_admitted old none_kept no_program none_opened no_inbox) in
      let known = subst (λ (es : Option (List Event)). Knows (told_of es) new.channels (programs_with new.programs new.ends) true) left.events last.1 in
      subst (λ (es : List (Option ChannelEnd)). AllAdmitted closed.events.events (map link_told closed.users.links) es) (sym left.ends)
      (subst (λ (ls : List LinkTold). AllAdmitted closed.events.events ls (take (length new.programs) new.ends)) (sym left.users)
      (λ place link end there slot. all_admitted closed.events.events new.programs new.ends new.channels true known place link end there (taken_at new.ends (length new.programs) place end slot)))

  pub sent : (begun : Begun) (old new : Told L) (full : Bool) (closed : Closed L) → HasOpened link_told begun full old new closed
      → AllAdmitted closed.events.events (map link_told closed.users.links) closed.ends
  sent begun old new full closed has =
      let made = has.is_opened.made in
      left_admitted (first link_told begun old new full closed has) has.run.closes.0 closed (serving_goes link_told begun old new full closed has) (ap (λ (j : Journaled). Some j.events) made.journal_is)
      (ap (λ (ls : Links L). map link_told ls.links) made.no_program) (ap (λ (c : Channels). c.opened) made.channels_are) (ap (λ (c : Channels). c.inboxes) made.channels_are) has.run.closes.3
