-- What the links of programs took, step by step.
use Rattle.std.proofs.Common.{◌≡◌, ◌≢◌, ◌<◌, ◌≤◌, ◌+◌, ◌-◌, ◌⊎◌, ◌==◌, ℕ, zero, suc, Bool, true, false, cond, inl, inr, List, [], ◌∷◌, ◌++◌, length, Option, Some, None, is_some, refl, sym, ap, subst, ◌∙◌, arith, append-nil, length-append}
use Rattle.std.specs.Prelude.{IsSome, nat_eq, slice_get}
use Rattle.std.specs.List.{AllByRecursion, concat, find}
use Rattle.std.specs.Map.{set_value}
use Rattle.std.specs.Option.{option_map, option_map_or}
use Rattle.std.proofs.lemmas.Bool.Decides.{eqb_tells}
use Rattle.dl_admission.specs.Part.{Part}
use Rattle.dl_channel.specs.State.{Outbox, empty}
use Rattle.dl_channel.specs.declared.outcome.ChannelEnd.{ChannelEnd}
use Rattle.dl_channel.specs.declared.outcome.ChannelEnd.TheVariants.{Slow}
use Rattle.dl_channel_turns.specs.Levels.{TellsLevel, answer_to, registration_of}
use Rattle.dl_channel_turns.specs.Put.{answer_for, message_for}
use Rattle.dl_channel_turns.specs.State.{outbox_of}
use Rattle.dl_channel_turns.specs.Turns.{StopsAt}
use Rattle.dl_core.proofs.Noted.{added_one}
use Rattle.dl_core.specs.Admission.{AddsEach}
use Rattle.dl_core.specs.Registering.{applied_now}
use Rattle.dl_core.specs.State.{Core}
use Rattle.dl_bytes.specs.declared.moment.Moment.{Moment}
use Rattle.dl_bytes.specs.declared.user.UserMsg.{UserMsg}
use Rattle.dl_events.specs.declared.event.Event.{Event}
use Rattle.dl_events.specs.declared.event.Event.TheVariants as event
use Rattle.dl_lemmas.proofs.Lists.{get_end, set_again}
use Rattle.dl_lemmas.proofs.Options.{not_some, nothing_taken}
use Rattle.dl_model.specs.Journal.{owed, registry_of, slots_of}
use Rattle.dl_model.specs.Registry.{App, Registry, applied}
use Rattle.dl_model.specs.Setting.{Setting}
use Rattle.dl_model.specs.declared.registry.LevelChange.{LevelChange}
use Rattle.dl_outside.proofs.Staying.{stays_same}
use Rattle.dl_outside.specs.Outside.{Stays}
use Rattle.dl_outside.specs.Told.{LinkTold}
use Rattle.dl_outside.specs.declared.link.Gave.{Gave as Answer}
use Rattle.dl_outside.specs.declared.link.Gave.TheVariants as gave
use Rattle.dl_registry.proofs.Following.{change_follows, change_is_owed}
use Rattle.dl_registry.specs.Kept as registry
use Rattle.dl_registry.specs.Kept.{Kept, owed_change}
use Rattle.dl_socket.specs.Channels.{Channels, IsOpen, Opens, inbox_of, none_opened}
use Rattle.dl_user.specs.Channel as cutter
use Rattle.dl_user.specs.Channel.{unfed}
use Rattle.dl_machine.specs.State.{Changes, Program, State, new_program}
use Rattle.dl_machine.specs.Steps.{BeginsOrStays, Came, Ended, Entered, Forwarded, IsProgramStep, IsStep, Kind, LetGo, Levelled, MayPart, Noted, OfClient, OfProgram, OfRings, PartedAll, ProgramKind, Renewed, Said, Says, ShutOff, Stopping, TookLevels, Unregistered, Wanted, program_side}
use Rattle.dl_machine.proofs.NamedSlots.{AreApart}
use Rattle.dl_machine.proofs.Standing.{changed_length}
use Rattle.dl_serve.specs.Levels.{levels_put, message_at}
use Rattle.dl_serve.proofs.NobodyPuts.{IsNotOf, apart_on, none_at}
use Rattle.dl_serve.proofs.NotedSteps.{Follows, IsQuiet, Noting, Silently, client_notes, message_follows, message_notes, notes_aside, notes_none, program_notes}
use Rattle.dl_serve.proofs.OtherEntries.{added_apart, added_here, added_some, gone_apart, gone_here, set_apart, set_here, value_apart, value_here}
use Rattle.dl_serve.proofs.TakenLevels.{Takes, answered_apart, answered_one, levels_more, levels_same, new_takes, pump_takes, put_all, put_on, put_takes, quiet_puts, silent_bytes, stays_takes, told_one}

-- ---- small facts

pub noted_so : (before now : Option (List Event)) (past more : List Event) → before ≡ Some past → AddsEach before now more → now ≡ Some (past ++ more)
noted_so before now past more is adds = subst (λ (o : Option (List Event)). AddsEach o now more) is adds

pub quiet_not : (channel from : ℕ) (events : List Event) → channel ≢ from → AllByRecursion (IsQuiet from) events → AllByRecursion (IsNotOf channel) events
quiet_not channel from [] apart all = tt
quiet_not channel from (e ∷ events) apart all = (by e all.0, quiet_not channel from events apart all.1) where
  by : (e : Event) → IsQuiet from e → IsNotOf channel e
  by (event.User other msg moment) quiet = λ same. apart (sym same ∙ quiet)
  by (event.Claim claim moment) quiet = quiet
  by _ quiet = tt

right_nil : {A : Type 0} (xs ys : List A) → xs ++ ys ≡ [] → ys ≡ []
right_nil [] ys is = is
right_nil (x ∷ xs) ys is = absurd (cc is)

-- where no application of a channel is the first one, none is of it; and where none is, none is the first one
abbrev first_in : ℕ → List (List ℕ × App) → Option (List ℕ)
first_in channel apps = option_map (λ (e : List ℕ × App). e.0) (find (λ (e : List ℕ × App). e.1.channel == channel) apps)

first_tells : (channel : ℕ) (apps : List (List ℕ × App)) → (first_in channel apps ≡ None → AreApart channel apps) × (AreApart channel apps → first_in channel apps ≡ None)
first_tells channel [] = (λ none. tt, λ all. refl)
first_tells channel (e ∷ apps) = by (e.1.channel == channel) (eqb_tells e.1.channel channel) (first_tells channel apps) where
  first : Option (List ℕ × App)
  first = find (λ (x : List ℕ × App). x.1.channel == channel) apps

  by : (b : Bool) → ((b ≡ true) × (e.1.channel ≡ channel)) ⊎ ((b ≡ false) × (e.1.channel ≢ channel)) → (first_in channel apps ≡ None → AreApart channel apps) × (AreApart channel apps → first_in channel apps ≡ None)
      → (option_map (λ (x : List ℕ × App). x.0) (cond b (Some e) first) ≡ None → AreApart channel (e ∷ apps)) × (AreApart channel (e ∷ apps) → option_map (λ (x : List ℕ × App). x.0) (cond b (Some e) first) ≡ None)
  by true (inl same) rest = (λ none. absurd (cc none), λ all. absurd (all.0 same.1))
  by true (inr differs) rest = absurd (cc differs.0)
  by false (inl same) rest = absurd (cc same.0)
  by false (inr differs) rest = (λ none. (differs.1, rest.0 none), λ all. rest.1 all.1)

get_beside : {A : Type 0} (xs : List A) (x : A) (place : ℕ) → place ≢ length xs → slice_get (xs ++ x ∷ []) place ≡ slice_get xs place
get_beside [] x zero apart = absurd (apart refl)
get_beside [] x (suc place) apart = refl
get_beside (y ∷ xs) x zero apart = refl
get_beside (y ∷ xs) x (suc place) apart = get_beside xs x place (λ same. apart (ap suc same))

get_none : {A : Type 0} (xs : List A) → slice_get xs (length xs) ≡ None
get_none [] = refl
get_none (x ∷ xs) = get_none xs

-- what a program said ends no channel as slow
said_not_slow : (answer : Answer) (into : List ℕ) (end : Option ChannelEnd) (held inbox : cutter.Channel) (msgs : List UserMsg) → Says answer into end held inbox msgs → end ≡ Some Slow → ⊥
said_not_slow (gave.Bytes count) into end held inbox msgs says is = subst (λ (e : Option ChannelEnd). StopsAt e says.0 inbox) is says.2
said_not_slow gave.NotYet into end held inbox msgs says is = absurd (cc (sym is ∙ says.1))
said_not_slow gave.End into end held inbox msgs says is = absurd (cc (sym is ∙ says.1))
said_not_slow gave.Failed into end held inbox msgs says is = absurd (cc (sym is ∙ says.1))

-- ---- what is known

-- all messages of a program are taken in, and its channel ends, or the daemon stops
abbrev HasEnded : Bool → Program → Type 0
HasEnded stop p = (p.said ≡ []) × (IsSome p.end ⊎ (stop ≡ true))

-- what is there of a channel: its program, what waits for it, and what is held of what it sent
record Seen : Type 0 where
  program : Option Program
  outbox : Option Outbox
  inbox : Option cutter.Channel

abbrev seen : State → ℕ → Seen
seen s number = record { program = slice_get s.programs (number - 1); outbox = outbox_of s.channels.outboxes number; inbox = inbox_of s.channels.inboxes number }

abbrev apps_in : State → List (List ℕ × App)
apps_in s = s.core.registry.registry.apps

-- One channel may have changed, and of the others nothing; and each that came has its program.
record Beside (number : ℕ) (old new : State) : Type 0 where
  in_all : new.channels.in_all ≡ old.channels.in_all
  many : old.channels.opened ≡ length old.programs → new.channels.opened ≡ length new.programs
  others : (other : ℕ) → 1 ≤ other → other ≢ number → seen new other ≡ seen old other

module _ (Tells : Type 0) (setting : Setting) where
  -- Of a channel that came the link took the front of the bytes that were put; it is open, or has ended, and then no application of it is there. For one that is
  -- still to come nothing was put, and nothing is there.
  abbrev IsSo : Bool → ℕ → List (List ℕ × App) → List ℕ → Option Outbox → Option cutter.Channel → Option Program → Type 0
  IsSo stop number apps bytes outbox inbox None = (bytes ≡ []) × (outbox ≡ None) × (inbox ≡ None) × AreApart number apps
  IsSo stop number apps bytes outbox inbox (Some p) = Takes Tells bytes p.link p.end outbox × (IsSome inbox ⊎ (HasEnded stop p × AreApart number apps))

  abbrev So : List ℕ → State → ℕ → Type 0
  So bytes s number = IsSo s.stops number (apps_in s) bytes (outbox_of s.channels.outboxes number) (inbox_of s.channels.inboxes number) (slice_get s.programs (number - 1))

  -- The registry is that of the events, and so it is of each channel.
  abbrev pub Known : State → Type 0
  Known s = (past : List Event) × (s.events ≡ Some past) × Follows setting past s.core × (s.channels.opened ≡ length s.programs) × ((number : ℕ) → 1 ≤ number → So (levels_put setting number past) s number)

  -- No more came than may; and where some may, it is known.
  abbrev pub Keeps : ℕ → State → Type 0
  Keeps room s = (s.channels.in_all ≡ room) × (length s.programs ≤ room) × (0 < room → Known s)

  pub of_program : (past : List Event) (s : State) → ((number : ℕ) → 1 ≤ number → So (levels_put setting number past) s number) → (place : ℕ) (p : Program) → slice_get s.programs place ≡ Some p
      → Takes Tells (levels_put setting (place + 1) past) p.link p.end (outbox_of s.channels.outboxes (place + 1)) × (IsOpen (place + 1) s.channels ⊎ (HasEnded s.stops p × AreApart (place + 1) (apps_in s)))
  of_program past s each place p there =
      let at : slice_get s.programs (place + 1 - 1) ≡ Some p = ap (λ (n : ℕ). slice_get s.programs n) (let back : place + 1 - 1 ≡ place = omega arith in back) ∙ there in
      subst (λ (o : Option Program). IsSo s.stops (place + 1) (apps_in s) (levels_put setting (place + 1) past) (outbox_of s.channels.outboxes (place + 1)) (inbox_of s.channels.inboxes (place + 1)) o) at
      (each (place + 1) (omega arith))

  -- none of its applications is there once it isn't open
  pub gone_apart_of : (bytes : List ℕ) (s : State) (number : ℕ) → So bytes s number → inbox_of s.channels.inboxes number ≡ None → AreApart number (apps_in s)
  gone_apart_of bytes s number so none = by (slice_get s.programs (number - 1)) so where
    by : (o : Option Program) → IsSo s.stops number (apps_in s) bytes (outbox_of s.channels.outboxes number) (inbox_of s.channels.inboxes number) o → AreApart number (apps_in s)
    by None so = so.3
    by (Some p) so = elim so.1 [ inl is ↦ absurd (not_some (inbox_of s.channels.inboxes number) none is) | inr ended ↦ ended.1 ]

  -- What a step notes beside levels puts nothing and changes nothing but for its own channel.
  step_on : (room number : ℕ) (old new : State) (notes : Noting number old new) → Beside number old new → ((p : Program) → HasEnded old.stops p → HasEnded new.stops p) → length new.programs ≤ room
      → (1 ≤ number → (past : List Event) → Follows setting past old.core → (bytes : List ℕ) → So bytes old number → So (bytes ++ concat (put_on setting number past notes.more)) new number) → Keeps room old → Keeps room new
  step_on room number old new notes beside ended few its k = (
    beside.in_all ∙ k.0,
    few,
    λ some.
        let known = k.2 some in
        let past : List Event = known.0 in
        let follows = notes.follows setting past known.2 in
        let same : (other : ℕ) → other ≢ number → levels_put setting other (past ++ notes.more) ≡ levels_put setting other past =
        (λ other differs. levels_same setting other past notes.more (quiet_puts setting number other past notes.more differs notes.quiet)) in
        let apart : (other : ℕ) → other ≢ number → AreApart other (apps_in old) → AreApart other (apps_in new) =
        (λ other differs all. subst (λ (r : Registry). AreApart other r.apps) (sym follows.registry.registry) (apart_on other setting past notes.more
        (subst (λ (r : Registry). AreApart other r.apps) known.2.registry.registry all) (quiet_not other number notes.more differs notes.quiet))) in
        let on : (other : ℕ) → other ≢ number → (bytes : List ℕ) (o : Option Outbox) (i : Option cutter.Channel) (p : Option Program) → IsSo old.stops other (apps_in old) bytes o i p → IsSo new.stops other (apps_in new) bytes o i p =
        (λ other differs bytes o i p. more_on old.stops new.stops ended other (apps_in old) (apps_in new) (apart other differs) bytes o i p) in (
          past ++ notes.more,
          noted_so old.events new.events past notes.more known.1 notes.events,
          follows,
          beside.many known.3,
          λ other low.
              elim (eqb_tells other number) [
                | inl it ↦
                    subst (λ (n : ℕ). So (levels_put setting n (past ++ notes.more)) new n) (sym it.1)
                    (subst (λ (bs : List ℕ). So bs new number) (levels_more setting number past notes.more)
                    (its (omega (arith, low, it.1)) past known.2 (levels_put setting number past) (subst (λ (n : ℕ). So (levels_put setting n past) old n) it.1 (known.4 other low))))
                | inr differs ↦
                    subst (λ (bs : List ℕ). So bs new other) (sym (same other differs.1))
                    (subst (λ (x : Seen). IsSo new.stops other (apps_in new) (levels_put setting other past) x.outbox x.inbox x.program) (sym (beside.others other low differs.1))
                    (on other differs.1 (levels_put setting other past) (outbox_of old.channels.outboxes other) (inbox_of old.channels.inboxes other) (slice_get old.programs (other - 1)) (known.4 other low)))
              ],
        ),
  )
    where
      more_on : (stop stop_now : Bool) → ((p : Program) → HasEnded stop p → HasEnded stop_now p) → (n : ℕ) (apps apps_now : List (List ℕ × App)) → (AreApart n apps → AreApart n apps_now)
          → (bytes : List ℕ) (o : Option Outbox) (i : Option cutter.Channel) (p : Option Program) → IsSo stop n apps bytes o i p → IsSo stop_now n apps_now bytes o i p
      more_on stop stop_now ended n apps apps_now apart bytes o i None so = (so.0, so.1, so.2, apart so.3)
      more_on stop stop_now ended n apps apps_now apart bytes o i (Some p) so = (so.0, elim so.1 [ inl is ↦ inl is | inr e ↦ inr (ended p e.0, apart e.1) ])

  -- where nothing is put for that one either
  still_on : (room number : ℕ) (old new : State) → Silently number old new → Beside number old new → ((p : Program) → HasEnded old.stops p → HasEnded new.stops p) → length new.programs ≤ room
      → (1 ≤ number → (bytes : List ℕ) → So bytes old number → So bytes new number) → Keeps room old → Keeps room new
  still_on room number old new silently beside ended few its k =
      step_on room number old new silently.notes beside ended few
      (λ low past follows bytes so. subst (λ (bs : List ℕ). So bs new number) (sym (silent_bytes setting number past silently.notes.more bytes silently.silent)) (its low bytes so)) k

  -- programs and channels stand
  aside : (room : ℕ) (old new : State) → Silently 0 old new → new.channels ≡ old.channels → new.programs ≡ old.programs → ((p : Program) → HasEnded old.stops p → HasEnded new.stops p) → Keeps room old → Keeps room new
  aside room old new notes channels programs ended k =
      still_on room 0 old new notes (record {
        in_all = ap (λ (c : Channels). c.in_all) channels;
        many = λ many. ap (λ (c : Channels). c.opened) channels ∙ many ∙ ap (λ (ps : List Program). length ps) (sym programs);
        others = λ other low differs i. record {
          program = slice_get (programs i) (other - 1);
          outbox = outbox_of (channels i).outboxes other;
          inbox = inbox_of (channels i).inboxes other;
        };
      }) ended (subst (λ (ps : List Program). length ps ≤ room) (sym programs) k.1) (λ low. absurd (omega (arith, low))) k

  -- ---- channels

  -- with the parts that a step of a channel may change
  abbrev turned : State → State → State
  turned old new = record old { core = new.core; events = new.events; folder = new.folder; channels = new.channels; programs = new.programs }

  -- of the channels one may have changed
  record Others (number : ℕ) (old new : Channels) : Type 0 where
    opened : new.opened ≡ old.opened
    in_all : new.in_all ≡ old.in_all
    outboxes : (other : ℕ) → other ≢ number → outbox_of new.outboxes other ≡ outbox_of old.outboxes other
    inboxes : (other : ℕ) → other ≢ number → inbox_of new.inboxes other ≡ inbox_of old.inboxes other

  others_same : (number : ℕ) (old new : Channels) → new ≡ old → Others number old new
  others_same number old new same = subst (Others number old) (sym same) (record { opened = refl; in_all = refl; outboxes = λ other apart. refl; inboxes = λ other apart. refl })

  module _ (room number : ℕ) (low : 1 ≤ number) (old new : State) where
    abbrev Goes : State → Program → Type 0
    Goes s p = IsOpen number s.channels ⊎ (HasEnded old.stops p × AreApart number (apps_in s))

    changed_by : (was now : Program) → Changes number was now old.programs new.programs → (notes : Noting number old new) → Others number old.channels new.channels
        → ((past : List Event) → Follows setting past old.core → (bytes : List ℕ) → Takes Tells bytes was.link was.end (outbox_of old.channels.outboxes number)
        → Takes Tells (bytes ++ concat (put_on setting number past notes.more)) now.link now.end (outbox_of new.channels.outboxes number))
        → (Goes old was → Goes new now) → Keeps room old → Keeps room (turned old new)
    changed_by was now c notes others takes goes k =
        let long : length new.programs ≡ length old.programs = changed_length number was now old.programs new.programs c in
        let here : slice_get new.programs (number - 1) ≡ Some now = ap (λ (ps : List Program). slice_get ps (number - 1)) c.is ∙ set_here old.programs (number - 1) now was c.there in
        step_on room number old (turned old new) (record { more = notes.more; events = notes.events; quiet = notes.quiet; follows = notes.follows }) (record {
          in_all = others.in_all;
          many = λ many. others.opened ∙ many ∙ sym long;
          others = λ other first differs.
              let at : slice_get new.programs (other - 1) ≡ slice_get old.programs (other - 1) =
              ap (λ (ps : List Program). slice_get ps (other - 1)) c.is ∙ set_apart old.programs (number - 1) (other - 1) now (λ same. differs (omega (arith, same, first, low))) in
              λ i. record { program = at i; outbox = others.outboxes other differs i; inbox = others.inboxes other differs i };
        }) (λ p done. done) (omega (arith, long, k.1))
        (λ first past follows bytes so.
        let before = subst (λ (o : Option Program). IsSo old.stops number (apps_in old) bytes (outbox_of old.channels.outboxes number) (inbox_of old.channels.inboxes number) o) c.there so in
        subst
        (λ (o : Option Program). IsSo old.stops number (apps_in new) (bytes ++ concat (put_on setting number past notes.more)) (outbox_of new.channels.outboxes number) (inbox_of new.channels.inboxes number) o)
        (sym here) (takes past follows bytes before.0, goes before.1)) k

    -- where nothing is put
    changed : (was now : Program) → Changes number was now old.programs new.programs → Silently number old new → Others number old.channels new.channels
        → ((bytes : List ℕ) → Takes Tells bytes was.link was.end (outbox_of old.channels.outboxes number) → Takes Tells bytes now.link now.end (outbox_of new.channels.outboxes number))
        → (Goes old was → Goes new now) → Keeps room old → Keeps room (turned old new)
    changed was now c silently others takes goes k =
        changed_by was now c silently.notes others
        (λ past follows bytes t.
        subst (λ (bs : List ℕ). Takes Tells bs now.link now.end (outbox_of new.channels.outboxes number)) (sym (silent_bytes setting number past silently.notes.more bytes silently.silent)) (takes bytes t)) goes k

    -- it is open as before; and where it had ended, it has
    goes_so : (was now : Program) → is_some (inbox_of new.channels.inboxes number) ≡ is_some (inbox_of old.channels.inboxes number) → new.core.registry ≡ old.core.registry → (HasEnded old.stops was → HasEnded old.stops now)
        → Goes old was → Goes new now
    goes_so was now same kept ends (inl is) = inl (same ∙ is)
    goes_so was now same kept ends (inr e) = inr (ends e.0, subst (λ (k : Kept). AreApart number k.registry.apps) (sym kept) e.1)

    -- it is open as before, and it had not ended
    goes_open : (was now : Program) → new.channels.inboxes ≡ old.channels.inboxes → (HasEnded old.stops was → AreApart number (apps_in old) → ⊥) → Goes old was → Goes new now
    goes_open was now same none (inl is) = inl (ap (λ (is : List (ℕ × cutter.Channel)). is_some (inbox_of is number)) same ∙ is)
    goes_open was now same none (inr e) = absurd (none e.0 e.1)

    -- channels stand, and the link took nothing
    untaken : (was : Program) (link : LinkTold) (msgs : List UserMsg) → Changes number was (record was { link = link; said = msgs }) old.programs new.programs → Silently number old new → new.channels ≡ old.channels
        → Stays was.link.taken link.taken → (Goes old was → Goes new (record was { link = link; said = msgs })) → Keeps room old → Keeps room (turned old new)
    untaken was link msgs c notes same stays goes k =
        changed was (record was { link = link; said = msgs }) c notes (others_same number old.channels new.channels same)
        (λ bytes t.
        stays_takes Tells bytes was.link link was.end was.end (outbox_of old.channels.outboxes number) (outbox_of new.channels.outboxes number) stays (λ is. is)
        (λ x there. ap (λ (c : Channels). outbox_of c.outboxes number) (sym same) ∙ there) t) goes k

    -- the program of a channel that may end stands
    may_part : (may : MayPart number old) → new.programs ≡ old.programs → Changes number may.0 may.0 old.programs new.programs
    may_part may same = record { there = may.1; is = same ∙ sym (set_again old.programs (number - 1) may.0 may.1) }

    said_keeps : (ends : Option ChannelEnd) (link : LinkTold) (inbox : cutter.Channel) (msgs : List UserMsg) → IsProgramStep number (Said ends link inbox msgs) old new → Keeps room old → Keeps room (turned old new)
    said_keeps ends link inbox msgs step k =
        changed step.0 (record { link = link; end = ends; said = msgs }) step.2 (program_notes number (Said ends link inbox msgs) old new tt step)
        (subst (Others number old.channels) (sym step.10)
        (record { opened = refl; in_all = refl; outboxes = λ other apart. refl; inboxes = λ other apart. value_apart number other old.channels.inboxes inbox apart }))
        (λ bytes t.
        stays_takes Tells bytes step.0.link link step.0.end ends (outbox_of old.channels.outboxes number) (outbox_of new.channels.outboxes number) step.8.untaken
        (λ is. absurd (said_not_slow step.5 step.6 ends step.3 inbox msgs step.9 is)) (λ x there. ap (λ (c : Channels). outbox_of c.outboxes number) (sym step.10) ∙ there) t)
        (λ goes. inl (ap (λ (c : Channels). is_some (inbox_of c.inboxes number)) step.10 ∙ ap is_some (value_here number old.channels.inboxes inbox step.3 step.4))) k

    took_keeps : (ends : Option ChannelEnd) (link : LinkTold) → IsProgramStep number (TookLevels ends link) old new → Keeps room old → Keeps room (turned old new)
    took_keeps ends link step k =
        let was : Program = step.0 in
        let p = step.3 in
        let set : new.channels.outboxes ≡ set_value (nat_eq number) old.channels.outboxes p.outbox_now =
        p.is ∙ ap (λ (o : Option Outbox). option_map_or (λ (x : Outbox). set_value (nat_eq number) old.channels.outboxes p.outbox_now) o old.channels.outboxes) p.was in
        let here : outbox_of new.channels.outboxes number ≡ Some p.outbox_now =
        ap (λ (es : List (ℕ × Outbox)). outbox_of es number) set ∙ value_here number old.channels.outboxes p.outbox_now p.outbox p.was in
        changed was (record was { link = link; end = ends }) step.2 (program_notes number (TookLevels ends link) old new tt step)
        (subst (Others number old.channels) (sym step.4) (record {
          opened = refl;
          in_all = refl;
          outboxes = λ other apart. ap (λ (es : List (ℕ × Outbox)). outbox_of es other) set ∙ value_apart number other old.channels.outboxes p.outbox_now apart;
          inboxes = λ other apart. refl;
        }))
        (λ bytes t.
        subst (λ (o : Option Outbox). Takes Tells bytes link ends o) (sym here)
        (pump_takes Tells p.outbox.full bytes ends p.outbox p.outbox_now was.link link refl p.pumps
        (subst (λ (o : Option Outbox). Takes Tells bytes was.link None o) p.was (subst (λ (e : Option ChannelEnd). Takes Tells bytes was.link e (outbox_of old.channels.outboxes number)) step.1 t))))
        (goes_so was (record was { link = link; end = ends }) (ap (λ (c : Channels). is_some (inbox_of c.inboxes number)) step.4) (ap (λ (p : Part). p.core.registry) step.5)
        (λ done. (done.0, elim done.1 [ inl some ↦ absurd (let bad : false ≡ true = ap is_some (sym step.1) ∙ some in cc bad) | inr stops ↦ inr stops ]))) k

    ended_keeps : IsProgramStep number Ended old new → Keeps room old → Keeps room (turned old new)
    ended_keeps step k =
        let was : Program = step.4.0 in
        let gone : outbox_of new.channels.outboxes number ≡ None = ap (λ (c : Channels). outbox_of c.outboxes number) step.1 ∙ gone_here number old.channels.outboxes in
        changed was was (may_part step.4 step.2) (program_notes number Ended old new tt step)
        (subst (Others number old.channels) (sym step.1) (record {
          opened = refl;
          in_all = refl;
          outboxes = λ other apart. gone_apart number other old.channels.outboxes apart;
          inboxes = λ other apart. gone_apart number other old.channels.inboxes apart;
        }))
        (λ bytes t.
        stays_takes Tells bytes was.link was.link was.end was.end (outbox_of old.channels.outboxes number) (outbox_of new.channels.outboxes number) (stays_same was.link.taken) (λ is. is)
        (λ x there. absurd (let bad : None ≡ Some x = sym gone ∙ there in cc bad)) t)
        (λ goes. inr ((step.4.2, step.4.3), subst (λ (p : Part). AreApart number p.core.registry.registry.apps) (sym step.3) ((first_tells number (apps_in old)).0 step.0))) k

    -- a message was noted, and where it registers a context, that is answered
    noted_keeps : (moment : Moment) (msg : UserMsg) → IsProgramStep number (Noted moment msg) old new → Keeps room old → Keeps room (turned old new)
    noted_keeps moment msg step k =
        let was : Program = step.0.0 in
        let now : Program = record was { said = step.0.1 } in
        let user : Event = event.User number msg moment in
        let notes = message_notes number moment msg old new step in
        changed_by was now step.0.3 notes.0
        (subst (Others number old.channels) (sym step.2) (record {
          opened = refl;
          in_all = refl;
          outboxes = λ other apart. ap (λ (es : List (ℕ × Outbox)). outbox_of es other) step.1.outboxes ∙ answered_apart other old.channels.outboxes number _ (λ same. apart (sym same));
          inboxes = λ other apart. refl;
        }))
        (λ past follows bytes t.
        let after : registry.IsAfter setting (past ++ user ∷ []) new.core.registry = message_follows setting past number msg moment old.core new.core.registry step.1.registers follows.registry in
        let asked : Option (List ℕ) = answer_to (registration_of msg) (applied_now old.core number msg) (owed_change new.core.registry) in
        let messages : List (List ℕ) = answer_for number number asked in
        let answer : asked ≡ answer_to (registration_of msg) (applied (slots_of setting past) (registry_of setting past) number msg) (owed setting (past ++ user ∷ [])) =
        (λ i. answer_to (registration_of msg) (applied (follows.registry.slots i) (follows.registry.registry i) number msg) (change_is_owed setting (past ++ user ∷ []) new.core.registry after i)) in
        let put : put_on setting number past notes.0.more ≡ messages =
        ap (put_on setting number past) notes.1 ∙ append-nil (message_at setting number past user) ∙ ap (answer_for number number) (sym answer) in
        subst (λ (ms : List (List ℕ)). Takes Tells (bytes ++ concat ms) was.link was.end (outbox_of new.channels.outboxes number)) (sym put)
        (put_takes Tells messages bytes was.link was.end (outbox_of old.channels.outboxes number) (outbox_of new.channels.outboxes number)
        (ap (λ (es : List (ℕ × Outbox)). outbox_of es number) step.1.outboxes ∙ answered_one number old.channels.outboxes number asked) t))
        (goes_open was now (ap (λ (c : Channels). c.inboxes) step.2) (λ done all. let bad : msg ∷ step.0.1 ≡ [] = sym step.0.2 ∙ done.0 in absurd (cc bad))) k

    program_keeps : (kind : ProgramKind) → IsProgramStep number kind old new → Keeps room old → Keeps room (turned old new)
    program_keeps (Said ends link inbox msgs) step k = said_keeps ends link inbox msgs step k
    program_keeps (Forwarded moment msgs) step k =
        let was : Program = step.0.0 in
        untaken was was.link step.0.1 step.0.3 (program_notes number (Forwarded moment msgs) old new tt step) step.2 (stays_same was.link.taken)
        (goes_so was (record was { said = step.0.1 }) (ap (λ (c : Channels). is_some (inbox_of c.inboxes number)) step.2) (ap (λ (c : Core). c.registry) step.1.rest)
        (λ done. (right_nil msgs step.0.1 (sym step.0.2 ∙ done.0), done.1))) k
    program_keeps (Noted moment msg) step k = noted_keeps moment msg step k
    program_keeps (Unregistered moment apid) step k =
        let was : Program = step.4.0 in
        untaken was was.link was.said (may_part step.4 step.3) (program_notes number (Unregistered moment apid) old new tt step) step.2 (stays_same was.link.taken)
        (goes_open was was (ap (λ (c : Channels). c.inboxes) step.2) (λ done all. let gone : None ≡ Some apid = sym ((first_tells number (apps_in old)).1 all) ∙ step.0 in absurd (cc gone))) k
    program_keeps (TookLevels ends link) step k = took_keeps ends link step k
    program_keeps (ShutOff link) step k =
        let was : Program = step.0 in
        untaken was link was.said step.1 (program_notes number (ShutOff link) old new tt step) step.3 step.2.taken
        (goes_so was (record was { link = link }) (ap (λ (c : Channels). is_some (inbox_of c.inboxes number)) step.3) (ap (λ (p : Part). p.core.registry) step.4) (λ done. done)) k
    program_keeps Ended step k = ended_keeps step k

  -- a level was put for the program that has the context
  levelled_keeps : (room : ℕ) (next : LevelChange) (old new : State) → TellsLevel next (program_side old) (program_side new) → Keeps room old
      → Keeps room (record old { core = new.core; events = new.events; folder = new.folder; channels = record old.channels { outboxes = new.channels.outboxes } })
  levelled_keeps room next old new one k = (
    k.0,
    k.1,
    λ some.
        let known = k.2 some in
        let past : List Event = known.0 in
        let is = known.2.registry in
        let e : Event = event.Level next.slot next.level in
        let apps : apps_in new ≡ apps_in old = ap (λ (c : Core). c.registry.registry.apps) one.core in (
          past ++ e ∷ [],
          noted_so old.events new.events past (e ∷ []) known.1 one.events,
          record {
            registry = subst (registry.IsAfter setting (past ++ e ∷ [])) (sym (ap (λ (c : Core). c.registry) one.core)) (change_follows setting past old.core.registry next is one.owed);
            level = ap (λ (c : Core). c.level) one.core ∙ known.2.level;
          },
          known.3,
          λ number low.
              let messages : List (List ℕ) = message_for (registry_of setting past) number next in
              let put : outbox_of new.channels.outboxes number ≡ option_map (put_all messages) (outbox_of old.channels.outboxes number) =
              ap (λ (es : List (ℕ × Outbox)). outbox_of es number) one.outboxes ∙ told_one number old.channels.outboxes old.core.registry.registry next
              ∙ ap (λ (r : Registry). option_map (put_all (message_for r number next)) (outbox_of old.channels.outboxes number)) is.registry in
              let bytes : levels_put setting number past ++ concat messages ≡ levels_put setting number (past ++ e ∷ []) =
              ap (λ (ms : List (List ℕ)). levels_put setting number past ++ concat ms) (sym (append-nil messages)) ∙ levels_more setting number past (e ∷ []) in
              subst (λ (bs : List ℕ). IsSo old.stops number (apps_in new) bs (outbox_of new.channels.outboxes number) (inbox_of old.channels.inboxes number) (slice_get old.programs (number - 1))) bytes
              (by number messages (levels_put setting number past) (outbox_of old.channels.outboxes number) (outbox_of new.channels.outboxes number) (inbox_of old.channels.inboxes number) (slice_get old.programs (number - 1)) put
              (λ all. subst (AreApart number) (sym apps) all) (λ all. none_at number setting past e tt (subst (λ (r : Registry). AreApart number r.apps) is.registry all)) (known.4 number low)),
        ),
  )
    where
      by : (n : ℕ) (messages : List (List ℕ)) (bytes : List ℕ) (o o_now : Option Outbox) (i : Option cutter.Channel) (p : Option Program) → o_now ≡ option_map (put_all messages) o
          → (AreApart n (apps_in old) → AreApart n (apps_in new)) → (AreApart n (apps_in old) → messages ≡ []) → IsSo old.stops n (apps_in old) bytes o i p → IsSo old.stops n (apps_in new) (bytes ++ concat messages) o_now i p
      by n messages bytes o o_now i None put apart none so =
          (ap (λ (ms : List (List ℕ)). bytes ++ concat ms) (none so.3) ∙ append-nil bytes ∙ so.0, put ∙ ap (option_map (put_all messages)) so.1, so.2, apart so.3)
      by n messages bytes o o_now i (Some p) put apart none so = (put_takes Tells messages bytes p.link p.end o o_now put so.0, elim so.1 [ inl is ↦ inl is | inr e ↦ inr (e.0, apart e.1) ])

  -- a channel came
  entered_keeps : (room number : ℕ) (link : LinkTold) (old new : State) → (Tells → link.taken ≡ Some []) → Opens number old.channels new.channels → Keeps room old
      → Keeps room (record old { channels = new.channels; programs = old.programs ++ new_program link ∷ [] })
  entered_keeps room number link old new taken opens k =
      let as_now : State = record old { channels = new.channels; programs = old.programs ++ new_program link ∷ [] } in
      let some : 0 < room = omega (arith, opens.0, k.0) in
      let next : number ≡ length old.programs + 1 = omega (arith, opens.2, (k.2 some).3) in
      let place : number - 1 ≡ length old.programs = omega (arith, next) in
      let long : length (old.programs ++ new_program link ∷ []) ≡ length old.programs + 1 = length-append old.programs (new_program link ∷ []) in
      let outboxes : new.channels.outboxes ≡ old.channels.outboxes ++ (number, empty) ∷ [] = ap (λ (c : Channels). c.outboxes) opens.3 in
      let inboxes : new.channels.inboxes ≡ old.channels.inboxes ++ (number, unfed) ∷ [] = ap (λ (c : Channels). c.inboxes) opens.3 in
      still_on room number old as_now (notes_none number old as_now refl refl refl) (record {
        in_all = ap (λ (c : Channels). c.in_all) opens.3;
        many = λ many. ap (λ (c : Channels). c.opened) opens.3 ∙ next ∙ sym long;
        others = λ other first differs.
            let program : slice_get (old.programs ++ new_program link ∷ []) (other - 1) ≡ slice_get old.programs (other - 1) =
            get_beside old.programs (new_program link) (other - 1) (λ same. differs (omega (arith, same, next, first))) in
            let outbox = ap (λ (es : List (ℕ × Outbox)). outbox_of es other) outboxes ∙ added_apart number other old.channels.outboxes empty differs in
            let inbox = ap (λ (is : List (ℕ × cutter.Channel)). inbox_of is other) inboxes ∙ added_apart number other old.channels.inboxes unfed differs in
            λ i. record { program = program i; outbox = outbox i; inbox = inbox i };
      }) (λ p done. done) (omega (arith, long, next, opens.0, opens.2, k.0))
      (λ first bytes so.
      let none = subst (λ (o : Option Program). IsSo old.stops number (apps_in old) bytes (outbox_of old.channels.outboxes number) (inbox_of old.channels.inboxes number) o)
      (ap (λ (n : ℕ). slice_get old.programs n) place ∙ get_none old.programs) so in
      let here : outbox_of new.channels.outboxes number ≡ Some empty = ap (λ (es : List (ℕ × Outbox)). outbox_of es number) outboxes ∙ added_here number old.channels.outboxes empty none.1 in
      subst (λ (o : Option Program). IsSo old.stops number (apps_in old) bytes (outbox_of new.channels.outboxes number) (inbox_of new.channels.inboxes number) o)
      (sym (ap (λ (n : ℕ). slice_get (old.programs ++ new_program link ∷ []) n) place ∙ get_end old.programs (new_program link))) (
        subst (λ (o : Option Outbox). Takes Tells bytes link None o) (sym here) (subst (λ (bs : List ℕ). Takes Tells bs link None (Some empty)) (sym none.0) (new_takes Tells link taken)),
        inl (ap (λ (is : List (ℕ × cutter.Channel)). is_some (inbox_of is number)) inboxes ∙ added_some number old.channels.inboxes unfed),
      )) k

  module _ (IsTold : LinkTold → Type 0) (tells : (link : LinkTold) → IsTold link → Tells → IsSome link.taken) (room : ℕ) where
    -- nothing is noted
    still_noted : (old new mid : State) → new ≡ mid → mid.core.registry ≡ old.core.registry → mid.core.level ≡ old.core.level → mid.events ≡ old.events → Silently 0 old new
    still_noted old new mid is kept level events =
        notes_none 0 old new (ap (λ (s : State). s.events) is ∙ events) (ap (λ (s : State). s.core.registry) is ∙ kept) (ap (λ (s : State). s.core.level) is ∙ level)

    beside : (old new mid : State) → new ≡ mid → mid.channels ≡ old.channels → mid.programs ≡ old.programs → mid.stops ≡ old.stops → Silently 0 old new → Keeps room old → Keeps room new
    beside old new mid is channels programs stops notes k =
        aside room old new notes (ap (λ (s : State). s.channels) is ∙ channels) (ap (λ (s : State). s.programs) is ∙ programs)
        (λ p done. subst (λ (b : Bool). HasEnded b p) (sym (ap (λ (s : State). s.stops) is ∙ stops)) done) k

    renewed : (old new : State) → BeginsOrStays old new → (new.core.registry ≡ old.core.registry) × (new.core.level ≡ old.core.level)
    renewed old new (inl same) = (ap (λ (c : Core). c.registry) same, ap (λ (c : Core). c.level) same)
    renewed old new (inr anew) = (ap (λ (c : Core). c.registry) anew.2, ap (λ (c : Core). c.level) anew.2)

    pub step_keeps : (kind : Kind) (old new : State) → IsStep IsTold kind old new → Keeps room old → Keeps room new
    step_keeps (Came number link) old new step k =
        beside old new _ step.3 refl refl refl (notes_aside 0 old new (event.Connect number ∷ []) (added_one old.events new.events (event.Connect number) (event.Connect number) refl step.2.event) (tt, tt)
        (ap (λ (c : Core). c.registry) step.2.rest) (ap (λ (c : Core). c.level) step.2.rest)) k
    step_keeps (Entered number link) old new step k =
        subst (Keeps room) (sym step.3) (entered_keeps room number link old new (λ tell. nothing_taken link.taken (tells link step.1 tell) step.0.nothing_taken) step.2 k)
    step_keeps LetGo old new step k = beside old new _ step.1 refl refl refl (still_noted old new _ step.1 refl refl refl) k
    step_keeps Wanted old new step k = beside old new _ step refl refl refl (still_noted old new _ step refl refl refl) k
    step_keeps (Levelled change) old new step k = subst (Keeps room) (sym step.1) (levelled_keeps room change old new step.0 k)
    step_keeps (OfClient number kind) old new step k = beside old new _ step.2 refl refl refl (client_notes number kind old new step.1) k
    step_keeps (OfProgram number kind) old new step k = subst (Keeps room) (sym step.2) (program_keeps room number step.0 old new kind step.1 k)
    step_keeps (OfRings kind) old new step k = subst (Keeps room) (sym step.1) (k.0, k.1, λ some. absurd (omega (arith, some, k.0, step.2)))
    step_keeps PartedAll old new step k = beside old new _ step.3 refl refl refl (still_noted old new _ step.3 refl refl refl) k
    step_keeps Renewed old new step k =
        let stands = renewed old new step.0 in beside old new _ step.1 refl refl refl (notes_none 0 old new (ap (λ (s : State). s.events) step.1) stands.0 stands.1) k
    step_keeps Stopping old new step k =
        aside room old new (still_noted old new _ step refl refl refl) (ap (λ (s : State). s.channels) step) (ap (λ (s : State). s.programs) step) (λ p done. (done.0, inr (ap (λ (s : State). s.stops) step))) k

  -- ---- before anybody came

  pub first_keeps : (at_once room : ℕ) (s : State) → s.events ≡ Some [] → s.programs ≡ [] → s.channels ≡ none_opened at_once room → Follows setting [] s.core → Keeps room s
  first_keeps at_once room s events nobody channels follows =
      let none : length s.programs ≡ 0 = ap (λ (ps : List Program). length ps) nobody in (
        ap (λ (c : Channels). c.in_all) channels,
        omega (arith, none),
        λ some. (
          [],
          events,
          follows,
          ap (λ (c : Channels). c.opened) channels ∙ sym none,
          λ number low.
              subst (λ (o : Option Program). IsSo s.stops number (apps_in s) [] (outbox_of s.channels.outboxes number) (inbox_of s.channels.inboxes number) o)
              (sym (ap (λ (ps : List Program). slice_get ps (number - 1)) nobody)) (
                refl,
                ap (λ (c : Channels). outbox_of c.outboxes number) channels,
                ap (λ (c : Channels). inbox_of c.inboxes number) channels,
                subst (λ (r : Registry). AreApart number r.apps) (sym follows.registry.registry) tt,
              ),
        ),
      )
