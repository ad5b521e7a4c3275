-- Why channels have ended, as their links show it, step by step.
use Rattle.std.proofs.Common.{◌≡◌, ◌<◌, ℕ, Bool, true, false, List, [], length, map, take, Option, Some, None, is_some, sym, ap, subst, ◌∙◌, arith}
use Rattle.std.specs.Prelude.{IfSome, IsSome}
use Rattle.dl_channel.specs.Pumping.{PumpsBy}
use Rattle.dl_channel.specs.State.{Outbox}
use Rattle.dl_channel.specs.declared.outcome.ChannelEnd.{ChannelEnd}
use Rattle.dl_channel.specs.declared.outcome.ChannelEnd.TheVariants.{Left, Broken, Bad, Slow, NoMemory}
use Rattle.dl_outside.specs.Link.{Receives}
use Rattle.dl_outside.specs.Links.{Links}
use Rattle.dl_outside.specs.Outside.{Stays}
use Rattle.dl_outside.specs.Told.{LinkTold}
use Rattle.dl_outside.specs.declared.link.Gave.{Gave as Answer}
use Rattle.dl_outside.specs.declared.link.Gave.TheVariants as gave
use Rattle.dl_outside.proofs.Staying.{some_stays}
use Rattle.dl_rounds.specs.Visits.{IsShut}
use Rattle.dl_server.specs.State as server
use Rattle.dl_turns.specs.Turns.{Hears}
use Rattle.dl_bytes.specs.declared.user.UserMsg.{UserMsg}
use Rattle.dl_user.specs.Channel as cutter
use Rattle.dl_machine.specs.State.{Program, State, new_program}
use Rattle.dl_machine.specs.Steps.{Came, Ended, Entered, Forwarded, Goes, IsProgramStep, IsStep, IsToldBy, Kind, LetGo, Levelled, Noted, OfClient, OfProgram, OfRings, PartedAll, ProgramKind, Renewed, Said, Says, ShutOff, Stopping, TookLevels, Unregistered, Wanted}
use Rattle.dl_machine.proofs.Joined.{EachOne, each_changed, each_more, joined_get}
use Rattle.dl_machine.proofs.ProgramSteps.{program_with, programs_with}
use Rattle.dl_machine.proofs.Composed.{steps_keep}
use Rattle.dl_serve.proofs.ServerSteps.{state_in, state_of}
use Rattle.dl_serve.specs.declared.beginning.Begun.{Begun}
use Rattle.dl_serve.specs.declared.closed.Closed.{Closed}
use Rattle.dl_serve.specs.Closed.{IsLeft}
use Rattle.dl_serve.specs.Program.{HasOpened}
use Rattle.dl_serve.specs.Shown.{AllShowEnds, ShowsEnd, TellLeft}
use Rattle.dl_serve.specs.Told.{Told}
use Rattle.dl_serve.proofs.OtherEntries.{taken_at}
use Rattle.dl_serve.proofs.ServingSteps.{first, serving_goes}

stays_as : {A : Type 0} (old new : Option A) (x : A) → Stays old new → old ≡ Some x → new ≡ Some x
stays_as old new x stays is = subst (λ (o : Option _). Stays o new) is stays

given_some : (old new : Option (List ℕ)) (answer : Answer) (into : List ℕ) → Receives old new answer into → IsSome old → IsSome new
given_some None new answer into receives some = absurd (cc some)
given_some (Some bytes) new (gave.Bytes n) into receives some = ap is_some receives.2.2
given_some (Some bytes) new gave.NotYet into receives some = ap is_some receives
given_some (Some bytes) new gave.End into receives some = ap is_some receives
given_some (Some bytes) new gave.Failed into receives some = ap is_some receives

left_all : (old new : Option (List ℕ)) → Stays old new → IfSome old (λ bytes. bytes ≡ []) → IsSome old → new ≡ Some []
left_all None new stays nothing some = absurd (cc some)
left_all (Some bytes) new stays nothing some = stays ∙ ap Some nothing

module _ (Tells : Type 0) where
  -- the link of a program tells what is left, where links do, and shows why the channel has ended, where it has
  pub record Shows (program : Program) : Type 0 where
    pub tells : Tells → IsSome program.link.left
    pub cause : ShowsEnd Tells program.end program.link

  shut_shows : (program : Program) (link : LinkTold) → IsShut program.link link → Shows program → Shows (record program { link = link })
  shut_shows program link shut shows = record { tells = λ told. some_stays program.link.left link.left shut.left (shows.tells told); cause = by program.end shows.cause } where
    by : (end : Option ChannelEnd) → ShowsEnd Tells end program.link → ShowsEnd Tells end link
    by None cause = tt
    by (Some Left) cause = λ told. stays_as program.link.left link.left [] shut.left (cause told)
    by (Some Broken) cause = subst (λ (n : ℕ). 0 < n) (sym shut.faults) cause
    by (Some Slow) cause = tt
    by (Some (Bad fault)) cause = tt
    by (Some NoMemory) cause = tt

  said_shows : (was : Program) (link : LinkTold) (end : Option ChannelEnd) (msgs : List UserMsg) (answer : Answer) (into : List ℕ) (held inbox : cutter.Channel) → Hears was.link link answer into
      → Says answer into end held inbox msgs → Shows was → Shows (record { link = link; end = end; said = msgs })
  said_shows was link end msgs answer into held inbox hears says shows =
      record { tells = λ told. given_some was.link.left link.left answer into hears.bytes (shows.tells told); cause = by answer end hears says }
    where
      by : (answer : Answer) (end : Option ChannelEnd) → Hears was.link link answer into → Says answer into end held inbox msgs → ShowsEnd Tells end link
      by (gave.Bytes n) None hears says = tt
      by (gave.Bytes n) (Some Left) hears says = absurd says.2
      by (gave.Bytes n) (Some Broken) hears says = absurd says.2
      by (gave.Bytes n) (Some Slow) hears says = tt
      by (gave.Bytes n) (Some (Bad fault)) hears says = tt
      by (gave.Bytes n) (Some NoMemory) hears says = tt
      by gave.NotYet end hears says = subst (λ (e : Option ChannelEnd). ShowsEnd Tells e link) (sym says.1) tt
      by gave.End end hears says =
          subst (λ (e : Option ChannelEnd). ShowsEnd Tells e link) (sym says.1) (λ told. left_all was.link.left link.left hears.bytes hears.end.1 (shows.tells told))
      by gave.Failed end hears says = subst (λ (e : Option ChannelEnd). ShowsEnd Tells e link) (sym says.1) (let rose = hears.cause.0 in omega (arith, rose))

  took_shows : (full : Bool) (was : Program) (end : Option ChannelEnd) (outbox outbox_now : Outbox) (link : LinkTold) → PumpsBy full end outbox outbox_now was.link link → Shows was
      → Shows (record was { link = link; end = end })
  took_shows true was end outbox outbox_now link pumps shows = record {
    tells = λ told. subst (λ (l : LinkTold). IsSome l.left) (sym pumps.2) (shows.tells told);
    cause = subst (λ (e : Option ChannelEnd). ShowsEnd Tells e link) (sym pumps.0) tt;
  }
  took_shows false was end outbox outbox_now link pumps shows = record { tells = λ told. some_stays was.link.left link.left pumps.0.only_sent.left (shows.tells told); cause = by end pumps } where
    by : (end : Option ChannelEnd) → PumpsBy false end outbox outbox_now was.link link → ShowsEnd Tells end link
    by None pumps = tt
    by (Some Broken) pumps = (let rose = pumps.0.ends.1 in omega (arith, rose))
    by (Some Left) pumps = absurd pumps.0.ends
    by (Some Slow) pumps = absurd pumps.0.ends
    by (Some (Bad fault)) pumps = absurd pumps.0.ends
    by (Some NoMemory) pumps = absurd pumps.0.ends

  -- ---- each step

  program_keeps : (number : ℕ) (kind : ProgramKind) (old new : State) → IsProgramStep number kind old new → EachOne Shows old.programs → EachOne Shows new.programs
  program_keeps number (Said end link inbox msgs) old new step all =
      each_changed Shows number step.0 _ old.programs new.programs step.2 (said_shows step.0 link end msgs step.5 step.6 step.3 inbox step.8 step.9) all
  program_keeps number (Forwarded moment msgs) old new step all =
      each_changed Shows number step.0.0 _ old.programs new.programs step.0.3 (λ shows. record { tells = shows.tells; cause = shows.cause }) all
  program_keeps number (Noted moment msg) old new step all =
      each_changed Shows number step.0.0 _ old.programs new.programs step.0.3 (λ shows. record { tells = shows.tells; cause = shows.cause }) all
  program_keeps number (Unregistered moment apid) old new step all = subst (EachOne Shows) (sym step.3) all
  program_keeps number (TookLevels end link) old new step all =
      each_changed Shows number step.0 _ old.programs new.programs step.2 (took_shows step.3.outbox.full step.0 end step.3.outbox step.3.outbox_now link step.3.pumps) all
  program_keeps number (ShutOff link) old new step all = each_changed Shows number step.0 _ old.programs new.programs step.1 (shut_shows step.0 link step.2) all
  program_keeps number Ended old new step all = subst (EachOne Shows) (sym step.2) all

  abbrev pub AllShow : State → Type 0
  AllShow s = EachOne Shows s.programs

  -- new links are told like this
  module _ (IsTold : LinkTold → Type 0) (tells : (link : LinkTold) → IsTold link → Tells → IsSome link.left) where
    pub step_keeps : (kind : Kind) (old new : State) → IsStep IsTold kind old new → AllShow old → AllShow new
    step_keeps (Came number link) old new step all = subst AllShow (sym step.3) all
    step_keeps (Entered number link) old new step all =
        subst AllShow (sym step.3) (each_more Shows old.programs (new_program link) (record { tells = tells link step.1; cause = tt }) all)
    step_keeps LetGo old new step all = subst AllShow (sym step.1) all
    step_keeps Wanted old new step all = subst AllShow (sym step) all
    step_keeps (Levelled change) old new step all = subst AllShow (sym step.1) all
    step_keeps (OfClient number kind) old new step all = subst AllShow (sym step.2) all
    step_keeps (OfProgram number kind) old new step all = program_keeps number kind old new step.1 all
    step_keeps (OfRings kind) old new step all = subst AllShow (sym step.1) all
    step_keeps PartedAll old new step all = subst AllShow (sym step.3) all
    step_keeps Renewed old new step all = subst AllShow (sym step.1) all
    step_keeps Stopping old new step all = subst AllShow (sym step) all

  -- in the end
  pub all_show : (links : List LinkTold) (ends : List (Option ChannelEnd)) (many : ℕ) → EachOne Shows (programs_with links ends) → AllShowEnds Tells links (take many ends)
  all_show links ends many all = λ place link end there slot.
      (all place (program_with link end) (joined_get program_with None links ends place link end there (taken_at ends many place end slot))).cause

-- ---- the whole

module _ {L : Type 0} (link_told : L → LinkTold) where
  -- a server to which no program had come came to this by steps
  pub ends_shown : (old new : server.State) → Goes (IsToldBy link_told) (state_of old) (state_in true new) → old.programs ≡ []
      → AllShowEnds (TellLeft link_told) new.programs (take (length new.programs) new.ends)
  ends_shown old new goes none =
      let Tells : Type 0 = TellLeft link_told in
      let nobody : AllShow Tells (state_of old) = subst (λ (ls : List LinkTold). EachOne (Shows Tells) (programs_with ls old.ends)) (sym none) (λ place x there. absurd (cc there)) in
      let tells : (link : LinkTold) → IsToldBy link_told link → Tells → IsSome link.left = (λ link is all. ap (λ (l : LinkTold). is_some l.left) is.1 ∙ all is.0) in
      all_show Tells new.programs new.ends (length new.programs)
      (steps_keep (IsToldBy link_told) (AllShow Tells) (step_keeps Tells (IsToldBy link_told) tells) goes.kinds (state_of old) (state_in true new) goes.steps nobody)

  -- and this was left of it
  pub left_shown : (old new : server.State) (closed : Closed L) → Goes (IsToldBy link_told) (state_of old) (state_in true new) → old.programs ≡ [] → IsLeft link_told new closed
      → AllShowEnds (TellLeft link_told) (map link_told closed.users.links) closed.ends
  left_shown old new closed goes none left =
      subst (λ (es : List (Option ChannelEnd)). AllShowEnds (TellLeft link_told) (map link_told closed.users.links) es) (sym left.ends)
      (subst (λ (ls : List LinkTold). AllShowEnds (TellLeft link_told) ls (take (length new.programs) new.ends)) (sym left.users) (ends_shown old new goes none))

  pub ended_so : (begun : Begun) (old new : Told L) (full : Bool) (closed : Closed L) → HasOpened link_told begun full old new closed
      → AllShowEnds (TellLeft link_told) (map link_told closed.users.links) closed.ends
  ended_so begun old new full closed has =
      left_shown (first link_told begun old new full closed has) has.run.closes.0 closed (serving_goes link_told begun old new full closed has)
      (ap (λ (ls : Links L). map link_told ls.links) has.is_opened.made.no_program) has.run.closes.3
