-- A daemon that was opened, ran and closed, as steps; and what its links of programs show in the end.
use Rattle.std.proofs.Common.{◌≡◌, ◌⊎◌, ℕ, zero, suc, true, inl, inr, List, length, map, Option, Some, None, refl, ap, ◌∙◌, arith, false}
use Rattle.dl_bytes.specs.declared.conf.Conf.{Conf}
use Rattle.dl_bytes.specs.declared.moment.Moment.{Moment}
use Rattle.dl_core.specs.Follows.{unstored_records}
use Rattle.dl_core.specs.State.{Core}
use Rattle.dl_events.specs.Told.{Told as JournalTold}
use Rattle.dl_model.specs.TraceFiles.{StoredFile}
use Rattle.dl_outside.specs.Links.{Links}
use Rattle.dl_outside.specs.Told.{FolderTold, LinkTold, NetTold}
use Rattle.dl_server.specs.State as server
use Rattle.dl_server.specs.State.{seen}
use Rattle.dl_socket.specs.Channels.{Channels}
use Rattle.dl_startup.specs.Setup.{IsBegun}
use Rattle.dl_trace.specs.Made.{HasBegun}
use Rattle.dl_trace.specs.State.{Trace}
use Rattle.dl_turns.proofs.LaterStages.{WhatLinksTake}
use Rattle.dl_serve.proofs.ServerSteps.{Goes_on, Leading, both, closing_goes, lead_both, lead_same, renew_leads, round_leads, state_in, state_of}
use Rattle.dl_serve.specs.declared.beginning.Begun.{Begun}
use Rattle.dl_serve.specs.declared.closed.Closed.{Closed}
use Rattle.dl_serve.specs.Admitted.{AllAdmitted, TellGiven}
use Rattle.dl_serve.specs.Comes.{run_in}
use Rattle.dl_serve.specs.Dropped.{HasDropped}
use Rattle.dl_serve.specs.Shown.{AllShowEnds, TellLeft}
use Rattle.dl_serve.specs.Went.{EachCloseHasCause}
use Rattle.dl_serve.proofs.AdmittedSteps.{left_admitted}
use Rattle.dl_serve.proofs.CameTo.{what_stood}
use Rattle.dl_serve.proofs.DroppedLinks.{first_kept, left_dropped}
use Rattle.dl_serve.proofs.ServingSteps.{first_ready, seen_tells}
use Rattle.dl_serve.proofs.ShownEnds.{left_shown}
use Rattle.dl_serve.proofs.WentServers.{left_went}
use Rattle.dl_daemon.specs.declared.limits.Limits.{Limits}
use Rattle.dl_daemon.specs.declared.rounds.Stop.{Stop}
use Rattle.dl_daemon.specs.Limits.{limits}
use Rattle.dl_daemon.specs.Open.{setting}
use Rattle.dl_daemon.specs.Outside.{Outside}
use Rattle.dl_daemon.specs.Program.{HasOpened}
use Rattle.dl_daemon.specs.Renewing.{Renewed, untried}
use Rattle.dl_daemon.proofs.Renewals.{IsAnew, IsStill, renewed_so}
use Rattle.dl_daemon.specs.Rounds.{AreRounds, IsRenewedRound, asked_again, noted, with_trace}

-- the trace goes on as it was, or was begun anew
abbrev pub BeginsIn : Core → Core → Type 0
BeginsIn old new =
    (new ≡ old) ⊎ ((conf : Conf) × (trace : Trace) × (new ≡ record old { trace = Some trace }) × (stood : List StoredFile) × (head : List (List ℕ)) × HasBegun conf stood head trace)

pub begins_so : (conf : Conf) (moment : Moment) (begun : Option ℕ) (old new : Core) (folder folder_now : FolderTold) → IsStill begun old new folder folder_now ⊎ IsAnew conf moment begun old new folder folder_now
    → BeginsIn old new
begins_so conf moment begun old new folder folder_now (inl still) = inl still.same
begins_so conf moment begun old new folder folder_now (inr anew) = inr (conf, anew.trace, anew.is, anew.stood, unstored_records old.ecu moment anew.unstored, anew.has)

module _ {L : Type 0} (told : L → LinkTold) where
  module _ (conf : Conf) (kept kept_now : Renewed) (net net_now users users_now : NetTold L) (old new : server.State) (r : IsRenewedRound told conf kept kept_now net net_now users users_now old new) where
    abbrev pub renewed : server.State
    renewed = asked_again (with_trace old r.core r.folder)

    pub begins_in : BeginsIn old.core r.core
    begins_in = begins_so conf r.moment r.begun old.core r.core old.folder r.folder (renewed_so conf r.moment r.begun old.core r.core old.folder r.folder r.rest kept.tries kept_now.tries r.renews)

    pub renewed_leads : Leading told old renewed
    renewed_leads = renew_leads told old r.core r.folder false false begins_in

    one_leads : Leading told old new
    one_leads = lead_both told old renewed new renewed_leads (round_leads told net net_now users users_now renewed new r.round (seen_tells told noted false (with_trace old r.core r.folder) r.seen_so))

  rounds_lead : (conf : Conf) (many : ℕ) (kept kept_now : Renewed) (net net_now users users_now : NetTold L) (old new : server.State)
      → AreRounds told conf many kept kept_now net net_now users users_now old new → Leading told old new
  rounds_lead conf zero kept kept_now net net_now users users_now old new rounds = lead_same told old new rounds.3
  rounds_lead conf (suc many) kept kept_now net net_now users users_now old new rounds =
      lead_both told old rounds.3 new (rounds_lead conf many kept rounds.0 net rounds.1 users rounds.2 old rounds.3 rounds.4)
      (one_leads conf rounds.0 kept_now rounds.1 net_now rounds.2 users_now rounds.3 new rounds.5)

  module _ (most : Limits) (begun : Begun) (old new : Outside L) (why : Stop) (closed : Closed L) (has : HasOpened told most begun why old new closed) where
    abbrev first : server.State
    first = seen told noted false old.folder has.opened.server

    keeping_goes : Goes_on told (state_of first) (state_in true has.run.closes.0)
    keeping_goes =
        let made = has.is_opened.made in
        let last : server.State = has.run.last in
        let rounds = rounds_lead begun.conf has.run.served.many (record { tries = untried; anew = None }) has.run.served.kept has.net new.net has.users new.users first last has.run.served.rounds
        (first_ready first most.clients most.channels (ap (λ (c : Channels). c.inboxes) made.channels_are) made.listeners_are made.no_end) in
        both told (state_of first) (state_of last) (state_in true has.run.closes.0) rounds.0 (closing_goes told has.run.moment last has.run.closes.0 rounds.1.low has.run.closes.2)

    pub ended_so : AllShowEnds (TellLeft told) (map told closed.users.links) closed.ends
    ended_so = left_shown told first has.run.closes.0 closed keeping_goes (ap (λ (ls : Links L). map told ls.links) has.is_opened.made.no_program) has.run.closes.3

    pub sent : TellGiven told → AllAdmitted closed.events.events (map told closed.users.links) closed.ends
    sent tells =
        let made = has.is_opened.made in
        left_admitted told tells first has.run.closes.0 closed keeping_goes (ap (λ (j : JournalTold). Some j.events) made.journal_is) (ap (λ (ls : Links L). map told ls.links) made.no_program)
        (ap (λ (c : Channels). c.opened) made.channels_are) (ap (λ (c : Channels). c.inboxes) made.channels_are) has.run.closes.3

    pub went : WhatLinksTake → (begin : FolderTold) → IsBegun begun.conf begin.files begun.trace → EachCloseHasCause told (setting most begun) closed
    went takes begin begins =
        let opened = has.is_opened in
        let made = opened.made in
        let before = what_stood begun.conf begin.files begun.trace begins in
        left_went told takes (setting most begun) before.stood first has.run.closes.0 closed keeping_goes (ap (λ (j : JournalTold). Some j.events) made.journal_is) (ap (λ (ls : Links L). map told ls.links) made.no_client)
        (opened.is_server.linked.many ∙ ap (λ (ls : Links L). length ls.links) made.no_client) (opened.begins (run_in (setting most begun) before.stood) refl refl before.after) has.run.closes.2.clients.none_open
        has.run.closes.3

  -- within the limits of a daemon
  pub dropped_so : (begun : Begun) (old new : Outside L) (why : Stop) (closed : Closed L) → HasOpened told limits begun why old new closed → HasDropped closed
  unfolding limits
  dropped_so begun old new why closed has =
      left_dropped told (first limits begun old new why closed has) has.run.closes.0 closed (keeping_goes limits begun old new why closed has)
      (first_kept told noted false old.folder _ _ _ limits.clients limits.channels has.opened.server has.is_opened.made refl refl refl (omega arith) (omega arith) (omega arith)) has.run.closes.3
