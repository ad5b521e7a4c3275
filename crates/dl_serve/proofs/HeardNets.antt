-- Nets that listen, or do not.
use Rattle.std.proofs.Common.{◌≡◌, inl, inr, ℕ, zero, suc, Bool, Option, Some, None, refl, sym, subst}
use Rattle.std.specs.Prelude.{IfSome, Result, Ok, Err}
use Rattle.dl_outside.specs.Outside.{Stays}
use Rattle.dl_outside.specs.Told.{LinkTold, NetTold}
use Rattle.dl_outside.specs.Net.{HasCause}
use Rattle.dl_outside.specs.declared.net.NetFault.{NetFault}
use Rattle.dl_outside.specs.declared.net.NetFault.TheVariants as fault
use Rattle.dl_server.specs.Accepts.{AcceptsClientIfMay, AcceptsProgramIfMay}
use Rattle.dl_server.specs.Round.{IsRound}
use Rattle.dl_server.specs.State.{State}
use Rattle.dl_startup.specs.declared.status.Status.{Status}
use Rattle.dl_startup.specs.declared.status.Status.TheVariants as status
use Rattle.dl_serve.specs.Open.{IsHeard, Listen, Listens, ListensOn, refused}
use Rattle.dl_serve.specs.Rounds.{AreRounds}

module _ {L : Type 0} (port : ℕ) (old new : NetTold L) where
  pub one_refused : (why : NetFault) (s : Status) → s ≡ refused why → HasCause {T = Unit {0}} old.faults new.faults (Err why) → Stays old.listens_on new.listens_on → ListensOn port old new (Err s)
  one_refused why s is cause stays = subst (λ (t : Status). ListensOn port old new (Err t)) (sym is) (by why cause) where
    by : (why : NetFault) → HasCause {T = Unit {0}} old.faults new.faults (Err why) → ListensOn port old new (Err (refused why))
    by fault.Failed rose = record { rose = rose; stays = stays }
    by fault.OutOfMemory same = tt

  module _ (user_port : ℕ) (users users_now : NetTold L) where
    -- the first one does not
    pub first_unheard : (s : Status) → ListensOn port old new (Err s) → users_now ≡ users → Listen port user_port old new users users_now (Err s)
    first_unheard status.NetFault h same = inl (h, same)
    first_unheard status.OutOfMemory h same = tt
    first_unheard status.Ok h same = absurd h
    first_unheard status.WordsRefused h same = absurd h
    first_unheard (status.ConfRefused line kind) h same = absurd h
    first_unheard (status.StoredRefused line kind) h same = absurd h
    first_unheard (status.ScriptRefused line kind) h same = absurd h
    first_unheard status.WriteFault h same = absurd h
    first_unheard status.FolderFault h same = absurd h
    first_unheard status.NamesSpent h same = absurd h
    first_unheard status.ReadFault h same = absurd h
    first_unheard status.JournalFull h same = absurd h
    first_unheard (status.StorageRefused line kind) h same = absurd h

    -- it does, and that is all there is to the second one
    pub second : (r : Result (Unit {0}) Status) → IsHeard port old new → ListensOn user_port users users_now r → Listen port user_port old new users users_now r
    second (Ok done) heard h = (heard, h)
    second (Err status.NetFault) heard h = inr (heard, h)
    second (Err status.OutOfMemory) heard h = tt
    second (Err status.Ok) heard h = absurd h
    second (Err status.WordsRefused) heard h = absurd h
    second (Err (status.ConfRefused line kind)) heard h = absurd h
    second (Err (status.StoredRefused line kind)) heard h = absurd h
    second (Err (status.ScriptRefused line kind)) heard h = absurd h
    second (Err status.WriteFault) heard h = absurd h
    second (Err status.FolderFault) heard h = absurd h
    second (Err status.NamesSpent) heard h = absurd h
    second (Err status.ReadFault) heard h = absurd h
    second (Err status.JournalFull) heard h = absurd h
    second (Err (status.StorageRefused line kind)) heard h = absurd h

-- ---- through rounds

module _ {L : Type 0} (told : L → LinkTold) where
  stays_both : (first between now : Option (Option ℕ)) → Stays first between → Stays between now → Stays first now
  stays_both None between now one two = tt
  stays_both (Some port) between now one two = subst (λ (o : Option (Option ℕ)). Stays o now) one two

  stays_same : (first : Option (Option ℕ)) → Stays first first
  stays_same None = tt
  stays_same (Some port) = refl

  stays_with : (old new : NetTold L) → new ≡ old → Stays old.listens_on new.listens_on
  stays_with old new same = subst (λ (n : NetTold L). Stays old.listens_on n.listens_on) (sym same) (stays_same old.listens_on)

  client_accepted : (came : Bool) (net net_now : NetTold L) (old new : State) → AcceptsClientIfMay told came net net_now old new → Stays net.listens_on net_now.listens_on
  client_accepted came net net_now old new (inl none) = stays_with net net_now none.2
  client_accepted came net net_now old new (inr (inl want)) = stays_with net net_now want.2
  client_accepted came net net_now old new (inr (inr accepts)) = accepts.1.2.listens

  program_accepted : (came : Bool) (users users_now : NetTold L) (old new : State) → AcceptsProgramIfMay told came users users_now old new → Stays users.listens_on users_now.listens_on
  program_accepted came users users_now old new (inl none) = stays_with users users_now none.2
  program_accepted came users users_now old new (inr accepts) = accepts.3.listens

  -- a round leaves both nets listening where they did
  pub round_listens : (net net_now users users_now : NetTold L) (old new : State) → IsRound told net net_now users users_now old new
      → Stays net.listens_on net_now.listens_on × Stays users.listens_on users_now.listens_on
  round_listens net net_now users users_now old new round = (
    client_accepted round.accepts.came net net_now old round.accepts.accepted round.accepts.accepts,
    program_accepted round.accepts.entered users users_now round.accepts.accepted round.accepted round.accepts.enters,
  )

  pub rounds_listen : (many : ℕ) (net net_now users users_now : NetTold L) (old new : State) → AreRounds told many net net_now users users_now old new
      → Stays net.listens_on net_now.listens_on × Stays users.listens_on users_now.listens_on
  rounds_listen zero net net_now users users_now old new same = (stays_with net net_now same.0, stays_with users users_now same.1)
  rounds_listen (suc many) net net_now users users_now old new rounds =
      let first = rounds_listen many net rounds.0 users rounds.1 old rounds.2 rounds.3 in
      let last = round_listens rounds.0 net_now rounds.1 users_now rounds.2 new rounds.5 in
      (stays_both net.listens_on rounds.0.listens_on net_now.listens_on first.0 last.0, stays_both users.listens_on rounds.1.listens_on users_now.listens_on first.1 last.1)

  -- what listened stays so
  pub still_listens : (port : ℕ) (first heard now : NetTold L) → IsHeard port first heard → Stays heard.listens_on now.listens_on → Listens port first now
  still_listens port first heard now is stays = by first.listens_on is.listens where
    by : (o : Option (Option ℕ)) → IfSome o (λ _. heard.listens_on ≡ Some (Some port)) → IfSome o (λ _. now.listens_on ≡ Some (Some port))
    by None none = tt
    by (Some port_before) listens = subst (λ (p : Option (Option ℕ)). Stays p now.listens_on) listens stays
