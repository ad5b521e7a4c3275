-- A daemon from its making to its stop, step by step.
use Rattle.std.proofs.Common.{◌≡◌, ◌⊎◌, inl, inr, refl, Bool, true, false, ℕ, ◌≤◌, List, ◌++◌, length, sym, ap, subst, ◌∙◌}
use Rattle.std.specs.Prelude.{All, ◌==◌, ◌||◌, not}
use Rattle.dl_crew.specs.Plays.{ArePairs, CanPlay, HasPlayed}
use Rattle.dl_account.specs.Making.{AreMadeWith, IsMissing}
use Rattle.dl_account.specs.State.{AccountState}
use Rattle.dl_loop.specs.Later.{GoesRound, IsLaterBy}
use Rattle.dl_loop.specs.Scene.{Scene, scene}
use Rattle.dl_loop.specs.Stops.{Stops}
use Rattle.dl_loop.proofs.GoneRounds.{later_by_both}
use Rattle.dl_outside.specs.Links.{Links}
use Rattle.dl_outside.specs.Told.{FolderTold, LinkTold, NetTold}
use Rattle.dl_outside.specs.declared.client.ClientScript.{ClientScript}
use Rattle.dl_settling.specs.Room.{together}
use Rattle.dl_writer.specs.State.{BookState, IsWhole}
use Rattle.dl_live.specs.declared.gathering.Gathered.{Gathered}
use Rattle.dl_live.specs.declared.players.Players.{Players}
use Rattle.dl_live.specs.Playing.{CanBePlayed, Gathers, HasBeenPlayed, HasSetOut, Rounds, TellsWanted}
use Rattle.dl_live.proofs.Starting.{few, few_books, made, none_missing, room, whole}
use Rattle.dl_lemmas.proofs.Bools.{or_left, or_right}

module _ {L : Type 0} (first now : Players L) (count : ℕ) (net net_now : NetTold L) (folder folder_now : FolderTold) (can : CanBePlayed first)
    (out : HasSetOut first now count net net_now folder folder_now) where
  pub room_now : All (CanPlay now.plan.lines) now.books
  room_now = subst (λ (p : Players L). All (CanPlay p.plan.lines) p.books) (sym out.rest) (room first can)

  pub few_books_now : length now.books ≤ 32
  few_books_now = subst (λ (p : Players L). length p.books ≤ 32) (sym out.rest) (few_books first can)

  module _ (gathered rounded : Scene L) (net_between net_last : NetTold L) (gathers : GoesRound net_now net_between (scene now.daemon folder_now) gathered)
      (goes : GoesRound net_between net_last gathered rounded) (books : List BookState) (played : ArePairs (HasPlayed now.plan.contexts now.plan.lines) now.books books) where
    played_first : ArePairs (HasPlayed first.plan.contexts first.plan.lines) first.books books
    played_first = subst (λ (p : Players L). ArePairs (HasPlayed p.plan.contexts p.plan.lines) p.books books) out.rest played

    -- the daemon is later by the greeting, by the rounds until its clients had come, and by those beside its writers
    later : IsLaterBy (out.later.0 ++ (gathers.more ++ goes.more)) (scene first.daemon folder) rounded
    later = later_by_both out.later.0 (gathers.more ++ goes.more) (scene first.daemon folder) (scene now.daemon folder_now) rounded out.later.2
        (later_by_both gathers.more goes.more (scene now.daemon folder_now) gathered rounded gathers.later goes.later)

    pub made_now : AreMadeWith rounded.daemon.desk books
    made_now = made first can books played_first rounded.daemon.desk later.desk

    pub whole_now : All IsWhole books
    whole_now = whole first can books played_first

    pub few_now : together books ≤ rounded.daemon.calls
    few_now = few first can books played_first rounded.daemon.calls later.calls

    pub none_missing_now : IsMissing books (length rounded.daemon.desk.owners) → ⊥
    none_missing_now missing = none_missing first can books played_first (length rounded.daemon.desk.owners) (ap (λ (os : List ℕ). length os) later.owners) missing

    -- so the run was played
    pub has_played : (link_told : L → LinkTold) (got : Gathered) → Gathers link_told count got net_now net_between (scene now.daemon folder_now) gathered → Rounds net_between net_last gathered rounded
        → (late : Bool) → TellsWanted late gathered rounded → (account : AccountState) (links : Links L) (folder_last : FolderTold) → Stops link_told rounded.daemon books account links rounded.folder folder_last
        → (clients : List ClientScript) → clients ≡ now.scripts → (failed : Bool) → failed ≡ (not (count == length clients) || got.failed) → (wanted : Bool) → wanted ≡ (got.wanted || late)
        → (net_end : NetTold L) → net_end ≡ net_last → HasBeenPlayed link_told first wanted failed net net_end folder folder_last account links
    has_played link_told got waits beside late late_so account links folder_last stops clients clients_are failed failed_so wanted wanted_so net_end same =
        subst (λ (n : NetTold L). HasBeenPlayed link_told first wanted failed net n folder folder_last account links) (sym same) (record {
          moment = out.moment;
          greeted = scene now.daemon folder_now;
          greets = out.greets;
          later = out.later;
          launched_net = net_now;
          count = count;
          launches = out.launches;
          got = got;
          gathered_net = net_between;
          gathered = gathered;
          gathers = waits;
          rounded = rounded;
          goes = beside;
          books = books;
          played = played_first;
          stops = stops;
          failed_so = failed_so ∙ ap (λ (scripts : List ClientScript). not (count == length scripts) || got.failed) (clients_are ∙ ap (λ (p : Players L). p.scripts) out.rest);
          wanted_so = λ is. wanted_is (sym wanted_so ∙ is);
          none_wanted = λ none. (or_left got.wanted late (sym wanted_so ∙ none), none_wanted (sym wanted_so ∙ none));
        }) where
          wanted_is : got.wanted || late ≡ true → rounded.daemon.wanted ≡ true
          wanted_is is = by got.wanted refl where
            by : (b : Bool) → got.wanted ≡ b → rounded.daemon.wanted ≡ true
            by true early = beside.come.ends.wanted_once (waits.wanted early)
            by false not_early = late_so.wanted_so (ap (λ (b : Bool). b || late) (sym not_early) ∙ is)

          none_wanted : got.wanted || late ≡ false → (rounded.daemon.failed ≡ true) ⊎ (rounded.daemon.wanted ≡ false)
          none_wanted none = by got.failed refl where
            by : (b : Bool) → got.failed ≡ b → (rounded.daemon.failed ≡ true) ⊎ (rounded.daemon.wanted ≡ false)
            by true failed_early = inl (beside.come.ends.failed_once (waits.failed failed_early))
            by false well = late_so.none (or_right got.wanted late none) (waits.well well (or_left got.wanted late none)).1
