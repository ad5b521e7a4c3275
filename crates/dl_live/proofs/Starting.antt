-- What the calls of a run ask, of what was assembled for it.
use Rattle.std.proofs.Common.{◌≡◌, ℕ, ◌+◌, ◌^◌, ◌<◌, ◌≤◌, List, [], length, sym, ap, subst, ◌∙◌, arith}
use Rattle.std.specs.Prelude.{All}
use Rattle.std.specs.List.{AllByRecursion, range_with_len}
use Rattle.std.proofs.lemmas.List.{length-map}
use Rattle.std.proofs.lemmas.List.FromFn.{length-range_with_len}
use Rattle.dl_bytes.specs.declared.conf.AppSpec.{AppSpec}
use Rattle.dl_core.specs.State.{Core}
use Rattle.dl_crew.specs.Plays.{ArePairs, CanPlay, HasPlayed}
use Rattle.dl_crew.proofs.Pairs.{as_many, same_bases as still_based, same_numbers, still_made, still_whole}
use Rattle.dl_desk.specs.Apps.{AppState}
use Rattle.dl_desk.specs.Made.{IsLater}
use Rattle.dl_desk.specs.State.{DeskState}
use Rattle.dl_account.specs.Making.{AreMadeWith, IsMissing}
use Rattle.dl_account.proofs.InOrder.{one_within}
use Rattle.dl_account.proofs.OpenBooks.{made_with, same_bases, stay}
use Rattle.dl_loop.specs.Greeting.{AreListed}
use Rattle.dl_opening.specs.Opening.{IsOpened}
use Rattle.dl_opening.specs.Scenario.{apps, base_of, clients, specs_of, writers}
use Rattle.dl_opening.specs.declared.opened.Opened.{Opened}
use Rattle.dl_opening.proofs.AllCalls.{rooms_fit}
use Rattle.dl_opening.proofs.Declared.{all_many}
use Rattle.dl_opening.proofs.Playing.{opened_bases, opened_plays, opened_whole}
use Rattle.dl_opening.proofs.Runnable.{few_clients}
use Rattle.dl_outside.specs.Links.{Links}
use Rattle.dl_outside.specs.declared.client.ClientScript.{ClientScript}
use Rattle.dl_rounds.specs.Greetings.{IsIntroduced, registered}
use Rattle.dl_script_model.specs.declared.scenario.ScenarioLine.{ScenarioLine}
use Rattle.dl_settling.specs.Room.{together}
use Rattle.dl_cells.specs.Views.{times}
use Rattle.dl_writer.specs.State.{BookState, IsWhole, numbers}
use Rattle.dl_live.specs.declared.players.Players.{Players}
use Rattle.dl_live.specs.Playing.{CanBePlayed}
use Rattle.dl_live.proofs.Introductions.{all_introduced}
use Rattle.dl_live.proofs.ListedApps.{all_listed}
use Rattle.dl_live.proofs.PlayedCalls.{all_fit}

module _ {L : Type 0} (p : Players L) (can : CanBePlayed p) where
  abbrev lines : List ScenarioLine
  lines = can.0.scenario

  abbrev opened : Opened
  opened = record { desk = p.daemon.desk; apps = p.apps; plan = p.plan; books = p.books; scripts = p.scripts }

  is_opened : IsOpened lines opened
  is_opened = can.2.opened

  -- ---- the greeting

  pub introduced : AllByRecursion IsIntroduced p.apps
  introduced = subst (AllByRecursion IsIntroduced) (sym is_opened.applications) (all_introduced lines (writers lines) 0 (apps lines))

  pub nobody : p.daemon.links.links ≡ []
  nobody = ap (λ (ls : Links L). ls.links) can.2.made.links

  pub place : registered p.daemon.core + length p.apps ≤ length p.daemon.desk.apps
  place =
      let none : registered p.daemon.core ≡ 0 = ap (λ (core : Core). registered core) can.2.core in
      let many = ap (λ (all : List AppState). length all) is_opened.applications ∙ all_many lines (writers lines) (apps lines) in
      let desk = ap length is_opened.desk.apps ∙ length-map (apps lines) _ in
      omega (arith, none, many, desk)

  pub listed : AreListed p.daemon.desk.apps p.apps
  listed = subst (λ (specs : List AppSpec). AreListed specs p.apps) (sym is_opened.desk.apps)
      (subst (AreListed (specs_of lines)) (sym is_opened.applications) (all_listed lines (writers lines) can.1))

  -- ---- the clients

  pub few_scripts : length p.scripts < 2 ^ 32
  few_scripts =
      let many = ap (λ (scripts : List ClientScript). length scripts) is_opened.scripts ∙ length-map (range_with_len 1 (clients lines)) _ ∙ length-range_with_len 1 (clients lines) in
      let few = few_clients lines can.1 in
      omega (arith, many, few)

  -- ---- the books

  pub few_books : length p.books ≤ 32
  few_books = is_opened.books.few

  pub room : All (CanPlay p.plan.lines) p.books
  room = opened_plays lines opened can.1 is_opened

  module _ (books : List BookState) (played : ArePairs (HasPlayed p.plan.contexts p.plan.lines) p.books books) where
    pub whole : All IsWhole books
    whole = still_whole p.plan.contexts p.plan.lines p.books books played (opened_whole lines opened is_opened)

    pub numbered : numbers books ≡ range_with_len 1 (length books)
    numbered = same_numbers p.plan.contexts p.plan.lines p.books books played ∙ is_opened.books.numbered
        ∙ ap (range_with_len 1) (sym (as_many (HasPlayed p.plan.contexts p.plan.lines) p.books books played))

    pub made : (desk : DeskState) → IsLater p.daemon.desk desk → AreMadeWith desk books
    made desk later = made_with desk books (length books)
        (stay p.daemon.desk desk books later (still_made p.plan.contexts p.plan.lines p.daemon.desk p.books books played is_opened.books.made)) numbered
        (same_bases (base_of lines) books (still_based p.plan.contexts p.plan.lines (base_of lines) p.books books played (opened_bases lines opened is_opened)))

    pub few : (calls : ℕ) → calls ≡ p.daemon.calls → together books ≤ calls
    few calls same =
        let fit = all_fit p.plan.contexts p.plan.lines p.books books played room in
        let rooms = rooms_fit lines opened is_opened in
        let all = can.2.calls in
        omega (arith, fit, rooms, all, same)

    -- no book is missing
    pub none_missing : (count : ℕ) → count ≡ length p.daemon.desk.owners → IsMissing books count → ⊥
    none_missing count same missing =
        let many = as_many (HasPlayed p.plan.contexts p.plan.lines) p.books books played in
        let all = is_opened.books.all in
        let there = subst (λ (ns : List ℕ). 1 ≤ times missing.number ns) (sym numbered) (one_within 1 (length books) missing.number missing.low (omega (arith, missing.high, same, all, many))) in
        let none = missing.none in
        omega (arith, there, none)
