-- What a run begins with, once its scenario is opened.
use Rattle.std.specs.Prelude.{◌≡◌, ℕ, ◌≤◌, List, [], length, Some, All}
use Rattle.std.specs.List.{range_with_len}
use Rattle.dl_bytes.specs.declared.conf.AppSpec.{AppSpec}
use Rattle.dl_script_model.specs.declared.scenario.ScenarioLine.{ScenarioLine}
use Rattle.dl_crew.specs.Calls.{count_of}
use Rattle.dl_crew.specs.Plays.{ArePairs}
use Rattle.dl_desk.specs.Made.{IsMadeWith, IsNew, IsUnused}
use Rattle.dl_desk.specs.State.{DeskState}
use Rattle.dl_writer.specs.State.{BookState, numbers}
use Rattle.dl_opening.specs.Scenario.{apps, base_of, handles_from, number_in, opened_from, scripts_of, specs_of, writers}
use Rattle.dl_opening.specs.declared.opened.Opened.{Opened}

-- the desk is new but for its writers
abbrev pub IsNewBut : DeskState → List AppSpec → Type 0
IsNewBut desk specs = IsNew (record desk { owners = [] }) specs

-- the book of a writer of the application with this id, which had all its declared contexts when the writer was made: it has no
-- record and no claim yet, and room for all calls that the lines ask of the writer, which has made none
pub record IsBookOf (lines : List ScenarioLine) (apid : List ℕ) (b : BookState) : Type 0 where
  pub app : number_in apid (specs_of lines) ≡ Some b.writer.app
  pub id : b.writer.apid ≡ apid
  pub base : b.writer.base ≡ base_of lines b.writer.app
  pub unused : IsUnused b.writer
  pub records : b.records ≡ []
  pub claims : b.claims ≡ []
  pub room : b.room ≡ count_of b.writer.push.number lines

-- no writer's calls are more than a book can hold
abbrev pub HasRoomFor : List ScenarioLine → Type 0
HasRoomFor lines = (length (specs_of lines) ≤ 16) × ((writer : ℕ) → count_of writer lines ≤ 1000000)

-- the desk with more writers: nothing else that the daemon does or did is another
pub record StaysSo (old new : DeskState) : Type 0 where
  pub apps : new.apps ≡ old.apps
  pub handles : new.handles ≡ old.handles

-- the books of all writers, one a `writer` line, numbered from 1, each of a writer of the desk
pub record AreBooksOf (lines : List ScenarioLine) (desk : DeskState) (books : List BookState) : Type 0 where
  pub each : ArePairs (IsBookOf lines) (writers lines) books
  pub numbered : numbers books ≡ range_with_len 1 (length books)
  pub made : All (λ b. IsMadeWith desk b.writer) books
  pub all : length desk.owners ≡ length books
  pub few : length books ≤ 32

-- all that was declared: the desk of the applications, these with their contexts, the handles of the contexts, the books of
-- the writers and the scripts of the clients, each in the order of its lines
pub record IsOpened (lines : List ScenarioLine) (o : Opened) : Type 0 where
  pub desk : IsNewBut o.desk (specs_of lines)
  pub applications : o.apps ≡ opened_from lines (writers lines) 0 (apps lines)
  pub same_lines : o.plan.lines ≡ lines
  pub contexts : o.plan.contexts ≡ handles_from lines 0 (apps lines)
  pub books : AreBooksOf lines o.desk o.books
  pub scripts : o.scripts ≡ scripts_of lines
