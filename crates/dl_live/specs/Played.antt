-- What the account of a run tells of its scenario: the applications, what they told of themselves, and each call and each claim that was asked for.
use Rattle.std.specs.Prelude.{◌≡◌, ℕ, ◌+◌, ◌<◌, ◌≤◌, List, [], ◌++◌, length, map}
use Rattle.std.specs.List.{AllByRecursion, filter_map, flat_map, range_with_len}
use Rattle.dl_crew.specs.Calls.{IsClaimOf, content_of, registers_of}
use Rattle.dl_crew.specs.Plays.{ArePairs, InTurn}
use Rattle.dl_events.specs.declared.event.Event.{Event}
use Rattle.dl_events.specs.declared.record.Answer.TheVariants.{Lost}
use Rattle.dl_account.specs.State.{AccountState}
use Rattle.dl_model.specs.Accounts.{with_answer}
use Rattle.dl_opening.specs.Asked.{asked_of, count_behind, without_slot}
use Rattle.dl_opening.specs.Opening.{IsBookOf}
use Rattle.dl_opening.specs.Scenario.{apps, handles_from, hello_of, specs_of, writers}
use Rattle.dl_rounds.specs.Greetings.{IsOfGreeting, told_in}
use Rattle.dl_script_model.specs.declared.line.ClaimLine.{ClaimLine}
use Rattle.dl_script_model.specs.declared.scenario.ScenarioLine.{ScenarioLine}
use Rattle.dl_writer.specs.Calls.{asked}
use Rattle.dl_writer.specs.State.{BookState, IsWhole, numbers}

-- The journal begins with what the applications tell of themselves: of each application its registration and then those of its contexts, in
-- the order of their lines, on the channel of this process, each followed by its Level events. No client has come by then, and no message
-- follows.
pub record IsGreeted (lines : List ScenarioLine) (events : List Event) : Type 0 where
  pub greeting : List Event
  pub others : List Event
  pub parts : events ≡ greeting ++ others
  pub of_greeting : AllByRecursion IsOfGreeting greeting
  pub told : filter_map told_in greeting ≡ flat_map (hello_of lines) (apps lines)
  pub no_more : filter_map told_in others ≡ []

-- The claims of a writer that its ring took are those of its first `register` lines, in their order, each with the line's context, level and
-- description. Where the ring didn't take that of a line, it refused more pushes than calls of the writer were lost and calls stand behind the line.
pub record HasClaimed (lines : List ScenarioLine) (b : BookState) : Type 0 where
  pub done : List ClaimLine
  pub left : List ClaimLine
  pub parts : registers_of b.writer.push.number lines ≡ done ++ left
  pub claimed : ArePairs (IsClaimOf b.writer) done b.claims
  pub late : (n : ℕ) → length done ≤ n → n < length (registers_of b.writer.push.number lines)
      → length (with_answer Lost b.records) + count_behind b.writer.push.number n lines < b.writer.push.refusals

-- The records of a writer of this application are those of the calls that the lines ask of it, each call of each line, in their order, with
-- the line's context, severity and arguments. Its claims are those of its lines. The book is what a new one of the writer became as the lines were
-- played one after the other: the claims that waited were announced as one joined them, before each call and at the end, once each, and with each
-- call the writer asked for an injection.
pub record HasPlayedAll (lines : List ScenarioLine) (apid : List ℕ) (b : BookState) : Type 0 where
  pub calls : map (λ r. without_slot (content_of r)) b.records ≡ asked_of apid b.writer.push.number lines
  pub claims : HasClaimed lines b
  pub in_turn : (new : BookState) × IsBookOf lines apid new × InTurn (handles_from lines 0 (apps lines)) lines new b
  pub asks : length b.records ≤ asked b.writer
  pub whole : IsWhole b

-- The account is one of this scenario: its applications, what they told, and the records and the claims of all its writers.
pub record IsOfScenario (lines : List ScenarioLine) (account : AccountState) : Type 0 where
  pub applications : account.apps ≡ specs_of lines
  pub greeted : IsGreeted lines account.events
  pub numbered : numbers account.books ≡ range_with_len 1 (length account.books)
  pub played : ArePairs (HasPlayedAll lines) (writers lines) account.books
