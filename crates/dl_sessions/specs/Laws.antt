-- What the account of a stream says of a writer's calls.
use Rattle.std.specs.Prelude.{◌≡◌, ℕ, ◌+◌, ◌<◌, ◌&&◌, not, Bool, true, false, List, [], ◌∷◌, ◌++◌, count_by, map, if◌then◌else◌}
use Rattle.std.specs.List.{filter, list_any, AllByRecursion}
use Rattle.dl_events.specs.declared.record.Record.{Record}
use Rattle.dl_events.specs.declared.record.Answer.TheVariants as answer
use Rattle.dl_model.specs.Accounts.{AreCounted}
use Rattle.dl_model.specs.Report.{is_answer}
use Rattle.dl_sessions.specs.declared.session.Entry.{Entry}
use Rattle.dl_sessions.specs.declared.session.Session.{Session}
use Rattle.dl_sessions.specs.Account.{totals_of}
use Rattle.dl_sessions.specs.Gaps.{counted, is_in}

-- a call of a writer, and whether a stream has its message
pub record Call : Type 0 where
  pub made : Record
  pub is_here : Bool

-- it passed its level, so it took a message counter
abbrev pub passes : Call → Bool
passes c = not (is_answer answer.Filtered c.made.answer)

-- it took a counter, and its message is not here: it was lost, refused, or sent to others
abbrev pub is_lacking : Call → Bool
is_lacking c = passes c && not c.is_here

-- what is here passed its level
abbrev pub PassesIfHere : Call → Type 0
PassesIfHere c = c.is_here ≡ true → passes c ≡ true

-- The messages of a session in a stream are those of the calls that it has, in the order of the calls.
abbrev pub HasCalls : Session → List Entry → List Call → Type 0
HasCalls session es calls = map (λ e. e.mcnt) (filter (is_in session) es) ≡ map (λ c. c.made.item.mcnt) (filter (λ c. c.is_here) calls)

-- before each call that is here, fewer than 256 are lacking since the one before; so many are since the last one
abbrev pub FewInRow : ℕ → List Call → Type 0
FewInRow lacking [] = Unit {0}
FewInRow lacking (c ∷ calls) = (c.is_here ≡ true → lacking < 256) × FewInRow (if c.is_here then 0 else if passes c then lacking + 1 else lacking) calls

-- The calls of a writer, of which a stream has the first and the last of a span, and none before and behind.
pub record Recorded (session : Session) (es : List Entry) (before middle behind : List Call) (first last : Call) : Type 0 where
  pub counted : AreCounted 0 (map (λ c. c.made) (before ++ first ∷ (middle ++ last ∷ behind)))
  pub passed : AllByRecursion PassesIfHere (before ++ first ∷ (middle ++ last ∷ behind))
  pub has : HasCalls session es (before ++ first ∷ (middle ++ last ∷ behind))
  pub none_before : list_any (λ c. c.is_here) before ≡ false
  pub none_behind : list_any (λ c. c.is_here) behind ≡ false
  pub first_here : first.is_here ≡ true
  pub last_here : last.is_here ≡ true

-- What was passed over of a session are the calls of its span that passed their levels and are not here, where fewer than 256 of them stand in a row.
abbrev pub MissingAreCalls : Type 0
MissingAreCalls = (session : Session) (es : List Entry) (before middle behind : List Call) (first last : Call) → Recorded session es before middle behind first last
    → FewInRow 0 (middle ++ last ∷ []) → (totals_of session es).by_session ≡ counted (count_by is_lacking middle)
