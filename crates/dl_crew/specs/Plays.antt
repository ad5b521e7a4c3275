-- What a worker makes of its writer's book.
use Rattle.std.specs.Prelude.{◌≡◌, ℕ, ◌+◌, ◌^◌, ◌<◌, ◌≤◌, true, Option, Some, None, is_some, All, List, [], ◌∷◌, ◌++◌, length, map}
use Rattle.std.specs.Option.{option_to_list}
use Rattle.dl_bytes.specs.Claim.{Claimed}
use Rattle.dl_bytes.specs.Context.{Context}
use Rattle.dl_bytes.specs.Payload.{Arguments}
use Rattle.dl_bytes.specs.declared.level.Severity.{Severity}
use Rattle.dl_events.specs.declared.record.Answer.{Answer}
use Rattle.dl_events.specs.declared.record.Answer.TheVariants.{Lost}
use Rattle.dl_events.specs.declared.record.Record.{Record}
use Rattle.dl_model.specs.Accounts.{with_answer}
use Rattle.dl_script_model.specs.declared.line.ClaimLine.{ClaimLine}
use Rattle.dl_script_model.specs.declared.scenario.ScenarioLine.{ScenarioLine}
use Rattle.dl_desk.specs.Made.{IsMadeWith}
use Rattle.dl_desk.specs.State.{DeskState}
use Rattle.dl_writer.specs.Calls.{asked, Keeps}
use Rattle.dl_writer.specs.Claiming.{name_fault, KeepsAnnounced, KeepsRegistered}
use Rattle.dl_writer.specs.State.{BookState, IsWhole}
use Rattle.dl_crew.specs.Calls.{CallContent, calls_behind, calls_in, calls_of, content, content_of, count_of, handles_of, register_in, registers_of, IsClaimOf}

-- each entry of one list and the entry at its place of the other: there are as many, and R holds of each pair
abbrev pub ArePairs : {A B : Type 0} → (A → B → Type 0) → List A → List B → Type 0
ArePairs R [] [] = Unit {0}
ArePairs R (x ∷ xs) (y ∷ ys) = R x y × ArePairs R xs ys
ArePairs R _ _ = ⊥

-- ---- what there has to be

-- the book has room for so many calls more, and its writer can make them
pub record HasRoom (count : ℕ) (b : BookState) : Type 0 where
  pub room : length b.records + count ≤ b.room
  pub few : b.writer.calls + count ≤ 2 ^ 40

-- there is room for all calls that the lines ask of the book's writer; and it can claim all contexts that they ask for, which
-- are 64 at most
pub record CanPlay (lines : List ScenarioLine) (b : BookState) : Type 0 where
  pub has : HasRoom (count_of b.writer.push.number lines) b
  pub claims : length (registers_of b.writer.push.number lines) ≤ 64
  pub names : All (λ a. name_fault a.ctid a.text ≡ None) (registers_of b.writer.push.number lines)

-- ---- what was done

-- It is the book of the same writer, which is still one of its desk. The writer made as many calls and asked for as many injections
-- as there are records more. The book is whole if it was.
pub record Stays (old new : BookState) : Type 0 where
  pub number : new.writer.push.number ≡ old.writer.push.number
  pub app : new.writer.app ≡ old.writer.app
  pub apid : new.writer.apid ≡ old.writer.apid
  pub base : new.writer.base ≡ old.writer.base
  pub room : new.room ≡ old.room
  pub made : new.writer.calls + length old.records ≡ old.writer.calls + length new.records
  pub asked_each : asked new.writer + length old.records ≡ asked old.writer + length new.records
  pub whole : IsWhole old → IsWhole new
  pub desk : (desk : DeskState) → IsMadeWith desk old.writer → IsMadeWith desk new.writer

-- These records were kept, and these claims made, behind those that the book kept and those that waited before; it keeps those in
-- front, and no fewer than before. So many pushes were refused beside those of lost calls: where a claim waits that waited before, no
-- fewer than records were kept.
pub record Does (kept : List Record) (claims : List Claimed) (refused : ℕ) (old new : BookState) : Type 0 where
  pub records : new.records ≡ old.records ++ kept
  pub joined : new.claims ++ new.writer.waiting ≡ (old.claims ++ old.writer.waiting) ++ claims
  pub grows : length old.claims ≤ length new.claims
  pub refusals : new.writer.push.refusals ≡ old.writer.push.refusals + length (with_answer Lost kept) + refused
  pub waits : length new.claims < length old.claims + length old.writer.waiting → length kept ≤ refused

-- All that the lines ask of the book's writer was done, and nothing else: the records are those of its calls, in order, and each of
-- its `register` lines made one claim. Where the ring didn't take it in the end, more pushes of claims were refused than calls stand
-- behind the line.
pub record Plays (contexts : List Context) (lines : List ScenarioLine) (old new : BookState) : Type 0 where
  pub kept : List Record
  pub claims : List Claimed
  pub refused : ℕ
  pub does : Does kept claims refused old new
  pub registered : ArePairs (IsClaimOf old.writer) (registers_of old.writer.push.number lines) claims
  pub calls : map content_of kept ≡ calls_of contexts old.writer claims lines
  pub late : (n : ℕ) → n < length claims → length new.claims ≤ length old.claims + length old.writer.waiting + n
      → calls_behind contexts old.writer claims n lines < refused

-- ---- one thing after the other

-- One call. First the claims that wait are announced, once; where none waits, nothing is done there. Then the call is made under a
-- context, and its record kept, and one injection is asked for.
pub record CallsOnce (call : CallContent) (old new : BookState) : Type 0 where
  pub ctx : Context
  pub severity : Severity
  pub payload : Arguments
  pub said : call ≡ content ctx severity payload
  pub announced : BookState
  pub announces : KeepsAnnounced old announced (length announced.writer.waiting)
  pub at : ℕ
  pub answer : Answer
  pub logged : BookState
  pub logs : Keeps announced ctx severity at payload answer logged
  pub asks : asked new.writer ≡ asked logged.writer + 1
  pub rest : new ≡ record logged { writer = record logged.writer { injections = new.writer.injections } }

-- these calls, one after the other
abbrev pub CallsInTurn : List CallContent → BookState → BookState → Type 0
CallsInTurn [] old new = new ≡ old
CallsInTurn (call ∷ calls) old new = (mid : BookState) × CallsOnce call old mid × CallsInTurn calls mid new

-- What a line asks to claim, where the writer claimed contexts with these handles before and has those now. The claim joins those
-- that wait, and these are announced, once.
abbrev pub ClaimsAsked : Option ClaimLine → List Context → List Context → BookState → BookState → Type 0
ClaimsAsked None own now old new = (now ≡ own) × (new ≡ old)
ClaimsAsked (Some line) own now old new = (ctx : Context) × (now ≡ own ++ ctx ∷ []) × KeepsRegistered old line.ctid line.level line.text ctx new

-- One line: its claim, or its calls.
pub record LineInTurn (contexts own now : List Context) (entry : ScenarioLine) (old new : BookState) : Type 0 where
  pub claimed : BookState
  pub claims : ClaimsAsked (register_in old.writer.push.number entry) own now old claimed
  pub calls : CallsInTurn (calls_in contexts own old.writer.app old.writer.push.number entry) claimed new

-- these lines, one after the other
abbrev pub LinesInTurn : List Context → List Context → List Context → List ScenarioLine → BookState → BookState → Type 0
LinesInTurn contexts own now [] old new = (now ≡ own) × (new ≡ old)
LinesInTurn contexts own now (entry ∷ lines) old new =
    (mid : BookState) × (known : List Context) × LineInTurn contexts own known entry old mid × LinesInTurn contexts known now lines mid new

-- All lines one after the other, and behind the last one announcement more. So claims are announced as they join, before each call
-- and at the end, once each, and never else.
pub record InTurn (contexts : List Context) (lines : List ScenarioLine) (old new : BookState) : Type 0 where
  pub own : List Context
  pub last : BookState
  pub all : LinesInTurn contexts [] own lines old last
  pub announced : KeepsAnnounced last new (length new.writer.waiting)

-- ---- all together

-- The book was played: where each `register` line found a place left, all that the lines ask was done, one thing after the other.
-- Where one found none, which no run of a scenario comes to, there are no more records and `register` calls than the lines ask for.
pub record HasPlayed (contexts : List Context) (lines : List ScenarioLine) (old new : BookState) : Type 0 where
  pub stays : Stays old new
  pub few : length new.records ≤ length old.records + count_of old.writer.push.number lines
  pub registers : new.writer.registers ≤ old.writer.registers + length (registers_of old.writer.push.number lines)
  pub all : new.writer.table_full ≡ old.writer.table_full → Plays contexts lines old new
  pub in_turn : new.writer.table_full ≡ old.writer.table_full → InTurn contexts lines old new

-- ---- for inner functions

-- These calls were made, one after the other, and nothing else; before each, the claims that waited were announced.
pub record Makes (calls : List CallContent) (old new : BookState) : Type 0 where
  pub kept : List Record
  pub refused : ℕ
  pub stays : Stays old new
  pub does : Does kept [] refused old new
  pub contents : map content_of kept ≡ calls
  pub in_turn : CallsInTurn calls old new
  pub registers : new.writer.registers ≡ old.writer.registers
  pub table_full : new.writer.table_full ≡ old.writer.table_full

-- What one line asks was done, where the writer claimed contexts with these handles before. With its claim, where it made one, it has
-- those handles. Where the ring didn't take this claim, a push was refused.
pub record PlaysLine (contexts own now : List Context) (entry : ScenarioLine) (old new : BookState) : Type 0 where
  pub kept : List Record
  pub claims : List Claimed
  pub refused : ℕ
  pub stays : Stays old new
  pub does : Does kept claims refused old new
  pub registered : ArePairs (IsClaimOf old.writer) (option_to_list (register_in old.writer.push.number entry)) claims
  pub handles : now ≡ own ++ handles_of old.writer claims
  pub calls : map content_of kept ≡ calls_in contexts own old.writer.app old.writer.push.number entry
  pub late : length new.claims < length old.claims + length old.writer.waiting + length claims → length claims ≤ refused
  pub in_turn : LineInTurn contexts own now entry old new
  pub registers : new.writer.registers ≡ old.writer.registers + length claims
  pub table_full : new.writer.table_full ≡ old.writer.table_full

-- It asks for a claim, and no place was left for it.
pub record FindsFull (entry : ScenarioLine) (old new : BookState) : Type 0 where
  pub stays : Stays old new
  pub records : new.records ≡ old.records
  pub asks : is_some (register_in old.writer.push.number entry) ≡ true
  pub registers : new.writer.registers ≡ old.writer.registers + 1
  pub table_full : new.writer.table_full ≡ old.writer.table_full + 1
