-- The account of what was logged: each call was filtered, admitted in the order of its ring, or lost and told.
use Rattle.std.specs.Prelude.{◌≡◌, ℕ, ◌+◌, ◌-◌, ◌%◌, ◌≤◌, ◌==◌, Bool, not, List, [], ◌∷◌, length, map, slice_get, Option, Some, None, if◌then◌else◌}
use Rattle.std.specs.List.{filter, filter_map, range_with_len, AllByRecursion}
use Rattle.dl_bytes.specs.Claim.{Claimed}
use Rattle.dl_bytes.specs.Level.{passes}
use Rattle.dl_bytes.specs.declared.item.Item.{Item}
use Rattle.dl_events.specs.declared.event.Event.{Event}
use Rattle.dl_events.specs.declared.event.Event.TheVariants as event
use Rattle.dl_events.specs.declared.record.Record.{Record}
use Rattle.dl_events.specs.declared.record.Answer.{Answer}
use Rattle.dl_events.specs.declared.record.Answer.TheVariants as answer
use Rattle.dl_model.specs.History.{history}
use Rattle.dl_model.specs.Report.{is_answer, reported}

-- ---- the order of admission

-- what the daemon took of a ring: a call, by its writer and its number, or a claim
pub data Took : Type 0 where
  TookCall : ℕ → ℕ → Took
  TookClaim : Claimed → Took

abbrev pub took_of : ℕ → Event → Option Took
took_of app (event.Log other writer call moment) = if other == app then Some (TookCall writer call) else None
took_of app (event.Claim claim moment) = if claim.app == app then Some (TookClaim claim) else None
took_of app _ = None

-- what the daemon took of an application's ring, in order
abbrev pub takes : ℕ → List Event → List Took
takes app events = filter_map (took_of app) events

abbrev pub logged_of : ℕ → Event → Option (ℕ × ℕ)
logged_of app (event.Log other writer call moment) = if other == app then Some (writer, call) else None
logged_of app _ = None

-- the calls among it, each by its writer and its number
abbrev pub order : ℕ → List Event → List (ℕ × ℕ)
order app events = filter_map (logged_of app) events

abbrev pub of_writer : ℕ → ℕ × ℕ → Bool
of_writer writer call = call.0 == writer

abbrev pub claim_of : ℕ → Event → Option Claimed
claim_of app (event.Claim claim moment) = if claim.app == app then Some claim else None
claim_of app _ = None

-- the claims among it
abbrev pub claims : ℕ → List Event → List Claimed
claims app events = filter_map (claim_of app) events

abbrev pub claimed_by : ℕ → Claimed → Bool
claimed_by writer claim = claim.writer == writer

-- a call by its writer and its number
abbrev pub name_of : Item → ℕ × ℕ
name_of item = (item.writer, item.call)

-- the records of a writer that have this answer
abbrev pub with_answer : Answer → List Record → List Record
with_answer what records = filter (λ r. is_answer what r.answer) records

-- ---- one record

-- its level is the one that its slot held at its version, and it was filtered exactly where that level doesn't let it
-- through
pub record IsExact (first : ℕ) (events : List Event) (r : Record) : Type 0 where
  pub not_before : first ≤ r.version
  pub held : slice_get (history events r.slot) (r.version - first) ≡ Some r.held
  pub filtered : is_answer answer.Filtered r.answer ≡ not (passes r.item.severity r.held)

-- ---- the records of one writer

-- its calls are numbered from 1, and none is missing
abbrev pub AreNumbered : List Record → Type 0
AreNumbered records = map (λ r. r.item.call) records ≡ range_with_len 1 (length records)

-- the message counter of each is how many of the calls before it passed, modulo 256
abbrev pub AreCounted : ℕ → List Record → Type 0
AreCounted passed [] = Unit {0}
AreCounted passed (r ∷ records) =
    (r.item.mcnt ≡ passed % 256) × AreCounted (if is_answer answer.Filtered r.answer then passed else passed + 1) records

-- for one slot, no later call loads an older version
abbrev pub IsNoOlder : Record → Record → Type 0
IsNoOlder earlier later = earlier.slot ≡ later.slot → earlier.version ≤ later.version

abbrev pub NeverFall : List Record → Type 0
NeverFall [] = Unit {0}
NeverFall (r ∷ records) = AllByRecursion (IsNoOlder r) records × NeverFall records

-- The account of one writer of an application: its calls are numbered, each is exact, and those that its ring took were
-- admitted in their order, each once; so were the claims that its ring took. The ring refused at least as many pushes as calls were lost.
pub record WriterAccount (first : ℕ) (events : List Event) (app writer refusals : ℕ) (pushed : List Claimed) (records : List Record) : Type 0 where
  pub numbered : AreNumbered records
  pub counted : AreCounted 0 records
  pub exact : AllByRecursion (IsExact first events) records
  pub never_fall : NeverFall records
  pub in_order : filter (of_writer writer) (order app events) ≡ map (λ r. name_of r.item) (with_answer answer.Queued records)
  pub claimed : filter (claimed_by writer) (claims app events) ≡ pushed
  pub refused : length (with_answer answer.Lost records) ≤ refusals

-- ---- losses of an application

-- what the journal tells of an application's losses, with those that are pending, are its lost calls
abbrev pub AreTold : ℕ → List Event → ℕ → List Record → Type 0
AreTold app events pending records = reported app events + pending ≡ length (with_answer answer.Lost records)
