-- The accounts that programs give of their own calls, beside what a stream has of these.
use Rattle.std.specs.Prelude.{◌≡◌, ℕ, ◌+◌, ◌-◌, ◌==◌, not, nat_le, nat_lt, Bool, false, List, [], ◌∷◌, ◌++◌, length, sum, count_by, codes, Some, None, unwrap_or, if◌then◌else◌}
use Rattle.std.specs.Fmt.{decimal}
use Rattle.std.specs.HashMap as hash
use Rattle.std.specs.List.{after_last}
use Rattle.std.specs.Option.{option_map_or}
use Rattle.dl_model.specs.Along.{along}
use Rattle.dl_text.specs.IdText.{id_text}
use Rattle.dl_sessions.specs.Calls.{calls_in}
use Rattle.dl_sessions.specs.declared.ledger.Ledger.{Ledger}
use Rattle.dl_sessions.specs.declared.session.Calls.{Calls}
use Rattle.dl_sessions.specs.declared.session.Context.{Context}
use Rattle.dl_sessions.specs.declared.session.Entry.{Entry}
use Rattle.dl_sessions.specs.declared.session.Latest.{Latest}
use Rattle.dl_sessions.specs.declared.session.Since.{Since}
use Rattle.dl_sessions.specs.declared.session.Told.{Told}
use Rattle.dl_sessions.specs.declared.session.Told.TheVariants as told
use Rattle.dl_sessions.specs.Gaps.{context_of, counted, entries, gap, is_of, latest, latest_of, same_context}
use Rattle.dl_sessions.specs.Text.{session_text, time_text}

-- ---- since the last account of a context

-- the context that an account is about: of the same session
abbrev pub about : Entry → Calls → Context
about e calls = record { ecu = e.session.ecu; apid = e.session.apid; seid = e.session.seid; ctid = calls.ctid }

-- an account about this context
abbrev pub is_about : Context → Entry → Bool
is_about context e = option_map_or (λ calls. same_context (about e calls) context) (calls_in e.calls) false

-- what came since the last one; all, where there is none
abbrev pub since : Context → List Entry → List Entry
since context es = after_last (is_about context) es

-- how many counters were passed over between the messages of a context
abbrev pub gaps_of : Context → List Entry → List ℕ
gaps_of context es = along (λ before e. if is_of context e then gap (latest (is_of context) before) e ∷ [] else []) es

abbrev pub since_of : Context → List Entry → Since
since_of context es = record {
  accounts = counted (count_by (is_about context) es);
  messages = counted (count_by (is_of context) (since context es));
  missing = counted (sum (gaps_of context (since context es)));
  last = latest (is_of context) (since context es);
}

-- with one message of the context more
abbrev pub with_message : Since → Entry → Since
with_message since e = record {
  accounts = since.accounts;
  messages = counted (since.messages + 1);
  missing = counted (since.missing + gap since.last e);
  last = Some (latest_of e);
}

-- how many accounts of a session are missing, by their counter, up to this one: they are messages of a context of their own
abbrev pub accounts_missing : List Entry → Entry → ℕ
accounts_missing before e = (with_message (since_of (context_of e) before) e).missing

-- ---- what is said of an account

-- an account beside what the stream has of the context since the one before. It can't be where more messages are here than it has queued, or where
-- the counters of these went on by more than its calls that passed their level.
abbrev pub verdict_text : Calls → Since → ℕ → List ℕ
verdict_text calls since lacking =
    if since.accounts == 0 then codes "; the first one here"
    else if not (lacking == 0) then codes "; one before it is missing, or it began anew"
    else if nat_lt calls.queued since.messages then codes "; refused: " ++ decimal since.messages ++ codes " here since the one before"
    else if nat_lt (calls.queued + calls.lost) (since.messages + since.missing) then codes "; refused: counters of " ++ decimal (since.messages + since.missing) ++ codes " since the one before"
    else codes "; " ++ decimal since.messages ++ codes " here since the one before, " ++ decimal (calls.queued - since.messages) ++ codes " missing behind the program"

-- the number of the message in the stream, its timestamp, whose it is, and the context that it is about
abbrev pub place_text : ℕ → Entry → List ℕ
place_text place e = codes "account " ++ decimal place ++ codes " " ++ time_text e.ticks ++ session_text e.session

abbrev pub about_text : List ℕ → List ℕ
about_text ctid = codes " " ++ id_text ctid ++ codes ": by its own account"

unfoldable pub heading_text : ℕ → Entry → List ℕ → List ℕ
heading_text place e ctid = place_text place e ++ about_text ctid

-- what the program counted
abbrev pub filtered_text : Calls → List ℕ
filtered_text calls = codes " filtered " ++ decimal calls.filtered ++ codes " by level " ++ decimal calls.level

abbrev pub queued_text : Calls → List ℕ
queued_text calls = codes ", queued " ++ decimal calls.queued ++ codes ", lost " ++ decimal calls.lost

unfoldable pub calls_text : Calls → List ℕ
calls_text calls = filtered_text calls ++ queued_text calls

unfoldable pub account_text : ℕ → Entry → Calls → Since → ℕ → List ℕ
account_text place e calls since lacking = heading_text place e calls.ctid ++ calls_text calls ++ verdict_text calls since lacking ++ codes "\n"

abbrev pub account_here : List Told → Entry → Calls → List ℕ
account_here before e calls =
    account_text (counted (length before + 1)) e calls (since_of (about e calls) (entries before)) (accounts_missing (entries before) e)

-- ---- what is said of messages that were not stored

-- A trace that is begun anew begins with the record: what it tells of would stand between the message before it and the record itself.
unfoldable pub ahead_words : ℕ → List ℕ
ahead_words place =
    if nat_le place 1 then codes " messages before this record"
    else codes " messages between message " ++ decimal (place - 1) ++ codes " and this record"

-- the number of the record in the stream, and how many messages were not stored there
unfoldable pub record_text : ℕ → ℕ → List ℕ
record_text place count = codes "unstored " ++ decimal place ++ codes ": " ++ decimal count ++ ahead_words place

abbrev pub unstored_text : ℕ → ℕ → List ℕ
unstored_text place count = record_text place count ++ codes ", of all applications: the trace had ended\n"

abbrev pub account_line : List Told → Told → List ℕ
account_line before (told.Log e) = option_map_or (account_here before e) (calls_in e.calls) []
account_line before (told.Unstored count) = unstored_text (counted (length before + 1)) count
account_line before _ = []

-- The lines of a stream's accounts and of its records of messages that were not stored, in their order.
abbrev pub accounts_text : List Told → List ℕ
accounts_text stream = along account_line stream

-- ---- what is kept

abbrev pub no_since : Since
no_since = record { accounts = 0; messages = 0; missing = 0; last = None }

-- one context has this, and every other one what it had
abbrev pub HasPut : {S : Type 0} → (old new : hash.HashMap Context Since S) → Context → Since → Type 0
HasPut old new own since = (context : Context) → hash.get same_context new context ≡ (if same_context own context then Some since else hash.get same_context old context)

-- with one account about it more
abbrev pub with_account : Since → Since
with_account since = record { accounts = counted (since.accounts + 1); messages = 0; missing = 0; last = None }

abbrev pub KeepsSince : {S : Type 0} → hash.HashMap Context Since S → List Entry → Type 0
KeepsSince kept es = (context : Context) → unwrap_or (hash.get same_context kept context) no_since ≡ since_of context es

-- a message was noted: its line stands behind the text, and what is kept goes on with it
abbrev pub Notes : {S : Type 0} → List Told → Told → hash.HashMap Context Since S → (text text_now : List ℕ) → Type 0
Notes before t kept text text_now = (text_now ≡ text ++ account_line before t) × KeepsSince kept (entries (before ++ t ∷ []))

-- The accounts of a stream.
pub record IsLedgerOf (stream : List Told) (ledger : Ledger) : Type 0 where
  pub text_is : ledger.text.items ≡ accounts_text stream
  pub keeps : KeepsSince ledger.kept (entries stream)
  pub messages_are : ledger.messages ≡ counted (length stream)
