-- What a receiver counts messages by: their session, or their context. AUTOSAR DLT has one counter for each.
use Rattle.std.specs.Prelude.{ℕ, ◌==◌, ◌&&◌, Bool, List, Option, Some, None, option_map, if◌then◌else◌}
use Rattle.std.specs.Option.{option_and_then}
use Rattle.std.specs.Str.{bytes_eq}
use Rattle.dl_bytes.specs.Htyp.{htyp_of, has_extended}
use Rattle.dl_bytes.specs.Id.{zero_id}
use Rattle.dl_headers.specs.declared.header.Extended.{Extended}
use Rattle.dl_headers.specs.declared.header.Standard.{Standard}
use Rattle.dl_headers.specs.Reading.{mcnt_of}
use Rattle.dl_receive.specs.declared.counting.Counted.{Counted}
use Rattle.dl_receive.specs.declared.counting.Counter.{Counter}
use Rattle.dl_receive.specs.declared.counting.Counting.{Counting}
use Rattle.dl_receive.specs.declared.counting.Counting.TheVariants.{Sessions, Contexts}
use Rattle.dl_receive.specs.declared.counting.Entry.{Entry}
use Rattle.dl_receive.specs.declared.kind.Kind.{Kind}
use Rattle.dl_receive.specs.declared.kind.Kind.TheVariants.{Log, Overflow, Other}
use Rattle.dl_receive.specs.MessageKind.{apid_of, ctid_of, kind_of, session_of}

-- the messages of both are counted together
abbrev pub same_counted : Counted → Counted → Bool
same_counted a b = (a.seid == b.seid) && (bytes_eq a.apid b.apid && bytes_eq a.ctid b.ctid)

-- a message of this kind with this counter
abbrev pub entry_with : Kind → Option Counter → Entry
entry_with kind counter = record { kind = kind; counter = counter }

-- ---- by session

-- a session as a whole: it has no ids
abbrev pub of_session : ℕ → Counted
of_session seid = record { seid = seid; apid = zero_id; ctid = zero_id }

-- the counter of a log message
abbrev pub session_counter : (seid mcnt : ℕ) → Counter
session_counter seid mcnt = record { counted = of_session seid; mcnt = mcnt }

-- log messages alone take one
abbrev pub by_session : Kind → Option Counter
by_session (Log seid mcnt apid ctid len) = Some (session_counter seid mcnt)
by_session (Overflow apid counter) = None
by_session (Other len) = None

-- ---- by context

-- the counter of a context of a session
abbrev pub context_counter : (mcnt : ℕ) → (apid ctid : List ℕ) → ℕ → Counter
context_counter mcnt apid ctid seid = record { counted = record { seid = seid; apid = apid; ctid = ctid }; mcnt = mcnt }

-- whatever its type (MSTP), a message takes one that has an extended header and tells its session
abbrev pub counter_at : List ℕ → Option Counter
counter_at message =
    if has_extended (htyp_of message)
    then option_map (context_counter (mcnt_of message) (apid_of message) (ctid_of message)) (session_of message)
    else None

-- the same by its headers
abbrev pub counter_in : Standard → Option Extended → Option Counter
counter_in standard extended =
    option_and_then (λ head. option_map (context_counter standard.mcnt head.apid head.ctid) standard.session) extended

-- the report of lost messages takes none
abbrev pub by_context : Kind → List ℕ → Option Counter
by_context (Log seid mcnt apid ctid len) message = counter_at message
by_context (Overflow apid counter) message = None
by_context (Other len) message = counter_at message

-- ---- either way

abbrev pub counter_by : Counting → Kind → List ℕ → Option Counter
counter_by Sessions kind message = by_session kind
counter_by Contexts kind message = by_context kind message

-- what a message is, and the counter that it takes
abbrev pub entry_of : Counting → List ℕ → Entry
entry_of counting message = entry_with (kind_of message) (counter_by counting (kind_of message) message)
