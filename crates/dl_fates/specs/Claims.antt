-- What is printed of a log call that was filtered before its context was given a level: the line that claimed the context, and that the daemon
-- never took the claim.
use Rattle.std.specs.Prelude.{ℕ, ◌==◌, ◌&&◌, nat_lt, Bool, true, false, List, [], ◌++◌, codes, Option, Some, None, if◌then◌else◌}
use Rattle.std.specs.Fmt.{decimal}
use Rattle.std.specs.List.{filter_map, list_any}
use Rattle.std.specs.Option.{option_map, option_map_or}
use Rattle.std.specs.Str.{bytes_eq}
use Rattle.dl_events.specs.declared.event.Event.{Event}
use Rattle.dl_events.specs.declared.event.Event.TheVariants.{Claim}
use Rattle.dl_events.specs.declared.record.Record.{Record}
use Rattle.dl_events.specs.declared.record.Answer.TheVariants.{Filtered}
use Rattle.dl_model.specs.Along.{last_that}
use Rattle.dl_model.specs.Registry.{slot_of}
use Rattle.dl_model.specs.Report.{is_answer}
use Rattle.dl_fates.specs.declared.call.CallAt.{CallAt}
use Rattle.dl_fates.specs.declared.claim_lines.ClaimAt.{ClaimAt}

-- ---- the claim that a call names

-- a claim of the call's writer and of its id, in a line before it
abbrev pub is_named : CallAt → Record → ClaimAt → Bool
is_named at r claim = (claim.writer == at.writer) && bytes_eq claim.ctid r.item.ctid && nat_lt claim.line at.line

-- the line of the last one
abbrev pub claim_line : List ClaimAt → CallAt → Record → Option ℕ
claim_line claims at r = option_map (λ claim. claim.line) (last_that (is_named at r) claims)

-- ---- the claims that the daemon took

-- the slot that a Claim event is for
abbrev pub slot_claimed : Event → Option ℕ
slot_claimed (Claim claim moment) = Some (slot_of claim.app claim.place)
slot_claimed _ = None

abbrev pub slots_claimed : List Event → List ℕ
slots_claimed events = filter_map slot_claimed events

-- ---- words

-- it was filtered, and its slot had not been given a level yet
abbrev pub is_unset : Record → Bool
is_unset r = is_answer Filtered r.answer && (r.version == 0)

unfoldable pub never_words : List ℕ
never_words = codes ", never taken"

abbrev pub claimed_words : ℕ → Bool → List ℕ
claimed_words line true = codes "; claimed in line " ++ decimal line
claimed_words line false = codes "; claimed in line " ++ decimal line ++ never_words

-- the daemon took the claim of the call's slot
abbrev pub is_taken : List ℕ → Record → Bool
is_taken taken r = list_any (λ slot. slot == r.slot) taken

-- what is said of the claim of a call, where the daemon took those for these slots
abbrev pub claim_words : List ClaimAt → List ℕ → CallAt → Record → List ℕ
claim_words claims taken at r = if is_unset r then option_map_or (λ line. claimed_words line (is_taken taken r)) (claim_line claims at r) [] else []
