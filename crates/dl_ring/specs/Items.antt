-- What lies in a ring: log calls with their payloads, and claims.
use Rattle.std.specs.Prelude.{Bool, true, false, List, Option, Some, None}
use Rattle.std.specs.List.{filter_map}
use Rattle.dl_bytes.specs.Claim.{Claimed}
use Rattle.dl_bytes.specs.Payload.{Arguments}
use Rattle.dl_bytes.specs.declared.item.Item.{Item}
use Rattle.dl_ring.specs.declared.call.Call.{Call}
use Rattle.dl_ring.specs.declared.item.RingItem.{RingItem}
use Rattle.dl_ring.specs.declared.item.RingItem.TheVariants as ring
use Rattle.dl_ring.specs.declared.item.Taken.{Taken}
use Rattle.dl_ring.specs.declared.item.Taken.TheVariants as answer

-- the message of a call with this payload
abbrev pub item_with : Call → Arguments → Item
item_with c payload = record { app = c.app; writer = c.writer; severity = c.severity; mcnt = c.mcnt; at = c.at; apid = c.apid; ctid = c.ctid; call = c.number; payload = payload }

-- the call of a message
abbrev pub call_of : Item → Call
call_of item = record { app = item.app; writer = item.writer; severity = item.severity; mcnt = item.mcnt; at = item.at; apid = item.apid; ctid = item.ctid; number = item.call }

-- the log call that was pushed, where it is one
abbrev pub call_in : RingItem → Option Item
call_in (ring.Log item) = Some item
call_in (ring.Register claim) = None

-- the claim that was pushed, where it is one
abbrev pub claim_in : RingItem → Option Claimed
claim_in (ring.Log item) = None
claim_in (ring.Register claim) = Some claim

-- the log calls among what was pushed, in order
abbrev pub calls_in : List RingItem → List Item
calls_in items = filter_map call_in items

-- the claims among it, in order
abbrev pub claims_in : List RingItem → List Claimed
claims_in items = filter_map claim_in items

-- what a take gave that left the caller's item so: the call that is in it, the claim of the answer, or nothing
abbrev pub took : Taken → Item → Option RingItem
took answer.Call item = Some (ring.Log item)
took (answer.Claim claim) item = Some (ring.Register claim)
took answer.Nothing item = None

-- whether a take gave a call
abbrev pub is_call : Taken → Bool
is_call answer.Call = true
is_call (answer.Claim claim) = false
is_call answer.Nothing = false
