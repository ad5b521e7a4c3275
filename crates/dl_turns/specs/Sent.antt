-- What a client sent: what its cutter holds of it, and the requests that more bytes make whole.
use Rattle.std.specs.Prelude.{◌≡◌, ℕ, ◌≤◌, Bool, true, List, [], ◌∷◌, ◌++◌, length, drop, is_some}
use Rattle.dl_bytes.specs.Limits.{message_limit}
use Rattle.dl_message.specs.Cut.{IsOpen, rest_fault, rest_of}
use Rattle.dl_message.specs.Cutting.{Cutting}
use Rattle.dl_message.specs.Requests.{requests}
use Rattle.dl_core.specs.Serving.{IsRequest}
use Rattle.dl_turns.specs.declared.cutting.Next.{Next}
use Rattle.dl_turns.specs.declared.cutting.Next.TheVariants.{Request, NoMore, Bad}

-- The cutter was made for clients and was fed just this stream. It gave every whole message of it, and waits for more of the next one,
-- for which it has room.
pub record HasCut (stream : List ℕ) (cutter : Cutting) : Type 0 where
  pub limit : cutter.limit ≡ message_limit
  pub rest : cutter.unread ≡ rest_of message_limit stream
  pub good : IsOpen message_limit cutter.unread

-- a bad header stands behind the whole messages of a stream
abbrev pub is_bad : List ℕ → Bool
is_bad stream = is_some (rest_fault message_limit (rest_of message_limit stream))

-- What comes next in bytes, of which the first ones are fed and the others are not: a request, with so many of the others fed, and what
-- is left behind it; nothing more, and all of them are fed; or a bad header.
abbrev pub Finds : List ℕ → List ℕ → Next → Cutting → Type 0
Finds bytes piece (Request taken) cutter =
    (taken ≤ length piece) × IsRequest cutter.message
    × (requests bytes ≡ cutter.message ∷ requests (cutter.unread ++ drop taken piece))
    × (rest_of message_limit bytes ≡ rest_of message_limit (cutter.unread ++ drop taken piece))
Finds bytes piece NoMore cutter = (requests bytes ≡ []) × HasCut bytes cutter
Finds bytes piece Bad cutter = (requests bytes ≡ []) × (is_bad bytes ≡ true)
