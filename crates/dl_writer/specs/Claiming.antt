-- Contexts that a writer claims: when a claim is refused, what it leaves, and how claims that wait go into the ring.
use Rattle.std.specs.Prelude.{◌≡◌, ◌⊎◌, ℕ, ◌+◌, ◌<◌, ◌≤◌, nat_lt, List, [], ◌∷◌, ◌++◌, length, map, filter, Option, Some, None, All, if◌then◌else◌}
use Rattle.std.specs.Str.{bytes_eq}
use Rattle.dl_cells.specs.Views.{times}
use Rattle.dl_bytes.specs.Claim.{Claimed}
use Rattle.dl_bytes.specs.Context.{Context}
use Rattle.dl_bytes.specs.Id.{zero_id}
use Rattle.dl_bytes.specs.Limits.{claim_text_limit}
use Rattle.dl_cells.specs.Claims.{given, given_of, refused_of}
use Rattle.dl_cells.specs.ClaimStates.{once_refused}
use Rattle.dl_cells.specs.LevelStates.{ReaderState}
use Rattle.dl_ring.specs.Items.{claims_in}
use Rattle.dl_ring.specs.Order.{MetFull}
use Rattle.dl_ring.specs.declared.item.RingItem.TheVariants.{Register}
use Rattle.dl_writer.specs.declared.fault.RegisterFault.{RegisterFault}
use Rattle.dl_writer.specs.declared.fault.RegisterFault.TheVariants.{ZeroId, TooLong}
use Rattle.dl_writer.specs.State.{WriterState, BookState}

-- ---- a claim

-- No context has the zero id, or a description of more than 48 bytes.
abbrev pub name_fault : List ℕ → List ℕ → Option RegisterFault
name_fault ctid text =
    if bytes_eq ctid zero_id then Some ZeroId
    else if nat_lt claim_text_limit (length text) then Some TooLong
    else None

-- the claim under this number: its place stands behind the contexts that the application had when the writer was made
abbrev pub claim_at : WriterState → ℕ → List ℕ → Option ℕ → List ℕ → Claimed
claim_at w number ctid level text = record { app = w.app; writer = w.push.number; place = w.base + number; ctid = ctid; level = level; text = text }

-- the handle of the context that is claimed so
abbrev pub context_at : WriterState → ℕ → List ℕ → Context
context_at w number ctid = record { app = w.app; place = w.base + number; apid = w.apid; ctid = ctid }

-- one more number given of an application
abbrev pub with_number : ReaderState → ℕ → ℕ → ReaderState
with_number reader app number = record reader { given = reader.given ++ given app number ∷ [] }

-- none left of an application
abbrev pub with_none : ReaderState → ℕ → ReaderState
with_none reader app = record reader { refused = once_refused app reader.refused }

-- one `register` call more, whose claim step gave this number
abbrev pub after_number : WriterState → ℕ → WriterState
after_number w number = record w { reader = with_number w.reader w.app number; registers = w.registers + 1 }

-- one more that found no number left
abbrev pub after_none : WriterState → WriterState
after_none w = record w { reader = with_none w.reader w.app; registers = w.registers + 1 }

-- The claim step gave a number that is one of the application's 64 places; the claim joined those that wait, as the last.
pub record Joins (old : WriterState) (ctid : List ℕ) (level : Option ℕ) (text : List ℕ) (ctx : Context) (new : WriterState) : Type 0 where
  pub number : ℕ
  pub within : old.base + number < 64
  pub handle : ctx ≡ context_at old number ctid
  pub joined : new ≡ record (after_number old number) { waiting = old.waiting ++ claim_at old number ctid level text ∷ [] }

-- No place is left: the claim step gave no number, or one that is none of the 64 places.
abbrev pub IsTableFull : WriterState → WriterState → Type 0
IsTableFull old new =
    (new ≡ record (after_none old) { table_full = old.table_full + 1 })
    ⊎ ((number : ℕ) × (64 ≤ old.base + number) × (new ≡ record (after_number old number) { table_full = old.table_full + 1 }))

-- ---- announcing

-- how many pushes were refused where these claims are left waiting: one, where any is left
abbrev pub refusal_of : List Claimed → ℕ
refusal_of [] = 0
refusal_of (claim ∷ left) = 1

-- this is left waiting since nothing is left, or since the ring was full
abbrev pub IsLeft : WriterState → List Claimed → Type 0
IsLeft w left = (left ≡ []) ⊎ MetFull w.push.capacity w.push.number w.push.pushed

-- The ring took the first claim that waits.
pub record AnnouncesOne (old : WriterState) (claim : Claimed) (new : WriterState) : Type 0 where
  pub left : List Claimed
  pub first : old.waiting ≡ claim ∷ left
  pub pushed : new ≡ record old { push = record old.push { pushed = old.push.pushed ++ Register claim ∷ [] }; waiting = left }

-- It took none: none waits, or its one push was refused by a full ring.
pub record AnnouncesNone (old new : WriterState) : Type 0 where
  pub same : new ≡ record old { push = record old.push { refusals = old.push.refusals + refusal_of old.waiting } }
  pub full : IsLeft old old.waiting

-- The ring took claims that waited, in order, until it refused one or none waited: one refusal more where any is left, and
-- the first of these met a full ring.
pub record Announces (old new : WriterState) (waits : ℕ) : Type 0 where
  pub done : List Claimed
  pub left : List Claimed
  pub parts : old.waiting ≡ done ++ left
  pub pushed : new ≡ record old {
    push = record old.push { pushed = old.push.pushed ++ map Register done; refusals = old.push.refusals + refusal_of left };
    waiting = left;
  }
  pub count : waits ≡ length left
  pub full : (left ≡ []) ⊎ MetFull old.push.capacity old.push.number (old.push.pushed ++ map Register done)

-- The claim joined those that wait, and these were announced.
pub record Registers (old : WriterState) (ctid : List ℕ) (level : Option ℕ) (text : List ℕ) (ctx : Context) (new : WriterState) : Type 0 where
  pub joined : WriterState
  pub joins : Joins old ctid level text ctx joined
  pub announced : Announces joined new (length new.waiting)

-- ---- through a book

-- An announcement, with what the ring took kept behind what was kept before.
pub record AnnouncesInto (old : WriterState) (before : List Claimed) (new : WriterState) (kept : List Claimed) (waits : ℕ) : Type 0 where
  pub announced : Announces old new waits
  pub behind : kept ≡ before ++ announced.done

-- An announcement through a book, which keeps what the ring took.
pub record KeepsAnnounced (old new : BookState) (waits : ℕ) : Type 0 where
  pub announced : Announces old.writer new.writer waits
  pub kept : new ≡ record old { writer = new.writer; claims = old.claims ++ announced.done }

-- The same where a claim joins those that wait first.
pub record KeepsRegistered (old : BookState) (ctid : List ℕ) (level : Option ℕ) (text : List ℕ) (ctx : Context) (new : BookState) : Type 0 where
  pub registered : Registers old.writer ctid level text ctx new.writer
  pub kept : new ≡ record old { writer = new.writer; claims = old.claims ++ registered.announced.done }

-- ---- what is always so

-- where the table was full once, a claim step found no number left, or gave one that is none of the 64 places
abbrev pub IsSpent : WriterState → Type 0
IsSpent w =
    (0 < refused_of w.app w.reader.refused)
    ⊎ ((number : ℕ) × (1 ≤ times number (given_of w.app w.reader.given)) × (64 ≤ w.base + number))

-- the claims of a writer, those that the ring took and then those that wait
abbrev pub claims_of : WriterState → List Claimed
claims_of w = claims_in w.push.pushed ++ w.waiting

-- What is so of a writer's claims at any time: all claim steps were for its own application, each in one of its `register` calls;
-- the table was full only where one of these steps left no place; and its claims are its own, at the places of the numbers that
-- it was given, in order. Numbers that are no place have no claim.
pub record TellsClaims (w : WriterState) : Type 0 where
  pub alone : All (λ g. g.app ≡ w.app) w.reader.given
  pub counted : length (given_of w.app w.reader.given) + refused_of w.app w.reader.refused ≤ w.registers
  pub full : 0 < w.table_full → IsSpent w
  pub placed : map (λ c. c.place) (claims_of w) ≡ map (λ n. w.base + n) (filter (λ n. nat_lt (w.base + n) 64) (given_of w.app w.reader.given))
  pub own : All (λ c. (c.app ≡ w.app) × (c.writer ≡ w.push.number)) (claims_of w)
  pub base : w.base ≤ 64
  pub few : length (given_of w.app w.reader.given) ≤ 64
