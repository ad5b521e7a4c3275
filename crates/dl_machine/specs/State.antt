-- What a daemon is between two steps, whatever else it is made of.
use Rattle.std.specs.Prelude.{◌≡◌, ℕ, ◌-◌, Bool, List, [], slice_get, slice_set, Option, Some, None}
use Rattle.dl_bytes.specs.Limits.{message_limit}
use Rattle.dl_bytes.specs.declared.user.UserMsg.{UserMsg}
use Rattle.dl_channel.specs.declared.outcome.ChannelEnd.{ChannelEnd}
use Rattle.dl_core.specs.State.{Core}
use Rattle.dl_events.specs.declared.event.Event.{Event}
use Rattle.dl_events.specs.declared.event.Why.{Why}
use Rattle.dl_message.specs.Cutting.{Cutting, unfed}
use Rattle.dl_outside.specs.Told.{FolderTold, LinkTold}
use Rattle.dl_socket.specs.Channels.{Channels}
use Rattle.dl_taking.specs.Took.{Took}

-- What is left of a client's turn: its requests that are still to be served; and how many of its closing turns so far were not quiet.
pub record Turn : Type 0 where
  pub asks : List (List ℕ)
  pub tried : ℕ

-- A client that came: what its link tells, what its cutter holds, why it is to be closed, until it is, and what is left of its turn.
pub record Client : Type 0 where
  pub link : LinkTold
  pub cutter : Cutting
  pub due : Option Why
  pub turn : Turn

-- A program that came: what its link tells, why its channel ends, and its messages that are still to be taken in.
pub record Program : Type 0 where
  pub link : LinkTold
  pub end : Option ChannelEnd
  pub said : List UserMsg

-- The core, the events where the journal keeps them, and what the folder tells; the clients and the programs, by their numbers from 1; the channels; what was
-- taken of the rings and loss words of this process; how many links were dropped; whether memory was wanted; and whether the daemon stops.
pub record State : Type 0 where
  pub core : Core
  pub events : Option (List Event)
  pub folder : FolderTold
  pub clients : List Client
  pub channels : Channels
  pub programs : List Program
  pub took : Took
  pub dropped : ℕ
  pub wanted : Bool
  pub stops : Bool

-- between two turns
abbrev pub no_turn : Turn
no_turn = record { asks = []; tried = 0 }

-- a client that sent nothing yet
abbrev pub new_client : LinkTold → Client
new_client link = record { link = link; cutter = unfed message_limit; due = None; turn = no_turn }

-- a program that said nothing yet
abbrev pub new_program : LinkTold → Program
new_program link = record { link = link; end = None; said = [] }

-- ---- one of many, by its number

-- it is the one of this number
abbrev pub IsOne : {A : Type 0} → ℕ → List A → A → Type 0
IsOne number all one = slice_get all (number - 1) ≡ Some one

-- the one of a number was so and is so now, and the others stand
pub record Changes {A : Type 0} (number : ℕ) (was now : A) (old new : List A) : Type 0 where
  pub there : IsOne number old was
  pub is : new ≡ slice_set old (number - 1) now

-- ---- clients between two turns

-- nothing that it asked is still to be served, and it is not to be closed
abbrev pub IsIdle : Client → Type 0
IsIdle client = (client.due ≡ None) × (client.turn.asks ≡ [])

abbrev pub AreIdle : List Client → Type 0
AreIdle clients = (place : ℕ) (client : Client) → slice_get clients place ≡ Some client → IsIdle client
