-- What a reader of arguments has still to give.
use Rattle.std.specs.Prelude.{◌≡◌, ℕ, zero, suc, ◌-◌, ◌≤◌, List, [], ◌∷◌, length, Option, Some, None, Result, Ok, Err}
use Rattle.dl_bytes.specs.Bytes.{IsBytes}
use Rattle.dl_bytes.specs.declared.cursor.Order.{Order}
use Rattle.dl_bytes.specs.Number.{At}
use Rattle.dl_args.specs.declared.arg.Arg.{Arg}
use Rattle.dl_args.specs.declared.arg.ArgFault.{ArgFault}
use Rattle.dl_args.specs.declared.arg_ref.ArgRef.{ArgRef}
use Rattle.dl_args.specs.Borrowed.{arg_in}
use Rattle.dl_args.specs.Reading.{arg_at}

-- the arguments to come, and the fault that stands behind them, or else the end
pub record Coming : Type 0 where
  pub args : List Arg
  pub fault : Option ArgFault

-- one argument, and what comes behind it; or its fault
abbrev pub from_first : Result (Arg × At) ArgFault → (At → Coming) → Coming
from_first (Ok first) others = record { args = first.0 ∷ (others first.1).args; fault = (others first.1).fault }
from_first (Err fault) others = record { args = []; fault = Some fault }

-- what comes of so many arguments; their places are counted from the front of the whole payload, which has this length
unfoldable pub coming : ℕ → ℕ → At → Coming
coming whole zero c = record { args = []; fault = None }
coming whole (suc count) c = from_first (arg_at (whole - length c.rest) c) (λ left. coming whole count left)

-- what comes of the first arguments of a payload, so many of them
abbrev pub coming_of : Order → ℕ → List ℕ → Coming
coming_of order count payload = coming (length payload) count (record { rest = payload; order = order })

-- all of it, taken together: the arguments, or the fault
abbrev pub taken_together : List Arg → Option ArgFault → Result (List Arg) ArgFault
taken_together args None = Ok args
taken_together args (Some fault) = Err fault

abbrev pub all_of : Coming → Result (List Arg) ArgFault
all_of c = taken_together c.args c.fault

-- A reader gives the argument that comes next. At the end and at a fault nothing comes any more, and it stays so.
abbrev pub GivesNext : Coming → Option (Result ArgRef ArgFault) → Coming → Type 0
GivesNext old (Some (Ok found)) new = old ≡ record { args = arg_in found ∷ new.args; fault = new.fault }
GivesNext old (Some (Err fault)) new = (old ≡ record { args = []; fault = Some fault }) × (new ≡ old)
GivesNext old None new = (old ≡ record { args = []; fault = None }) × (new ≡ old)

-- what a reader keeps: the bytes that are left are bytes of a payload of this length
pub record IsLeft (whole : ℕ) (c : At) : Type 0 where
  pub within : length c.rest ≤ whole
  pub bytes : IsBytes c.rest
