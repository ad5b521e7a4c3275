-- Reading arguments one after the other, as a loop does.
use Rattle.std.proofs.Common.{◌≡◌, ℕ, zero, suc, ◌-◌, List, ◌∷◌, ◌++◌, length, Option, Some, None, Result, Ok, Err, refl, ap, subst, ◌∙◌}
use Rattle.std.specs.Prelude.{IfOk}
use Rattle.dl_bytes.specs.Bytes.{IsBytes}
use Rattle.dl_bytes.specs.declared.cursor.Order.{Order}
use Rattle.dl_bytes.specs.Number.{At}
use Rattle.dl_args.specs.declared.arg.Arg.{Arg}
use Rattle.dl_args.specs.declared.arg.ArgFault.{ArgFault}
use Rattle.dl_args.specs.declared.arg.ArgFault.TheVariants.{Short, Unsupported, Value, OutOfMemory}
use Rattle.dl_args.specs.Coming.{from_first, coming, taken_together, all_of}
use Rattle.dl_args.specs.Reading.{◌>>=◌, ReturnsAll, arg_at, args_at, arguments_of}
use Rattle.dl_args.specs.ReadForm.{AreSpellings}
use Rattle.dl_args.proofs.Parts.{at_front}
use Rattle.dl_args.proofs.Faults.{WantsNone, args_want}
use Rattle.dl_args.proofs.ArgForms.{args_take, args_again}

with_first : (first : Arg) (args : List Arg) (fault : Option ArgFault) → taken_together (first ∷ args) fault ≡ (taken_together args fault >>= λ others. Ok (first ∷ others))
with_first first args None = refl
with_first first args (Some fault) = refl

-- what comes one by one is what is read of the payload
from_is : (whole count : ℕ) (r : Result (Arg × At) ArgFault) → ((c : At) → all_of (coming whole count c) ≡ args_at whole count c)
    → all_of (from_first r (λ left. coming whole count left)) ≡ (r >>= λ first. args_at whole count first.1 >>= λ others. Ok (first.0 ∷ others))
from_is whole count (Ok first) is =
    let others = coming whole count first.1 in
    with_first first.0 others.args others.fault ∙ ap (λ (r : Result (List Arg) ArgFault). r >>= λ xs. Ok (first.0 ∷ xs)) (is first.1)
from_is whole count (Err fault) is = refl

pub coming_is : (whole count : ℕ) (c : At) → all_of (coming whole count c) ≡ args_at whole count c
unfolding coming args_at
coming_is whole zero c = refl
coming_is whole (suc count) c = from_is whole count (arg_at (whole - length c.rest) c) (coming_is whole count)

-- arguments that can't be read
abbrev refused : ArgFault → Result (List Arg) ArgFault
refused fault = Err fault

-- a fault is told as it is
pub told : (fault : ArgFault) (total : Result (List Arg) ArgFault) → total ≡ Err fault → ReturnsAll (Err fault) total
told (Short place) total e = e
told (Unsupported place info) total e = e
told (Value place) total e = e
told OutOfMemory total e = tt

-- ---- what the exact result says of the form that is read

pub is_found : (order : Order) (count : ℕ) (payload : List ℕ) (r : Result (List Arg) ArgFault) → IsBytes payload → ReturnsAll r (arguments_of order count payload)
    → IfOk r (λ args. (front : List ℕ) × (rest : List ℕ) × AreSpellings order args front × (payload ≡ front ++ rest) × (length args ≡ count))
is_found order count payload (Ok args) small e = args_take order (length payload) count (at_front order payload) args refl small e
is_found order count payload (Err fault) small e = tt

pub only_these : (order : Order) (count : ℕ) (payload : List ℕ) (r : Result (List Arg) ArgFault) → ReturnsAll r (arguments_of order count payload)
    → (args : List Arg) (front rest : List ℕ) → AreSpellings order args front → payload ≡ front ++ rest → length args ≡ count → ReturnsAll r (Ok args)
only_these order count payload r exact args front rest form parts len =
    let again : arguments_of order count payload ≡ Ok args = rw (parts, ← len) (args_again order (length (front ++ rest)) args front rest form) in
    subst (λ (read : Result (List Arg) ArgFault). ReturnsAll r read) again exact

-- what is read, with any fault, is told as it is
is_all : (r : Result (List Arg) ArgFault) → ReturnsAll r r
is_all (Ok args) = refl
is_all (Err fault) = told fault (Err fault) refl

pub only_read : (order : Order) (count : ℕ) (payload : List ℕ) (r : Result (List Arg) ArgFault) → r ≡ arguments_of order count payload
    → (args : List Arg) (front rest : List ℕ) → AreSpellings order args front → payload ≡ front ++ rest → length args ≡ count → ReturnsAll r (Ok args)
only_read order count payload r e = only_these order count payload r (subst (ReturnsAll r) e (is_all r))

-- where reading has a fault, nothing is in the form that is read
pub only_fault : (order : Order) (count : ℕ) (payload : List ℕ) (fault : ArgFault) (r : Result (List Arg) ArgFault) → r ≡ Err fault → arguments_of order count payload ≡ Err fault
    → (args : List Arg) (front rest : List ℕ) → AreSpellings order args front → payload ≡ front ++ rest → length args ≡ count → ReturnsAll r (Ok args)
only_fault order count payload fault r e exact = rw e (only_these order count payload (Err fault) (told fault (arguments_of order count payload) exact))

-- the fault of reading is no want of memory
pub is_no_want : (order : Order) (count : ℕ) (payload : List ℕ) (fault : ArgFault) → arguments_of order count payload ≡ Err fault → refused fault ≡ refused OutOfMemory → ⊥
is_no_want order count payload fault e same = subst (λ (read : Result (List Arg) ArgFault). WantsNone read) (e ∙ same) (args_want (length payload) count (at_front order payload))
