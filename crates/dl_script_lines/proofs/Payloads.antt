-- The payload of a log call, argument by argument.
use Rattle.std.proofs.Common.{◌≡◌, ℕ, suc, ◌+◌, ◌≤◌, Bool, true, false, leb, cond, ◌&&◌, List, [], ◌∷◌, ◌++◌, length, Option, Some, None, Result, Ok, Err, refl, ap, append-nil, append_assoc, length-append, inl, inr, arith}
use Rattle.std.specs.List.{flat_map}
use Rattle.std.proofs.lemmas.Bool.{le-leb, cases_Bool, leb-true, and_parts}
use Rattle.dl_bytes.specs.Payload.{Arguments}
use Rattle.dl_args.specs.Argument.{written, HasRoom}
use Rattle.dl_args.specs.declared.arg.Arg.{Arg}
use Rattle.dl_script_fields.specs.Added.{added}
use Rattle.dl_script_fields.specs.Argument.{argument_of, arguments_of, payload_of}
use Rattle.dl_script_fields.specs.Kind.{◌>>=◌}
use Rattle.dl_script_lines.specs.Line.{payload_fields}
use Rattle.dl_script_fields.specs.declared.kind.ScriptKind.{ScriptKind}

-- a payload, where it is within its limits
abbrev fits : List ℕ → ℕ → Bool
fits bytes args = leb (length bytes) 1390 && leb args 255

abbrev whole : List ℕ → ℕ → Option Arguments
whole bytes args = cond (fits bytes args) (Some (record { bytes = bytes; args = args })) None

-- a payload with more arguments, where nothing was left out before
abbrev pub with_args : Bool → Arguments → List Arg → Option Arguments
with_args true payload args = whole (payload.bytes ++ flat_map written args) (payload.args + length args)
with_args false payload args = None

-- the same with those of fields
abbrev pub with_fields : Bool → Arguments → List (List ℕ) → Result (Option Arguments) ScriptKind
with_fields fit payload fields = arguments_of fields >>= λ args. Ok (with_args fit payload args)

-- ---- one field more
