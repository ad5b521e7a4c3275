-- What reading an argument gives, and what adding it to a payload does.
use Rattle.std.specs.Prelude.{◌≡◌, ℕ, ◌+◌, Bool, true, false, List, ◌++◌, None, Result, Ok, Err, string_bytes}
use Rattle.dl_bytes.specs.Payload.{Arguments}
use Rattle.dl_args.specs.Argument.{written, HasRoom}
use Rattle.dl_args.specs.declared.arg.Arg.{Arg}
use Rattle.dl_args.specs.declared.arg.Arg.TheVariants as arg
use Rattle.dl_script_fields.specs.declared.kind.ScriptKind.{ScriptKind}
use Rattle.dl_script_fields.specs.declared.kind.LineError.{LineError}
use Rattle.dl_script_fields.specs.declared.kind.LineError.TheVariants.{Fault, OutOfMemory}
use Rattle.dl_script_fields.specs.declared.argument.Value.{Value}
use Rattle.dl_script_fields.specs.declared.argument.Value.TheVariants as value

-- the argument that a value is, without a name
abbrev pub unnamed : Value → Arg
unnamed (value.Bool truth) = arg.Bool None truth
unnamed (value.Sint width number) = arg.Sint None None width number
unnamed (value.Uint width number) = arg.Uint None None width number
unnamed (value.Text text) = arg.Text None text.now true
unnamed (value.Made text) = arg.Text None (string_bytes text) true
unnamed (value.Raw bytes) = arg.Raw None bytes.items

-- the payload with the bytes of one more argument
abbrev pub added : List ℕ → Arguments → Arguments
added bytes payload = record { bytes = payload.bytes ++ bytes; args = payload.args + 1 }

-- The argument of a field is added, or has no room and leaves the payload as it was, and the answer says which. A field
-- that says no argument leaves the payload too.
abbrev pub AddsArgument : Result Arg ScriptKind → Result Bool LineError → Arguments → Arguments → Type 0
AddsArgument said (Ok true) old new = (a : Arg) × (said ≡ Ok a) × HasRoom (written a) old × (new ≡ added (written a) old)
AddsArgument said (Ok false) old new = ((a : Arg) × (said ≡ Ok a) × ¬ HasRoom (written a) old) × (new ≡ old)
AddsArgument said (Err (Fault kind)) old new = (said ≡ Err kind) × (new ≡ old)
AddsArgument said (Err OutOfMemory) old new = new ≡ old
