-- The account of a context: what became of its calls since the account before.
use Rattle.std.specs.Prelude.{ℕ, ◌-◌, ◌^◌, min, nat_eq, if◌then◌else◌, true, List, [], ◌++◌, codes, None}
use Rattle.dl_args.specs.Argument.{written}
use Rattle.dl_args.specs.declared.arg.Arg.{Arg}
use Rattle.dl_args.specs.declared.arg.Arg.TheVariants.{Text, Uint}
use Rattle.dl_args.specs.declared.width.Width.TheVariants.{W8, W64}
use Rattle.dl_bytes.specs.declared.user.UserMsg.TheVariants.{Overflow}
use Rattle.dl_user.specs.Layout.{user_message}
use Rattle.dl_client.specs.declared.context.Call.{Call}
use Rattle.dl_client.specs.declared.context.Context.{Context}
use Rattle.dl_client.specs.declared.context.Sender.{Sender}
use Rattle.dl_client.specs.declared.message.Source.{Source}
use Rattle.dl_client.specs.Message.{message, user_log}

abbrev pub text : List ℕ → Arg
text bytes = Text None bytes true

abbrev pub count : ℕ → Arg
count n = Uint None None W64 n

abbrev pub level_argument : ℕ → Arg
level_argument n = Uint None None W8 n

-- calls TEST level 4
abbrev pub account_of_whom : Context → List ℕ
account_of_whom context =
    written (text (codes "calls")) ++ written (text context.ctid) ++ written (text (codes "level")) ++ written (level_argument context.level)

-- filtered 18 queued 5 lost 0
abbrev pub account_of_what : Context → List ℕ
account_of_what context =
    written (text (codes "filtered")) ++ written (count context.filtered)
    ++ written (text (codes "queued")) ++ written (count context.queued)
    ++ written (text (codes "lost")) ++ written (count context.lost)

abbrev pub account_payload : Context → List ℕ
account_payload context = account_of_whom context ++ account_of_what context

-- an account is a message of the context DLTC of the same application, with its own MCNT,
abbrev pub account_source : Context → ℕ → Source
account_source context number = record { apid = context.apid; ctid = codes "DLTC"; mcnt = number }

-- of severity info, with ten arguments
abbrev pub account_call : ℕ → Call
account_call ticks = record { severity = 4; verbose = true; args = 10; ticks = ticks }

-- how many calls were lost, for receivers that know no accounts: a user message of kind 8, whose number has four bytes
abbrev pub overflow : Context → List ℕ
overflow context = if nat_eq context.lost 0 then [] else user_message (Overflow (min context.lost (2 ^ 32 - 1)) context.apid)

-- what is queued of an account
abbrev pub account : Sender → Context → ℕ → ℕ → List ℕ
account sender context number ticks =
    user_log (message sender (account_source context number) (account_call ticks) (account_payload context)) ++ overflow context
