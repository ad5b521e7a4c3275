-- A log call of a program that is linked with libdlt 2.18, as libdlt wrote it: application LOG, context TEST, severity info, a signed
-- number 0 of 32 bits with an empty name and unit, and the text hello.
use Rattle.std.specs.Prelude.{◌≡◌, ℕ, List, [], ◌∷◌, ◌++◌, true, false, codes}
use Rattle.dl_client.specs.Message.{message, user_log}
use Rattle.dl_client.specs.Values.{named_number_argument, text_argument}
use Rattle.dl_client.specs.declared.context.Call.{Call}
use Rattle.dl_client.specs.declared.context.Sender.{Sender}
use Rattle.dl_client.specs.declared.message.Source.{Source}
use Rattle.dl_client.specs.declared.values.Format.TheVariants.{Plain}
use Rattle.dl_client.specs.declared.values.Kind.TheVariants.{Signed}

abbrev pub its_sender : Sender
its_sender = record { ecu = codes "ECU1"; session = 0x77c9 }

abbrev pub its_source : Source
its_source = record { apid = codes "LOG" ++ 0 ∷ []; ctid = codes "TEST"; mcnt = 0 }

abbrev pub its_call : Call
its_call = record { severity = 4; verbose = true; args = 2; ticks = 0x00c14fae }

abbrev pub its_payload : List ℕ
its_payload = named_number_argument (record { kind = Signed; format = Plain }) [] [] (0 ∷ 0 ∷ 0 ∷ 0 ∷ []) ++ text_argument false (codes "hello")

-- the bytes that were captured
abbrev pub captured : List ℕ
captured =
    0x44 ∷ 0x55 ∷ 0x48 ∷ 0x01 ∷ 0x01 ∷ 0x00 ∷ 0x00 ∷ 0x00 ∷ 0x3d ∷ 0x00 ∷ 0x00 ∷ 0x32 ∷ 0x45 ∷ 0x43 ∷ 0x55 ∷ 0x31 ∷
    0x00 ∷ 0x00 ∷ 0x77 ∷ 0xc9 ∷ 0x00 ∷ 0xc1 ∷ 0x4f ∷ 0xae ∷ 0x41 ∷ 0x02 ∷ 0x4c ∷ 0x4f ∷ 0x47 ∷ 0x00 ∷ 0x54 ∷ 0x45 ∷
    0x53 ∷ 0x54 ∷ 0x23 ∷ 0x08 ∷ 0x00 ∷ 0x00 ∷ 0x00 ∷ 0x00 ∷ 0x00 ∷ 0x00 ∷ 0x00 ∷ 0x00 ∷ 0x00 ∷ 0x00 ∷ 0x00 ∷ 0x02 ∷
    0x00 ∷ 0x00 ∷ 0x06 ∷ 0x00 ∷ 0x68 ∷ 0x65 ∷ 0x6c ∷ 0x6c ∷ 0x6f ∷ 0x00 ∷ []

abbrev pub IsWrittenAlike : Type 0
IsWrittenAlike = user_log (message its_sender its_source its_call its_payload) ≡ captured
