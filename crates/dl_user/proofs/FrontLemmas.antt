-- What stands at the front of a channel's bytes, from what a reader told of it.
use Rattle.std.proofs.Common.{◌≡◌, ℕ, ◌-◌, ◌≤◌, List, length, drop, Ok, Err, refl, sym, ap, ◌∙◌, arith, inl, inr}
use Rattle.std.specs.Prelude.{IsOk}
use Rattle.std.proofs.lemmas.Bool.{cases_lt}
use Rattle.std.proofs.lemmas.List.{length-append, drop_at}
use Rattle.dl_bytes.specs.Number.{At}
use Rattle.dl_bytes.specs.declared.cursor.Cursor.{Cursor}
use Rattle.dl_bytes.specs.declared.user.UserMsg.{UserMsg}
use Rattle.dl_user.specs.declared.fault.Stop.TheVariants.{NeedMore, Bad}
use Rattle.dl_user.specs.declared.fault.ReadError.{ReadError}
use Rattle.dl_user.specs.declared.fault.ReadError.TheVariants as errors
use Rattle.dl_user.specs.Reading.{little, Reading, Copies, message_at}
use Rattle.dl_user.specs.Cut.{Begins, IsOpen}
use Rattle.dl_bytes.specs.Bytes.{IsBytes}
use Rattle.dl_user.specs.Front.{IsFront}
use Rattle.dl_user.proofs.Messages.{message_reads}
use Rattle.dl_user.proofs.Bounds.{message_need}
use Rattle.dl_user.proofs.Refusals.{refuses}
use Rattle.dl_user.proofs.Showing.{shows}

-- the message that was read, by the number of bytes that it took
pub read_begins : (bytes : List ℕ) (msg : UserMsg) (left : At) → IsBytes bytes → message_at (little bytes) ≡ Ok (msg, left)
    → (length left.rest ≤ length bytes) × IsFront bytes (Ok (msg, length bytes - length left.rest))
read_begins bytes msg left fits e =
    let t = message_reads.found bytes msg left fits e in
    let parts = ap length t.parts in
    let lens = length-append t.text left.rest in
    let n : length bytes - length left.rest ≡ length t.text = omega arith in
    let after : drop (length bytes - length left.rest) bytes ≡ left.rest = rw n (ap (λ (x : List ℕ). drop (length t.text) x) t.parts ∙ drop_at t.text left.rest (length t.text) refl) in
    (omega arith, (omega arith, rw after (t.text, t.spells, t.parts)))

whole_value : {A : Type 0} (r : Reading A) → IsOk r → (x : A) × (r ≡ Ok x)
whole_value (Ok x) h = (x, refl)
whole_value (Err stop) h = absurd (cc h)

-- a message that begins the bytes is what is read of them
pub begins_read : (bytes after : List ℕ) (msg : UserMsg) → Begins bytes msg after → message_at (little bytes) ≡ Ok (msg, little after)
begins_read bytes after msg b = rw b.2 (message_reads.again b.0 after msg b.1)

-- where more bytes are asked for, nothing is known yet
pub open_is : (bytes : List ℕ) → message_at (little bytes) ≡ Err NeedMore → IsOpen bytes
open_is bytes e = record {
  no_message = λ msg after b. let read = begins_read bytes after msg b in cc (sym read ∙ e);
  no_fault = λ fault shown. cc (sym (refuses bytes fault shown) ∙ e);
}

-- what was told where no message was given
pub not_read : (bytes : List ℕ) (error : ReadError) (left : Cursor) → IsBytes bytes → Copies (Err error) left (message_at (little bytes)) → IsFront bytes (Err error)
not_read bytes (errors.Stop NeedMore) left fits e =
    (open_is bytes e, elim (cases_lt (length bytes) 1992) [ inl lt ↦ lt | inr le ↦ absurd (message_need.enough bytes fits le e) ])
not_read bytes (errors.Stop (Bad fault)) left fits e = shows bytes fault fits e
not_read bytes errors.OutOfMemory left fits e =
    let w = whole_value (message_at (little bytes)) e in
    (w.0.0, _, (read_begins bytes w.0.0 w.0.1 fits w.1).1.1)
