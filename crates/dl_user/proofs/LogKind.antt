-- The reader of a log message, and the messages that it reads.
use Rattle.std.proofs.Common.{◌≡◌, ℕ, ◌≤◌, ◌<◌, List, [], ◌++◌, length, Option, Some, None, Ok, Err, refl, sym, ap, subst, ◌∙◌, arith, inl, inr}
use Rattle.std.specs.Prelude.{◌⊎◌}
use Rattle.std.proofs.lemmas.Bool.{cases_lt, lt-ltb, le-ltb}
use Rattle.std.proofs.lemmas.List.{append-nil}
use Rattle.dl_bytes.specs.Number.{At, bytes_at}
use Rattle.dl_bytes.specs.Htyp.{htyp_of, len_of}
use Rattle.dl_bytes.specs.UserMessage.{HoldsMessage}
use Rattle.dl_bytes.specs.declared.user.UserMsg.{UserMsg}
use Rattle.dl_bytes.specs.declared.user.UserMsg.TheVariants.{Log}
use Rattle.dl_headers.specs.Reading.{front_fault}
use Rattle.dl_headers.specs.declared.fault.HeaderFault.{HeaderFault}
use Rattle.dl_headers.specs.declared.fault.HeaderFault.TheVariants.{Short, Version, Length}
use Rattle.dl_headers.proofs.Fronts.{GoodFront, good_front, good_again, htyp_of-append, len_of-append, front_fault-append, not_short, few_short}
use Rattle.dl_user.specs.declared.fault.UserFault.{UserFault}
use Rattle.dl_user.specs.declared.fault.UserFault.TheVariants as faults
use Rattle.dl_user.specs.declared.fault.UserFault.TheVariants.{TooLong}
use Rattle.dl_user.specs.declared.fault.Stop.TheVariants.{NeedMore, Bad}
use Rattle.dl_user.specs.Reading.{little, ◌>>=◌, wait, inner_len, log_at}
use Rattle.dl_bytes.specs.Bytes.{IsBytes}
use Rattle.dl_user.proofs.Readers.{TakesSpelled, Then, Reads, bind_ok, bind_bad, ok_is, reads_then, reads_end}
use Rattle.dl_user.proofs.FieldReaders.{reads_wait}
use Rattle.dl_user.proofs.Numbers.{AreBytes, bytes_field}
use Rattle.dl_user.proofs.Groups.{Ends}
use Rattle.dl_user.proofs.MessageKinds.{IsKind, either}

-- the first four bytes decide
pub inner_len-append : (bytes more : List ℕ) → 4 ≤ length bytes → inner_len (bytes ++ more) ≡ inner_len bytes
unfolding inner_len
inner_len-append bytes more h = rw (front_fault-append bytes more h, len_of-append bytes more h) refl

-- what is read as LEN: too little, a bad front, too much, or LEN
pub data Inner (bytes : List ℕ) : Type 0 where
  too_few : length bytes < 4 → inner_len bytes ≡ Err NeedMore → Inner bytes
  bad_head : (fault : HeaderFault) → 4 ≤ length bytes → front_fault bytes ≡ Some fault → inner_len bytes ≡ Err (Bad (faults.Inner fault)) → Inner bytes
  too_long : GoodFront bytes → 1984 < len_of bytes → inner_len bytes ≡ Err (Bad (TooLong (len_of bytes))) → Inner bytes
  within_limit : GoodFront bytes → len_of bytes ≤ 1984 → inner_len bytes ≡ Ok (len_of bytes) → Inner bytes

pub inner_bad : (bytes : List ℕ) (fault : HeaderFault) → 4 ≤ length bytes → front_fault bytes ≡ Some fault → inner_len bytes ≡ Err (Bad (faults.Inner fault))
unfolding inner_len
inner_bad bytes (Short n) h e = absurd (not_short bytes n h e)
inner_bad bytes (Version v) h e = rw e refl
inner_bad bytes (Length len) h e = rw e refl

pub inner_long : (bytes : List ℕ) → front_fault bytes ≡ None → 1984 < len_of bytes → inner_len bytes ≡ Err (Bad (TooLong (len_of bytes)))
unfolding inner_len
inner_long bytes e above = rw (e, lt-ltb 1984 (len_of bytes) above) refl

inner_good : (bytes : List ℕ) → front_fault bytes ≡ None → len_of bytes ≤ 1984 → inner_len bytes ≡ Ok (len_of bytes)
unfolding inner_len
inner_good bytes e within = rw (e, le-ltb 1984 (len_of bytes) within) refl

inner_few : (bytes : List ℕ) → length bytes < 4 → inner_len bytes ≡ Err NeedMore
unfolding inner_len
inner_few bytes h = rw (few_short bytes h) refl

cases_front : (o : Option HeaderFault) → (o ≡ None) ⊎ ((fault : HeaderFault) × (o ≡ Some fault))
cases_front None = inl refl
cases_front (Some fault) = inr (fault, refl)

pub inner_case : (bytes : List ℕ) → Inner bytes
inner_case bytes =
    elim (cases_lt (length bytes) 4) [
      | inl lt ↦ too_few lt (inner_few bytes lt)
      | inr le ↦ elim (cases_front (front_fault bytes)) [
        | inl none ↦ elim (cases_lt 1984 (len_of bytes)) [
          | inl above ↦ too_long (good_front bytes none) above (inner_long bytes none above)
          | inr within ↦ within_limit (good_front bytes none) within (inner_good bytes none within)
        ]
        | inr some ↦ bad_head some.0 le some.1 (inner_bad bytes some.0 le some.1)
      ]
    ]

-- a message's front within the limit
pub record Begins (bytes : List ℕ) (len : ℕ) : Type 0 where
  pub front : GoodFront bytes
  pub limit : len ≤ 1984
  pub len_is : len_of bytes ≡ len

pub inner_found : (bytes : List ℕ) (len : ℕ) → inner_len bytes ≡ Ok len → Begins bytes len
inner_found bytes len e =
    elim (inner_case bytes) [
      | too_few h is ↦ absurd (cc (sym is ∙ e))
      | bad_head fault h front is ↦ absurd (cc (sym is ∙ e))
      | too_long front above is ↦ absurd (cc (sym is ∙ e))
      | within_limit front within is ↦
          let same : len_of bytes ≡ len = ok_is (len_of bytes) len (sym is ∙ e) in
          record { front = front; limit = rw (← same) within; len_is = same }
    ]

inner_again : (message : List ℕ) → HoldsMessage message → inner_len message ≡ Ok (length message)
inner_again message h =
    let headers = h.headers in
    let whole = h.whole in
    let front : GoodFront message = record { long = omega arith; version_is = h.version_is; headers = h.headers } in
    inner_good message (good_again message front) (omega (arith, h.limit)) ∙ ap (λ (n : ℕ). Ok n) h.whole

pub inner_enough : (bytes : List ℕ) (fault : UserFault) → inner_len bytes ≡ Err (Bad fault) → 4 ≤ length bytes
inner_enough bytes fault e =
    elim (inner_case bytes) [
      | too_few h is ↦ absurd (cc (sym is ∙ e))
      | bad_head f h front is ↦ h
      | too_long front above is ↦ front.long
      | within_limit front within is ↦ front.long
    ]

-- the message, once LEN is known
behind_reads : (len : ℕ) → Reads (λ c. wait (bytes_at len c) >>= λ message. Ok (Log message.0, message.1)) (Then (AreBytes len) (λ message. Ends (Log message)))
behind_reads len = reads_then _ _ _ _ (reads_wait _ _ (bytes_field len)) (λ message. reads_end (Log message))

log_again : (text rest : List ℕ) (msg : UserMsg) → IsKind 1 text msg → log_at (little (text ++ rest)) ≡ Ok (msg, little rest)
unfolding log_at
log_again text rest (Log message) h =
    let is : text ≡ message = either h.spelled in
    let headers = h.fit.headers in
    let whole = h.fit.whole in
    let enough : 4 ≤ length message = omega arith in
    let len : inner_len (message ++ rest) ≡ Ok (length message) = inner_len-append message rest enough ∙ inner_again message h.fit in
    let parts : Then (AreBytes (length message)) (λ m. Ends (Log m)) message (Log message) =
    record { first = message; front = message; back = []; parts = sym (append-nil message); front_spells = (refl, refl); back_spells = (refl, refl) } in
    rw (is, len) ((behind_reads (length message)).again message rest (Log message) parts)
log_again text rest msg h = absurd (omega (arith, h.kind_is))

log_found : (bytes : List ℕ) (msg : UserMsg) (c : At) → IsBytes bytes → log_at (little bytes) ≡ Ok (msg, c) → TakesSpelled (IsKind 1) bytes msg c
unfolding log_at
log_found bytes msg c fits e =
    let b = bind_ok (inner_len bytes) (λ len. wait (bytes_at len (little bytes)) >>= λ message. Ok (Log message.0, message.1)) (msg, c) e in
    let begins = inner_found bytes b.0 b.1 in
    let t = (behind_reads b.0).found bytes msg c fits b.2 in
    let m = t.spells.first in
    let text-is : t.text ≡ m = rw (t.spells.parts, t.spells.front_spells.0, t.spells.back_spells.0) (append-nil m) in
    let len : length m ≡ b.0 = t.spells.front_spells.1 in
    let parts : bytes ≡ m ++ c.rest = rw (← text-is) t.parts in
    let headers = begins.front.headers in
    let enough : 4 ≤ length m = omega arith in
    let htyp : htyp_of bytes ≡ htyp_of m = ap htyp_of parts ∙ htyp_of-append m c.rest enough in
    let len_same : len_of bytes ≡ len_of m = ap len_of parts ∙ len_of-append m c.rest enough in
    let whole : HoldsMessage m = record {
      version_is = rw (← htyp) begins.front.version_is;
      headers = rw (← htyp, ← len_same) begins.front.headers;
      whole = sym len_same ∙ begins.len_is ∙ sym len;
      limit = omega (arith, begins.limit);
    } in
    record {
      text = t.text;
      parts = t.parts;
      left = t.left;
      spells = subst (λ (x : UserMsg). IsKind 1 t.text x) (sym t.spells.back_spells.1) (record { kind_is = refl; spelled = inl text-is; fit = whole; ranges = tt });
    }

log_bad : (bytes more : List ℕ) (fault : UserFault) → IsBytes bytes → log_at (little bytes) ≡ Err (Bad fault) → log_at (little (bytes ++ more)) ≡ Err (Bad fault)
unfolding log_at
log_bad bytes more fault fits e =
    elim (bind_bad (inner_len bytes) (λ len. wait (bytes_at len (little bytes)) >>= λ message. Ok (Log message.0, message.1)) (Bad fault) e) [
      | inl bad ↦ rw (inner_len-append bytes more (inner_enough bytes fault bad), bad) refl
      | inr b ↦ rw (inner_len-append bytes more (inner_found bytes b.0 b.1).front.long, b.1) ((behind_reads b.0).bad bytes more fault fits b.2)
    ]

pub log_reads : Reads log_at (IsKind 1)
log_reads = record { again = log_again; found = log_found; bad = log_bad }
