-- What is read is laid out so, what is laid out so is read, and what a fault says of the bytes.
use Rattle.std.proofs.Common.{◌≡◌, ℕ, ℤ, ◌-◌, ◌^◌, ◌<◌, ◌≤◌, List, [], ◌∷◌, ◌++◌, length, Option, Some, None, Result, Ok, Err, refl, sym, ap, subst, ◌∙◌, append_assoc, arith, inl, inr}
use Rattle.std.specs.Prelude.{IfOk, IfErr}
use Rattle.std.specs.Int.{w8, cast_unsigned}
use Rattle.std.specs.Int.RustNames.{FitsSigned}
use Rattle.std.proofs.lemmas.Bool.{cases_lt, le-ltb, lt-ltb, eq-eqb, ne_eqb}
use Rattle.std.proofs.lemmas.List.{append-nil, nil_from_length, length-append, length-replicate}
use Rattle.dl_bytes.specs.Bytes.{IsBytes}
use Rattle.dl_bytes.specs.declared.cursor.Order.{Order}
use Rattle.dl_bytes.specs.Number.{At, bytes_of, number_at}
use Rattle.dl_bytes.proofs.Bytes.{IsBytes-append, IsBytes-zeros, zeros}
use Rattle.dl_control.specs.declared.request.Request.{Request}
use Rattle.dl_control.specs.declared.request.Request.TheVariants.{SetLogLevel, GetLogInfo, GetDefault, Store, Reset, SetDefault, Version, SetAllLogLevel, Inject, Other}
use Rattle.dl_control.specs.declared.request.RequestFault.{RequestFault}
use Rattle.dl_control.specs.declared.request.RequestFault.TheVariants.{Short, Excess}
use Rattle.dl_control.specs.Request.{service_of, fields_of, MayFollow, Fits, IsLaidOut, IsWithinLimit, BeginsRequest, service_told, IsFault}
use Rattle.dl_control.specs.Reading.{log_level_at, log_info_at, default_level_at, all_levels_at, body_at, whole_of, injection_of, request_of, request_in}
use Rattle.dl_control.proofs.Fields.{TakesBytes, number_takes, number_none, number_long, number_left, number_more, bytes_again, bytes_last, byte_again, number_again, Needs, needs_number}
use Rattle.dl_control.proofs.Rows.{TakesRequest, TakesRow, Row, fields, bare, injected, row_of, needs_body, injected_of, other_of, level_again}

-- the bytes from the front of a payload
abbrev start : Order → List ℕ → At
start order bytes = record { rest = bytes; order = order }

abbrev done : Request → Result Request RequestFault
done request = Ok request

ok_is : (x y : Request) → done x ≡ done y → x ≡ y
ok_is x y e = cc

abbrev failed : RequestFault → Result Request RequestFault
failed fault = Err fault

err_is : (x y : RequestFault) → failed x ≡ failed y → x ≡ y
err_is x y e = cc

-- ---- a read of a known number of bytes, as a whole

whole_short : (s n : ℕ) (read : At → Option (Request × At)) (c : At) → Needs n read → length c.rest < n → whole_of s (read c) ≡ Err (Short s)
whole_short s n read c needs lt = rw (needs.short c lt) refl

whole_exact : (s n : ℕ) (read : At → Option (Request × At)) (c : At) → Needs n read → length c.rest ≡ n
    → (x : Request × At) × (read c ≡ Some x) × (x.1.rest ≡ []) × (whole_of s (read c) ≡ Ok x.0)
whole_exact s n read c needs is =
    let a = needs.enough c (omega arith) in
    (a.0, a.1, nil_from_length a.0.1.rest (omega (arith, a.2)), rw (a.1, eq-eqb (length a.0.1.rest) 0 (omega (arith, a.2))) refl)

whole_excess : (s n : ℕ) (read : At → Option (Request × At)) (c : At) → Needs n read → n < length c.rest → whole_of s (read c) ≡ Err (Excess s)
whole_excess s n read c needs lt =
    let a = needs.enough c (omega arith) in
    rw (a.1, ne_eqb (length a.0.1.rest) 0 (omega (arith, a.2))) refl

-- there are fewer bytes, as many, or more
data Sized (s n : ℕ) (read : At → Option (Request × At)) (c : At) : Type 0 where
  fewer : length c.rest < n → whole_of s (read c) ≡ Err (Short s) → Sized s n read c
  as_many : (x : Request × At) → read c ≡ Some x → x.1.rest ≡ [] → whole_of s (read c) ≡ Ok x.0 → Sized s n read c
  more : n < length c.rest → whole_of s (read c) ≡ Err (Excess s) → Sized s n read c

sized : (s n : ℕ) (read : At → Option (Request × At)) (c : At) → Needs n read → Sized s n read c
sized s n read c needs =
    elim (cases_lt (length c.rest) n) [
      | inl lt ↦ fewer lt (whole_short s n read c needs lt)
      | inr le ↦ elim (cases_lt n (length c.rest)) [
        | inl lt ↦ more lt (whole_excess s n read c needs lt)
        | inr ge ↦ let e = whole_exact s n read c needs (omega arith) in as_many e.0 e.1 e.2 e.3
      ]
    ]

-- ---- an injection behind its length

body_again : (service : ℕ) (bytes : List ℕ) (order : Order)
    → body_at service (length bytes) (record { rest = bytes; order = order }) ≡ Some (Inject service (record { bytes = bytes; args = 0 }), record { rest = []; order = order })
unfolding body_at
body_again service bytes order = rw (bytes_last (length bytes) bytes order refl) refl

injection_whole : (s : ℕ) (m : ℕ × At) → m.0 ≤ 1390 → injection_of s (Some m) ≡ whole_of s (body_at s m.0 m.1)
unfolding injection_of
injection_whole s m le = rw (le-ltb 1390 m.0 le) refl

injection_long : (s : ℕ) (m : ℕ × At) → 1390 < m.0 → injection_of s (Some m) ≡ Err (Excess s)
unfolding injection_of
injection_long s m lt = rw (lt-ltb 1390 m.0 lt) refl

injection_exact : (s : ℕ) (m : ℕ × At) → m.0 ≤ 1390 → length m.1.rest ≡ m.0 → injection_of s (Some m) ≡ Ok (Inject s (record { bytes = m.1.rest; args = 0 }))
injection_exact s m le is =
    injection_whole s m le ∙ ap (λ (n : ℕ). whole_of s (body_at s n m.1)) (sym is) ∙ ap (whole_of s) (body_again s m.1.rest m.1.order)

-- its length is too much, or its bytes are fewer, more or as many
data Measured (s : ℕ) (m : ℕ × At) : Type 0 where
  too_long : 1390 < m.0 → injection_of s (Some m) ≡ Err (Excess s) → Measured s m
  body_short : m.0 ≤ 1390 → length m.1.rest < m.0 → injection_of s (Some m) ≡ Err (Short s) → Measured s m
  body_long : m.0 ≤ 1390 → m.0 < length m.1.rest → injection_of s (Some m) ≡ Err (Excess s) → Measured s m
  body_exact : m.0 ≤ 1390 → length m.1.rest ≡ m.0 → injection_of s (Some m) ≡ Ok (Inject s (record { bytes = m.1.rest; args = 0 })) → Measured s m

measured : (s : ℕ) (m : ℕ × At) → Measured s m
measured s m =
    elim (cases_lt 1390 m.0) [
      | inl lt ↦ too_long lt (injection_long s m lt)
      | inr le ↦ elim (cases_lt (length m.1.rest) m.0) [
        | inl lt ↦ body_short le lt (injection_whole s m le ∙ whole_short s m.0 (body_at s m.0) m.1 (needs_body s m.0) lt)
        | inr ge ↦ elim (cases_lt m.0 (length m.1.rest)) [
          | inl lt ↦ body_long le lt (injection_whole s m le ∙ whole_excess s m.0 (body_at s m.0) m.1 (needs_body s m.0) lt)
          | inr same ↦ let is : length m.1.rest ≡ m.0 = omega arith in body_exact le is (injection_exact s m le is)
        ]
      ]
    ]

-- service id, length and the rest of an injection
parts_of : (order : Order) (bytes : List ℕ) (s m : ℕ × At) → TakesBytes (start order bytes) (bytes_of order 4 s.0) s.1 → number_at 4 s.1 ≡ Some m
    → (bytes ≡ bytes_of order 4 s.0 ++ (bytes_of order 4 m.0 ++ m.1.rest)) × (m.0 < 2 ^ 32)
parts_of order bytes s m front em =
    let behind = number_takes s.1 m front.fits em in
    (front.parts ∙ ap (λ (r : List ℕ). bytes_of order 4 s.0 ++ r) (behind.0.parts ∙ ap (λ (o : Order). bytes_of o 4 m.0 ++ m.1.rest) front.order), behind.1)

-- ---- what is read is laid out so

-- a request that takes all bytes behind its service id is laid out
laid_out : (order : Order) (bytes : List ℕ) (s : ℕ × At) (request : Request) (left : At) → TakesBytes (start order bytes) (bytes_of order 4 s.0) s.1
    → TakesRequest s.1 request left × (service_of request ≡ s.0) → left.rest ≡ [] → IsLaidOut order request bytes
laid_out order bytes s request left front taken ended =
    let fields : List ℕ = fields_of order request in
    let rest : s.1.rest ≡ fields ++ taken.0.ignored =
    taken.0.takes.parts ∙ ap (λ (r : List ℕ). (fields_of s.1.order request ++ taken.0.ignored) ++ r) ended ∙ append-nil (fields_of s.1.order request ++ taken.0.ignored)
    ∙ ap (λ (o : Order). fields_of o request ++ taken.0.ignored) front.order in
    record {
      fits = taken.0.fits;
      ignored = taken.0.ignored;
      may_follow = taken.0.may_follow;
      spelled = front.parts ∙ ap (λ (r : List ℕ). bytes_of order 4 s.0 ++ r) rest ∙ sym (append_assoc (bytes_of order 4 s.0) fields taken.0.ignored)
          ∙ ap (λ (n : ℕ). bytes_of order 4 n ++ fields ++ taken.0.ignored) (sym taken.1);
    }

-- a request with no fields is laid out, whatever follows
laid_bare : (order : Order) (bytes : List ℕ) (s : ℕ × At) (request : Request) → TakesBytes (start order bytes) (bytes_of order 4 s.0) s.1
    → service_of request ≡ s.0 → Fits request → fields_of order request ≡ [] → MayFollow request s.1.rest → IsLaidOut order request bytes
laid_bare order bytes s request front service fits no_fields may_follow =
    record { fits = fits; ignored = s.1.rest; may_follow = may_follow; spelled = rw (service, no_fields, append-nil) front.parts }

-- an injection is laid out by its length and its bytes
laid_injection : (order : Order) (bytes : List ℕ) (service : ℕ) (body : List ℕ) → 0xfff ≤ service → service < 2 ^ 32 → length body < 2 ^ 32
    → bytes ≡ bytes_of order 4 service ++ (bytes_of order 4 (length body) ++ body) → IsLaidOut order (Inject service (record { bytes = body; args = 0 })) bytes
laid_injection order bytes service body low high short e =
    record { fits = (low, high, short, refl); ignored = []; may_follow = refl; spelled = rw append-nil e }

-- laid out and within the limit
abbrev pub IsFound : Order → Request → List ℕ → Type 0
IsFound order request bytes = IsLaidOut order request bytes × IsWithinLimit request

found_fields : (order : Order) (bytes : List ℕ) (request : Request) (s : ℕ × At) (n : ℕ) (read : At → Option (Request × At)) → TakesBytes (start order bytes) (bytes_of order 4 s.0) s.1
    → Needs n read → TakesRow s.0 read → whole_of s.0 (read s.1) ≡ Ok request → IsFound order request bytes
found_fields order bytes request s n read front needs takes e =
    elim (sized s.0 n read s.1 needs) [
      | fewer lt fault ↦ absurd cc
      | more lt fault ↦ absurd cc
      | as_many x made ended given ↦
          let taken = takes s.1 x front.fits made in
          subst (λ (r : Request). IsFound order r bytes) (ok_is x.0 request (sym given ∙ e)) (laid_out order bytes s x.0 x.1 front taken ended, taken.0.within)
    ]

found_injection : (order : Order) (bytes : List ℕ) (request : Request) (s : ℕ × At) (m : Option (ℕ × At)) → TakesBytes (start order bytes) (bytes_of order 4 s.0) s.1
    → 0xfff ≤ s.0 → s.0 < 2 ^ 32 → number_at 4 s.1 ≡ m → injection_of s.0 m ≡ Ok request → IsFound order request bytes
unfolding injection_of
found_injection order bytes request s None front low high em e = absurd cc
found_injection order bytes request s (Some m) front low high em e =
    elim (measured s.0 m) [
      | too_long lt given ↦ absurd cc
      | body_short le lt given ↦ absurd cc
      | body_long le lt given ↦ absurd cc
      | body_exact le is given ↦
          let behind = parts_of order bytes s m front em in
          subst (λ (r : Request). IsFound order r bytes) (ok_is (Inject s.0 (record { bytes = m.1.rest; args = 0 })) request (sym given ∙ e)) (
            laid_injection order bytes s.0 m.1.rest low high (omega (arith, behind.1))
                (behind.0 ∙ ap (λ (n : ℕ). bytes_of order 4 s.0 ++ (bytes_of order 4 n ++ m.1.rest)) (sym is)),
            omega arith,
          )
    ]

found_row : (order : Order) (bytes : List ℕ) (request : Request) (s : ℕ × At) → TakesBytes (start order bytes) (bytes_of order 4 s.0) s.1 → s.0 < 2 ^ 32 → Row s.0
    → request_of (Some s) ≡ Ok request → IsFound order request bytes
found_row order bytes request s front high (fields n read four needs takes reads) e = found_fields order bytes request s n read front needs takes (sym (reads s.1) ∙ e)
found_row order bytes request s front high (bare made is reads) e =
    subst (λ (r : Request). IsFound order r bytes) (ok_is made request (sym (reads s.1) ∙ e))
    (laid_bare order bytes s made front is.service_is is.fits (is.no_fields order) (is.may_follow s.1.rest), is.within)
found_row order bytes request s front high (injected low reads) e = found_injection order bytes request s (number_at 4 s.1) front low high refl (sym (reads s.1) ∙ e)

found_from : (order : Order) (bytes : List ℕ) (request : Request) (s : Option (ℕ × At)) → IsBytes bytes → number_at 4 (start order bytes) ≡ s → request_of s ≡ Ok request
    → IsFound order request bytes
unfolding request_of
found_from order bytes request None fits es e = absurd cc
found_from order bytes request (Some s) fits es e =
    let taken = number_takes (start order bytes) s fits es in
    found_row order bytes request s taken.0 taken.1 (row_of s.0) e

pub found : (order : Order) (bytes : List ℕ) (request : Request) → IsBytes bytes → request_in order bytes ≡ Ok request → IsFound order request bytes
found order bytes request fits e = found_from order bytes request (number_at 4 (start order bytes)) fits refl e

-- ---- what is laid out is read

log_level_again : (apid ctid reserved : List ℕ) (level : ℤ) (order : Order) → length apid ≡ 4 → length ctid ≡ 4 → FitsSigned w8 level → length reserved ≡ 4
    → log_level_at (record { rest = apid ++ (ctid ++ (cast_unsigned w8 level ∷ reserved)); order = order }) ≡ Some (SetLogLevel apid ctid level, record { rest = []; order = order })
unfolding log_level_at
log_level_again apid ctid reserved level order a_len c_len fits r_len =
    rw (
      bytes_again 4 apid (ctid ++ (cast_unsigned w8 level ∷ reserved)) order a_len,
      bytes_again 4 ctid (cast_unsigned w8 level ∷ reserved) order c_len,
      byte_again (cast_unsigned w8 level) reserved order,
      bytes_last 4 reserved order r_len,
      level_again level fits,
    ) refl

log_info_again : (options : ℕ) (apid ctid reserved : List ℕ) (order : Order) → length apid ≡ 4 → length ctid ≡ 4 → length reserved ≡ 4
    → log_info_at (record { rest = options ∷ (apid ++ (ctid ++ reserved)); order = order }) ≡ Some (GetLogInfo options apid ctid, record { rest = []; order = order })
unfolding log_info_at
log_info_again options apid ctid reserved order a_len c_len r_len =
    rw (byte_again options (apid ++ (ctid ++ reserved)) order, bytes_again 4 apid (ctid ++ reserved) order a_len, bytes_again 4 ctid reserved order c_len, bytes_last 4 reserved order r_len) refl

default_level_again : (level : ℕ) (reserved : List ℕ) (order : Order) → length reserved ≡ 4
    → default_level_at (record { rest = level ∷ reserved; order = order }) ≡ Some (SetDefault level, record { rest = []; order = order })
unfolding default_level_at
default_level_again level reserved order r_len = rw (byte_again level reserved order, bytes_last 4 reserved order r_len) refl

all_levels_again : (level : ℤ) (reserved : List ℕ) (order : Order) → FitsSigned w8 level → length reserved ≡ 4
    → all_levels_at (record { rest = cast_unsigned w8 level ∷ reserved; order = order }) ≡ Some (SetAllLogLevel level, record { rest = []; order = order })
unfolding all_levels_at
all_levels_again level reserved order fits r_len = rw (byte_again (cast_unsigned w8 level) reserved order, bytes_last 4 reserved order r_len, level_again level fits) refl

injection_again : (service : ℕ) (bytes : List ℕ) (order : Order) → length bytes ≤ 1390
    → injection_of service (number_at 4 (record { rest = bytes_of order 4 (length bytes) ++ bytes; order = order })) ≡ Ok (Inject service (record { bytes = bytes; args = 0 }))
unfolding injection_of
injection_again service bytes order short =
    rw (number_again (length bytes) bytes order (omega arith), le-ltb 1390 (length bytes) short, body_again service bytes order) refl

-- the request behind its service id
row_again : (order : Order) (request : Request) (rest : List ℕ) → Fits request → MayFollow request rest → IsWithinLimit request
    → request_of (Some (service_of request, record { rest = fields_of order request ++ rest; order = order })) ≡ Ok request
unfolding request_of
row_again order (SetLogLevel apid ctid level) rest fits follow within =
    rw (
      append_assoc (apid ++ ctid) (cast_unsigned w8 level ∷ []) rest,
      append_assoc apid ctid (cast_unsigned w8 level ∷ rest),
      log_level_again apid ctid rest level order fits.0 fits.1 fits.2 follow,
    ) refl
row_again order (GetLogInfo options apid ctid) rest fits follow within =
    rw (append_assoc apid ctid rest, log_info_again options apid ctid rest order fits.0 fits.1 follow) refl
row_again order GetDefault rest fits follow within = refl
row_again order Store rest fits follow within = refl
row_again order Reset rest fits follow within = refl
row_again order (SetDefault level) rest fits follow within = rw (default_level_again level rest order follow) refl
row_again order Version rest fits follow within = refl
row_again order (SetAllLogLevel level) rest fits follow within = rw (all_levels_again level rest order fits follow) refl
row_again order (Inject service body) rest fits follow within =
    rw (
      follow,
      append-nil,
      injected_of service (record { rest = bytes_of order 4 (length body.bytes) ++ body.bytes; order = order }) fits.0,
      injection_again service body.bytes order within,
    )
    (ap (λ (n : ℕ). done (Inject service (record { bytes = body.bytes; args = n }))) (sym fits.3))
row_again order (Other service) rest fits follow within = other_of service (record { rest = rest; order = order }) fits

service_fits : (request : Request) → Fits request → service_of request < 2 ^ 32
service_fits (SetLogLevel apid ctid level) fits = omega arith
service_fits (GetLogInfo options apid ctid) fits = omega arith
service_fits GetDefault fits = omega arith
service_fits Store fits = omega arith
service_fits Reset fits = omega arith
service_fits (SetDefault level) fits = omega arith
service_fits Version fits = omega arith
service_fits (SetAllLogLevel level) fits = omega arith
service_fits (Inject service body) fits = fits.1
service_fits (Other service) fits = let below = fits.8 in omega arith

-- what is laid out so is read
pub again : (order : Order) (bytes : List ℕ) (request : Request) → IsLaidOut order request bytes → IsWithinLimit request → request_in order bytes ≡ Ok request
again order bytes request layout within =
    let service = bytes_of order 4 (service_of request) in
    let rest : List ℕ = fields_of order request ++ layout.ignored in
    let split : bytes ≡ service ++ rest = layout.spelled ∙ append_assoc service (fields_of order request) layout.ignored in
    ap (request_in order) split
    ∙ ap request_of (number_again (service_of request) rest order (service_fits request layout.fits))
    ∙ row_again order request layout.ignored layout.fits layout.may_follow within

-- ---- what a fault says

named_short : (order : Order) (bytes : List ℕ) → number_at 4 (start order bytes) ≡ None → service_told order bytes ≡ 0
named_short order bytes e = rw (lt-ltb (length bytes) 4 (number_none 4 (start order bytes) e)) refl

named_whole : (order : Order) (bytes : List ℕ) (s : ℕ × At) → number_at 4 (start order bytes) ≡ Some s → service_told order bytes ≡ s.0
named_whole order bytes s e =
    let long = number_long 4 (start order bytes) s e in
    rw (le-ltb (length bytes) 4 long.0) long.1

-- what comes of a payload behind its service id
data Outcome (order : Order) (bytes : List ℕ) (s : ℕ × At) : Type 0 where
  is_request : (request : Request) → request_of (Some s) ≡ Ok request → Outcome order bytes s
  is_short : request_of (Some s) ≡ Err (Short s.0) → BeginsRequest order bytes → Outcome order bytes s
  is_excess : request_of (Some s) ≡ Err (Excess s.0) → 4 ≤ length s.1.rest
      → ((after : List ℕ) → request_of (Some (s.0, record { rest = s.1.rest ++ after; order = s.1.order })) ≡ Err (Excess s.0)) → Outcome order bytes s

-- the missing bytes of fields, as zeros
grow_fields : (order : Order) (bytes : List ℕ) (s : ℕ × At) (n : ℕ) (read : At → Option (Request × At)) → IsBytes bytes → number_at 4 (start order bytes) ≡ Some s
    → Needs n read → ((c : At) → request_of (Some (s.0, c)) ≡ whole_of s.0 (read c)) → length s.1.rest < n → BeginsRequest order bytes
grow_fields order bytes s n read fits es needs reads lt =
    let fill = zeros (n - length s.1.rest) in
    let c : At = record { rest = s.1.rest ++ fill; order = s.1.order } in
    let is : length c.rest ≡ n = omega (arith, length-append s.1.rest fill, length-replicate {A = ℕ} (n - length s.1.rest) 0) in
    let e = whole_exact s.0 n read c needs is in
    let given : request_in order (bytes ++ fill) ≡ Ok e.0.0 = ap request_of (number_more 4 (start order bytes) s fill es) ∙ reads c ∙ e.3 in
    let layout = found order (bytes ++ fill) e.0.0 (IsBytes-append bytes fill fits (IsBytes-zeros (n - length s.1.rest))) given in
    record { request = e.0.0; more = fill; goes_on = omega (arith, length-replicate {A = ℕ} (n - length s.1.rest) 0); layout = layout.0; within = λ _. layout.1 }

-- some injection is laid out so, with nothing or more behind the bytes
record BeginsInjection (order : Order) (bytes : List ℕ) (len : ℕ) : Type 0 where
  request : Request
  more : List ℕ
  layout : IsLaidOut order request (bytes ++ more)
  within : len ≤ 1390 → IsWithinLimit request

-- the missing bytes of an injection, as zeros
grow_body : (order : Order) (bytes : List ℕ) (s m : ℕ × At) → TakesBytes (start order bytes) (bytes_of order 4 s.0) s.1 → 0xfff ≤ s.0 → s.0 < 2 ^ 32 → number_at 4 s.1 ≡ Some m
    → length m.1.rest ≤ m.0 → (b : BeginsInjection order bytes m.0) × (length b.more ≡ m.0 - length m.1.rest)
grow_body order bytes s m front low high em le =
    let fill = zeros (m.0 - length m.1.rest) in
    let body : List ℕ = m.1.rest ++ fill in
    let is : length body ≡ m.0 = omega (arith, length-append m.1.rest fill, length-replicate {A = ℕ} (m.0 - length m.1.rest) 0) in
    let parts = parts_of order bytes s m front em in
    let whole : bytes ++ fill ≡ bytes_of order 4 s.0 ++ (bytes_of order 4 (length body) ++ body) =
    ap (λ (b : List ℕ). b ++ fill) parts.0 ∙ append_assoc (bytes_of order 4 s.0) (bytes_of order 4 m.0 ++ m.1.rest) fill
    ∙ ap (λ (b : List ℕ). bytes_of order 4 s.0 ++ b) (append_assoc (bytes_of order 4 m.0) m.1.rest fill)
    ∙ ap (λ (n : ℕ). bytes_of order 4 s.0 ++ (bytes_of order 4 n ++ body)) (sym is) in (
      record {
        request = Inject s.0 (record { bytes = body; args = 0 });
        more = fill;
        layout = laid_injection order (bytes ++ fill) s.0 body low high (omega (arith, parts.1, is)) whole;
        within = λ le. omega (arith, is, le);
      },
      length-replicate {A = ℕ} (m.0 - length m.1.rest) 0,
    )

-- fewer than eight bytes, which zeros make longer, begin a request where the longer ones do
begins_less : (order : Order) (bytes fill : List ℕ) (request : Request) (more : List ℕ) → length bytes < 8 → 0 < length fill → IsLaidOut order request ((bytes ++ fill) ++ more)
    → BeginsRequest order bytes
begins_less order bytes fill request others few some layout = record {
  request = request;
  more = fill ++ others;
  goes_on = omega (arith, some, length-append fill others);
  layout = rw (← append_assoc bytes fill others) layout;
  within = λ many. absurd (omega (arith, few, many));
}

-- the missing bytes of the length of an injection, as zeros
grow_length : (order : Order) (bytes : List ℕ) (s : ℕ × At) → IsBytes bytes → number_at 4 (start order bytes) ≡ Some s → 0xfff ≤ s.0 → length s.1.rest < 4 → BeginsRequest order bytes
grow_length order bytes s fits es low lt =
    let fill = zeros (4 - length s.1.rest) in
    let longer : number_at 4 (start order (bytes ++ fill)) ≡ Some (s.0, record { rest = s.1.rest ++ fill; order = s.1.order }) = number_more 4 (start order bytes) s fill es in
    let more_fits = IsBytes-append bytes fill fits (IsBytes-zeros (4 - length s.1.rest)) in
    let taken = number_takes (start order (bytes ++ fill)) (s.0, record { rest = s.1.rest ++ fill; order = s.1.order }) more_fits longer in
    let m = (needs_number 4).enough (record { rest = s.1.rest ++ fill; order = s.1.order })
    (omega (arith, length-append s.1.rest fill, length-replicate {A = ℕ} (4 - length s.1.rest) 0)) in
    let grown = grow_body order (bytes ++ fill) (s.0, record { rest = s.1.rest ++ fill; order = s.1.order }) m.0 taken.0 low taken.1 m.1
    (omega (arith, m.2, length-append s.1.rest fill, length-replicate {A = ℕ} (4 - length s.1.rest) 0)) in
    begins_less order bytes fill grown.0.request grown.0.more (omega (arith, lt, number_left 4 (start order bytes) s es))
    (omega (arith, lt, length-replicate {A = ℕ} (4 - length s.1.rest) 0)) grown.0.layout

outcome_injection : (order : Order) (bytes : List ℕ) (s : ℕ × At) (m : Option (ℕ × At)) → IsBytes bytes → number_at 4 (start order bytes) ≡ Some s → 0xfff ≤ s.0
    → number_at 4 s.1 ≡ m → request_of (Some s) ≡ injection_of s.0 m → Outcome order bytes s
unfolding injection_of
outcome_injection order bytes s None fits es low em e = is_short e (grow_length order bytes s fits es low (number_none 4 s.1 em))
outcome_injection order bytes s (Some m) fits es low em e =
    let taken = number_takes (start order bytes) s fits es in
    let long = number_long 4 s.1 m em in
    let later : (after : List ℕ) → request_of (Some (s.0, record { rest = s.1.rest ++ after; order = s.1.order }))
    ≡ injection_of s.0 (Some (m.0, record { rest = m.1.rest ++ after; order = m.1.order })) =
    λ after. injected_of s.0 (record { rest = s.1.rest ++ after; order = s.1.order }) low ∙ ap (injection_of s.0) (number_more 4 s.1 m after em) in
    elim (measured s.0 m) [
      | too_long lt given ↦ is_excess (e ∙ given) (omega (arith, long.0)) (λ after. later after ∙ injection_long s.0 (m.0, record { rest = m.1.rest ++ after; order = m.1.order }) lt)
      | body_short le lt given ↦
          let grown = grow_body order bytes s m taken.0 low taken.1 em (omega arith) in
          is_short (e ∙ given) (record { request = grown.0.request; more = grown.0.more; goes_on = omega (arith, lt, grown.1); layout = grown.0.layout; within = λ _. grown.0.within le })
      | body_long le lt given ↦ is_excess (e ∙ given) (omega (arith, long.0)) (λ after.
          let c : At = record { rest = m.1.rest ++ after; order = m.1.order } in
          later after ∙ injection_whole s.0 (m.0, c) le ∙ whole_excess s.0 m.0 (body_at s.0 m.0) c (needs_body s.0 m.0) (omega (arith, length-append m.1.rest after)))
      | body_exact le is given ↦ is_request (Inject s.0 (record { bytes = m.1.rest; args = 0 })) (e ∙ given)
    ]

outcome : (order : Order) (bytes : List ℕ) (s : ℕ × At) → IsBytes bytes → number_at 4 (start order bytes) ≡ Some s → Row s.0 → Outcome order bytes s
outcome order bytes s fits es (fields n read four needs takes reads) =
    elim (sized s.0 n read s.1 needs) [
      | fewer lt given ↦ is_short (reads s.1 ∙ given) (grow_fields order bytes s n read fits es needs reads lt)
      | more lt given ↦ is_excess (reads s.1 ∙ given) (omega arith) (λ after.
          let c : At = record { rest = s.1.rest ++ after; order = s.1.order } in
          reads c ∙ whole_excess s.0 n read c needs (omega (arith, length-append s.1.rest after)))
      | as_many x made ended given ↦ is_request x.0 (reads s.1 ∙ given)
    ]
outcome order bytes s fits es (bare made is reads) = is_request made (reads s.1)
outcome order bytes s fits es (injected low reads) = outcome_injection order bytes s (number_at 4 s.1) fits es low refl (reads s.1)

-- a service id that is cut off begins a request
begins_cut : (order : Order) (bytes : List ℕ) → IsBytes bytes → length bytes < 4 → BeginsRequest order bytes
begins_cut order bytes fits lt =
    let fill = zeros (4 - length bytes) in
    let full = bytes ++ fill in
    let full_fits = IsBytes-append bytes fill fits (IsBytes-zeros (4 - length bytes)) in
    let len : length full ≡ 4 = omega (arith, length-append bytes fill, length-replicate {A = ℕ} (4 - length bytes) 0) in
    let some : 0 < length fill = omega (arith, lt, length-replicate {A = ℕ} (4 - length bytes) 0) in
    let s = (needs_number 4).enough (start order full) (omega arith) in
    elim (outcome order full s.0 full_fits s.1 (row_of s.0.0)) [
      | is_request request given ↦
          let layout = found order full request full_fits (ap request_of s.1 ∙ given) in
          record { request = request; more = fill; goes_on = some; layout = layout.0; within = λ _. layout.1 }
      | is_short given begins ↦ begins_less order bytes fill begins.request begins.more (omega (arith, lt)) some begins.layout
      | is_excess given some after ↦ absurd (omega (arith, s.2))
    ]

fault_some : (order : Order) (bytes : List ℕ) (fault : RequestFault) (s : ℕ × At) → IsBytes bytes → number_at 4 (start order bytes) ≡ Some s → request_of (Some s) ≡ Err fault
    → IsFault order bytes fault
fault_some order bytes fault s fits es e =
    let named : s.0 ≡ service_told order bytes = sym (named_whole order bytes s es) in
    elim (outcome order bytes s fits es (row_of s.0)) [
      | is_request request given ↦ absurd cc
      | is_short given begins ↦ subst (IsFault order bytes) (err_is (Short s.0) fault (sym given ∙ e)) (named, begins)
      | is_excess given some later ↦ subst (IsFault order bytes) (err_is (Excess s.0) fault (sym given ∙ e)) (
        named,
        omega (arith, some, number_left 4 (start order bytes) s es),
        λ request after within layout.
            let read : request_in order (bytes ++ after) ≡ Ok request = again order (bytes ++ after) request layout within in
            let refused : request_in order (bytes ++ after) ≡ Err (Excess s.0) = ap request_of (number_more 4 (start order bytes) s after es) ∙ later after in
            absurd cc,
      )
    ]

pub fault_cut : (order : Order) (bytes : List ℕ) → IsBytes bytes → number_at 4 (start order bytes) ≡ None → IsFault order bytes (Short 0)
fault_cut order bytes fits e = (sym (named_short order bytes e), begins_cut order bytes fits (number_none 4 (start order bytes) e))

fault_from : (order : Order) (bytes : List ℕ) (fault : RequestFault) (s : Option (ℕ × At)) → IsBytes bytes → number_at 4 (start order bytes) ≡ s → request_of s ≡ Err fault
    → IsFault order bytes fault
unfolding request_of
fault_from order bytes fault None fits es e =
    subst (IsFault order bytes) (err_is (Short 0) fault e) (fault_cut order bytes fits es)
fault_from order bytes fault (Some s) fits es e = fault_some order bytes fault s fits es e

pub fault_found : (order : Order) (bytes : List ℕ) (fault : RequestFault) → IsBytes bytes → request_in order bytes ≡ Err fault → IsFault order bytes fault
fault_found order bytes fault fits e = fault_from order bytes fault (number_at 4 (start order bytes)) fits refl e

-- ---- the laws of an answer that is what reading gives

pub found_in : (order : Order) (bytes : List ℕ) (r : Result Request RequestFault) → IsBytes bytes → r ≡ request_in order bytes → IfOk r (λ request. IsFound order request bytes)
found_in order bytes (Ok request) fits e = found order bytes request fits (sym e)
found_in order bytes (Err fault) fits e = tt

pub only_in : (order : Order) (bytes : List ℕ) (r : Result Request RequestFault) (request : Request) → r ≡ request_in order bytes → IsLaidOut order request bytes → IsWithinLimit request
    → r ≡ Ok request
only_in order bytes r request e layout within = e ∙ again order bytes request layout within

pub fault_in : (order : Order) (bytes : List ℕ) (r : Result Request RequestFault) → IsBytes bytes → r ≡ request_in order bytes → IfErr r (IsFault order bytes)
fault_in order bytes (Ok request) fits e = tt
fault_in order bytes (Err fault) fits e = fault_found order bytes fault fits (sym e)
