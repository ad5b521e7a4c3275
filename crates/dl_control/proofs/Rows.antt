-- The rows of the table of requests: what each reads, how many bytes, and how it is laid out.
use Rattle.std.proofs.Common.{◌≡◌, ◌≢◌, ℕ, ℤ, ◌<◌, ◌≤◌, List, [], ◌∷◌, ◌++◌, length, Option, Some, Ok, refl, sym, subst, arith, inl, inr, ◌⊎◌, add-zero}
use Rattle.std.specs.Int.{w8, cast_signed, cast_unsigned}
use Rattle.std.specs.Int.RustNames.{FitsSigned}
use Rattle.std.proofs.lemmas.Bool.{cases_lt, le-ltb, ne_eqb, le-leb}
use Rattle.std.proofs.lemmas.Bool.Decides.{eqb_tells}
use Rattle.std.proofs.lemmas.Int.{of_z-to_z, to_z-of_z}
use Rattle.std.proofs.Math.Facts.{sfits_to_z, Fits-of_lt}
use Rattle.dl_lemmas.proofs.Options.{same_thing}
use Rattle.dl_bytes.specs.declared.cursor.Order.{Order}
use Rattle.dl_bytes.specs.Number.{At, bytes_at, number_at}
use Rattle.dl_control.specs.declared.request.Request.{Request}
use Rattle.dl_control.specs.declared.request.Request.TheVariants.{SetLogLevel, GetLogInfo, GetDefault, Store, Reset, SetDefault, Version, SetAllLogLevel, Inject, Other}
use Rattle.dl_control.specs.Request.{service_of, fields_of, MayFollow, Fits, IsOther, IsWithinLimit}
use Rattle.dl_control.specs.Reading.{log_level_at, log_info_at, default_level_at, all_levels_at, body_at, whole_of, injection_of, request_of}
use Rattle.dl_bytes.specs.Bytes.{IsBytes}
use Rattle.dl_control.proofs.Fields.{TakesBytes, TakesBytes-then, with_step, bytes_take, byte_takes, Needs, needs_bytes, needs_number, needs_none, needs_then}

-- a level read as signed is laid out as its byte
level_back : (b : ℕ) → b < 256 → cast_unsigned w8 (cast_signed w8 b) ≡ b
level_back b lt = of_z-to_z w8 b lt

level_fits : (b : ℕ) → b < 256 → FitsSigned w8 (cast_signed w8 b)
level_fits b lt = sfits_to_z (Fits-of_lt lt)

pub level_again : (z : ℤ) → FitsSigned w8 z → cast_signed w8 (cast_unsigned w8 z) ≡ z
level_again z fits = to_z-of_z w8 z fits

-- reading took this request from the front, with the bytes that may follow its fields
pub record TakesRequest (c : At) (request : Request) (left : At) : Type 0 where
  pub fits : Fits request
  pub within : IsWithinLimit request
  pub ignored : List ℕ
  pub may_follow : MayFollow request ignored
  pub takes : TakesBytes c (fields_of c.order request ++ ignored) left

-- each request of this service that is read takes its bytes
abbrev pub TakesRow : ℕ → (At → Option (Request × At)) → Type 0
TakesRow service read = (c : At) (x : Request × At) → IsBytes c.rest → read c ≡ Some x → TakesRequest c x.0 x.1 × (service_of x.0 ≡ service)

log_level_made : (c a b l left : At) (apid ctid : List ℕ) (level : ℕ) (reserved : List ℕ) → TakesBytes c apid a × (length apid ≡ 4) → TakesBytes a ctid b × (length ctid ≡ 4)
    → TakesBytes b (level ∷ []) l × (level < 256) → TakesBytes l reserved left × (length reserved ≡ 4) → TakesRequest c (SetLogLevel apid ctid (cast_signed w8 level)) left
log_level_made c a b l left apid ctid level reserved first second third last =
    let both = TakesBytes-then c apid a ctid b first.0 second.0 in
    let fields = TakesBytes-then c (apid ++ ctid) b (level ∷ []) l both third.0 in
    let whole = TakesBytes-then c (apid ++ ctid ++ level ∷ []) l reserved left fields last.0 in
    record {
      fits = (first.1, second.1, level_fits level third.1);
      within = tt;
      ignored = reserved;
      may_follow = last.1;
      takes = rw (level_back level third.1) whole;
    }

log_level_takes : TakesRow 0x01 log_level_at
unfolding log_level_at
log_level_takes c x fits e =
    with_step (bytes_at 4 c) _ x _ e (λ a ea after_a.
    with_step (bytes_at 4 a.1) _ x _ after_a (λ b eb after_b.
    with_step (number_at 1 b.1) _ x _ after_b (λ l el after_l.
    with_step (bytes_at 4 l.1) _ x _ after_l (λ r er made.
    let ta = bytes_take 4 c a fits ea in
    let tb = bytes_take 4 a.1 b ta.0.fits eb in
    let tl = byte_takes b.1 l tb.0.fits el in
    let tr = bytes_take 4 l.1 r tl.0.fits er in
    subst (λ (y : Request × At). TakesRequest c y.0 y.1 × (service_of y.0 ≡ 0x01)) (same_thing (SetLogLevel a.0 b.0 (cast_signed w8 l.0), r.1) x made)
    (log_level_made c a.1 b.1 l.1 r.1 a.0 b.0 l.0 r.0 ta tb tl tr, refl)))))

log_info_made : (c o a b left : At) (options : ℕ) (apid ctid reserved : List ℕ) → TakesBytes c (options ∷ []) o → TakesBytes o apid a × (length apid ≡ 4)
    → TakesBytes a ctid b × (length ctid ≡ 4) → TakesBytes b reserved left × (length reserved ≡ 4) → TakesRequest c (GetLogInfo options apid ctid) left
log_info_made c o a b left options apid ctid reserved first second third last =
    let both = TakesBytes-then c (options ∷ []) o apid a first second.0 in
    let fields = TakesBytes-then c (options ∷ apid) a ctid b both third.0 in
    let whole = TakesBytes-then c (options ∷ apid ++ ctid) b reserved left fields last.0 in
    record { fits = (second.1, third.1); within = tt; ignored = reserved; may_follow = last.1; takes = whole }

log_info_takes : TakesRow 0x03 log_info_at
unfolding log_info_at
log_info_takes c x fits e =
    with_step (number_at 1 c) _ x _ e (λ o eo after_o.
    with_step (bytes_at 4 o.1) _ x _ after_o (λ a ea after_a.
    with_step (bytes_at 4 a.1) _ x _ after_a (λ b eb after_b.
    with_step (bytes_at 4 b.1) _ x _ after_b (λ r er made.
    let to = byte_takes c o fits eo in
    let ta = bytes_take 4 o.1 a to.0.fits ea in
    let tb = bytes_take 4 a.1 b ta.0.fits eb in
    let tr = bytes_take 4 b.1 r tb.0.fits er in
    subst (λ (y : Request × At). TakesRequest c y.0 y.1 × (service_of y.0 ≡ 0x03)) (same_thing (GetLogInfo o.0 a.0 b.0, r.1) x made)
    (log_info_made c o.1 a.1 b.1 r.1 o.0 a.0 b.0 r.0 to.0 ta tb tr, refl)))))

default_level_takes : TakesRow 0x11 default_level_at
unfolding default_level_at
default_level_takes c x fits e =
    with_step (number_at 1 c) _ x _ e (λ l el after_l.
    with_step (bytes_at 4 l.1) _ x _ after_l (λ r er made.
    let tl = byte_takes c l fits el in
    let tr = bytes_take 4 l.1 r tl.0.fits er in
    let whole = TakesBytes-then c (l.0 ∷ []) l.1 r.0 r.1 tl.0 tr.0 in
    subst (λ (y : Request × At). TakesRequest c y.0 y.1 × (service_of y.0 ≡ 0x11)) (same_thing (SetDefault l.0, r.1) x made)
    (record { fits = tt; within = tt; ignored = r.0; may_follow = tr.1; takes = whole }, refl)))

all_levels_takes : TakesRow 0xf08 all_levels_at
unfolding all_levels_at
all_levels_takes c x fits e =
    with_step (number_at 1 c) _ x _ e (λ l el after_l.
    with_step (bytes_at 4 l.1) _ x _ after_l (λ r er made.
    let tl = byte_takes c l fits el in
    let tr = bytes_take 4 l.1 r tl.0.fits er in
    let whole = TakesBytes-then c (l.0 ∷ []) l.1 r.0 r.1 tl.0 tr.0 in
    subst (λ (y : Request × At). TakesRequest c y.0 y.1 × (service_of y.0 ≡ 0xf08)) (same_thing (SetAllLogLevel (cast_signed w8 l.0), r.1) x made)
    (record { fits = level_fits l.0 tl.1; within = tt; ignored = r.0; may_follow = tr.1; takes = rw (level_back l.0 tl.1) whole }, refl)))

needs_log_level : Needs 13 log_level_at
unfolding log_level_at
needs_log_level =
    needs_then 4 9 (bytes_at 4) _ (needs_bytes 4) (λ apid.
    needs_then 4 5 (bytes_at 4) _ (needs_bytes 4) (λ ctid.
    needs_then 1 4 (number_at 1) _ (needs_number 1) (λ level.
    needs_then 4 0 (bytes_at 4) _ (needs_bytes 4) (λ reserved.
    needs_none (SetLogLevel apid ctid (cast_signed w8 level))))))

needs_log_info : Needs 13 log_info_at
unfolding log_info_at
needs_log_info =
    needs_then 1 12 (number_at 1) _ (needs_number 1) (λ options.
    needs_then 4 8 (bytes_at 4) _ (needs_bytes 4) (λ apid.
    needs_then 4 4 (bytes_at 4) _ (needs_bytes 4) (λ ctid.
    needs_then 4 0 (bytes_at 4) _ (needs_bytes 4) (λ reserved.
    needs_none (GetLogInfo options apid ctid)))))

needs_default_level : Needs 5 default_level_at
unfolding default_level_at
needs_default_level =
    needs_then 1 4 (number_at 1) _ (needs_number 1) (λ level.
    needs_then 4 0 (bytes_at 4) _ (needs_bytes 4) (λ reserved.
    needs_none (SetDefault level)))

needs_all_levels : Needs 5 all_levels_at
unfolding all_levels_at
needs_all_levels =
    needs_then 1 4 (number_at 1) _ (needs_number 1) (λ level.
    needs_then 4 0 (bytes_at 4) _ (needs_bytes 4) (λ reserved.
    needs_none (SetAllLogLevel (cast_signed w8 level))))

pub needs_body : (service n : ℕ) → Needs n (body_at service n)
unfolding body_at
needs_body service n =
    subst (λ (k : ℕ). Needs k (body_at service n)) (add-zero n)
    (needs_then n 0 (bytes_at n) _ (needs_bytes n) (λ bytes. needs_none (Inject service (record { bytes = bytes; args = 0 }))))

-- ---- the row of a service

-- a request with no fields
pub record IsBare (service : ℕ) (request : Request) : Type 0 where
  pub service_is : service_of request ≡ service
  pub fits : Fits request
  pub within : IsWithinLimit request
  pub no_fields : (order : Order) → fields_of order request ≡ []
  pub may_follow : (bytes : List ℕ) → MayFollow request bytes

pub data Row (service : ℕ) : Type 0 where
  fields : (n : ℕ) (read : At → Option (Request × At)) → 4 ≤ n → Needs n read → TakesRow service read → ((c : At) → request_of (Some (service, c)) ≡ whole_of service (read c)) → Row service
  bare : (request : Request) → IsBare service request → ((c : At) → request_of (Some (service, c)) ≡ Ok request) → Row service
  injected : 0xfff ≤ service → ((c : At) → request_of (Some (service, c)) ≡ injection_of service (number_at 4 c)) → Row service

row_01 : (service : ℕ) → service ≡ 0x01 → Row service
unfolding request_of
row_01 service is = rw is (fields 13 log_level_at (omega arith) needs_log_level log_level_takes (λ c. refl))

row_03 : (service : ℕ) → service ≡ 0x03 → Row service
unfolding request_of
row_03 service is = rw is (fields 13 log_info_at (omega arith) needs_log_info log_info_takes (λ c. refl))

row_11 : (service : ℕ) → service ≡ 0x11 → Row service
unfolding request_of
row_11 service is = rw is (fields 5 default_level_at (omega arith) needs_default_level default_level_takes (λ c. refl))

row_f08 : (service : ℕ) → service ≡ 0xf08 → Row service
unfolding request_of
row_f08 service is = rw is (fields 5 all_levels_at (omega arith) needs_all_levels all_levels_takes (λ c. refl))

bare_row : (service : ℕ) (request : Request) → IsBare service request → ((c : At) → request_of (Some (service_of request, c)) ≡ Ok request) → Row service
bare_row service request is reads = bare request is (rw is.service_is at reads)

row_04 : (service : ℕ) → service ≡ 0x04 → Row service
unfolding request_of
row_04 service is =
    bare_row service GetDefault (record { service_is = sym is; fits = tt; within = tt; no_fields = λ order. refl; may_follow = λ bytes. tt }) (λ c. refl)

row_05 : (service : ℕ) → service ≡ 0x05 → Row service
unfolding request_of
row_05 service is =
    bare_row service Store (record { service_is = sym is; fits = tt; within = tt; no_fields = λ order. refl; may_follow = λ bytes. tt }) (λ c. refl)

row_06 : (service : ℕ) → service ≡ 0x06 → Row service
unfolding request_of
row_06 service is =
    bare_row service Reset (record { service_is = sym is; fits = tt; within = tt; no_fields = λ order. refl; may_follow = λ bytes. tt }) (λ c. refl)

row_13 : (service : ℕ) → service ≡ 0x13 → Row service
unfolding request_of
row_13 service is =
    bare_row service Version (record { service_is = sym is; fits = tt; within = tt; no_fields = λ order. refl; may_follow = λ bytes. tt }) (λ c. refl)

-- a service id that no row above the last two has
pub other_of : (service : ℕ) (c : At) → IsOther service → request_of (Some (service, c)) ≡ Ok (Other service)
unfolding request_of
other_of service c is =
    let below = is.8 in
    rw (
      ne_eqb service 0x01 is.0,
      ne_eqb service 0x03 is.1,
      ne_eqb service 0x04 is.2,
      ne_eqb service 0x05 is.3,
      ne_eqb service 0x06 is.4,
      ne_eqb service 0x11 is.5,
      ne_eqb service 0x13 is.6,
      ne_eqb service 0xf08 is.7,
      le-ltb 0xffe service (omega arith),
    ) refl

pub injected_of : (service : ℕ) (c : At) → 0xfff ≤ service → request_of (Some (service, c)) ≡ injection_of service (number_at 4 c)
unfolding request_of
injected_of service c above =
    rw (
      ne_eqb service 0x01 (omega arith),
      ne_eqb service 0x03 (omega arith),
      ne_eqb service 0x04 (omega arith),
      ne_eqb service 0x05 (omega arith),
      ne_eqb service 0x06 (omega arith),
      ne_eqb service 0x11 (omega arith),
      ne_eqb service 0x13 (omega arith),
      ne_eqb service 0xf08 (omega arith),
      le-leb 0xfff service above,
    ) refl

row_other : (service : ℕ) → IsOther service → Row service
row_other service is =
    bare (Other service) (record { service_is = refl; fits = is; within = tt; no_fields = λ order. refl; may_follow = λ bytes. tt }) (λ c. other_of service c is)

cases_equal : (a b : ℕ) → (a ≡ b) ⊎ (a ≢ b)
cases_equal a b = elim (eqb_tells a b) [ inl w ↦ inl w.1 | inr w ↦ inr w.1 ]

pub row_of : (service : ℕ) → Row service
row_of s =
    elim (cases_equal s 0x01) [
      | inl is ↦ row_01 s is
      | inr not_01 ↦
          elim (cases_equal s 0x03) [
            | inl is ↦ row_03 s is
            | inr not_03 ↦
                elim (cases_equal s 0x04) [
                  | inl is ↦ row_04 s is
                  | inr not_04 ↦
                      elim (cases_equal s 0x05) [
                        | inl is ↦ row_05 s is
                        | inr not_05 ↦
                            elim (cases_equal s 0x06) [
                              | inl is ↦ row_06 s is
                              | inr not_06 ↦
                                  elim (cases_equal s 0x11) [
                                    | inl is ↦ row_11 s is
                                    | inr not_11 ↦
                                        elim (cases_equal s 0x13) [
                                          | inl is ↦ row_13 s is
                                          | inr not_13 ↦
                                              elim (cases_equal s 0xf08) [
                                                | inl is ↦ row_f08 s is
                                                | inr not_f08 ↦
                                                    elim (cases_lt s 0xfff) [
                                                      | inl below ↦ row_other s (not_01, not_03, not_04, not_05, not_06, not_11, not_13, not_f08, below)
                                                      | inr above ↦ injected above (λ c. injected_of s c above)
                                                    ]
                                              ]
                                        ]
                                  ]
                            ]
                      ]
                ]
          ]
    ]
