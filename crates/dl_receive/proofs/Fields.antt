-- What is read of a message's bytes at their places are the fields of the message that they spell.
use Rattle.std.proofs.Common.{◌≡◌, ℕ, ◌+◌, ◌<◌, ◌^◌, Bool, true, false, cond, List, [], ◌∷◌, ◌++◌, length, take, drop, Option, Some, None, refl, sym, ap, ◌∙◌, append_assoc, length-append, is_some, arith}
use Rattle.std.specs.Prelude.{IfSome, option_map, slice_index}
use Rattle.std.specs.Option.{option_map_or}
use Rattle.std.proofs.lemmas.Bool.{cond-true, cond-false}
use Rattle.std.proofs.lemmas.List.{drop_at}
use Rattle.byteorder.specs.Endian.{big_bytes, big_number}
use Rattle.byteorder.specs.Numbers.{big_number-reads_back}
use Rattle.dl_bytes.specs.Htyp.{htyp_of, len_of, has_extended, has_ecu, has_session, standard_len, header_len}
use Rattle.dl_headers.specs.declared.header.Extended.{Extended}
use Rattle.dl_headers.specs.Header.{standard_header, extended_header, optional, IsExtended}
use Rattle.dl_headers.specs.Message.{Message, IsMessage}
use Rattle.dl_headers.specs.Reading.{mcnt_of}
use Rattle.dl_headers.proofs.Lengths.{apid_at, ctid_at, standard_long}
use Rattle.dl_receive.specs.declared.kind.Kind.TheVariants.{Other}
use Rattle.dl_receive.specs.Counting.{context_counter, counter_at, counter_in}
use Rattle.dl_receive.specs.MessageKind.{apid_of, ctid_of, session_of, behind_standard, payload_of, kind_by, kind_of, headed, kind_in}

-- ---- the standard header

-- the session stands behind the ECU, where that is there
session_at : (htyp mcnt len : ℕ) (ecu : Option (List ℕ)) (session : Option ℕ) (ticks more : List ℕ) → IfSome ecu (λ id. length id ≡ 4) → IfSome session (λ n. n < 2 ^ 32)
    → cond (is_some session) (Some (big_number 4 (drop (cond (is_some ecu) 8 4)
    (((htyp ∷ mcnt ∷ []) ++ big_bytes 2 len ++ optional (λ (id : List ℕ). id) ecu ++ optional (big_bytes 4) session ++ ticks) ++ more)))) None ≡ session
session_at htyp mcnt len ecu None ticks more four small = refl
session_at htyp mcnt len None (Some n) ticks more four small = ap Some (big_number-reads_back 4 n (ticks ++ more) small)
session_at htyp mcnt len (Some (a ∷ b ∷ c ∷ d ∷ [])) (Some n) ticks more four small = ap Some (big_number-reads_back 4 n (ticks ++ more) small)
session_at htyp mcnt len (Some []) (Some n) ticks more four small = absurd (omega arith)
session_at htyp mcnt len (Some (a ∷ [])) (Some n) ticks more four small = absurd (omega arith)
session_at htyp mcnt len (Some (a ∷ b ∷ [])) (Some n) ticks more four small = absurd (omega arith)
session_at htyp mcnt len (Some (a ∷ b ∷ c ∷ [])) (Some n) ticks more four small = absurd (omega arith)
session_at htyp mcnt len (Some (a ∷ b ∷ c ∷ d ∷ e ∷ id)) (Some n) ticks more four small = absurd (omega arith)

-- ---- the extended header

pub extended_long : (head : Extended) → IsExtended head → length (extended_header head) ≡ 10
extended_long head is = omega (arith, length-append head.apid head.ctid, is.apid, is.ctid)

-- ---- the message

kind_same : {htyp htyp' mcnt mcnt' len len' : ℕ} {session session' : Option ℕ} {msin msin' : ℕ} {apid apid' ctid ctid' payload payload' : List ℕ}
    → htyp ≡ htyp' → mcnt ≡ mcnt' → len ≡ len' → session ≡ session' → msin ≡ msin' → apid ≡ apid' → ctid ≡ ctid' → payload ≡ payload'
    → kind_by htyp mcnt len session msin apid ctid payload ≡ kind_by htyp' mcnt' len' session' msin' apid' ctid' payload'
kind_same {htyp} {htyp'} {mcnt} {mcnt'} {len} {len'} {session} {session'} {msin} {msin'} {apid} {apid'} {ctid} {ctid'} {payload} {payload'} h m l s i a c p =
    ap (λ x. kind_by x mcnt len session msin apid ctid payload) h
    ∙ ap (λ x. kind_by htyp' x len session msin apid ctid payload) m
    ∙ ap (λ x. kind_by htyp' mcnt' x session msin apid ctid payload) l
    ∙ ap (λ x. kind_by htyp' mcnt' len' x msin apid ctid payload) s
    ∙ ap (λ x. kind_by htyp' mcnt' len' session' x apid ctid payload) i
    ∙ ap (λ x. kind_by htyp' mcnt' len' session' msin' x ctid payload) a
    ∙ ap (λ x. kind_by htyp' mcnt' len' session' msin' apid' x payload) c
    ∙ ap (λ x. kind_by htyp' mcnt' len' session' msin' apid' ctid' x) p

module _ (m : Message) (bytes : List ℕ) (is : IsMessage m bytes) where
  split : bytes ≡ standard_header m.standard ++ (optional extended_header m.extended ++ m.payload)
  split = is.spelled ∙ append_assoc (standard_header m.standard) (optional extended_header m.extended) m.payload

  htyp_read : htyp_of bytes ≡ m.standard.htyp
  htyp_read = ap htyp_of split

  pub mcnt_read : mcnt_of bytes ≡ m.standard.mcnt
  mcnt_read = ap mcnt_of split

  len_read : len_of bytes ≡ m.standard.len
  len_read =
      let s = m.standard in
      ap len_of split ∙ big_number-reads_back 2 s.len ((optional (λ (id : List ℕ). id) s.ecu ++ optional (big_bytes 4) s.session ++ optional (big_bytes 4) s.ticks) ++ (optional extended_header m.extended ++ m.payload)) is.standard.len

  pub session_read : session_of bytes ≡ m.standard.session
  session_read =
      let s = m.standard in
      ap (λ (h : ℕ). cond (has_session h) (Some (big_number 4 (drop (cond (has_ecu h) 8 4) bytes))) None) htyp_read
      ∙ ap (λ (there : Bool). cond there (Some (big_number 4 (drop (cond (has_ecu s.htyp) 8 4) bytes))) None) (sym s.session_as_told)
      ∙ ap (λ (there : Bool). cond (is_some s.session) (Some (big_number 4 (drop (cond there 8 4) bytes))) None) (sym s.ecu_as_told)
      ∙ ap (λ (b : List ℕ). cond (is_some s.session) (Some (big_number 4 (drop (cond (is_some s.ecu) 8 4) b))) None) split
      ∙ session_at s.htyp s.mcnt s.len s.ecu s.session (optional (big_bytes 4) s.ticks) (optional extended_header m.extended ++ m.payload) is.standard.ecu is.standard.session

  pub behind_read : behind_standard bytes ≡ optional extended_header m.extended ++ m.payload
  behind_read =
      ap (λ (h : ℕ). drop (standard_len h) bytes) htyp_read ∙ ap (drop (standard_len m.standard.htyp)) split
      ∙ drop_at (standard_header m.standard) (optional extended_header m.extended ++ m.payload) (standard_len m.standard.htyp) (standard_long m.standard is.standard)

  payload_read : (head : Extended) → m.extended ≡ Some head → IsExtended head → payload_of bytes ≡ m.payload
  payload_read head there fits =
      let s = m.standard in
      let ext : optional extended_header m.extended ≡ extended_header head = ap (optional extended_header) there in
      let told : has_extended s.htyp ≡ true = sym is.told ∙ ap (λ (e : Option Extended). is_some e) there in
      let size : length (standard_header s ++ optional extended_header m.extended) ≡ header_len s.htyp =
      rw (told, ext) (omega (arith, length-append (standard_header s) (extended_header head), standard_long s is.standard, extended_long head fits)) in
      ap (λ (h : ℕ). drop (header_len h) bytes) htyp_read ∙ ap (drop (header_len s.htyp)) is.spelled
      ∙ drop_at (standard_header s ++ optional extended_header m.extended) m.payload (header_len s.htyp) size

  by_extended : (e : Option Extended) → m.extended ≡ e → IfSome e IsExtended → kind_of bytes ≡ option_map_or (headed m.standard m.payload) e (Other m.standard.len)
  unfolding kind_of
  by_extended None there fits =
      let told : has_extended (htyp_of bytes) ≡ false = ap has_extended htyp_read ∙ sym is.told ∙ ap (λ (e : Option Extended). is_some e) there in
      cond-false _ _ _ told ∙ ap Other len_read
  by_extended (Some head) there fits =
      let told : has_extended (htyp_of bytes) ≡ true = ap has_extended htyp_read ∙ sym is.told ∙ ap (λ (e : Option Extended). is_some e) there in
      let at : behind_standard bytes ≡ extended_header head ++ m.payload = behind_read ∙ ap (λ (e : Option Extended). optional extended_header e ++ m.payload) there in
      cond-true _ _ _ told ∙ kind_same htyp_read mcnt_read len_read session_read
      (ap (λ (x : List ℕ). slice_index x 0) at)
      (ap (λ (x : List ℕ). take 4 (drop 2 x)) at ∙ apid_at head.msin head.noar head.apid head.ctid m.payload fits.apid)
      (ap (λ (x : List ℕ). take 4 (drop 6 x)) at ∙ ctid_at head.msin head.noar head.apid head.ctid m.payload fits.apid fits.ctid)
      (payload_read head there fits)

  pub kind_read : kind_of bytes ≡ kind_in m
  kind_read = by_extended m.extended refl is.extended

  counter_when : (e : Option Extended) → m.extended ≡ e → IfSome e IsExtended → counter_at bytes ≡ counter_in m.standard e
  counter_when None there fits =
      let told : has_extended (htyp_of bytes) ≡ false = ap has_extended htyp_read ∙ sym is.told ∙ ap (λ (e : Option Extended). is_some e) there in
      cond-false _ _ _ told
  counter_when (Some head) there fits =
      let told : has_extended (htyp_of bytes) ≡ true = ap has_extended htyp_read ∙ sym is.told ∙ ap (λ (e : Option Extended). is_some e) there in
      let at : behind_standard bytes ≡ extended_header head ++ m.payload = behind_read ∙ ap (λ (e : Option Extended). optional extended_header e ++ m.payload) there in
      let apid : apid_of bytes ≡ head.apid = ap (λ (x : List ℕ). take 4 (drop 2 x)) at ∙ apid_at head.msin head.noar head.apid head.ctid m.payload fits.apid in
      let ctid : ctid_of bytes ≡ head.ctid = ap (λ (x : List ℕ). take 4 (drop 6 x)) at ∙ ctid_at head.msin head.noar head.apid head.ctid m.payload fits.apid fits.ctid in
      cond-true _ _ _ told
      ∙ ap (λ (s : Option ℕ). option_map (context_counter (mcnt_of bytes) (apid_of bytes) (ctid_of bytes)) s) session_read
      ∙ ap (λ (n : ℕ). option_map (context_counter n (apid_of bytes) (ctid_of bytes)) m.standard.session) mcnt_read
      ∙ ap (λ (a : List ℕ). option_map (context_counter m.standard.mcnt a (ctid_of bytes)) m.standard.session) apid
      ∙ ap (λ (c : List ℕ). option_map (context_counter m.standard.mcnt head.apid c) m.standard.session) ctid

  -- the counter, too
  pub counter_read : counter_at bytes ≡ counter_in m.standard m.extended
  counter_read = counter_when m.extended refl is.extended
