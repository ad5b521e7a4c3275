-- What is read of a message's ECU and timestamp at their places are the fields that it spells.
use Rattle.std.proofs.Common.{◌≡◌, ℕ, ◌+◌, ◌-◌, ◌<◌, ◌^◌, Bool, true, false, cond, List, [], ◌∷◌, ◌++◌, length, take, drop, Option, Some, None, refl, sym, ap, ◌∙◌, append_assoc, length-append, is_some, arith}
use Rattle.std.specs.Prelude.{IfSome, slice_index, unwrap_or}
use Rattle.std.proofs.lemmas.Bool.{cond-true, cond-false}
use Rattle.std.proofs.lemmas.List.{take_at, drop_at}
use Rattle.std.specs.Option.{option_map_or}
use Rattle.byteorder.specs.Endian.{big_bytes, big_number}
use Rattle.byteorder.specs.Numbers.{big_number-reads_back}
use Rattle.dl_bytes.specs.Htyp.{htyp_of, has_ecu, has_extended, has_ticks, standard_len}
use Rattle.dl_bytes.specs.Id.{zero_id}
use Rattle.dl_headers.specs.Header.{standard_header, extended_header, optional, IsExtended}
use Rattle.dl_headers.specs.Message.{Message, IsMessage}
use Rattle.dl_headers.proofs.Lengths.{number_long, apid_at, ctid_at}
use Rattle.dl_headers.specs.declared.header.Extended.{Extended}
use Rattle.dl_headers.specs.Reading.{mcnt_of}
use Rattle.dl_receive.specs.MessageKind.{apid_of, behind_standard, ctid_of, msin_of, payload_of, session_of}
use Rattle.dl_receive.proofs.Fields.{behind_read, mcnt_read, session_read}
use Rattle.dl_sessions.specs.Stream.{calls_by, context_of, ecu_of, entry_at, entry_by, entry_in, noar_of, ticks_of}
use Rattle.dl_sessions.specs.declared.session.Calls.{Calls}
use Rattle.dl_sessions.specs.declared.session.Told.{Told}
use Rattle.dl_sessions.specs.declared.session.Told.TheVariants as told

ecu_at : (htyp mcnt len : ℕ) (ecu : Option (List ℕ)) (other more : List ℕ) → IfSome ecu (λ id. length id ≡ 4)
    → cond (is_some ecu) (take 4 (drop 4 (((htyp ∷ mcnt ∷ []) ++ big_bytes 2 len ++ optional (λ (id : List ℕ). id) ecu) ++ more))) other ≡ unwrap_or ecu other
ecu_at htyp mcnt len None other more four = refl
ecu_at htyp mcnt len (Some id) other more four = take_at id more 4 four

four_of : (id : Option (List ℕ)) → IfSome id (λ x. length x ≡ 4) → length (optional (λ (x : List ℕ). x) id) ≡ cond (is_some id) 4 0
four_of None four = refl
four_of (Some id) four = four

ticks_at : (front : List ℕ) (ticks : Option ℕ) (more : List ℕ) (n : ℕ) → (is_some ticks ≡ true → length front ≡ n) → IfSome ticks (λ t. t < 2 ^ 32)
    → cond (is_some ticks) (big_number 4 (drop n ((front ++ optional (big_bytes 4) ticks) ++ more))) 0 ≡ unwrap_or ticks 0
ticks_at front None more n long small = refl
ticks_at front (Some t) more n long small =
    ap (big_number 4) (ap (drop n) (append_assoc front (big_bytes 4 t) more) ∙ drop_at front (big_bytes 4 t ++ more) n (long refl)) ∙ big_number-reads_back 4 t more small

four_same : {a b : Bool} → a ≡ b → ◌≡◌ {A = ℕ} (cond {A = ℕ} a 4 0) (cond {A = ℕ} b 4 0)
four_same e = ap (λ (b : Bool). cond {A = ℕ} b 4 0) e

front_long : (htyp mcnt len : ℕ) (ecu session : List ℕ) → length ((htyp ∷ mcnt ∷ []) ++ big_bytes 2 len ++ ecu ++ session) ≡ 4 + length ecu + length session
front_long htyp mcnt len ecu session = omega (arith, length-append ecu session)

module _ (m : Message) (bytes : List ℕ) (is : IsMessage m bytes) where
  split : bytes ≡ standard_header m.standard ++ (optional extended_header m.extended ++ m.payload)
  split = is.spelled ∙ append_assoc (standard_header m.standard) (optional extended_header m.extended) m.payload

  pub htyp_read : htyp_of bytes ≡ m.standard.htyp
  htyp_read = ap htyp_of split

  pub ecu_read : (other : List ℕ) → ecu_of other bytes ≡ unwrap_or m.standard.ecu other
  ecu_read other =
      let s = m.standard in
      let rest = (optional (big_bytes 4) s.session ++ optional (big_bytes 4) s.ticks) ++ (optional extended_header m.extended ++ m.payload) in
      let parts : bytes ≡ ((s.htyp ∷ s.mcnt ∷ []) ++ big_bytes 2 s.len ++ optional (λ (id : List ℕ). id) s.ecu) ++ rest = split ∙ simp append_assoc in
      ap (λ (h : ℕ). cond (has_ecu h) (take 4 (drop 4 bytes)) other) htyp_read
      ∙ ap (λ (there : Bool). cond there (take 4 (drop 4 bytes)) other) (sym s.ecu_as_told)
      ∙ ap (λ (b : List ℕ). cond (is_some s.ecu) (take 4 (drop 4 b)) other) parts
      ∙ ecu_at s.htyp s.mcnt s.len s.ecu other rest is.standard.ecu

  pub ticks_read : ticks_of bytes ≡ unwrap_or m.standard.ticks 0
  ticks_read =
      let s = m.standard in
      let front = (s.htyp ∷ s.mcnt ∷ []) ++ big_bytes 2 s.len ++ optional (λ (id : List ℕ). id) s.ecu ++ optional (big_bytes 4) s.session in
      let rest = optional extended_header m.extended ++ m.payload in
      let parts : bytes ≡ (front ++ optional (big_bytes 4) s.ticks) ++ rest = split ∙ simp append_assoc in
      let ids = four_of s.ecu is.standard.ecu in
      let size : length front ≡ 4 + length (optional (λ (id : List ℕ). id) s.ecu) + length (optional (big_bytes 4) s.session) =
      front_long s.htyp s.mcnt s.len (optional (λ (id : List ℕ). id) s.ecu) (optional (big_bytes 4) s.session) in
      let long : is_some s.ticks ≡ true → length front ≡ standard_len s.htyp - 4 = λ there.
      omega (arith, size, ids, number_long s.session, four_same s.ecu_as_told, four_same s.session_as_told, four_same s.ticks_as_told, four_same there) in
      ap (λ (h : ℕ). cond (has_ticks h) (big_number 4 (drop (standard_len h - 4) bytes)) 0) htyp_read
      ∙ ap (λ (there : Bool). cond there (big_number 4 (drop (standard_len s.htyp - 4) bytes)) 0) (sym s.ticks_as_told)
      ∙ ap (λ (b : List ℕ). cond (is_some s.ticks) (big_number 4 (drop (standard_len s.htyp - 4) b)) 0) parts
      ∙ ticks_at front s.ticks rest (standard_len s.htyp - 4) long is.standard.ticks

  context_when : (e : Option Extended) → m.extended ≡ e → IfSome e IsExtended → context_of bytes ≡ option_map_or (λ head. head.ctid) e zero_id
  context_when None there fits = (let said : has_extended (htyp_of bytes) ≡ false = ap has_extended htyp_read ∙ sym is.told ∙ ap (λ (e : Option Extended). is_some e) there in cond-false _ _ _ said)
  context_when (Some head) there fits =
      let said : has_extended (htyp_of bytes) ≡ true = ap has_extended htyp_read ∙ sym is.told ∙ ap (λ (e : Option Extended). is_some e) there in
      let at : behind_standard bytes ≡ extended_header head ++ m.payload = behind_read m bytes is ∙ ap (λ (e : Option Extended). optional extended_header e ++ m.payload) there in
      cond-true _ _ _ said ∙ ap (λ (x : List ℕ). take 4 (drop 6 x)) at ∙ ctid_at head.msin head.noar head.apid head.ctid m.payload fits.apid fits.ctid

  pub context_read : context_of bytes ≡ option_map_or (λ head. head.ctid) m.extended zero_id
  context_read = context_when m.extended refl is.extended

  module _ (payload : payload_of bytes ≡ m.payload) where
    entry_when : (ecu : List ℕ) (ticks : ℕ) (e : Option Extended) → m.extended ≡ e → IfSome e IsExtended → entry_at ecu ticks bytes ≡ entry_in m.standard e m.payload ecu ticks
    entry_when ecu ticks None there fits =
        let said : has_extended (htyp_of bytes) ≡ false = ap has_extended htyp_read ∙ sym is.told ∙ ap (λ (e : Option Extended). is_some e) there in
        cond-false _ _ _ said
    entry_when ecu ticks (Some head) there fits =
        let said : has_extended (htyp_of bytes) ≡ true = ap has_extended htyp_read ∙ sym is.told ∙ ap (λ (e : Option Extended). is_some e) there in
        let at : behind_standard bytes ≡ extended_header head ++ m.payload = behind_read m bytes is ∙ ap (λ (e : Option Extended). optional extended_header e ++ m.payload) there in
        let apid : apid_of bytes ≡ head.apid = ap (λ (x : List ℕ). take 4 (drop 2 x)) at ∙ apid_at head.msin head.noar head.apid head.ctid m.payload fits.apid in
        let ctid : ctid_of bytes ≡ head.ctid = ap (λ (x : List ℕ). take 4 (drop 6 x)) at ∙ ctid_at head.msin head.noar head.apid head.ctid m.payload fits.apid fits.ctid in
        let msin : msin_of bytes ≡ head.msin = ap (λ (x : List ℕ). slice_index x 0) at in
        let noar : noar_of bytes ≡ head.noar = ap (λ (x : List ℕ). slice_index x 1) at in
        let read : Calls = calls_by (msin_of bytes) (noar_of bytes) (ctid_of bytes) (payload_of bytes) in
        let calls : read ≡ calls_by head.msin head.noar head.ctid m.payload = λ i. calls_by (msin i) (noar i) (ctid i) (payload i) in
        cond-true _ _ _ said
        ∙ ap (λ (s : Option ℕ). entry_by s (mcnt_of bytes) (apid_of bytes) (ctid_of bytes) ecu ticks read) (session_read m bytes is)
        ∙ ap (λ (n : ℕ). entry_by m.standard.session n (apid_of bytes) (ctid_of bytes) ecu ticks read) (mcnt_read m bytes is)
        ∙ ap (λ (a : List ℕ). entry_by m.standard.session m.standard.mcnt a (ctid_of bytes) ecu ticks read) apid
        ∙ ap (λ (c : List ℕ). entry_by m.standard.session m.standard.mcnt head.apid c ecu ticks read) ctid
        ∙ ap (entry_by m.standard.session m.standard.mcnt head.apid head.ctid ecu ticks) calls

    pub entry_read : (ecu : List ℕ) (ticks : ℕ) → entry_at ecu ticks bytes ≡ entry_in m.standard m.extended m.payload ecu ticks
    entry_read ecu ticks = entry_when ecu ticks m.extended refl is.extended
