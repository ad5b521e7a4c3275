-- What a reader refuses shows the fault.
use Rattle.std.proofs.Common.{◌≡◌, ◌≢◌, ℕ, zero, suc, ◌^◌, ◌<◌, ℤ, pos, negsuc, Bool, true, false, ltb, eqb, List, ◌++◌, length, take, drop, Option, Some, None, Ok, Err, ◌⊎◌, refl, sym, ap, subst, ◌∙◌, arith, inl, inr}
use Rattle.std.specs.Prelude.{not, nat_le}
use Rattle.std.specs.Str.{bytes_eq}
use Rattle.std.proofs.lemmas.Int.{ints}
use Rattle.std.proofs.lemmas.Bool.{cases_lt, eqb-true, eqb-false, ltb-true, leb-true, leb-false, false≢true}
use Rattle.std.proofs.lemmas.List.{take-append-drop, length-take}
use Rattle.std.proofs.lemmas.Slice.Eq.{bytes_eq-Decides}
use Rattle.dl_lemmas.proofs.Bools.{chosen}
use Rattle.dl_bytes.specs.Htyp.{len_of}
use Rattle.dl_bytes.specs.Number.{At, bytes_at, number_at}
use Rattle.dl_bytes.specs.declared.user.UserMsg.{UserMsg}
use Rattle.dl_user.specs.declared.fault.UserFault.{UserFault}
use Rattle.dl_user.specs.declared.fault.UserFault.TheVariants.{Inner, TooLong, Level}
use Rattle.dl_user.specs.declared.fault.Stop.TheVariants.{Bad}
use Rattle.dl_headers.proofs.Fronts.{good_again}
use Rattle.dl_user.specs.Layout.{marker, uint32}
use Rattle.dl_user.specs.Fields.{app_at, context_at, setting_at, service_at, unregister_app_at, unregister_context_at, overflow_at}
use Rattle.dl_user.specs.Reading.{little, Reading, ◌>>=◌, wait, inner_len, limited_at, registered_level, log_at, register_app_at, register_context_at, log_level_at, injection_at, kind_at, fields_at, message_at}
use Rattle.dl_user.specs.Faults.{BeginsWith, IsRegistered, ProvesFault, other_marker, other_kind, bad_front, long_message, long_app_text, long_context_text, long_body, context_level, set_level}
use Rattle.dl_bytes.specs.Bytes.{IsBytes}
use Rattle.dl_user.proofs.Readers.{IsBytes-rest, TakesSpelled, bind_bad}
use Rattle.dl_user.proofs.FieldReaders.{Fields, wait_some, wait_bad}
use Rattle.dl_user.proofs.Numbers.{bytes_field}
use Rattle.dl_user.proofs.Groups.{app_field, context_field, setting_field, injection_field}
use Rattle.dl_user.proofs.Messages.{kind_reads}
use Rattle.dl_user.proofs.LogKind.{too_few, bad_head, too_long, within_limit, inner_case, inner_len-append, inner_enough}
use Rattle.dl_user.proofs.Refusals.{registered_refuses, registered_gives}

abbrev refused : {A : Type 0} → UserFault → Reading A
refused fault = Err (Bad fault)

same_fault : {A : Type 0} (f g : UserFault) → ◌≡◌ {A = Reading A} (refused f) (refused g) → g ≡ f
same_fault f g e = cc

-- fields that are all there, and the bytes behind them
there : {A : Type 0} (r : At → Option (A × At)) (P : List ℕ → A → Type 0) → Fields r P → (rest : List ℕ) (x : A × At) → IsBytes rest → wait (r (little rest)) ≡ Ok x → TakesSpelled P rest x.0 x.1
there r P h rest x fits e = h.found rest x.0 x.1 fits (wait_some (r (little rest)) x e)

-- the bytes of a message whose fields begin so
front_of : (bytes rest : List ℕ) (kind : ℕ) (front more : List ℕ) → bytes ≡ marker ++ uint32 kind ++ rest → rest ≡ front ++ more → BeginsWith bytes kind front
front_of bytes rest kind front more p e = (more, p ∙ ap (λ (x : List ℕ). marker ++ uint32 kind ++ x) e)

limited_shows : (limit len : ℕ) (c : At) (fault : UserFault) → limited_at limit len c ≡ Err (Bad fault) → (limit < len) × (fault ≡ TooLong len)
unfolding limited_at
limited_shows limit len c fault e =
    elim (chosen (ltb limit len) _ _ _ e) [
      | inl a ↦ (ltb-true limit len a.0, same_fault _ _ a.1)
      | inr a ↦ absurd (wait_bad (bytes_at len c) fault a.1)
    ]

-- bytes within a limit that become a value
behind_shows : {A : Type 0} (limit len : ℕ) (c : At) (f : List ℕ × At → A) (fault : UserFault) → (limited_at limit len c >>= λ x. Ok (f x)) ≡ Err (Bad fault) → (limit < len) × (fault ≡ TooLong len)
behind_shows limit len c f fault e =
    elim (bind_bad (limited_at limit len c) (λ x. Ok (f x)) (Bad fault) e) [
      | inl bad ↦ limited_shows limit len c fault bad
      | inr b ↦ let never = b.2 in absurd cc
    ]

register_app_shows : (bytes rest : List ℕ) (fault : UserFault) → bytes ≡ marker ++ uint32 2 ++ rest → IsBytes rest → register_app_at (little rest) ≡ Err (Bad fault) → ProvesFault bytes fault
unfolding register_app_at
register_app_shows bytes rest fault p fits e =
    elim (bind_bad (wait (app_at (little rest))) _ (Bad fault) e) [
      | inl bad ↦ absurd (wait_bad (app_at (little rest)) fault bad)
      | inr b ↦
          let t = there app_at _ app_field rest b.0 fits b.1 in
          let s = behind_shows 255 b.0.0.len b.0.1 _ fault b.2 in
          subst (λ (f : UserFault). ProvesFault bytes f) (sym s.1) (long_app_text t.text b.0.0 (front_of bytes rest 2 t.text b.0.1.rest p t.parts) t.spells s.0)
    ]

injection_shows : (bytes rest : List ℕ) (fault : UserFault) → bytes ≡ marker ++ uint32 7 ++ rest → IsBytes rest → injection_at (little rest) ≡ Err (Bad fault) → ProvesFault bytes fault
unfolding injection_at
injection_shows bytes rest fault p fits e =
    elim (bind_bad (wait (service_at (little rest))) _ (Bad fault) e) [
      | inl bad ↦ absurd (wait_bad (service_at (little rest)) fault bad)
      | inr b ↦
          let t = there service_at _ injection_field rest b.0 fits b.1 in
          let s = behind_shows 1390 b.0.0.len b.0.1 _ fault b.2 in
          subst (λ (f : UserFault). ProvesFault bytes f) (sym s.1) (long_body t.text b.0.0 (front_of bytes rest 7 t.text b.0.1.rest p t.parts) t.spells s.0)
    ]

registered_within : (z : ℤ) (level : Option ℕ) → registered_level z ≡ Ok level → IsRegistered z
unfolding registered_level
registered_within (pos n) level e =
    elim (chosen (nat_le n 6) (Some (Some n)) None _ refl) [
      | inl a ↦ let below = leb-true n 6 a.0 in (omega (arith, ints), omega (arith, ints))
      | inr a ↦ let test = a.0 in let none : registered_level (pos n) ≡ Err (Bad (Level (pos n))) = rw test refl in absurd (cc (sym e ∙ none))
    ]
registered_within (negsuc zero) level e = (omega (arith, ints), omega (arith, ints))
registered_within (negsuc (suc zero)) level e = (omega (arith, ints), omega (arith, ints))
registered_within (negsuc (suc (suc n))) level e =
    let none = registered_refuses (negsuc (suc (suc n))) (λ h. omega (arith, ints, h.0)) in absurd (cc (sym e ∙ none))

registered_shows : (z : ℤ) (fault : UserFault) → registered_level z ≡ Err (Bad fault) → (IsRegistered z → ⊥) × (fault ≡ Level z)
registered_shows z fault e =
    let outside : IsRegistered z → ⊥ = λ h. let level = registered_gives z h in cc (sym e ∙ level.1) in
    (outside, same_fault {A = Option ℕ} _ _ (sym (registered_refuses z outside) ∙ e))

register_context_shows : (bytes rest : List ℕ) (fault : UserFault) → bytes ≡ marker ++ uint32 4 ++ rest → IsBytes rest → register_context_at (little rest) ≡ Err (Bad fault) → ProvesFault bytes fault
unfolding register_context_at
register_context_shows bytes rest fault p fits e =
    elim (bind_bad (wait (context_at (little rest))) _ (Bad fault) e) [
      | inl bad ↦ absurd (wait_bad (context_at (little rest)) fault bad)
      | inr b ↦
          let t = there context_at _ context_field rest b.0 fits b.1 in
          let begins = front_of bytes rest 4 t.text b.0.1.rest p t.parts in
          elim (bind_bad (registered_level b.0.0.level) _ (Bad fault) b.2) [
            | inl bad ↦
                let s = registered_shows b.0.0.level fault bad in
                subst (λ (f : UserFault). ProvesFault bytes f) (sym s.1) (context_level t.text b.0.0 begins t.spells s.0)
            | inr l ↦
                let s = behind_shows 255 b.0.0.len b.0.1 _ fault l.2 in
                subst (λ (f : UserFault). ProvesFault bytes f) (sym s.1) (long_context_text t.text b.0.0 begins t.spells (registered_within b.0.0.level l.0 l.1) s.0)
          ]
    ]

log_level_shows : (bytes rest : List ℕ) (fault : UserFault) → bytes ≡ marker ++ uint32 6 ++ rest → IsBytes rest → log_level_at (little rest) ≡ Err (Bad fault) → ProvesFault bytes fault
unfolding log_level_at
log_level_shows bytes rest fault p fits e =
    elim (bind_bad (wait (setting_at (little rest))) _ (Bad fault) e) [
      | inl bad ↦ absurd (wait_bad (setting_at (little rest)) fault bad)
      | inr b ↦
          let t = there setting_at _ setting_field rest b.0 fits b.1 in
          elim (chosen (nat_le b.0.0.level 6) _ _ _ b.2) [
            | inl a ↦ let never = a.1 in absurd cc
            | inr a ↦
                let test = a.0 in
                let above : 6 < b.0.0.level = leb-false b.0.0.level 6 test in
                subst (λ (f : UserFault). ProvesFault bytes f) (sym (same_fault _ _ a.1)) (set_level t.text b.0.0 (front_of bytes rest 6 t.text b.0.1.rest p t.parts) t.spells above)
          ]
    ]

-- ---- kind 1

-- what is wrong with the first four bytes of a message
head_shows : (bytes head : List ℕ) (fault : UserFault) → BeginsWith bytes 1 head → length head ≡ 4 → inner_len head ≡ Err (Bad fault) → ProvesFault bytes fault
head_shows bytes head fault begins len e =
    elim (inner_case head) [
      | too_few h is ↦ absurd (omega (arith, h, len))
      | bad_head f h front is ↦ subst (λ (x : UserFault). ProvesFault bytes x) (same_fault {A = ℕ} fault (Inner f) (sym e ∙ is)) (bad_front head f begins len front)
      | too_long front above is ↦ subst (λ (x : UserFault). ProvesFault bytes x) (same_fault {A = ℕ} fault (TooLong (len_of head)) (sym e ∙ is)) (long_message head begins len (good_again head front) above)
      | within_limit front within is ↦ absurd (cc (sym is ∙ e))
    ]

log_shows : (bytes rest : List ℕ) (fault : UserFault) → bytes ≡ marker ++ uint32 1 ++ rest → log_at (little rest) ≡ Err (Bad fault) → ProvesFault bytes fault
unfolding log_at
log_shows bytes rest fault p e =
    elim (bind_bad (inner_len rest) _ (Bad fault) e) [
      | inl bad ↦
          let enough = inner_enough rest fault bad in
          let head = take 4 rest in
          let len : length head ≡ 4 = omega (arith, length-take 4 rest) in
          let parts : rest ≡ head ++ drop 4 rest = sym (take-append-drop 4 rest) in
          let same : inner_len rest ≡ inner_len head = ap inner_len parts ∙ inner_len-append head (drop 4 rest) (omega arith) in
          head_shows bytes head fault (front_of bytes rest 1 head (drop 4 rest) p parts) len (sym same ∙ bad)
      | inr b ↦ elim (bind_bad (wait (bytes_at b.0 (little rest))) _ (Bad fault) b.2) [
        | inl bad ↦ absurd (wait_bad (bytes_at b.0 (little rest)) fault bad)
        | inr d ↦ let never = d.2 in absurd cc
      ]
    ]

-- ---- all kinds

-- the bytes of a message of this kind
at_kind : (bytes rest : List ℕ) (kind k : ℕ) → eqb kind k ≡ true → bytes ≡ marker ++ uint32 kind ++ rest → bytes ≡ marker ++ uint32 k ++ rest
at_kind bytes rest kind k e p = subst (λ (n : ℕ). bytes ≡ marker ++ uint32 n ++ rest) (eqb-true kind k e) p

fields_show : (bytes rest : List ℕ) (kind : ℕ) (fault : UserFault) → bytes ≡ marker ++ uint32 kind ++ rest → kind < 2 ^ 32 → IsBytes rest → fields_at kind (little rest) ≡ Err (Bad fault) → ProvesFault bytes fault
unfolding fields_at
fields_show bytes rest kind fault p below fits e =
    elim (chosen (eqb kind 1) _ _ _ e) [
      | inl a ↦ log_shows bytes rest fault (at_kind bytes rest kind 1 a.0 p) a.1
      | inr a1 ↦
          elim (chosen (eqb kind 2) _ _ _ a1.1) [
            | inl a ↦ register_app_shows bytes rest fault (at_kind bytes rest kind 2 a.0 p) fits a.1
            | inr a2 ↦
                elim (chosen (eqb kind 3) _ _ _ a2.1) [
                  | inl a ↦ absurd (wait_bad (unregister_app_at (little rest)) fault a.1)
                  | inr a3 ↦
                      elim (chosen (eqb kind 4) _ _ _ a3.1) [
                        | inl a ↦ register_context_shows bytes rest fault (at_kind bytes rest kind 4 a.0 p) fits a.1
                        | inr a4 ↦
                            elim (chosen (eqb kind 5) _ _ _ a4.1) [
                              | inl a ↦ absurd (wait_bad (unregister_context_at (little rest)) fault a.1)
                              | inr a5 ↦
                                  elim (chosen (eqb kind 6) _ _ _ a5.1) [
                                    | inl a ↦ log_level_shows bytes rest fault (at_kind bytes rest kind 6 a.0 p) fits a.1
                                    | inr a6 ↦
                                        elim (chosen (eqb kind 7) _ _ _ a6.1) [
                                          | inl a ↦ injection_shows bytes rest fault (at_kind bytes rest kind 7 a.0 p) fits a.1
                                          | inr a7 ↦
                                              elim (chosen (eqb kind 8) _ _ _ a7.1) [
                                                | inl a ↦ absurd (wait_bad (overflow_at (little rest)) fault a.1)
                                                | inr a8 ↦
                                                    let outside : (kind < 1) ⊎ (8 < kind) = elim (cases_lt kind 1) [
                                                      | inl lt ↦ inl lt
                                                      | inr le ↦ elim (cases_lt 8 kind) [
                                                        | inl lt ↦ inr lt
                                                        | inr within ↦
                                                            absurd (omega (arith, eqb-false kind 1 a1.0, eqb-false kind 2 a2.0, eqb-false kind 3 a3.0, eqb-false kind 4 a4.0, eqb-false kind 5 a5.0, eqb-false kind 6 a6.0, eqb-false kind 7 a7.0, eqb-false kind 8 a8.0))
                                                      ]
                                                    ] in
                                                    subst (λ (f : UserFault). ProvesFault bytes f) (sym (same_fault {A = UserMsg × At} _ _ a8.1)) (other_kind kind (rest, p) below outside)
                                              ]
                                        ]
                                  ]
                            ]
                      ]
                ]
          ]
    ]

marker_shows : (bytes : List ℕ) (fault : UserFault) → IsBytes bytes → kind_at (little bytes) ≡ Err (Bad fault) → ProvesFault bytes fault
unfolding kind_at
marker_shows bytes fault fits e =
    elim (bind_bad (wait (bytes_at 4 (little bytes))) _ (Bad fault) e) [
      | inl bad ↦ absurd (wait_bad (bytes_at 4 (little bytes)) fault bad)
      | inr b ↦
          let t = there (λ c. bytes_at 4 c) _ (bytes_field 4) bytes b.0 fits b.1 in
          elim (chosen (bytes_eq b.0.0 marker) _ _ _ b.2) [
            | inl a ↦ absurd (wait_bad (number_at 4 b.0.1) fault a.1)
            | inr a ↦
                let parts : bytes ≡ b.0.0 ++ b.0.1.rest = t.parts ∙ ap (λ (x : List ℕ). x ++ b.0.1.rest) t.spells.0 in
                let other : b.0.0 ≢ marker = λ same. false≢true (sym a.0 ∙ (bytes_eq-Decides b.0.0 marker).1 same) in
                subst (λ (f : UserFault). ProvesFault bytes f) (sym (same_fault {A = ℕ × At} _ _ a.1)) (other_marker b.0.0 b.0.1.rest parts t.spells.1 other)
          ]
    ]

-- What is refused for a fault shows it.
pub shows : (bytes : List ℕ) (fault : UserFault) → IsBytes bytes → message_at (little bytes) ≡ Err (Bad fault) → ProvesFault bytes fault
unfolding message_at
shows bytes fault fits e =
    elim (bind_bad (kind_at (little bytes)) _ (Bad fault) e) [
      | inl bad ↦ marker_shows bytes fault fits bad
      | inr b ↦
          let t = kind_reads.found bytes b.0.0 b.0.1 fits b.1 in
          let s = t.spells in
          let front : t.text ≡ marker ++ uint32 b.0.0 = rw (s.parts, s.front_spells.0, s.back_spells.0) (ap (λ (x : List ℕ). marker ++ x) s.back_spells.1.0) in
          let parts : bytes ≡ marker ++ uint32 b.0.0 ++ b.0.1.rest = t.parts ∙ ap (λ (x : List ℕ). x ++ b.0.1.rest) front in
          let go : fields_at b.0.0 (little b.0.1.rest) ≡ Err (Bad fault) = subst (λ (d : At). fields_at b.0.0 d ≡ Err (Bad fault)) t.left b.2 in
          fields_show bytes b.0.1.rest b.0.0 fault parts s.back_spells.1.1 (IsBytes-rest bytes t.text b.0.1.rest t.parts fits) go
    ]
