-- Which applications are there: those of this process come first, and stay.
use Rattle.std.proofs.Common.{◌≡◌, ℕ, ◌+◌, ◌<◌, ◌≤◌, Bool, true, false, cond, eqb, List, [], ◌∷◌, ◌++◌, length, map, Option, Some, None, Result, Ok, Err, refl, sym, ap, subst, ◌∙◌, arith, not, inl, inr, true≢false}
use Rattle.std.specs.Prelude.{suc, negsuc, ◌==◌, ◌||◌, nat_eq, nat_le, if◌then◌else◌, unwrap_or, is_some, IfOk, IsSome}
use Rattle.std.specs.List.{find, list_any}
use Rattle.std.specs.Map.{lookup, set_value}
use Rattle.std.specs.Option.{option_and_then, option_map}
use Rattle.std.specs.Result.{result_unwrap_or}
use Rattle.std.specs.Str.{bytes_eq}
use Rattle.std.proofs.lemmas.Bool.{cases_lt, eq-eqb, ne_eqb}
use Rattle.std.proofs.lemmas.List.{length-map, map-append}
use Rattle.std.proofs.Math.Bool.{or-true}
use Rattle.dl_lemmas.proofs.Bools.{neither}
use Rattle.dl_bytes.specs.Claim.{Claimed}
use Rattle.dl_bytes.specs.Id.{zero_id}
use Rattle.dl_bytes.specs.declared.outcome.Done.{Done}
use Rattle.dl_bytes.specs.declared.user.UserMsg.{UserMsg}
use Rattle.dl_bytes.specs.declared.user.UserMsg.TheVariants.{RegisterApp, UnregisterApp, RegisterContext, UnregisterContext, Log, LogLevel, Injection, Overflow}
use Rattle.dl_control.specs.declared.request.Request.{Request}
use Rattle.dl_control.specs.declared.request.RequestFault.{RequestFault}
use Rattle.dl_events.specs.declared.event.Event.{Event}
use Rattle.dl_events.specs.declared.event.Event.TheVariants as event
use Rattle.dl_model.specs.declared.registry.RegistryFault.{RegistryFault}
use Rattle.dl_model.specs.declared.registry.RegistryFault.TheVariants as fault
use Rattle.dl_model.specs.declared.registry.Slot.{Slot}
use Rattle.dl_model.specs.Journal.{step}
use Rattle.dl_model.specs.Registry.{App, Registry, Relevel, apid_numbered, app_of, app_registered, applied, claimed, context_of, context_registered, for_app, least_free, numbers, of_channel, releveled_app, with_app, with_new_app, without}
use Rattle.dl_model.specs.Reply.{asked, served}
use Rattle.dl_model.specs.Setting.{Setting}
use Rattle.dl_model.proofs.Numbered.{least_free-is_free, least_free-le-length}
use Rattle.dl_model.proofs.Changes.{app_registers, app_unregisters, claim_makes, context_registers, context_unregisters, found_on, new_app, served_makes}
use Rattle.dl_model.proofs.Presence.{bytes_same, bytes_differ}

-- a message of an application
abbrev pub is_message : Event → Bool
is_message (event.User channel msg moment) = true
is_message _ = false

-- ---- who is there

-- an application: its id, its channel and its number
pub record Who : Type 0 where
  pub apid : List ℕ
  pub channel : ℕ
  pub number : ℕ

abbrev pub who : List ℕ × App → Who
who e = record { apid = e.0; channel = e.1.channel; number = e.1.number }

-- all that are there, in the order in which they came
abbrev pub there : Registry → List Who
there r = map who r.apps

-- an application of this process
abbrev pub own : List ℕ → ℕ → Who
own apid number = record { apid = apid; channel = 0; number = number }

-- the first ones are these of this process, numbered one after the other
abbrev pub AreFirst : ℕ → List (List ℕ) → List Who → Type 0
AreFirst number [] all = Unit {0}
AreFirst number (apid ∷ apids) [] = ⊥
AreFirst number (apid ∷ apids) (one ∷ all) = (one ≡ own apid number) × AreFirst (number + 1) apids all

-- ---- what leaves who is there

-- an application that is changed stays who it is
pub set_there : (test : List ℕ → Bool) (es : List (List ℕ × App)) (old new : App) → lookup test es ≡ Some old → new.channel ≡ old.channel → new.number ≡ old.number →
    map who (set_value test es new) ≡ map who es
set_there test [] old new found channel number = refl
set_there test (e ∷ es) old new found channel number = by (test e.0) found (λ later. set_there test es old new later channel number) where
  by : (b : Bool) → cond b (Some e.1) (lookup test es) ≡ Some old → (lookup test es ≡ Some old → map who (set_value test es new) ≡ map who es) →
      map who (cond b ((e.0, new) ∷ es) (e ∷ set_value test es new)) ≡ map who (e ∷ es)
  by true here rest =
      let same : e.1 ≡ old = cc here in
      let is : who (e.0, new) ≡ who (e.0, old) = λ i. record { apid = e.0; channel = channel i; number = number i } in
      ap (λ (w : Who). w ∷ map who es) (is ∙ ap (λ (a : App). who (e.0, a)) (sym same))
  by false later rest = ap (λ (ws : List Who). who e ∷ ws) (rest later)

pub relevel_there : (relevel : Relevel) (es : List (List ℕ × App)) → map who (map (releveled_app relevel) es) ≡ map who es
relevel_there relevel [] = refl
relevel_there relevel (e ∷ es) = ap (λ (ws : List Who). who e ∷ ws) (relevel_there relevel es)

module _ (r : Registry) where
  abbrev Same : Registry → Type 0
  Same new = there new ≡ there r

  same_app : (apid : List ℕ) (old new : App) → lookup (bytes_eq apid) r.apps ≡ Some old → new.channel ≡ old.channel → new.number ≡ old.number → Same (with_app r apid new)
  same_app apid old new found channel number = set_there (bytes_eq apid) r.apps old new found channel number

  pub request_same : (s : Setting) (slots : ℕ → Slot) (request : Result Request RequestFault) (answer : Done) → Same (served s slots r request answer)
  request_same = served_makes Same r refl (λ level relevel. relevel_there relevel r.apps) (λ new stored is. is)

  pub claim_same : (slots : ℕ → Slot) (claim : Claimed) → Same (unwrap_or (claimed slots r claim) r)
  claim_same slots claim =
      claim_makes slots r claim (λ o msgs. Same (unwrap_or o r)) refl
      (λ apid app context may there. same_app apid app _ may.found refl refl) (λ apid app may there. same_app apid app _ may.found refl refl)

  pub in_context : (slots : ℕ → Slot) (channel : ℕ) (apid ctid : List ℕ) (position : ℕ) (level : Option ℕ) (text : List ℕ) →
      IfOk (if bytes_eq apid zero_id || bytes_eq ctid zero_id then Err fault.ZeroId
      else for_app (app_of r channel apid) (λ app. context_registered slots r apid ctid position level text app (context_of app ctid))) Same
  in_context slots channel apid ctid position level text =
      context_registers slots r channel Same apid ctid position level (negsuc 0) 0 text
      (λ app context found of there. same_app apid app _ found refl refl) (λ app found of there room. same_app apid app _ found refl refl)

-- ---- what keeps the first ones

first_more : (number : ℕ) (apids : List (List ℕ)) (all more : List Who) → AreFirst number apids all → AreFirst number apids (all ++ more)
first_more number [] all more first = tt
first_more number (apid ∷ apids) [] more first = absurd first
first_more number (apid ∷ apids) (one ∷ all) more first = (first.0, first_more (number + 1) apids all more first.1)

-- one more of this process, where no other is there
pub first_one : (number : ℕ) (apids : List (List ℕ)) (apid : List ℕ) (all : List Who) → AreFirst number apids all → length all ≡ length apids →
    AreFirst number (apids ++ apid ∷ []) (all ++ own apid (number + length apids) ∷ [])
first_one number [] apid [] first alone = (ap (own apid) (omega arith), tt)
first_one number [] apid (one ∷ all) first alone = absurd (omega (arith, alone))
first_one number (other ∷ apids) apid [] first alone = absurd first
first_one number (other ∷ apids) apid (one ∷ all) first alone =
    let later = first_one (number + 1) apids apid all first.1 (omega (arith, alone)) in
    let same : number + 1 + length apids ≡ number + suc (length apids) = omega arith in
    (first.0, subst (λ (n : ℕ). AreFirst (number + 1) (apids ++ apid ∷ []) (all ++ own apid n ∷ [])) same later)

-- an application of another channel goes
first_without : (number : ℕ) (apids : List (List ℕ)) (apid : List ℕ) (app : App) (es : List (List ℕ × App)) → AreFirst number apids (map who es) → lookup (bytes_eq apid) es ≡ Some app →
    (app.channel ≡ 0 → ⊥) → AreFirst number apids (map who (without apid es))
first_without number [] apid app es first found other = tt
first_without number (id ∷ apids) apid app [] first found other = absurd first
first_without number (id ∷ apids) apid app (e ∷ es) first found other = by (bytes_eq apid e.0) found (λ later. first_without (number + 1) apids apid app es first.1 later other) where
  by : (b : Bool) → cond b (Some e.1) (lookup (bytes_eq apid) es) ≡ Some app → (lookup (bytes_eq apid) es ≡ Some app → AreFirst (number + 1) apids (map who (without apid es))) →
      AreFirst number (id ∷ apids) (map who (cond (not b) (e ∷ without apid es) (without apid es)))
  by true here rest =
      let same : e.1 ≡ app = cc here in
      absurd (other (sym (ap (λ (a : App). a.channel) same) ∙ ap (λ (w : Who). w.channel) first.0))
  by false later rest = (first.0, rest later)

-- ---- messages

-- an application that was found on a channel is of it
pub channel_found : (channel : ℕ) (o : Option App) (app : App) → option_and_then (of_channel channel) o ≡ Some app → app.channel ≡ channel
channel_found channel o app is = (found_on channel o app is).1

module _ (r : Registry) (apids : List (List ℕ)) (first : AreFirst 0 apids (there r)) where
  abbrev Stay : Registry → Type 0
  Stay new = AreFirst 0 apids (there new)

  changed : (apid : List ℕ) (app new : App) → lookup (bytes_eq apid) r.apps ≡ Some app → new.channel ≡ app.channel → new.number ≡ app.number → Stay (with_app r apid new)
  changed apid app new found channel number = subst (AreFirst 0 apids) (sym (same_app r apid app new found channel number)) first

  -- whatever a message of another channel says
  pub told_stay : (slots : ℕ → Slot) (channel : ℕ) (msg : UserMsg) → (channel ≡ 0 → ⊥) → IfOk (applied slots r channel msg) Stay
  told_stay slots channel (RegisterApp apid pid text) other =
      app_registers slots r channel Stay apid pid text (λ app found of. changed apid app _ found refl refl)
      (λ none room. subst (AreFirst 0 apids) (sym (map-append who r.apps ((apid, new_app r channel pid text) ∷ []))) (first_more 0 apids (there r) (who (apid, new_app r channel pid text) ∷ []) first))
  told_stay slots channel (UnregisterApp apid pid) other =
      app_unregisters slots r channel Stay apid pid (λ app found of. first_without 0 apids apid app r.apps first found (λ here. other (sym of ∙ here)))
  told_stay slots channel (RegisterContext apid ctid position level trace pid text) other =
      context_registers slots r channel Stay apid ctid position level trace pid text
      (λ app context found of there. changed apid app _ found refl refl) (λ app found of there room. changed apid app _ found refl refl)
  told_stay slots channel (UnregisterContext apid ctid pid) other =
      context_unregisters slots r channel Stay apid ctid pid (λ app context found of there. changed apid app _ found refl refl)
  told_stay slots channel (Log bytes) other = first
  told_stay slots channel (LogLevel level trace position) other = first
  told_stay slots channel (Injection position service body) other = first
  told_stay slots channel (Overflow counter apid) other = first

-- ---- an application of this process more

-- those that are there alone have the numbers from 0 on
numbers_alone : (number : ℕ) (apids : List (List ℕ)) (es : List (List ℕ × App)) → AreFirst number apids (map who es) → length es ≡ length apids → (n : ℕ) → number ≤ n → n < number + length apids →
    list_any (nat_eq n) (numbers es) ≡ true
numbers_alone number [] es first alone n from below = absurd (omega (arith, from, below))
numbers_alone number (apid ∷ apids) [] first alone n from below = absurd first
numbers_alone number (apid ∷ apids) (e ∷ es) first alone n from below = elim (cases_lt number n) [
  | inl later ↦
      ap (λ (b : Bool). nat_eq n e.1.number || b) (numbers_alone (number + 1) apids es first.1 (omega (arith, alone)) n (omega (arith, later)) (omega (arith, below))) ∙ or-true (nat_eq n e.1.number)
  | inr here ↦
      let same : n ≡ e.1.number = omega (arith, here, from, ap (λ (w : Who). w.number) first.0) in
      ap (λ (b : Bool). b || list_any (nat_eq n) (numbers es)) (eq-eqb n e.1.number same)
]

least_alone : (r : Registry) (apids : List (List ℕ)) → AreFirst 0 apids (there r) → length r.apps ≡ length apids → least_free (numbers r.apps) ≡ length apids
least_alone r apids first alone =
    let n = least_free (numbers r.apps) in
    let most : n ≤ length apids = omega (arith, least_free-le-length (numbers r.apps), length-map r.apps (λ (e : List ℕ × App). e.1.number), alone) in
    elim (cases_lt n (length apids)) [
      | inl less ↦ absurd (true≢false (sym (numbers_alone 0 apids r.apps first alone n (omega arith) (omega (arith, less))) ∙ least_free-is_free (numbers r.apps)))
      | inr more ↦ omega (arith, most, more)
    ]

none_found : (number : ℕ) (apids : List (List ℕ)) (apid : List ℕ) (es : List (List ℕ × App)) → AreFirst number apids (map who es) → length es ≡ length apids → list_any (λ id. bytes_eq id apid) apids ≡ false →
    lookup (bytes_eq apid) es ≡ None
none_found number [] apid [] first alone none = refl
none_found number [] apid (e ∷ es) first alone none = absurd (omega (arith, alone))
none_found number (id ∷ apids) apid [] first alone none = absurd first
none_found number (id ∷ apids) apid (e ∷ es) first alone none =
    let parts = neither (bytes_eq id apid) (list_any (λ id. bytes_eq id apid) apids) none in
    let is : e.0 ≡ id = ap (λ (w : Who). w.apid) first.0 in
    let other : bytes_eq apid e.0 ≡ false = bytes_differ apid e.0 (λ same. true≢false (sym (bytes_same apid ∙ refl) ∙ ap (λ (x : List ℕ). bytes_eq x apid) (same ∙ is) ∙ parts.0)) in
    ap (λ (b : Bool). cond b (Some e.1) (lookup (bytes_eq apid) es)) other ∙ none_found (number + 1) apids apid es first.1 (omega (arith, alone)) parts.1

-- one that registers while these are there alone is the next one
pub app_comes : (r : Registry) (apids : List (List ℕ)) (slots : ℕ → Slot) (apid : List ℕ) (pid : ℕ) (text : List ℕ) → AreFirst 0 apids (there r) → length r.apps ≡ length apids →
    bytes_eq apid zero_id ≡ false → list_any (λ id. bytes_eq id apid) apids ≡ false → nat_le 16 (length apids) ≡ false →
    there (result_unwrap_or (applied slots r 0 (RegisterApp apid pid text)) r) ≡ there r ++ own apid (length apids) ∷ []
app_comes r apids slots apid pid text first alone named none few =
    let new : App = new_app r 0 pid text in
    let room : nat_le 16 (length r.apps) ≡ false = ap (nat_le 16) alone ∙ few in
    let is : applied slots r 0 (RegisterApp apid pid text) ≡ Ok (with_new_app r apid new) =
    ap (λ (b : Bool). cond b (Err fault.ZeroId) (app_registered r 0 apid pid text (lookup (bytes_eq apid) r.apps))) named
    ∙ ap (app_registered r 0 apid pid text) (none_found 0 apids apid r.apps first alone none)
    ∙ ap (λ (b : Bool). cond b (Err fault.AppsFull) (Ok (with_new_app r apid new))) room in
    ap (λ (result : Result Registry RegistryFault). there (result_unwrap_or result r)) is ∙ map-append who r.apps ((apid, new) ∷ [])
    ∙ ap (λ (n : ℕ). there r ++ own apid n ∷ []) (least_alone r apids first alone)

-- ---- who is found by a number

found_at : (number : ℕ) (apids : List (List ℕ)) (es : List (List ℕ × App)) → AreFirst number apids (map who es) → (n : ℕ) → number ≤ n → n < number + length apids →
    (e : List ℕ × App) × (find (λ (x : List ℕ × App). x.1.number == n) es ≡ Some e) × (list_any (bytes_eq e.0) apids ≡ true)
found_at number [] es first n from below = absurd (omega (arith, from, below))
found_at number (apid ∷ apids) [] first n from below = absurd first
found_at number (apid ∷ apids) (e ∷ es) first n from below = elim (cases_lt number n) [
  | inl later ↦
      let rest = found_at (number + 1) apids es first.1 n (omega (arith, later)) (omega (arith, below)) in
      let other : eqb e.1.number n ≡ false = ne_eqb e.1.number n (λ same. omega (arith, same, later, ap (λ (w : Who). w.number) first.0)) in (
        rest.0,
        ap (λ (b : Bool). cond b (Some e) (find (λ (x : List ℕ × App). x.1.number == n) es)) other ∙ rest.1,
        ap (λ (b : Bool). bytes_eq rest.0.0 apid || b) rest.2 ∙ or-true (bytes_eq rest.0.0 apid),
      )
  | inr here ↦
      let same : eqb e.1.number n ≡ true = eq-eqb e.1.number n (omega (arith, here, from, ap (λ (w : Who). w.number) first.0)) in
      let is : e.0 ≡ apid = ap (λ (w : Who). w.apid) first.0 in (
        e,
        ap (λ (b : Bool). cond b (Some e) (find (λ (x : List ℕ × App). x.1.number == n) es)) same,
        ap (λ (b : Bool). b || list_any (bytes_eq e.0) apids) (ap (bytes_eq e.0) (sym is) ∙ bytes_same e.0),
      )
]

pub own_found : (number : ℕ) (apids : List (List ℕ)) (es : List (List ℕ × App)) (apid : List ℕ) → AreFirst number apids (map who es) → list_any (bytes_eq apid) apids ≡ true →
    IsSome (option_and_then (of_channel 0) (lookup (bytes_eq apid) es))
own_found number [] es apid first one = absurd (true≢false (sym one))
own_found number (id ∷ apids) [] apid first one = absurd first
own_found number (id ∷ apids) (e ∷ es) apid first one = by (bytes_eq apid e.0) refl (own_found (number + 1) apids es apid first.1) where
  is : e.0 ≡ id
  is = ap (λ (w : Who). w.apid) first.0

  by : (b : Bool) → bytes_eq apid e.0 ≡ b → (list_any (bytes_eq apid) apids ≡ true → IsSome (option_and_then (of_channel 0) (lookup (bytes_eq apid) es))) →
      IsSome (option_and_then (of_channel 0) (cond b (Some e.1) (lookup (bytes_eq apid) es)))
  by true here rest = ap (λ (n : ℕ). is_some (if n == 0 then Some e.1 else None)) (ap (λ (w : Who). w.channel) first.0)
  by false past rest = rest (sym (ap (λ (b : Bool). b || list_any (bytes_eq apid) apids) (ap (bytes_eq apid) (sym is) ∙ past)) ∙ one)

-- each of these is there under its number
pub numbered_there : (r : Registry) (apids : List (List ℕ)) → AreFirst 0 apids (there r) → (n : ℕ) → n < length apids → IsSome (option_and_then (app_of r 0) (apid_numbered r n))
numbered_there r apids first n below =
    let found = found_at 0 apids r.apps first n (omega arith) (omega (arith, below)) in
    subst (λ (o : Option (List ℕ × App)). IsSome (option_and_then (app_of r 0) (option_map (λ (x : List ℕ × App). x.0) o))) (sym found.1) (own_found 0 apids r.apps found.0.0 first found.2)

-- ---- events

pub event_same : (s : Setting) (slots : ℕ → Slot) (r : Registry) (e : Event) → is_message e ≡ false → there (step s slots r e) ≡ there r
event_same s slots r (event.User channel msg moment) none = absurd (true≢false none)
event_same s slots r (event.Claim claim moment) none = claim_same r slots claim
event_same s slots r (event.Request client frame answer) none = request_same r s slots (asked frame) answer
event_same s slots r _ none = refl
