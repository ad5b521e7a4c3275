-- What a line may name, and how many there may be of it, where it may follow those before it.
use Rattle.std.proofs.Common.{◌≡◌, ℕ, suc, ◌+◌, ◌<◌, Bool, true, false, not, cond, get_or, List, [], ◌∷◌, length, Option, Some, None, refl, sym, ap, subst, ◌∙◌, arith}
use Rattle.std.specs.Prelude.{◌-◌, ◌==◌, ◌||◌, map, nat_le, is_some, count_by, slice_get, IsSome, IsSomeAnd}
use Rattle.std.specs.List.{filter, filter_map, list_any, position, prefix_len}
use Rattle.std.specs.Option.{option_and_then, option_map_or}
use Rattle.std.specs.Str.{bytes_eq}
use Rattle.std.proofs.lemmas.Bool.{lt-ltb}
use Rattle.std.proofs.lemmas.List.{length-map}
use Rattle.std.proofs.lemmas.List.Sums.{length-filter}
use Rattle.dl_script_model.specs.declared.line.AppLine.{AppLine}
use Rattle.dl_script_model.specs.declared.line.ContextLine.{ContextLine}
use Rattle.dl_script_fields.specs.declared.kind.ScriptKind.{ScriptKind}
use Rattle.dl_script_fields.specs.declared.kind.ScriptKind.TheVariants.{Order, Unknown, Twice, Limit}
use Rattle.dl_script.specs.Earlier.{Declared, first_of, numbered as numbers, places_on, refusal, is_app, is_claimed_on, is_context, is_of}
use Rattle.dl_script.specs.declared.claim.Claim.TheVariants as claim
use Rattle.dl_script.specs.declared.claim.ContextName.{ContextName}
use Rattle.dl_script_model.specs.Marks.{Mark, apps, app_of_writer, number_of, context_of, contexts_of}
use Rattle.dl_world_calls.specs.Follows as calls
use Rattle.dl_world_calls.specs.Follows.{no_app, is_named}
use Rattle.dl_world_calls.specs.State.{App, Calls, numbered, app_named, writer_of}
use Rattle.dl_world_calls.proofs.Declaring.{number_is}
use Rattle.dl_world_calls.proofs.Places.{position_to_len, position-map, there}
use Rattle.dl_world.specs.Known.{HasPlace, IsKnown, name_of}
use Rattle.dl_world.proofs.ClaimLines.{its_writer}
use Rattle.dl_world.proofs.Drains.{writer_ids, owned_at}
use Rattle.dl_lemmas.proofs.Bools.{not_false}

-- ---- causes that don't hold

none_of : (b : Bool) (kind : ScriptKind) (rest : List (Bool × ScriptKind)) → first_of ((b, kind) ∷ rest) ≡ None → (b ≡ false) × (first_of rest ≡ None)
none_of true kind rest e = absurd cc
none_of false kind rest e = (refl, e)

-- ---- the place of one that is there

any_within : {A : Type 0} (p : A → Bool) (xs : List A) → list_any p xs ≡ true → prefix_len (λ x. not (p x)) xs < length xs
any_within p [] e = absurd cc
any_within {A = A} p (x ∷ xs) e = by_test (p x) e (any_within p xs) where
  by_test : (b : Bool) → (b || list_any p xs) ≡ true → (list_any p xs ≡ true → prefix_len (λ y. not (p y)) xs < length xs) → cond (not b) (1 + prefix_len (λ y. not (p y)) xs) 0 < length (x ∷ xs)
  by_test true any later = omega arith
  by_test false any later = omega (arith, later any)

any_place : {A : Type 0} (p : A → Bool) (xs : List A) → list_any p xs ≡ true → (n : ℕ) × (position p xs ≡ Some n)
any_place p xs e =
    let n = prefix_len (λ x. not (p x)) xs in
    (n, ap (λ (b : Bool). cond b (Some n) None) (lt-ltb n (length xs) (any_within p xs e)))

-- the number of an application that is declared
numbered_so : (known : Declared) (done : List Mark) (now : Calls) (apid : List ℕ) → IsKnown known done → calls.IsAfter done now → is_app known apid ≡ true
    → (n : ℕ) × (numbered now apid ≡ Some n)
numbered_so known done now apid is after declared =
    let place = any_place (λ id. bytes_eq id apid) known.apps declared in
    let lines : position (λ id. bytes_eq id apid) known.apps ≡ number_of apid done =
    ap (position (λ id. bytes_eq id apid)) is.apps_are ∙ position-map (λ (app : AppLine). app.apid) (λ id. bytes_eq id apid) (apps done) in
    (place.0, number_is done now apid after.apps_are ∙ sym lines ∙ place.1)

-- ---- a writer

pub owner_is_known : (known : Declared) (done : List Mark) (now : Calls) (apid : List ℕ) → IsKnown known done → calls.IsAfter done now → refusal known (claim.Writer apid) ≡ None
    → IsSome (numbered now apid)
owner_is_known known done now apid is after admitted =
    let declared = not_false (is_app known apid) (none_of (not (is_app known apid)) Unknown ((nat_le 32 (length known.writers), Limit) ∷ []) admitted).0 in
    ap is_some (numbered_so known done now apid is after declared).1

-- ---- a context

same_count : {A B : Type 0} (f : A → B) (p : B → Bool) (xs : List A) → length (filter p (map f xs)) ≡ length (filter (λ x. p (f x)) xs)
same_count f p [] = refl
same_count {A = A} f p (x ∷ xs) = by_test (p (f x)) (same_count f p xs) where
  by_test : (b : Bool) → length (filter p (map f xs)) ≡ length (filter (λ y. p (f y)) xs) → length (cond b (f x ∷ filter p (map f xs)) (filter p (map f xs))) ≡ length (cond b (x ∷ filter (λ y. p (f y)) xs) (filter (λ y. p (f y)) xs))
  by_test true later = ap suc later
  by_test false later = later

counted : (known : Declared) (done : List Mark) (apid : List ℕ) → IsKnown known done → count_by (is_of apid) known.contexts ≡ length (contexts_of apid done)
counted known done apid is =
    sym (length-filter (is_of apid) known.contexts) ∙ ap (λ (cs : List ContextName). length (filter (is_of apid) cs)) is.contexts_are
    ∙ same_count name_of (is_of apid) (filter_map context_of done)

fewer : (n : ℕ) → nat_le 64 n ≡ false → n < 64
fewer n e = grind (arith, e)

pub contexts_are_few : (known : Declared) (done : List Mark) (now : Calls) (apid ctid : List ℕ) → IsKnown known done → calls.IsAfter done now → refusal known (claim.Context apid ctid) ≡ None
    → IsSomeAnd (app_named now apid) (λ app. length app.contexts + app.claimed < 64)
contexts_are_few known done now apid ctid is after admitted =
    let limit = (nat_le 64 (places_on known apid), Limit) ∷ [] in
    let unheard = none_of (known.user || is_claimed_on known apid) Order ((not (is_app known apid), Unknown) ∷ (is_context known apid ctid, Twice) ∷ limit) admitted in
    let owned = none_of (not (is_app known apid)) Unknown ((is_context known apid ctid, Twice) ∷ limit) unheard.1 in
    let fresh = none_of (is_context known apid ctid) Twice limit owned.1 in
    let few = none_of (nat_le 64 (places_on known apid)) Limit [] fresh.1 in
    let place = numbered_so known done now apid is after (not_false (is_app known apid) owned.0) in
    let n = place.0 in
    let at = position_to_len (is_named apid) now.apps n place.1 in
    let found : app_named now apid ≡ Some (get_or now.apps n no_app) = ap (option_and_then (λ (number : ℕ). slice_get now.apps number)) place.1 ∙ there now.apps n no_app at.1 in
    let those : (get_or now.apps n no_app).contexts ≡ map (λ (context : ContextLine). context.ctid) (contexts_of apid done) =
    ap (λ (k : ℕ). (get_or now.apps k no_app).contexts) (sym at.0) ∙ after.contexts_are apid in
    let many : length (get_or now.apps n no_app).contexts ≡ length (contexts_of apid done) = ap length those ∙ length-map (contexts_of apid done) (λ (context : ContextLine). context.ctid) in
    let claimed = is.places_are apid n (sym (number_is done now apid after.apps_are) ∙ place.1) in
    let below = fewer (places_on known apid) few.0 in
    subst (λ (o : Option App). IsSomeAnd o (λ app. length app.contexts + app.claimed < 64)) (sym found) (omega (arith, below, counted known done apid is, many, claimed, after.claimed_are n))

-- ---- a claim

pub has_place : (known : Declared) (done : List Mark) (now : Calls) (writer : ℕ) (ctid : List ℕ) → IsKnown known done → calls.IsAfter done now → refusal known (claim.Place writer ctid) ≡ None
    → HasPlace writer now
has_place known done now writer ctid is after admitted = by_writer (numbers known.writers writer) refl admitted where
  by_writer : (o : Option (List ℕ)) → numbers known.writers writer ≡ o → option_map_or (λ apid. first_of ((nat_le 64 (places_on known apid), Limit) ∷ [])) o (Some Unknown) ≡ None → HasPlace writer now
  by_writer None none refused = absurd cc
  by_writer (Some apid) at refused =
      let few = none_of (nat_le 64 (places_on known apid)) Limit [] refused in
      let below = fewer (places_on known apid) few.0 in
      let of_writer : app_of_writer writer done ≡ Some apid = sym (ap (λ (ws : List (List ℕ)). cond (writer == 0) None (slice_get ws (writer - 1))) is.writers_are) ∙ at in
      let w = its_writer now writer apid (writer_of now writer) refl (sym (writer_ids done now writer after) ∙ of_writer) in
      let number : number_of apid done ≡ Some w.0.app = ap (λ (id : List ℕ). number_of id done) (sym w.2) ∙ (owned_at done now writer w.0 after w.1).app_is in
      record {
        done = done;
        after = after;
        apid = apid;
        app = w.0.app;
        of_writer = of_writer;
        number = number;
        room = omega (arith, below, counted known done apid is, is.places_are apid w.0.app number);
      }
