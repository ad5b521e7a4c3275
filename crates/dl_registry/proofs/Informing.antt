-- What GetLogInfo tells, entry by entry, and how many entries there can be.
use Rattle.std.proofs.Common.{◌≡◌, ℕ, ◌+◌, ◌*◌, ◌≤◌, Bool, true, false, not, ◌==◌, cond, List, [], ◌∷◌, ◌++◌, length, map, Option, Some, None, refl, sym, ap, ◌∙◌, arith, length-append}
use Rattle.std.specs.List.{filter, filter_map, flat_map}
use Rattle.std.proofs.lemmas.Bool.{ne_eqb}
use Rattle.std.proofs.lemmas.List.Elements.{filter_map-append}
use Rattle.std.proofs.lemmas.List.{length-map, map-append}
use Rattle.dl_model.specs.declared.context.Context.{Context}
use Rattle.dl_model.specs.Registry.{App, Registry, ArePlaced, IsInOrder, matches, matching, matching_in, named_in, numbers, places}
use Rattle.byteorder.specs.Endian.{little_bytes}
use Rattle.dl_model.specs.Reply.{app_info, info_body, is_listed, listed}
use Rattle.dl_model.proofs.Numbered.{IsNumbered-length}
use Rattle.dl_registry.specs.Info.{info_of}
use Rattle.dl_registry.proofs.Messages.{fewer_contexts}

length-filter : {A : Type 0} (p : A → Bool) (xs : List A) → length (filter p xs) ≤ length xs
length-filter p [] = omega arith
length-filter p (x ∷ xs) = by (p x) (length-filter p xs) where
  by : (b : Bool) → length (filter p xs) ≤ length xs → length (cond b (x ∷ filter p xs) (filter p xs)) ≤ length (x ∷ xs)
  by true rest = omega arith
  by false rest = omega arith

matching_in-most : (apid ctid : List ℕ) (e : List ℕ × App) → length (matching_in apid ctid e) ≤ length e.1.contexts
matching_in-most apid ctid e = by (matches apid e.0) where
  by : (b : Bool) → length (cond b (filter (λ (x : List ℕ × Context). matches ctid x.0) e.1.contexts) []) ≤ length e.1.contexts
  by true = length-filter (λ (x : List ℕ × Context). matches ctid x.0) e.1.contexts
  by false = omega arith

matching-most : (apid ctid : List ℕ) (es : List (List ℕ × App)) → ArePlaced es → length (flat_map (matching_in apid ctid) es) ≤ 64 * length es
matching-most apid ctid [] placed = omega arith
matching-most apid ctid (e ∷ es) placed =
    omega (
      arith,
      length-append (matching_in apid ctid e) (flat_map (matching_in apid ctid) es),
      matching_in-most apid ctid e,
      IsNumbered-length 64 (places e.1.contexts) placed.0,
      fewer_contexts e.1.contexts,
      matching-most apid ctid es placed.1,
    )

-- at most 1024 contexts match
pub matching_limit : (r : Registry) (apid ctid : List ℕ) → IsInOrder r → length (matching r apid ctid) ≤ 1024
matching_limit r apid ctid is =
    omega (arith, matching-most apid ctid r.apps is.placed, IsNumbered-length 16 (numbers r.apps) is.numbered, length-map r.apps (λ (e : List ℕ × App). e.1.number))

-- the ids name no context where no application has one that they name
pub nobody-listed : (apid ctid : List ℕ) (es : List (List ℕ × App)) → (length (flat_map (named_in apid ctid) es) == 0) ≡ (length (filter (is_listed apid ctid) es) == 0)
nobody-listed apid ctid [] = refl
nobody-listed apid ctid (e ∷ es) = by (named_in apid ctid e) (nobody-listed apid ctid es) where
  by : (xs : List (List ℕ × Context)) → (length (flat_map (named_in apid ctid) es) == 0) ≡ (length (filter (is_listed apid ctid) es) == 0)
      → (length (xs ++ flat_map (named_in apid ctid) es) == 0) ≡ (length (cond (not (length xs == 0)) (e ∷ filter (is_listed apid ctid) es) (filter (is_listed apid ctid) es)) == 0)
  by [] rest = rest
  by (x ∷ xs) rest =
      ne_eqb (length ((x ∷ xs) ++ flat_map (named_in apid ctid) es)) 0 (omega arith)
      ∙ sym (ap (λ b. length (cond (not b) (e ∷ filter (is_listed apid ctid) es) (filter (is_listed apid ctid) es)) == 0) (ne_eqb (length (x ∷ xs)) 0 (omega arith))
      ∙ ne_eqb (length (e ∷ filter (is_listed apid ctid) es)) 0 (omega arith))

-- what the listed applications tell is what all tell
pub info-listed : (options : ℕ) (apid ctid : List ℕ) (es : List (List ℕ × App)) → flat_map (info_of options apid ctid) es ≡ flat_map (app_info options apid ctid) (filter (is_listed apid ctid) es)
info-listed options apid ctid [] = refl
info-listed options apid ctid (e ∷ es) = by (is_listed apid ctid e) (info-listed options apid ctid es) where
  by : (b : Bool) → flat_map (info_of options apid ctid) es ≡ flat_map (app_info options apid ctid) (filter (is_listed apid ctid) es)
      → cond b (app_info options apid ctid e) [] ++ flat_map (info_of options apid ctid) es ≡ flat_map (app_info options apid ctid) (cond b (e ∷ filter (is_listed apid ctid) es) (filter (is_listed apid ctid) es))
  by true rest = ap (λ t. app_info options apid ctid e ++ t) rest
  by false rest = rest

-- the body: the number of applications, what all of them tell, and four reserved bytes
pub info_body-is : (options : ℕ) (r : Registry) (apid ctid : List ℕ) → info_body options r apid ctid ≡ little_bytes 2 (length (listed r apid ctid)) ++ (flat_map (info_of options apid ctid) r.apps ++ 0 ∷ 0 ∷ 0 ∷ 0 ∷ [])
info_body-is options r apid ctid = ap (λ t. little_bytes 2 (length (listed r apid ctid)) ++ (t ++ 0 ∷ 0 ∷ 0 ∷ 0 ∷ [])) (sym (info-listed options apid ctid r.apps))

pub length-info_body : (options : ℕ) (r : Registry) (apid ctid : List ℕ) → length (info_body options r apid ctid) ≡ 6 + length (flat_map (info_of options apid ctid) r.apps)
length-info_body options r apid ctid =
    ap length (info_body-is options r apid ctid) ∙ omega (arith, length-append (flat_map (info_of options apid ctid) r.apps) (0 ∷ 0 ∷ 0 ∷ 0 ∷ []))

-- ---- what is kept of one entry more

pub filter_map-more : {A B C : Type 0} (f : B → Option C) (g : A → B) (xs : List A) (x : A) → filter_map f (map g (xs ++ x ∷ [])) ≡ filter_map f (map g xs) ++ filter_map f (g x ∷ [])
filter_map-more f g xs x = ap (filter_map f) (map-append g xs (x ∷ [])) ∙ filter_map-append f (map g xs) (g x ∷ [])

pub filter_map-some : {A B : Type 0} (f : A → Option B) (x : A) (y : B) → f x ≡ Some y → filter_map f (x ∷ []) ≡ y ∷ []
filter_map-some f x y is = simp is

pub filter_map-none : {A B : Type 0} (f : A → Option B) (x : A) → f x ≡ None → filter_map f (x ∷ []) ≡ []
filter_map-none f x is = simp is
