-- The applications of an opened scenario are those of its desk: each tells its own id first, and no two have the same.
use Rattle.std.proofs.Common.{◌≡◌, ℕ, Bool, true, false, ◌||◌, List, [], ◌∷◌, ◌++◌, map, leb, length, Option, Some, None, refl, sym, ap, subst, ◌∙◌}
use Rattle.std.specs.List.{AllByRecursion, IsDistinct, filter_map, flat_map, list_any}
use Rattle.std.specs.Option.{option_map_or}
use Rattle.std.specs.Str.{bytes_eq}
use Rattle.std.proofs.lemmas.List.Elements.{filter_map-append}
use Rattle.std.proofs.lemmas.List.Folds.{list_any-append}
use Rattle.std.proofs.lemmas.Map.Keys.{IsDistinct-cons}
use Rattle.dl_bytes.specs.Id.{zero_id}
use Rattle.dl_bytes.specs.declared.conf.AppSpec.{AppSpec}
use Rattle.dl_loop.specs.Greeting.{AreListed, id_in}
use Rattle.dl_opening.specs.Scenario.{apps, contexts_of, hello_of, opened_from, registered, spec_of, specs_of}
use Rattle.dl_script.specs.Earlier.{Declared, first_of, is_app, noted, nothing, numbered}
use Rattle.dl_script.specs.Playable.{IsInRange, IsRunnable}
use Rattle.dl_script.specs.Spelled.{MayFollow, scenario_claim}
use Rattle.dl_script.specs.declared.claim.Claim.TheVariants as claim
use Rattle.dl_script_fields.specs.declared.kind.ScriptKind.{ScriptKind}
use Rattle.dl_script_fields.specs.declared.kind.ScriptKind.TheVariants.{Limit, Order, Twice}
use Rattle.dl_script_model.specs.declared.line.AppLine.{AppLine}
use Rattle.dl_script_model.specs.declared.line.ContextLine.{ContextLine}
use Rattle.dl_script_model.specs.declared.scenario.ScenarioLine.{ScenarioLine}
use Rattle.dl_script_model.specs.declared.scenario.ScenarioLine.TheVariants as line
use Rattle.dl_live.proofs.Introductions.{all_told}

-- the ids of these applications
abbrev ids_of : List AppLine → List (List ℕ)
ids_of apps = map (λ (spec : AppSpec). spec.apid) (map spec_of apps)

-- ---- what they tell

no_ids : (apid : List ℕ) (contexts : List ContextLine) → filter_map id_in (map (registered apid) contexts) ≡ []
no_ids apid [] = refl
no_ids apid (context ∷ contexts) = no_ids apid contexts

ids_told : (lines : List ScenarioLine) (apps : List AppLine) → filter_map id_in (flat_map (hello_of lines) apps) ≡ ids_of apps
ids_told lines [] = refl
ids_told lines (app ∷ apps) =
    filter_map-append id_in (hello_of lines app) (flat_map (hello_of lines) apps)
    ∙ ap (λ (ids : List (List ℕ)). (app.apid ∷ ids) ++ filter_map id_in (flat_map (hello_of lines) apps)) (no_ids app.apid (contexts_of app.apid lines))
    ∙ ap (λ (ids : List (List ℕ)). app.apid ∷ ids) (ids_told lines apps)

-- ---- no two have the same id

-- none of several causes holds, so not the second
not_second : (first second : Bool) (one other : ScriptKind) (causes : List (Bool × ScriptKind)) → first_of ((first, one) ∷ (second, other) ∷ causes) ≡ None → second ≡ false
not_second true second one other causes none = absurd cc
not_second false true one other causes none = absurd cc
not_second false false one other causes none = refl

-- a place that is claimed declares no application
same_apps : (known : Declared) (writer : ℕ) (ctid : List ℕ) → (noted known (claim.Place writer ctid)).apps ≡ known.apps
same_apps known writer ctid = by (numbered known.writers writer) where
  by : (o : Option (List ℕ)) → (option_map_or (λ apid. record known { places = known.places ++ record { writer = writer; apid = apid; ctid = ctid } ∷ [] }) o known).apps ≡ known.apps
  by None = refl
  by (Some apid) = refl

-- none of these ids was declared, and no two are the same
record AreNew (declared ids : List (List ℕ)) : Type 0 where
  fresh : AllByRecursion (λ id. list_any (λ k. bytes_eq k id) declared ≡ false) ids
  apart : IsDistinct bytes_eq ids

-- not among one more
record IsNeither (first second : Bool) : Type 0 where
  one : first ≡ false
  other : second ≡ false

neither : (first second : Bool) → (first || (second || false)) ≡ false → IsNeither first second
neither true second none = absurd cc
neither false true none = absurd cc
neither false false none = record { one = refl; other = refl }

one_new : (declared : List (List ℕ)) (apid : List ℕ) (ids : List (List ℕ)) → list_any (λ k. bytes_eq k apid) declared ≡ false → AreNew (declared ++ apid ∷ []) ids → AreNew declared (apid ∷ ids)
one_new declared apid ids fresh rest = record { fresh = (fresh, before ids rest.fresh); apart = IsDistinct-cons bytes_eq apid ids (behind ids rest.fresh) rest.apart } where
  either : (id : List ℕ) → list_any (λ k. bytes_eq k id) (declared ++ apid ∷ []) ≡ false → IsNeither (list_any (λ k. bytes_eq k id) declared) (bytes_eq apid id)
  either id none = neither (list_any (λ k. bytes_eq k id) declared) (bytes_eq apid id) (sym (list_any-append (λ k. bytes_eq k id) declared (apid ∷ [])) ∙ none)

  before : (ids : List (List ℕ)) → AllByRecursion (λ id. list_any (λ k. bytes_eq k id) (declared ++ apid ∷ []) ≡ false) ids → AllByRecursion (λ id. list_any (λ k. bytes_eq k id) declared ≡ false) ids
  before [] all = tt
  before (id ∷ ids) all = ((either id all.0).one, before ids all.1)

  behind : (ids : List (List ℕ)) → AllByRecursion (λ id. list_any (λ k. bytes_eq k id) (declared ++ apid ∷ []) ≡ false) ids → AllByRecursion (λ id. bytes_eq apid id ≡ false) ids
  behind [] all = tt
  behind (id ∷ ids) all = ((either id all.0).other, behind ids all.1)

all_new : (known : Declared) (lines : List ScenarioLine) → MayFollow scenario_claim known lines → AreNew known.apps (ids_of (apps lines))
unfolding IsDistinct
all_new known [] may = record { fresh = tt; apart = tt }
all_new known (line.App app ∷ lines) may =
    one_new known.apps app.apid (ids_of (apps lines)) (not_second known.user (is_app known app.apid) Order Twice ((leb 16 (length known.apps), Limit) ∷ []) may.0)
    (all_new (noted known (scenario_claim (line.App app))) lines may.1)
all_new known (line.Context context ∷ lines) may = all_new (noted known (scenario_claim (line.Context context))) lines may.1
all_new known (line.Writer apid ∷ lines) may = all_new (noted known (scenario_claim (line.Writer apid))) lines may.1
all_new known (line.Register asked ∷ lines) may =
    subst (λ (declared : List (List ℕ)). AreNew declared (ids_of (apps lines))) (same_apps known asked.writer asked.ctid)
    (all_new (noted known (scenario_claim (line.Register asked))) lines may.1)
all_new known (line.Calls number ctid severity count payload ∷ lines) may = all_new (noted known (scenario_claim (line.Calls number ctid severity count payload))) lines may.1
all_new known (line.Client ∷ lines) may = all_new (noted known (scenario_claim line.Client)) lines may.1
all_new known (line.Send client bytes ∷ lines) may = all_new (noted known (scenario_claim (line.Send client bytes))) lines may.1
all_new known (line.Leave client count ∷ lines) may = all_new (noted known (scenario_claim (line.Leave client count))) lines may.1

-- ---- each has a name

abbrev IsNamed : AppSpec → Type 0
IsNamed spec = spec.apid ≡ zero_id → ⊥

all_named : (lines : List ScenarioLine) → AllByRecursion IsInRange lines → AllByRecursion IsNamed (specs_of lines)
all_named [] ranges = tt
all_named (line.App app ∷ lines) ranges = (ranges.0.0, all_named lines ranges.1)
all_named (line.Context context ∷ lines) ranges = all_named lines ranges.1
all_named (line.Writer apid ∷ lines) ranges = all_named lines ranges.1
all_named (line.Register asked ∷ lines) ranges = all_named lines ranges.1
all_named (line.Calls number ctid severity count payload ∷ lines) ranges = all_named lines ranges.1
all_named (line.Client ∷ lines) ranges = all_named lines ranges.1
all_named (line.Send client bytes ∷ lines) ranges = all_named lines ranges.1
all_named (line.Leave client count ∷ lines) ranges = all_named lines ranges.1

pub all_listed : (lines : List ScenarioLine) (made : List (List ℕ)) → IsRunnable lines → AreListed (specs_of lines) (opened_from lines made 0 (apps lines))
all_listed lines made runs = record {
  same = ap (filter_map id_in) (all_told lines made 0 (apps lines)) ∙ ids_told lines (apps lines);
  apart = (all_new nothing lines runs.follows).apart;
  named = all_named lines runs.ranges;
}
