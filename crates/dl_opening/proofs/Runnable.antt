-- What lines that can be run declare is within the limits.
use Rattle.std.proofs.Common.{◌≡◌, ℕ, zero, suc, ◌+◌, ◌≤◌, ◌-◌, subst, cond, eqb, leb, ltb, Bool, true, false, not, List, [], ◌∷◌, ◌++◌, length, Option, Some, None, refl, ap, arith, length-append}
use Rattle.std.specs.Prelude.{slice_set}
use Rattle.std.specs.List.{AllByRecursion}
use Rattle.std.specs.Option.{option_map_or}
use Rattle.std.proofs.lemmas.Bool.{leb-false, ltb-false}
use Rattle.std.proofs.lemmas.List.{length-map, length-set}
use Rattle.std.proofs.lemmas.List.Sums.{sum_by-cons}
use Rattle.dl_bytes.specs.declared.conf.AppSpec.{AppSpec}
use Rattle.dl_desk.specs.Lists.{At}
use Rattle.dl_desk.specs.Made.{AreFit}
use Rattle.dl_script_fields.specs.declared.kind.ScriptKind.{ScriptKind}
use Rattle.dl_script_fields.specs.declared.kind.ScriptKind.TheVariants.{Limit, Order, Twice, Unknown}
use Rattle.dl_script_model.specs.declared.scenario.ScenarioLine.{ScenarioLine}
use Rattle.dl_script_model.specs.declared.scenario.ScenarioLine.TheVariants as line
use Rattle.dl_script.specs.Earlier.{Declared, changed, first_of, is_app, logs_under, noted, nothing, numbered, places_on, refusal}
use Rattle.dl_script.specs.Playable.{IsInRange, IsRunnable}
use Rattle.dl_script.specs.Spelled.{MayFollow, scenario_claim}
use Rattle.dl_script.specs.declared.claim.Claim.TheVariants as claim
use Rattle.dl_script.specs.declared.claim.Client.{Client}
use Rattle.dl_opening.specs.Opening.{HasRoomFor}
use Rattle.dl_crew.specs.Calls.{count_in, count_of}
use Rattle.dl_opening.specs.Scenario.{apps, clients, clients_in, spec_of, specs_of}
use Rattle.dl_lemmas.proofs.Options.{some_is}

-- none of several causes holds
pub record NoCause (cause : Bool) (others : List (Bool × ScriptKind)) : Type 0 where
  pub this : cause ≡ false
  pub rest : first_of others ≡ None

pub no_cause : (cause : Bool) (kind : ScriptKind) (others : List (Bool × ScriptKind)) → first_of ((cause, kind) ∷ others) ≡ None → NoCause cause others
no_cause true kind others is = absurd cc
no_cause false kind others is = record { this = refl; rest = is }

-- a writer may claim a place: its application has one left, and the place is noted alone
pub record MayClaim (known : Declared) (writer : ℕ) (ctid : List ℕ) : Type 0 where
  pub apid : List ℕ
  pub own : numbered known.writers writer ≡ Some apid
  pub room : places_on known apid ≤ 63
  pub notes : noted known (claim.Place writer ctid) ≡ record known { places = known.places ++ record { writer = writer; apid = apid; ctid = ctid } ∷ [] }

pub may_claim : (known : Declared) (writer : ℕ) (ctid : List ℕ) → refusal known (claim.Place writer ctid) ≡ None → MayClaim known writer ctid
may_claim known writer ctid may = by_writer (numbered known.writers writer) refl may where
  by_writer : (o : Option (List ℕ)) → numbered known.writers writer ≡ o → option_map_or (λ apid. first_of ((leb 64 (places_on known apid), Limit) ∷ [])) o (Some Unknown) ≡ None → MayClaim known writer ctid
  by_writer None is none = absurd cc
  by_writer (Some id) is none =
      let limit = no_cause (leb 64 (places_on known id)) Limit [] none in
      let below = leb-false 64 (places_on known id) limit.this in
      record {
        apid = id;
        own = is;
        room = omega (arith, below);
        notes = ap (λ (o : Option (List ℕ)). option_map_or (λ apid. record known { places = known.places ++ record { writer = writer; apid = apid; ctid = ctid } ∷ [] }) o known) is;
      }

same_clients : (change : Client → Client) (number : ℕ) (all : List Client) → length (changed change number all) ≡ length all
same_clients change number all = by_client (numbered all number) where
  by_client : (o : Option Client) → length (option_map_or (λ client. slice_set all (number - 1) (change client)) o all) ≡ length all
  by_client None = refl
  by_client (Some client) = length-set all (number - 1) (change client)

-- what is declared and what lines declare
record AreFew (known : Declared) (lines : List ScenarioLine) : Type 0 where
  apps : length known.apps + length (apps lines) ≤ 16
  clients : length known.clients + clients lines ≤ 32
  calls : (writer : ℕ) → known.calls + count_of writer lines ≤ 1000000

part_of : (number writer count : ℕ) → cond (eqb number writer) count 0 ≤ count
part_of number writer count = by_test (eqb number writer) where
  by_test : (b : Bool) → cond b count 0 ≤ count
  by_test true = omega arith
  by_test false = omega arith

client_counted : (entry : ScenarioLine) (lines : List ScenarioLine) → clients (entry ∷ lines) ≡ clients_in entry + clients lines
client_counted entry lines = sum_by-cons clients_in entry lines

counted : (writer : ℕ) (entry : ScenarioLine) (lines : List ScenarioLine) → count_of writer (entry ∷ lines) ≡ count_in writer entry + count_of writer lines
counted writer entry lines = sum_by-cons (count_in writer) entry lines

are_few : (known : Declared) (lines : List ScenarioLine) → MayFollow scenario_claim known lines → length known.apps ≤ 16 → length known.clients ≤ 32 → known.calls ≤ 1000000 → AreFew known lines
are_few known [] may apps_few clients_few calls_few = record { apps = omega (arith, apps_few); clients = omega (arith, clients_few); calls = λ writer. omega (arith, calls_few) }
are_few known (line.App app ∷ lines) may apps_few clients_few calls_few =
    let order = no_cause known.user Order ((is_app known app.apid, Twice) ∷ (leb 16 (length known.apps), Limit) ∷ []) may.0 in
    let twice = no_cause (is_app known app.apid) Twice ((leb 16 (length known.apps), Limit) ∷ []) order.rest in
    let limit = no_cause (leb 16 (length known.apps)) Limit [] twice.rest in
    let room = leb-false 16 (length known.apps) limit.this in
    let longer = length-append known.apps (app.apid ∷ []) in
    let rest = are_few (noted known (scenario_claim (line.App app))) lines may.1 (omega (arith, room, longer)) clients_few calls_few in
    record {
      apps = (let r = rest.apps in omega (arith, r, longer));
      clients = (let r = rest.clients in let c = client_counted (line.App app) lines in omega (arith, r, c));
      calls = λ writer. (let r = rest.calls writer in let c = counted writer (line.App app) lines in omega (arith, r, c));
    }
are_few known (line.Context context ∷ lines) may apps_few clients_few calls_few =
    let rest = are_few (noted known (scenario_claim (line.Context context))) lines may.1 apps_few clients_few calls_few in
    record {
      apps = rest.apps;
      clients = (let r = rest.clients in let c = client_counted (line.Context context) lines in omega (arith, r, c));
      calls = λ writer. (let r = rest.calls writer in let c = counted writer (line.Context context) lines in omega (arith, r, c));
    }
are_few known (line.Writer apid ∷ lines) may apps_few clients_few calls_few =
    let rest = are_few (noted known (scenario_claim (line.Writer apid))) lines may.1 apps_few clients_few calls_few in
    record {
      apps = rest.apps;
      clients = (let r = rest.clients in let c = client_counted (line.Writer apid) lines in omega (arith, r, c));
      calls = λ writer. (let r = rest.calls writer in let c = counted writer (line.Writer apid) lines in omega (arith, r, c));
    }
are_few known (line.Register asked ∷ lines) may apps_few clients_few calls_few =
    let claims = may_claim known asked.writer asked.ctid may.0 in
    let same_apps = ap (λ (d : Declared). length d.apps) claims.notes in
    let same_clients = ap (λ (d : Declared). length d.clients) claims.notes in
    let same_calls = ap (λ (d : Declared). d.calls) claims.notes in
    let rest = are_few (noted known (scenario_claim (line.Register asked))) lines may.1 (omega (arith, same_apps, apps_few)) (omega (arith, same_clients, clients_few)) (omega (arith, same_calls, calls_few)) in
    record {
      apps = (let r = rest.apps in omega (arith, r, same_apps));
      clients = (let r = rest.clients in let c = client_counted (line.Register asked) lines in omega (arith, r, c, same_clients));
      calls = λ writer. (let r = rest.calls writer in let c = counted writer (line.Register asked) lines in omega (arith, r, c, same_calls));
    }
are_few known (line.Calls number ctid severity count payload ∷ lines) may apps_few clients_few calls_few =
    let unknown = no_cause (not (logs_under known number ctid)) Unknown ((ltb 1000000 (known.calls + count), Limit) ∷ []) may.0 in
    let limit = no_cause (ltb 1000000 (known.calls + count)) Limit [] unknown.rest in
    let room = ltb-false 1000000 (known.calls + count) limit.this in
    let rest = are_few (noted known (scenario_claim (line.Calls number ctid severity count payload))) lines may.1 apps_few clients_few room in
    record {
      apps = rest.apps;
      clients = (let r = rest.clients in let c = client_counted (line.Calls number ctid severity count payload) lines in omega (arith, r, c));
      calls = λ writer. (
          let r = rest.calls writer in
          let c = counted writer (line.Calls number ctid severity count payload) lines in
          let part = part_of number writer count in
          omega (arith, r, c, part));
    }
are_few known (line.Client ∷ lines) may apps_few clients_few calls_few =
    let limit = no_cause (leb 32 (length known.clients)) Limit [] may.0 in
    let room = leb-false 32 (length known.clients) limit.this in
    let longer = length-append known.clients (record { sent = 0; leaves = false } ∷ []) in
    let rest = are_few (noted known (scenario_claim line.Client)) lines may.1 apps_few (omega (arith, room, longer)) calls_few in
    record {
      apps = rest.apps;
      clients = (let r = rest.clients in let c = client_counted line.Client lines in omega (arith, r, c, longer));
      calls = λ writer. (let r = rest.calls writer in let c = counted writer line.Client lines in omega (arith, r, c));
    }
are_few known (line.Send client bytes ∷ lines) may apps_few clients_few calls_few =
    let same : length (noted known (scenario_claim (line.Send client bytes))).clients ≡ length known.clients = same_clients _ client known.clients in
    let rest = are_few (noted known (scenario_claim (line.Send client bytes))) lines may.1 apps_few (omega (arith, same, clients_few)) calls_few in
    record {
      apps = rest.apps;
      clients = (let r = rest.clients in let c = client_counted (line.Send client bytes) lines in omega (arith, r, c, same));
      calls = λ writer. (let r = rest.calls writer in let c = counted writer (line.Send client bytes) lines in omega (arith, r, c));
    }
are_few known (line.Leave client count ∷ lines) may apps_few clients_few calls_few =
    let same : length (noted known (scenario_claim (line.Leave client count))).clients ≡ length known.clients = same_clients _ client known.clients in
    let rest = are_few (noted known (scenario_claim (line.Leave client count))) lines may.1 apps_few (omega (arith, same, clients_few)) calls_few in
    record {
      apps = rest.apps;
      clients = (let r = rest.clients in let c = client_counted (line.Leave client count) lines in omega (arith, r, c, same));
      calls = λ writer. (let r = rest.calls writer in let c = counted writer (line.Leave client count) lines in omega (arith, r, c));
    }

-- ---- the applications are fit

abbrev IsFitSpec : AppSpec → Type 0
IsFitSpec spec = (1 ≤ spec.capacity) × (spec.capacity ≤ 4096) × (length spec.text ≤ 255)

each_fit : (lines : List ScenarioLine) → AllByRecursion IsInRange lines → (app : ℕ) → At (specs_of lines) app IsFitSpec
each_fit [] ranges app spec at = absurd cc
each_fit (line.App app ∷ lines) ranges zero spec at = subst IsFitSpec (some_is at) (ranges.0.1, ranges.0.2, ranges.0.3)
each_fit (line.App app ∷ lines) ranges (suc place) spec at = each_fit lines ranges.1 place spec at
each_fit (line.Context context ∷ lines) ranges app spec at = each_fit lines ranges.1 app spec at
each_fit (line.Writer apid ∷ lines) ranges app spec at = each_fit lines ranges.1 app spec at
each_fit (line.Register asked ∷ lines) ranges app spec at = each_fit lines ranges.1 app spec at
each_fit (line.Calls number ctid severity count payload ∷ lines) ranges app spec at = each_fit lines ranges.1 app spec at
each_fit (line.Client ∷ lines) ranges app spec at = each_fit lines ranges.1 app spec at
each_fit (line.Send client bytes ∷ lines) ranges app spec at = each_fit lines ranges.1 app spec at
each_fit (line.Leave client count ∷ lines) ranges app spec at = each_fit lines ranges.1 app spec at

-- ---- of all lines

module _ (lines : List ScenarioLine) (runs : IsRunnable lines) where
  all_few : AreFew nothing lines
  all_few = are_few nothing lines runs.follows (omega arith) (omega arith) (omega arith)

  few_specs : length (specs_of lines) ≤ 16
  few_specs = let few = all_few.apps in let same = length-map (apps lines) spec_of in omega (arith, few, same)

  pub are_fit : AreFit (specs_of lines)
  are_fit = record { few = few_specs; each = each_fit lines runs.ranges }

  pub few_clients : clients lines ≤ 32
  few_clients = let few = all_few.clients in omega (arith, few)

  pub room_for : HasRoomFor lines
  room_for = (few_specs, λ writer. (let few = all_few.calls writer in omega (arith, few)))
