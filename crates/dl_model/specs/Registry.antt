-- The registry: which applications and contexts there are, at which levels, and what each event makes of it.
use Rattle.std.specs.Prelude.{ℕ, ◌+◌, ◌-◌, ◌*◌, ◌/◌, ◌%◌, Bool, false, not, ◌&&◌, ◌||◌, ◌==◌, nat_eq, nat_le, nat_lt, ◌<◌, List, [], ◌∷◌, ◌++◌, length, map, take, drop, reverse, if◌then◌else◌, Option, Some, None, is_some, unwrap_or, Result, Ok, Err, negsuc}
use Rattle.std.specs.List.{AllByRecursion, IsDistinct, filter, filter_map, find, flat_map, list_any, prefix_len, range_with_len}
use Rattle.std.specs.Map.{lookup, set_value, values_of}
use Rattle.std.specs.Option.{option_map, option_map_or, option_and_then, option_or}
use Rattle.std.specs.Str.{bytes_eq}
use Rattle.dl_bytes.specs.Claim.{Claimed}
use Rattle.dl_bytes.specs.Id.{zero_id}
use Rattle.dl_bytes.specs.Limits.{app_limit, context_limit, last_version}
use Rattle.dl_bytes.specs.declared.conf.StoredLevel.{StoredLevel}
use Rattle.dl_bytes.specs.declared.user.UserMsg.{UserMsg}
use Rattle.dl_bytes.specs.declared.user.UserMsg.TheVariants.{RegisterApp, UnregisterApp, RegisterContext, UnregisterContext}
use Rattle.dl_model.specs.declared.context.Context.{Context}
use Rattle.dl_model.specs.declared.registry.Slot.{Slot}
use Rattle.dl_model.specs.declared.registry.LevelChange.{LevelChange}
use Rattle.dl_model.specs.declared.registry.RegistryFault.{RegistryFault}
use Rattle.dl_model.specs.declared.registry.RegistryFault.TheVariants.{ZeroId, Taken, UnknownApp, UnknownContext, AppsFull, ContextsFull, Worn}
use Rattle.dl_model.specs.declared.registry.SetFault.{SetFault}
use Rattle.dl_model.specs.declared.registry.SetFault.TheVariants as set

-- An application: the channel that it belongs to, its number, what it told last of itself, and its contexts by their ids.
pub record App : Type 0 where
  pub channel : ℕ
  pub number : ℕ
  pub pid : ℕ
  pub text : List ℕ
  pub contexts : List (List ℕ × Context)

-- The default level, the levels that were stored for contexts, and the applications by their ids. Applications, and the
-- contexts of one, stand in the order in which they came.
pub record Registry : Type 0 where
  pub level : ℕ
  pub stored : List StoredLevel
  pub apps : List (List ℕ × App)

-- ---- who is there

-- an application that belongs to this channel
abbrev pub of_channel : ℕ → App → Option App
of_channel channel app = if app.channel == channel then Some app else None

-- the application of this channel that has the id
abbrev pub app_of : Registry → ℕ → List ℕ → Option App
app_of registry channel apid = option_and_then (of_channel channel) (lookup (bytes_eq apid) registry.apps)

-- the context of the application that has the id
abbrev pub context_of : App → List ℕ → Option Context
context_of app ctid = lookup (bytes_eq ctid) app.contexts

-- the context that has both ids, of whatever channel, with its application
abbrev pub context_named : Registry → List ℕ → List ℕ → Option (App × Context)
context_named registry apid ctid =
    option_and_then (λ app. option_map (λ context. (app, context)) (context_of app ctid)) (lookup (bytes_eq apid) registry.apps)

-- ---- numbers, places and slots

-- the places of a context: the one at which its stay began, and those that it got by claims since
abbrev pub places_of : Context → List ℕ
places_of context = context.place ∷ context.further

abbrev pub has_place : ℕ → Context → Bool
has_place place context = list_any (λ other. place == other) (places_of context)

-- the numbers of the applications, and the places of an application's contexts
abbrev pub numbers : List (List ℕ × App) → List ℕ
numbers apps = map (λ entry. entry.1.number) apps

abbrev pub places : List (List ℕ × Context) → List ℕ
places contexts = flat_map (λ entry. places_of entry.1) contexts

-- the least number that is none of these
abbrev pub least_free : List ℕ → ℕ
least_free used = prefix_len (λ n. list_any (λ m. n == m) used) (range_with_len 0 (length used))

-- numbers below a limit, no two the same
pub record IsNumbered (limit : ℕ) (used : List ℕ) : Type 0 where
  pub apart : IsDistinct nat_eq used
  pub below : AllByRecursion (λ n. n < limit) used

-- a place that an application can have, and that none of its contexts has
abbrev pub is_free : ℕ → List (List ℕ × Context) → Bool
is_free place contexts = nat_lt place context_limit && not (list_any (λ other. place == other) (places contexts))

-- each application has as many slots as places
abbrev pub slot_of : ℕ → ℕ → ℕ
slot_of number place = context_limit * number + place

-- the context that has a slot: it has this place among its own, and its application this number
abbrev pub context_at : Registry → ℕ → Option Context
context_at registry slot =
    option_and_then (λ app. find (has_place (slot % context_limit)) (values_of app.contexts))
    (find (λ app. app.number == slot / context_limit) (values_of registry.apps))

-- ---- levels

-- the level that filters: the own level, or the default level where there is none
abbrev pub effective : ℕ → Context → ℕ
effective level context = unwrap_or context.own level

-- the effective level of the context that has the slot
abbrev pub level_at : Registry → ℕ → Option ℕ
level_at registry slot = option_map (effective registry.level) (context_at registry slot)

abbrev pub is_stored_for : List ℕ → List ℕ → StoredLevel → Bool
is_stored_for apid ctid stored = bytes_eq stored.apid apid && bytes_eq stored.ctid ctid

-- the level that was stored for both ids, the last where there are several
abbrev pub stored_level : List StoredLevel → List ℕ → List ℕ → Option ℕ
stored_level stored apid ctid = option_map (λ found. found.level) (find (is_stored_for apid ctid) (reverse stored))

-- ---- user messages: what each leaves, or why it is refused. The checks of a kind stand in their order.

abbrev pub with_app : Registry → List ℕ → App → Registry
with_app registry apid app = record registry { apps = set_value (bytes_eq apid) registry.apps app }

abbrev pub with_new_app : Registry → List ℕ → App → Registry
with_new_app registry apid app = record registry { apps = registry.apps ++ (apid, app) ∷ [] }

abbrev pub with_context : App → List ℕ → Context → App
with_context app ctid context = record app { contexts = set_value (bytes_eq ctid) app.contexts context }

abbrev pub with_new_context : App → List ℕ → Context → App
with_new_context app ctid context = record app { contexts = app.contexts ++ (ctid, context) ∷ [] }

-- all but the entries of this id
abbrev pub without : {A : Type 0} → List ℕ → List (List ℕ × A) → List (List ℕ × A)
without id entries = filter (λ entry. not (bytes_eq id entry.0)) entries

-- RegisterApp, by the application that has the id: one that is there tells itself anew, a new one takes the least free
-- number.
abbrev pub app_registered : Registry → ℕ → List ℕ → ℕ → List ℕ → Option App → Result Registry RegistryFault
app_registered registry channel apid pid text (Some app) =
    if app.channel == channel then Ok (with_app registry apid (record app { pid = pid; text = text })) else Err Taken
app_registered registry channel apid pid text None =
    if nat_le app_limit (length registry.apps) then Err AppsFull
    else Ok (with_new_app registry apid (record {
      channel = channel;
      number = least_free (numbers registry.apps);
      pid = pid;
      text = text;
      contexts = [];
    }))

-- UnregisterApp: the application goes, with its contexts
abbrev pub app_unregistered : Registry → List ℕ → Option App → Result Registry RegistryFault
app_unregistered registry apid (Some app) = Ok (record registry { apps = without apid registry.apps })
app_unregistered registry apid None = Err UnknownApp

-- RegisterContext, by the context that has the id: one that is there tells itself anew and keeps its own level; a new
-- one takes the least free place, and the level that was stored for both ids or else the one that it asks for.
abbrev pub context_registered : (ℕ → Slot) → Registry → List ℕ → List ℕ → ℕ → Option ℕ → List ℕ → App → Option Context → Result Registry RegistryFault
context_registered slots registry apid ctid position own text app (Some context) =
    Ok (with_app registry apid (with_context app ctid (record context { position = position; text = text })))
context_registered slots registry apid ctid position own text app None =
    let place = least_free (places app.contexts) in
    if nat_le context_limit (length (places app.contexts)) then Err ContextsFull
    else if (slots (slot_of app.number place)).version == last_version then Err Worn
    else Ok (with_app registry apid (with_new_context app ctid (record {
      place = place;
      further = [];
      own = option_or (stored_level registry.stored apid ctid) own;
      position = position;
      text = text;
    })))

-- UnregisterContext: the context goes
abbrev pub context_unregistered : Registry → List ℕ → List ℕ → App → Option Context → Result Registry RegistryFault
context_unregistered registry apid ctid app (Some context) =
    Ok (with_app registry apid (record app { contexts = without ctid app.contexts }))
context_unregistered registry apid ctid app None = Err UnknownContext

-- the application of the channel, without which the message is refused
abbrev pub for_app : Option App → (App → Result Registry RegistryFault) → Result Registry RegistryFault
for_app None next = Err UnknownApp
for_app (Some app) next = next app

-- what a user message of a channel leaves, or why it is refused
abbrev pub applied : (ℕ → Slot) → Registry → ℕ → UserMsg → Result Registry RegistryFault
applied slots registry channel (RegisterApp apid pid text) =
    if bytes_eq apid zero_id then Err ZeroId
    else app_registered registry channel apid pid text (lookup (bytes_eq apid) registry.apps)
applied slots registry channel (UnregisterApp apid pid) =
    app_unregistered registry apid (app_of registry channel apid)
applied slots registry channel (RegisterContext apid ctid position level trace pid text) =
    if bytes_eq apid zero_id || bytes_eq ctid zero_id then Err ZeroId
    else for_app (app_of registry channel apid)
    (λ app. context_registered slots registry apid ctid position level text app (context_of app ctid))
applied slots registry channel (UnregisterContext apid ctid pid) =
    for_app (app_of registry channel apid) (λ app. context_unregistered registry apid ctid app (context_of app ctid))
applied slots registry channel _ = Ok registry

-- ---- claims of this process's writers: what each leaves, where it changes something

-- the id of the application that has the number
abbrev pub apid_numbered : Registry → ℕ → Option (List ℕ)
apid_numbered registry number = option_map (λ entry. entry.0) (find (λ entry. entry.1.number == number) registry.apps)

-- A claim, by the context of the application that has its id: one that is there gets the place besides, and nothing else of it
-- changes; a new one begins at that place, with the level that was stored for both ids or else the one that it asks for.
abbrev pub with_claim : List StoredLevel → List ℕ → Claimed → App → Option Context → App
with_claim stored apid claim app (Some context) =
    with_context app claim.ctid (record context { further = context.further ++ claim.place ∷ [] })
with_claim stored apid claim app None =
    with_new_context app claim.ctid (record {
      place = claim.place;
      further = [];
      own = option_or (stored_level stored apid claim.ctid) claim.level;
      position = 0;
      text = claim.text;
    })

-- it changes nothing where the place isn't free, or its slot is at the last version
abbrev pub context_claimed : (ℕ → Slot) → Registry → List ℕ → Claimed → App → Option Registry
context_claimed slots registry apid claim app =
    if not (is_free claim.place app.contexts) then None
    else if (slots (slot_of app.number claim.place)).version == last_version then None
    else Some (with_app registry apid (with_claim registry.stored apid claim app (context_of app claim.ctid)))

-- what a claim leaves: its application is the one of this process that has its number
abbrev pub claimed : (ℕ → Slot) → Registry → Claimed → Option Registry
claimed slots registry claim =
    option_and_then (λ apid. option_and_then (context_claimed slots registry apid claim) (app_of registry 0 apid))
    (apid_numbered registry claim.app)

-- a claim that changes something is the registration of its context, as a message would tell it
abbrev pub registration : List ℕ → Claimed → UserMsg
registration apid claim = RegisterContext apid claim.ctid 0 claim.level (negsuc 0) 0 claim.text

abbrev pub registrations : (ℕ → Slot) → Registry → Claimed → List UserMsg
registrations slots registry claim =
    if is_some (claimed slots registry claim) then option_map_or (λ apid. registration apid claim ∷ []) (apid_numbered registry claim.app) []
    else []

-- ---- levels that clients set

-- in a request the zero id names all ids, and any other id itself
abbrev pub names : List ℕ → List ℕ → Bool
names asked id = bytes_eq asked zero_id || bytes_eq asked id

-- the id whose one character is `*`
abbrev pub star : List ℕ
star = 0x2a ∷ 0 ∷ 0 ∷ 0 ∷ []

-- the last character of an id, before the zero bytes that fill it, is a `*` behind n others
abbrev pub ends_at : List ℕ → ℕ → Bool
ends_at id n = bytes_eq (drop n id) (take (4 - n) star)

-- how many characters stand before the `*` that ends an id, where one does
abbrev pub star_at : List ℕ → Option ℕ
star_at id = find (ends_at id) (0 ∷ 1 ∷ 2 ∷ 3 ∷ [])

-- another id begins with what is before the `*` of this one
abbrev pub begins : List ℕ → List ℕ → Bool
begins pattern id = option_map_or (λ n. bytes_eq (take n pattern) (take n id)) (star_at pattern) false

-- SetLogLevel: an id matches the ids that it names, and one that ends in `*` besides those that begin with what is before it
abbrev pub matches : List ℕ → List ℕ → Bool
matches pattern id = names pattern id || begins pattern id

-- an id that can match others than itself
abbrev pub is_pattern : List ℕ → Bool
is_pattern id = bytes_eq id zero_id || is_some (star_at id)

-- An own level for each context, by the id of its application, its own id, and the level that it had.
abbrev pub Relevel : Type 0
Relevel = List ℕ → List ℕ → Option ℕ → Option ℕ

-- those that match get this level
abbrev pub set_matching : List ℕ → List ℕ → Option ℕ → Relevel
set_matching apid ctid own app context old = if matches apid app && matches ctid context then own else old

-- each keeps its own
abbrev pub keep_own : Relevel
keep_own app context old = old

-- none has one
abbrev pub no_own : Relevel
no_own app context old = None

abbrev pub releveled_context : Relevel → List ℕ → List ℕ × Context → List ℕ × Context
releveled_context relevel apid entry = (entry.0, record entry.1 { own = relevel apid entry.0 entry.1.own })

abbrev pub releveled_app : Relevel → List ℕ × App → List ℕ × App
releveled_app relevel entry = (entry.0, record entry.1 { contexts = map (releveled_context relevel entry.0) entry.1.contexts })

-- with this default level, and these own levels
abbrev pub releveled : ℕ → Relevel → Registry → Registry
releveled level relevel registry = record registry { level = level; apps = map (releveled_app relevel) registry.apps }

-- a slot of a context is at the last version
abbrev pub is_worn : (ℕ → Slot) → ℕ → Context → Bool
is_worn slots number context = list_any (λ place. (slots (slot_of number place)).version == last_version) (places_of context)

-- by that the effective level of a context would change, and a slot of it is at the last version
abbrev pub wears_context : (ℕ → Slot) → ℕ → ℕ → Relevel → List ℕ × App → List ℕ × Context → Bool
wears_context slots old new relevel app entry =
    is_worn slots app.1.number entry.1
    && not (effective old entry.1 == effective new (releveled_context relevel app.0 entry).1)

abbrev pub wears_app : (ℕ → Slot) → ℕ → ℕ → Relevel → List ℕ × App → Bool
wears_app slots old new relevel app = list_any (wears_context slots old new relevel app) app.1.contexts

abbrev pub wears : (ℕ → Slot) → Registry → ℕ → Relevel → Bool
wears slots registry level relevel = list_any (wears_app slots registry.level level relevel) registry.apps

-- with these levels, unless a slot is worn
abbrev pub unless_worn : (ℕ → Slot) → Registry → ℕ → Relevel → Result Registry SetFault
unless_worn slots registry level relevel =
    if wears slots registry level relevel then Err set.Worn else Ok (releveled level relevel registry)

-- the contexts that GetLogInfo tells of: those of an application that the ids name, and of all applications
abbrev pub named_in : List ℕ → List ℕ → List ℕ × App → List (List ℕ × Context)
named_in apid ctid app = if names apid app.0 then filter (λ entry. names ctid entry.0) app.1.contexts else []

abbrev pub named_contexts : Registry → List ℕ → List ℕ → List (List ℕ × Context)
named_contexts registry apid ctid = flat_map (named_in apid ctid) registry.apps

-- the contexts of an application that the ids match, and of all applications
abbrev pub matching_in : List ℕ → List ℕ → List ℕ × App → List (List ℕ × Context)
matching_in apid ctid app = if matches apid app.0 then filter (λ entry. matches ctid entry.0) app.1.contexts else []

abbrev pub matching : Registry → List ℕ → List ℕ → List (List ℕ × Context)
matching registry apid ctid = flat_map (matching_in apid ctid) registry.apps

-- the own level of all matching contexts set
abbrev pub own_set : (ℕ → Slot) → Registry → List ℕ → List ℕ → Option ℕ → Result Registry SetFault
own_set slots registry apid ctid own =
    if length (matching registry apid ctid) == 0 then Err set.Nobody
    else unless_worn slots registry registry.level (set_matching apid ctid own)

-- the default level set
abbrev pub default_set : (ℕ → Slot) → Registry → ℕ → Result Registry SetFault
default_set slots registry level = unless_worn slots registry level keep_own

abbrev pub nothing_stored : Registry → Registry
nothing_stored registry = record registry { stored = [] }

-- this default level, no own levels, and nothing stored
abbrev pub reset : (ℕ → Slot) → Registry → ℕ → Result Registry SetFault
reset slots registry level =
    if wears slots registry level no_own then Err set.Worn else Ok (nothing_stored (releveled level no_own registry))

-- the own levels of now, in the registry's order, as they are stored
abbrev pub own_of_context : List ℕ → List ℕ × Context → Option StoredLevel
own_of_context apid entry = option_map (λ level. record { apid = apid; ctid = entry.0; level = level }) entry.1.own

abbrev pub owns_of_app : List ℕ × App → List StoredLevel
owns_of_app app = filter_map (own_of_context app.0) app.1.contexts

abbrev pub owns_now : Registry → List StoredLevel
owns_now registry = flat_map owns_of_app registry.apps

-- ---- Level events that are owed

-- the level that the slot is owed: the effective level of its context, where that differs from its last level
abbrev pub change_at : (ℕ → Slot) → Registry → ℕ → Option LevelChange
change_at slots registry slot =
    option_and_then (λ level. if (slots slot).level == level then None else Some (record { slot = slot; level = level }))
    (level_at registry slot)

-- the slots of all applications
abbrev pub all_slots : List ℕ
all_slots = range_with_len 0 (app_limit * context_limit)

-- the next change of level that is owed, the least slot first
abbrev pub first_change : (ℕ → Slot) → Registry → List ℕ → Option LevelChange
first_change slots registry [] = None
first_change slots registry (slot ∷ more) = option_or (change_at slots registry slot) (first_change slots registry more)

abbrev pub next_change : (ℕ → Slot) → Registry → Option LevelChange
next_change slots registry = first_change slots registry all_slots

-- ---- what always holds

-- each application's contexts have places of their own below the limit
abbrev pub ArePlaced : List (List ℕ × App) → Type 0
ArePlaced [] = Unit {0}
ArePlaced (entry ∷ entries) = IsNumbered context_limit (places entry.1.contexts) × ArePlaced entries

-- The applications have numbers of their own below their limit, and each one's contexts places of their own below theirs: so no two
-- contexts have the same slot.
pub record IsInOrder (registry : Registry) : Type 0 where
  pub numbered : IsNumbered app_limit (numbers registry.apps)
  pub placed : ArePlaced registry.apps
