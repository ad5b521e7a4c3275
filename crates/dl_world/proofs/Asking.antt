-- A request of a client: who is open, and how many requests it made before.
use Rattle.std.proofs.Common.{◌≡◌, ℕ, ◌-◌, ◌<◌, ◌≤◌, Bool, true, false, List, [], ◌∷◌, length, Option, Some, None, refl, sym, ap, subst, ◌∙◌, arith}
use Rattle.std.specs.Prelude.{IsTrue, IsSome, IsSomeAnd, is_some, count_by, nat_lt, if◌then◌else◌}
use Rattle.std.proofs.lemmas.Option.{slice_get_within}
use Rattle.dl_bytes.specs.declared.outcome.Done.{Done}
use Rattle.dl_events.specs.declared.event.Event.TheVariants as event
use Rattle.dl_events.specs.declared.event.Why.TheVariants as why
use Rattle.dl_model.specs.Setting.{Setting}
use Rattle.dl_model.specs.Journal.{is_request_of}
use Rattle.dl_script_model.specs.Marks.{Mark, journal}
use Rattle.dl_script_model.specs.Steps as steps
use Rattle.dl_script_model.specs.Steps.{Act, ask, close, in_sequence, when, note_levels, note_levels_now, request_now}
use Rattle.dl_hub.specs.State as hub
use Rattle.dl_hub.specs.State.{client_of, outbox_of}
use Rattle.dl_hub.proofs.Keeping.{found}
use Rattle.dl_core.specs.Follows.{Run}
use Rattle.dl_core.proofs.Answered.{replies_are}
use Rattle.dl_outside.specs.Told.{FolderTold}
use Rattle.dl_world.specs.Follows.{IsAfter, Deed, Does, Doing}
use Rattle.dl_world.specs.State.{taken_by}
use Rattle.dl_world.specs.declared.world.World.{World}
use Rattle.dl_world.proofs.Composing.{both, does_both}
use Rattle.dl_world.proofs.Declared.{does_two}
use Rattle.dl_world.proofs.Deeds.{does_as, does_none}
use Rattle.dl_world.proofs.Going.{open_by_hub, known_by_hub}

-- ---- who is open

abbrev pub IsThere : World → ℕ → Type 0
IsThere world client = (1 ≤ client) × (client ≤ length world.clients) × IsSome (outbox_of world.core.hub client)

pub shut_so : (world : World) (client : ℕ) (result : Bool) → (IsThere world client → IsTrue result) → result ≡ false → (run : Run) (done : List Mark) → IsAfter run done world → steps.is_open client done ≡ false
shut_so world client result tells is run done after = open_by_hub run done world client after ∙ by_test (is_some (outbox_of world.core.hub client)) refl where
  by_test : (b : Bool) → is_some (outbox_of world.core.hub client) ≡ b → b ≡ false
  by_test false e = refl
  by_test true e = let known = known_by_hub run done world client after e in let told : IsTrue result = tells (known.0, known.1, e) in absurd (let bad : IsTrue false = subst IsTrue is told in cc)

pub open_so : (world : World) (client : ℕ) → IsThere world client → (run : Run) (done : List Mark) → IsAfter run done world → steps.is_open client done ≡ true
open_so world client there run done after = open_by_hub run done world client after ∙ there.2

-- one that has an outbox came to the hub
pub came_so : (world : World) (client : ℕ) (h : hub.Hub) → h ≡ world.core.hub → IsThere world client → (1 ≤ client) × (client ≤ length h.clients)
came_so world client h is there =
    subst (λ (k : hub.Hub). (1 ≤ client) × (client ≤ length k.clients)) (sym is)
    (let it = found world.core.hub client there.2 in (there.0, (let below = slice_get_within world.core.hub.clients (client - 1) it.0 it.2 in omega (arith, below, there.0))))

-- ---- how many requests it made

pub counted_so : (world : World) (client count : ℕ) → IsSomeAnd (client_of world.core.hub client) (λ c. count ≡ c.replies) → (run : Run) (done : List Mark) → IsAfter run done world
    → count_by (is_request_of client) (journal done) ≡ count
counted_so world client count is run done after = by_client (client_of world.core.hub client) refl is where
  by_client : (o : Option hub.Client) → client_of world.core.hub client ≡ o → IsSomeAnd o (λ c. count ≡ c.replies) → count_by (is_request_of client) (journal done) ≡ count
  by_client None known is = absurd is
  by_client (Some there) known is = sym (is ∙ replies_are run (journal done) (taken_by world.clients) world.core client there after.so_far.core_so known)

few_tells : (n : ℕ) → n < 1000 → nat_lt n 1000 ≡ true
few_tells n few = grind (arith, few)

many_tells : (n : ℕ) → 1000 ≤ n → nat_lt n 1000 ≡ false
many_tells n many = grind (arith, many)

-- ---- what it comes to

nothing_of : (b : Bool) (first second : Act) (done : List Mark) (o : Bool) → o ≡ false → (if b then when o first done else when o second done) ≡ []
nothing_of true first second done o shut = rw shut refl
nothing_of false first second done o shut = rw shut refl

-- of one that is not open, nothing
pub asks_nothing : (client : ℕ) (frame : List ℕ) (world : World) (told : FolderTold) → ((run : Run) (done : List Mark) → IsAfter run done world → steps.is_open client done ≡ false)
    → Does (λ setting answers. ask setting answers client frame) world world told told
asks_nothing client frame world told shut =
    does_none (λ setting answers. ask setting answers client frame) world told
    (λ run done answers after.
    nothing_of (nat_lt (count_by (is_request_of client) (journal done)) 1000) (in_sequence (note_levels run.setting ∷ request_now run.setting answers client frame ∷ note_levels_now run.setting ∷ []))
    (steps.note run.setting (λ _. event.Close client why.TooMany)) done (steps.is_open client done) (shut run done after))

-- the 1001st closes the client
pub asks_too_many : (client : ℕ) (frame : List ℕ) (count : ℕ) (old new : World) (told : FolderTold) → IsSomeAnd (client_of old.core.hub client) (λ c. count ≡ c.replies) → 1000 ≤ count
    → Doing (λ setting. close setting client why.TooMany) old new → Does (λ setting answers. ask setting answers client frame) old new told told
asks_too_many client frame count old new told counted many closes =
    does_as (λ setting answers. close setting client why.TooMany) (λ setting answers. ask setting answers client frame) old new told told
    (λ run done answers after.
    ap (λ (b : Bool). if b then when (steps.is_open client done) (in_sequence (note_levels run.setting ∷ request_now run.setting answers client frame ∷ note_levels_now run.setting ∷ [])) done else close run.setting client why.TooMany done)
    (ap (λ (n : ℕ). nat_lt n 1000) (counted_so old client count counted run done after) ∙ many_tells count many))
    (closes told)

-- any other is served, behind the Level events that wait
pub asks : (client : ℕ) (frame : List ℕ) (count : ℕ) (old mid noted new : World) (told told_now : FolderTold) → IsThere old client → IsSomeAnd (client_of old.core.hub client) (λ c. count ≡ c.replies) → count < 1000
    → Doing note_levels old mid → Does (λ setting answers. request_now setting answers client frame) mid noted told told_now → Doing note_levels_now noted new
    → Does (λ setting answers. ask setting answers client frame) old new told told_now
asks client frame count old mid noted new told told_now there counted few before serves behind =
    let first = λ (setting : Setting) (answers : List Done). note_levels setting in
    let second = λ (setting : Setting) (answers : List Done). request_now setting answers client frame in
    let third = λ (setting : Setting) (answers : List Done). note_levels_now setting in
    let rest : Deed = λ setting answers. in_sequence (second setting answers ∷ third setting answers ∷ []) in
    does_as (both first rest) (λ setting answers. ask setting answers client frame) old new told told_now
    (λ run done answers after.
    ap (λ (b : Bool). if b then when (steps.is_open client done) (in_sequence (note_levels run.setting ∷ request_now run.setting answers client frame ∷ note_levels_now run.setting ∷ [])) done else close run.setting client why.TooMany done)
    (ap (λ (n : ℕ). nat_lt n 1000) (counted_so old client count counted run done after) ∙ few_tells count few)
    ∙ ap (λ (b : Bool). when b (in_sequence (note_levels run.setting ∷ request_now run.setting answers client frame ∷ note_levels_now run.setting ∷ [])) done) (open_so old client there run done after))
    (does_both first rest old mid new told told told_now (before told) (does_two second third mid noted new told told_now told_now serves (behind told_now)))
