-- What is handed out at the end of a run.
use Rattle.std.proofs.Common.{◌≡◌, ◌≢◌, ℕ, zero, suc, ◌+◌, ◌-◌, ◌<◌, ◌≤◌, Bool, true, false, cond, eqb, get_or, List, [], ◌∷◌, ◌++◌, length, map, take, Option, Some, None, refl, sym, ap, subst, ◌∙◌, ◌⊎◌, inl, inr, arith}
use Rattle.std.specs.Prelude.{IfSome, IsSomeAnd, slice_get}
use Rattle.std.specs.List.{range_with_len}
use Rattle.std.specs.Option.{option_map_or}
use Rattle.std.proofs.lemmas.Bool.Decides.{eqb_tells}
use Rattle.std.proofs.lemmas.List.{length-map as many_map}
use Rattle.std.proofs.lemmas.List.FromFn.{map-range_with_len_more}
use Rattle.std.proofs.lemmas.Option.{slice_get-get_or}
use Rattle.std.proofs.lemmas.Simd.{map-map}
use Rattle.dl_bytes.specs.declared.conf.AppSpec.{AppSpec}
use Rattle.dl_bytes.specs.declared.outcome.Backlog.{Backlog}
use Rattle.dl_bytes.specs.declared.outcome.LinkEnd.{LinkEnd}
use Rattle.dl_script_model.specs.declared.line.AppLine.{AppLine}
use Rattle.dl_model.specs.Backlog.{fitting, left, refused, size_of, waiting}
use Rattle.dl_model.specs.ClientStream.{sent, traffic}
use Rattle.dl_script_model.specs.Marks.{Mark, announced_by, claims, journal, records, records_of}
use Rattle.dl_script_model.specs.Replay.{clients, specs_of}
use Rattle.dl_model.proofs.Rotation.{length-concat}
use Rattle.dl_world_calls.specs.State.{App, Writer}
use Rattle.dl_world_calls.specs.Follows.{no_writer, writer_at, line_of}
use Rattle.dl_hub.specs.State as state
use Rattle.dl_hub.specs.State.{Hub, client_of}
use Rattle.dl_core.specs.Follows.{Run, source_of}
use Rattle.dl_world.specs.State.{Client, new_client}
use Rattle.dl_world.specs.Follows.{IsAfter, stream_in}
use Rattle.dl_world.specs.Left.{link_in, links_in, link_after}
use Rattle.dl_world.specs.declared.world.World.{World}
use Rattle.dl_world.proofs.Ends.{came}

-- ---- the ends of links

link_made : (hub : Hub) (n : ℕ) (put : ℕ × ℕ) → IsSomeAnd (client_of hub n) (λ (k : state.Client). put ≡ (k.frames, k.bytes))
    → ◌≡◌ {A = LinkEnd} (record { client = n; frames = put.0; bytes = put.1; complete = true }) (link_in hub n)
link_made hub n put is = by_client (client_of hub n) is where
  by_client : (o : Option state.Client) → IsSomeAnd o (λ (k : state.Client). put ≡ (k.frames, k.bytes))
      → ◌≡◌ {A = LinkEnd} (record { client = n; frames = put.0; bytes = put.1; complete = true })
      (record { client = n; frames = option_map_or (λ (client : state.Client). client.frames) o 0; bytes = option_map_or (λ (client : state.Client). client.bytes) o 0; complete = true })
  by_client None is = absurd is
  by_client (Some k) is = λ i. record { client = n; frames = (is i).0; bytes = (is i).1; complete = true }

-- one link more
pub one_link : (hub : Hub) (n : ℕ) (put : ℕ × ℕ) (links : List LinkEnd) → 1 ≤ n → links ≡ links_in hub (range_with_len 1 (n - 1))
    → IsSomeAnd (client_of hub n) (λ (k : state.Client). put ≡ (k.frames, k.bytes))
    → links ++ record { client = n; frames = put.0; bytes = put.1; complete = true } ∷ [] ≡ links_in hub (range_with_len 1 n)
one_link hub n put links some made is =
    let count : (n - 1) + 1 ≡ n = omega (arith, some) in
    let number : 1 + (n - 1) ≡ n = omega (arith, some) in
    ap (λ (l : LinkEnd). links ++ l ∷ []) (link_made hub n put is) ∙ ap (λ (ls : List LinkEnd). ls ++ link_in hub n ∷ []) made
    ∙ sym (map-range_with_len_more (link_in hub) 1 (n - 1) n number) ∙ ap (λ (k : ℕ). links_in hub (range_with_len 1 k)) count

-- ---- entries by their numbers

-- what each number gives is what the entry at its place gives
numbered : {A B : Type 0} (f : A → B) (g : ℕ → B) (first : ℕ) (xs : List A) (d : A) → ((place : ℕ) → place < length xs → g (first + place) ≡ f (get_or xs place d))
    → map g (range_with_len first (length xs)) ≡ map f xs
numbered f g first [] d each = refl
numbered {A} {B} f g first (x ∷ xs) d each =
    let here : first + 0 ≡ first = omega arith in
    let one : g first ≡ f x = ap g (sym here) ∙ each 0 (omega arith) in
    let later : (place : ℕ) → place < length xs → g ((first + 1) + place) ≡ f (get_or xs place d) =
    (λ place below. let next : (first + 1) + place ≡ first + suc place = omega arith in ap g next ∙ each (suc place) (omega (arith, below))) in
    ap (λ (y : B). y ∷ map g (range_with_len (first + 1) (length xs))) one ∙ ap (λ (ys : List B). f x ∷ ys) (numbered f g (first + 1) xs d later)

-- an entry whose number is from 1 on
at_number : {A : Type 0} (xs : List A) (place : ℕ) (d : A) → place < length xs → cond (eqb (1 + place) 0) None (slice_get xs (1 + place - 1)) ≡ Some (get_or xs place d)
at_number {A} xs place d below = by_test (eqb_tells (1 + place) 0) where
  same : 1 + place - 1 ≡ place
  same = omega arith

  by_test : ((eqb (1 + place) 0 ≡ true) × (1 + place ≡ 0)) ⊎ ((eqb (1 + place) 0 ≡ false) × (1 + place ≢ 0)) → cond (eqb (1 + place) 0) None (slice_get xs (1 + place - 1)) ≡ Some (get_or xs place d)
  by_test (inl none) = absurd (omega (arith, none.1))
  by_test (inr some) = ap (λ (b : Bool). cond b None (slice_get xs (1 + place - 1))) some.0 ∙ ap (λ (k : ℕ). slice_get xs k) same ∙ slice_get-get_or xs place d below

-- ---- what the marks say of each part

module _ (run : Run) (done : List Mark) (w : World) (after : IsAfter run done w) where
  writers_many : length (w.calls.writers) ≡ length (map (λ (writer : Writer). writer.apid) w.calls.writers)
  writers_many = sym (many_map w.calls.writers (λ (writer : Writer). writer.apid))

  writer_is : (place : ℕ) → place < length w.calls.writers → writer_at w.calls.writers (1 + place) ≡ get_or w.calls.writers place no_writer
  writer_is place below = by_test (eqb_tells (1 + place) 0) where
    same : 1 + place - 1 ≡ place
    same = omega arith

    by_test : ((eqb (1 + place) 0 ≡ true) × (1 + place ≡ 0)) ⊎ ((eqb (1 + place) 0 ≡ false) × (1 + place ≢ 0)) → writer_at w.calls.writers (1 + place) ≡ get_or w.calls.writers place no_writer
    by_test (inl none) = absurd (omega (arith, none.1))
    by_test (inr some) = ap (λ (b : Bool). cond b no_writer (get_or w.calls.writers (1 + place - 1) no_writer)) some.0 ∙ ap (λ (k : ℕ). get_or w.calls.writers k no_writer) same

  pub records_left : map (λ (writer : Writer). writer.records) w.calls.writers ≡ records done
  records_left =
      sym (numbered (λ (writer : Writer). writer.records) (λ (n : ℕ). records_of n done) 1 w.calls.writers no_writer
      (λ place below. (after.so_far.calls_so.each_writer (1 + place)).records_are ∙ ap (λ (writer : Writer). writer.records) (writer_is place below)))
      ∙ ap (λ (k : ℕ). map (λ (n : ℕ). records_of n done) (range_with_len 1 k)) (writers_many ∙ ap length after.so_far.calls_so.writers_are)

  pub claims_left : map (λ (writer : Writer). take writer.announced writer.claims) w.calls.writers ≡ claims done
  claims_left =
      sym (numbered (λ (writer : Writer). take writer.announced writer.claims) (λ (n : ℕ). announced_by n done) 1 w.calls.writers no_writer
      (λ place below. (after.so_far.calls_so.each_claimer (1 + place)).announced_are ∙ ap (λ (writer : Writer). take writer.announced writer.claims) (writer_is place below)))
      ∙ ap (λ (k : ℕ). map (λ (n : ℕ). announced_by n done) (range_with_len 1 k)) (writers_many ∙ ap length after.so_far.calls_so.writers_are)

  abbrev spec_of : AppLine → AppSpec
  spec_of line = record { apid = line.apid; capacity = line.capacity; text = line.text }

  pub specs_left : map (λ (app : App). app.spec) w.calls.apps ≡ specs_of done
  specs_left = sym (map-map spec_of line_of w.calls.apps) ∙ ap (map spec_of) after.so_far.calls_so.apps_are

  clients_are : range_with_len 1 (length w.clients) ≡ clients done
  clients_are = ap (range_with_len 1) (sym (came run done w after))

  pub streams_left : map (λ (client : Client). client.frames) w.clients ≡ map (stream_in run done) (clients done)
  streams_left =
      sym (numbered (λ (client : Client). client.frames) (stream_in run done) 1 w.clients new_client
      (λ place below.
      let is = subst (λ (o : Option Client). IfSome o (λ (client : Client). client.frames ≡ stream_in run done (1 + place))) (at_number w.clients place new_client below) (after.taken (1 + place)) in
      sym is))
      ∙ ap (map (stream_in run done)) clients_are

  stream_as : (number : ℕ) → sent w.core.hub.ecu w.core.hub.buffer number (traffic (source_of run) (journal done)) ≡ stream_in run done number
  stream_as number = rw (after.so_far.core_so.set_to.unit, after.so_far.core_so.set_to.buffer) refl

  abbrev nobody : state.Client
  nobody = record { outbox = None; frames = 0; bytes = 0; replies = 0; left = 0; messages = 0 }

  link_left : (place : ℕ) → place < length w.core.hub.clients → link_after run done (1 + place) ≡ link_in w.core.hub (1 + place)
  link_left place below =
      let its = get_or w.core.hub.clients place nobody in
      let is : client_of w.core.hub (1 + place) ≡ Some its = at_number w.core.hub.clients place nobody below in
      let stream = after.so_far.core_so.hub.streams place its (slice_get-get_or w.core.hub.clients place nobody below) in
      let number : place + 1 ≡ 1 + place = omega arith in
      let frames : length (stream_in run done (1 + place)) ≡ its.frames = ap length (sym (stream_as (1 + place))) ∙ ap (λ (k : ℕ). length (sent w.core.hub.ecu w.core.hub.buffer k (traffic (source_of run) (journal done)))) (sym number) ∙ stream.frames in
      let bytes : size_of (stream_in run done (1 + place)) ≡ its.bytes = ap size_of (sym (stream_as (1 + place))) ∙ ap (λ (k : ℕ). size_of (sent w.core.hub.ecu w.core.hub.buffer k (traffic (source_of run) (journal done)))) (sym number) ∙ stream.bytes in
      let link : ◌≡◌ {A = LinkEnd} (link_after run done (1 + place)) (record { client = 1 + place; frames = its.frames; bytes = its.bytes; complete = true }) =
      (λ i. record { client = 1 + place; frames = frames i; bytes = bytes i; complete = true }) in
      link ∙ sym (ap (λ (o : Option state.Client). record { client = 1 + place; frames = option_map_or (λ (client : state.Client). client.frames) o 0; bytes = option_map_or (λ (client : state.Client). client.bytes) o 0; complete = true }) is)

  pub links_left : links_in w.core.hub (range_with_len 1 (length w.clients)) ≡ map (link_after run done) (clients done)
  links_left = each_link 1 (length w.clients) (λ place below. link_left place (subst (λ (k : ℕ). place < k) after.so_far.came_so below)) ∙ ap (map (link_after run done)) clients_are where
    each_link : (first count : ℕ) → ((place : ℕ) → place < count → link_after run done (first + place) ≡ link_in w.core.hub (first + place))
        → map (link_in w.core.hub) (range_with_len first count) ≡ map (link_after run done) (range_with_len first count)
    each_link first zero each = refl
    each_link first (suc count) each =
        let here : first + 0 ≡ first = omega arith in
        let one : link_in w.core.hub first ≡ link_after run done first = sym (subst (λ (k : ℕ). link_after run done k ≡ link_in w.core.hub k) here (each 0 (omega arith))) in
        let later : (place : ℕ) → place < count → link_after run done ((first + 1) + place) ≡ link_in w.core.hub ((first + 1) + place) =
        (λ place below. let next : first + suc place ≡ (first + 1) + place = omega arith in
        subst (λ (k : ℕ). link_after run done k ≡ link_in w.core.hub k) next (each (suc place) (omega (arith, below)))) in
        ap (λ (l : LinkEnd). l ∷ map (link_in w.core.hub) (range_with_len (first + 1) count)) one
        ∙ ap (λ (ls : List LinkEnd). link_after run done first ∷ ls) (each_link (first + 1) count later)

  pub backlog_left : ◌≡◌ {A = Backlog} (record { frames = w.core.hub.frames; bytes = length w.core.hub.backlog; refused = w.core.hub.refused }) (left run.setting.buffer (traffic (source_of run) (journal done)))
  backlog_left =
      let hub = w.core.hub in
      let wait = waiting (traffic (source_of run) (journal done)) in
      let waits = after.so_far.core_so.hub.waits in
      let size = after.so_far.core_so.set_to.buffer in
      let frames : hub.frames ≡ length (fitting run.setting.buffer wait) = sym waits.frames_kept ∙ ap (λ (n : ℕ). length (fitting n wait)) size in
      let bytes : length hub.backlog ≡ size_of (fitting run.setting.buffer wait) =
      ap length (sym waits.bytes) ∙ length-concat (fitting hub.buffer wait) ∙ ap (λ (n : ℕ). size_of (fitting n wait)) size in
      let none : hub.refused ≡ refused run.setting.buffer wait = sym waits.refusals ∙ ap (λ (n : ℕ). refused n wait) size in
      λ i. record { frames = frames i; bytes = bytes i; refused = none i }
