-- What the ends of the applications of a new desk are.
use Rattle.std.proofs.Common.{rules, ◌≡◌, ℕ, zero, suc, ◌+◌, ◌*◌, ◌≤◌, true, ◌<◌, List, [], ◌∷◌, ◌++◌, length, map, take, Some, slice_get, refl, sym, ap, ◌∙◌, subst, arith}
use Rattle.std.specs.Prelude.{All}
use Rattle.atomic_table.specs.Seated.{TableId}
use Rattle.dl_bytes.specs.declared.conf.AppSpec.{AppSpec}
use Rattle.dl_ring.specs.State as ring
use Rattle.dl_ring.specs.InjectionState as injections
use Rattle.dl_cells.specs.LevelStates.{ReaderState}
use Rattle.dl_cells.specs.LossStates as losses
use Rattle.dl_desk.specs.declared.app_handles.AppHandles.{AppHandles}
use Rattle.dl_desk.specs.declared.app_handles.FirstHandles.{FirstHandles}
use Rattle.dl_desk.specs.Apps.{declared_app, declared_apps}
use Rattle.dl_desk.specs.Assembly.{AreUnused, AreUnusedOf}
use Rattle.dl_desk.specs.DeskInside.{AreFirst, IsDesk}
use Rattle.dl_desk.specs.HandlesInside.{words_for}
use Rattle.dl_desk.specs.Made.{IsNew}
use Rattle.dl_desk.specs.State.{DeskState}

-- ---- one application more

pub ends_more : (specs : List AppSpec) (es : List AppHandles) (fs : List FirstHandles) (spec : AppSpec) (e : AppHandles) (f : FirstHandles) → AreUnusedOf specs es fs → AreUnused spec e f → AreUnusedOf (specs ++ spec ∷ []) (es ++ e ∷ []) (fs ++ f ∷ [])
ends_more [] [] [] spec e f all one = (one, tt)
ends_more [] [] (x ∷ fs) spec e f all one = absurd all
ends_more [] (x ∷ es) fs spec e f all one = absurd all
ends_more (s ∷ specs) [] fs spec e f all one = absurd all
ends_more (s ∷ specs) (x ∷ es) [] spec e f all one = absurd all
ends_more (s ∷ specs) (x ∷ es) (y ∷ fs) spec e f all one = (all.0, ends_more specs es fs spec e f all.1 one)

pub apps_more : (from : ℕ) (specs : List AppSpec) (spec : AppSpec) → declared_apps from (specs ++ spec ∷ []) ≡ declared_apps from specs ++ declared_app (from + length specs) spec ∷ []
apps_more from [] spec = let same : from + 0 ≡ from = omega arith in ap (λ (n : ℕ). declared_app n spec ∷ []) (sym same)
apps_more from (s ∷ specs) spec =
    let same : from + 1 + length specs ≡ from + suc (length specs) = omega arith in
    ap (λ apps. declared_app from s ∷ apps) (apps_more (from + 1) specs spec ∙ ap (λ (n : ℕ). declared_apps (from + 1) specs ++ declared_app n spec ∷ []) same)

pub length-apps : (from : ℕ) (specs : List AppSpec) → length (declared_apps from specs) ≡ length specs
length-apps from [] = refl
length-apps from (s ∷ specs) = ap (λ n. suc n) (length-apps (from + 1) specs)

-- ---- all of them

pub lengths : (specs : List AppSpec) (es : List AppHandles) (fs : List FirstHandles) → AreUnusedOf specs es fs → (length es ≡ length specs) × (length fs ≡ length specs)
lengths [] [] [] all = (refl, refl)
lengths [] [] (y ∷ fs) all = absurd all
lengths [] (x ∷ es) fs all = absurd all
lengths (s ∷ specs) [] fs all = absurd all
lengths (s ∷ specs) (x ∷ es) [] all = absurd all
lengths (s ∷ specs) (x ∷ es) (y ∷ fs) all = let rest = lengths specs es fs all.1 in (ap (λ n. suc n) rest.0, ap (λ n. suc n) rest.1)

pub mapped : {B : Type 0} (g : AppHandles → B) (h : AppSpec → B) → ((s : AppSpec) (e : AppHandles) (f : FirstHandles) → AreUnused s e f → g e ≡ h s) → (specs : List AppSpec) (es : List AppHandles) (fs : List FirstHandles) → AreUnusedOf specs es fs → map g es ≡ map h specs
mapped g h same [] [] [] all = refl
mapped g h same [] [] (y ∷ fs) all = absurd all
mapped g h same [] (x ∷ es) fs all = absurd all
mapped g h same (s ∷ specs) [] fs all = absurd all
mapped g h same (s ∷ specs) (x ∷ es) [] all = absurd all
mapped g h same (s ∷ specs) (x ∷ es) (y ∷ fs) all = ap (λ z. z ∷ map g es) (same s x y all.0) ∙ ap (λ zs. h s ∷ zs) (mapped g h same specs es fs all.1)

pub place_of : (specs : List AppSpec) (es : List AppHandles) (fs : List FirstHandles) → AreUnusedOf specs es fs → (n : ℕ) (s : AppSpec) (e : AppHandles) (f : FirstHandles) → slice_get specs n ≡ Some s → slice_get es n ≡ Some e → slice_get fs n ≡ Some f → AreUnused s e f
place_of [] es fs all n s e f is_s is_e is_f = absurd cc
place_of (z ∷ specs) [] fs all n s e f is_s is_e is_f = absurd all
place_of (z ∷ specs) (x ∷ es) [] all n s e f is_s is_e is_f = absurd all
place_of (z ∷ specs) (x ∷ es) (y ∷ fs) all zero s e f is_s is_e is_f =
    let a : z ≡ s = cc in
    let b : x ≡ e = cc in
    let c : y ≡ f = cc in
    subst (λ (k : AppSpec). AreUnused k e f) a (subst (λ (k : AppHandles). AreUnused z k f) b (subst (λ (k : FirstHandles). AreUnused z x k) c all.0))
place_of (z ∷ specs) (x ∷ es) (y ∷ fs) all (suc n) s e f is_s is_e is_f = place_of specs es fs all.1 n s e f is_s is_e is_f

-- no writer was made of them
pub firsts : (app : ℕ) (s : AppSpec) (e : AppHandles) (f : FirstHandles) → AreUnused s e f → AreFirst app [] s e f
firsts app s e f a = record {
  push = a.push;
  takes = a.takes;
  ring_joined = ap (λ (t : ring.TakeState). t.joined) a.take;
  ring_first = ap (λ (t : ring.TakeState). t.first) a.take;
  queue_joined = ap (λ (t : injections.PushState). t.joined) a.queue;
  queue_first = ap (λ (t : injections.PushState). t.first) a.queue;
}

-- ---- the desk

-- the reader of its level words, with which nothing was read or claimed, and of which so many can be split
abbrev pub unsplit : DeskState → ℕ → ReaderState
unsplit d left = record {
  table = d.handles.levels.table;
  slots = 64 * words_for (length d.apps);
  reads = [];
  splits_left = left;
  claims = d.handles.levels.claims;
  given = [];
  refused = [];
}

-- it is what a desk has to be
pub begins : (d : DeskState) → length d.apps ≤ 16 → AreUnusedOf d.apps d.handles.apps d.firsts → d.owners ≡ []
    → d.readers ≡ unsplit d 64
    → d.counters ≡ (record { table = d.handles.losses.table; apps = words_for (length d.apps); counted = []; splits_left = 64 })
    → d.handles.losses.counted ≡ [] → d.handles.losses.shares ≡ 0
    → (d.handles.levels.given ≡ []) × (d.handles.levels.refused ≡ []) × (d.handles.levels.shares ≡ 0) → IsDesk d
begins d few unused owners readers counters counted shares claimed =
    let long = lengths d.apps d.handles.apps d.firsts unused in
    let none : length d.owners ≡ 0 = ap length owners in
    let readers_left : d.readers.splits_left ≡ 64 = ap (λ (r : ReaderState). r.splits_left) readers in
    let counters_left : d.counters.splits_left ≡ 64 = ap (λ (r : losses.WriterState). r.splits_left) counters in
    record {
      few = few;
      handles = long.0;
      firsts = long.1;
      each = λ n s e f is_s is_e is_f. subst (λ (os : List ℕ). AreFirst n os s e f) (sym owners) (firsts n s e f (place_of d.apps d.handles.apps d.firsts unused n s e f is_s is_e is_f));
      owned = subst (λ (os : List ℕ). All (λ owner. owner < length d.apps) os) (sym owners) (All-nil (length d.apps));
      writers = omega (arith, none);
      readers = readers ∙ ap (unsplit d) (sym readers_left);
      readers_left = omega (arith, none, readers_left);
      counters = counters ∙ ap (λ (k : ℕ). let r : losses.WriterState = record { table = d.handles.losses.table; apps = words_for (length d.apps); counted = []; splits_left = k } in r) (sym counters_left);
      counters_left = omega (arith, none, counters_left);
      counted = counted;
      shares = shares;
      claimed = claimed;
    } where
      All-nil : (n : ℕ) → All (λ (owner : ℕ). owner < n) []
      All-nil n = search rules

-- and nothing was done with it
pub new : (d : DeskState) (specs : List AppSpec) → d.apps ≡ specs → AreUnusedOf specs d.handles.apps d.firsts → d.owners ≡ []
    → d.handles.levels.sets ≡ [] → d.handles.levels.first ≡ 0 → d.handles.losses.reported ≡ [] → IsNew d specs
new d specs apps unused owners sets first reported = record {
  apps = apps;
  rings = mapped (λ e. e.ring.taken) (λ _. []) (λ s e f a. ap (λ (t : ring.TakeState). t.taken) a.take) specs d.handles.apps d.firsts unused;
  empties = mapped (λ e. e.ring.empties) (λ _. 0) (λ s e f a. ap (λ (t : ring.TakeState). t.empties) a.take) specs d.handles.apps d.firsts unused;
  capacities = mapped (λ e. e.ring.capacity) (λ s. s.capacity) (λ s e f a. ap (λ (t : ring.TakeState). t.capacity) a.take) specs d.handles.apps d.firsts unused;
  injected = mapped (λ e. e.queue.pushed) (λ _. []) (λ s e f a. ap (λ (t : injections.PushState). t.pushed) a.queue) specs d.handles.apps d.firsts unused;
  refused = mapped (λ e. e.queue.refusals) (λ _. 0) (λ s e f a. ap (λ (t : injections.PushState). t.refusals) a.queue) specs d.handles.apps d.firsts unused;
  sets = sets;
  first = first;
  reported = reported;
  owners = owners;
}

-- ---- the loop

pub few_taken : {A : Type 0} (xs : List A) (i : ℕ) → i < length xs → length (take i xs) < length xs
few_taken [] i below = absurd (omega (arith, below))
few_taken (x ∷ xs) zero below = omega arith
few_taken (x ∷ xs) (suc i) below = let rest = few_taken xs i (omega (arith, below)) in omega (arith, rest)

-- those that were just made
pub unused_ends : (spec : AppSpec) (e : AppHandles) (f : FirstHandles)
    → f.push ≡ ring.unused_push f.push.ring spec.capacity 0 true → e.ring ≡ ring.unused_take f.push.ring spec.capacity
    → e.queue ≡ injections.unused_push e.queue.queue → f.injections ≡ injections.unused_take e.queue.queue true → AreUnused spec e f
unused_ends spec e f push take queue takes =
    let same : f.push.ring ≡ e.ring.ring = sym (ap (λ (t : ring.TakeState). t.ring) take) in
    record {
      push = push ∙ ap (λ (r : TableId). ring.unused_push r spec.capacity 0 true) same;
      take = take ∙ ap (λ (r : TableId). ring.unused_take r spec.capacity) same;
      queue = queue;
      takes = takes;
    }
