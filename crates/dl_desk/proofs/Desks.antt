-- What a desk keeps when its ends change.
use Rattle.std.proofs.Common.{◌≡◌, ℕ, ◌+◌, [], ◌∷◌, ◌++◌, Option, Some, None, refl, sym, ◌∙◌, subst, append-nil}
use Rattle.std.specs.Prelude.{Result, Ok, Err, IfSome, IfNone, OnOk, OnErr}
use Rattle.dl_bytes.specs.declared.conf.AppSpec.{AppSpec}
use Rattle.dl_bytes.specs.declared.item.Injection.{Injection}
use Rattle.dl_ring.specs.declared.item.RingItem.{RingItem}
use Rattle.dl_desk.specs.declared.app_handles.AppHandles.{AppHandles}
use Rattle.dl_desk.specs.declared.app_handles.FirstHandles.{FirstHandles}
use Rattle.dl_desk.specs.DeskInside.{AreFirst, IsDesk}
use Rattle.dl_desk.specs.Handles.{HandlesState, with_item, with_empty_take, with_injected, with_refusal}
use Rattle.dl_desk.specs.Lists.{changed_at}
use Rattle.dl_desk.specs.Made.{IsLater}
use Rattle.dl_desk.specs.State.{DeskState}
use Rattle.dl_desk.proofs.Places.{length-changed_at, map-changed_at, changed_keeps}

module _ (d : DeskState) (i : IsDesk d) (app : ℕ) where
  abbrev pub with_handles : HandlesState → DeskState
  with_handles handles = record d { handles = handles }

  abbrev pub changed : (AppHandles → AppHandles) → HandlesState
  changed f = record d.handles { apps = changed_at app f d.handles.apps }

  -- the desk is what it has to be, and is later
  abbrev pub Goes : HandlesState → Type 0
  Goes handles = IsDesk (with_handles handles) × IsLater d (with_handles handles)

  goes : (f : AppHandles → AppHandles)
      → ((n : ℕ) (s : AppSpec) (e : AppHandles) (g : FirstHandles) → AreFirst n d.owners s e g → AreFirst n d.owners s (f e) g)
      → ((e : AppHandles) → (f e).ring.ring ≡ e.ring.ring) → ((e : AppHandles) → (f e).queue.queue ≡ e.queue.queue)
      → Goes (changed f)
  goes f keeps ring queue = (
    record {
      few = i.few;
      handles = length-changed_at app f d.handles.apps ∙ i.handles;
      firsts = i.firsts;
      each = λ n s e g is_s is_e is_g. changed_keeps (λ (e : AppHandles). AreFirst n d.owners s e g) app n f d.handles.apps
          (λ e a. keeps n s e g a) (λ e is_e. i.each n s e g is_s is_e is_g) e is_e;
      owned = i.owned;
      writers = i.writers;
      readers = i.readers;
      readers_left = i.readers_left;
      counters = i.counters;
      counters_left = i.counters_left;
      counted = i.counted;
      shares = i.shares;
      claimed = i.claimed;
    },
    record {
      apps = refl;
      rings = map-changed_at (λ (e : AppHandles). e.ring.ring) app f d.handles.apps ring;
      queues = map-changed_at (λ (e : AppHandles). e.queue.queue) app f d.handles.apps queue;
      levels = refl;
      claims = refl;
      losses = refl;
      more = [];
      owners = sym (append-nil d.owners);
    },
  )

  same : (n : ℕ) (s : AppSpec) (old new : AppHandles) (g : FirstHandles) → AreFirst n d.owners s old g
      → new.ring.ring ≡ old.ring.ring → new.ring.joined ≡ old.ring.joined → new.ring.first ≡ old.ring.first
      → new.queue.queue ≡ old.queue.queue → new.queue.joined ≡ old.queue.joined → new.queue.first ≡ old.queue.first
      → AreFirst n d.owners s new g
  same n s old new g a ring joined first queue queue_joined queue_first = record {
    push = rw ring a.push;
    takes = rw queue a.takes;
    ring_joined = joined ∙ a.ring_joined;
    ring_first = first ∙ a.ring_first;
    queue_joined = queue_joined ∙ a.queue_joined;
    queue_first = queue_first ∙ a.queue_first;
  }

  pub took : (o : Option RingItem) (new : HandlesState) → IfSome o (λ item. new ≡ with_item d.handles app item) → IfNone o (new ≡ with_empty_take d.handles app) → Goes new
  took (Some item) new is none = subst Goes (sym is)
      (goes (λ e. record e { ring = record e.ring { taken = e.ring.taken ++ item ∷ [] } })
      (λ n s e g a. same n s e (record e { ring = record e.ring { taken = e.ring.taken ++ item ∷ [] } }) g a refl refl refl refl refl refl) (λ e. refl) (λ e. refl))
  took None new some is = subst Goes (sym is)
      (goes (λ e. record e { ring = record e.ring { empties = e.ring.empties + 1 } })
      (λ n s e g a. same n s e (record e { ring = record e.ring { empties = e.ring.empties + 1 } }) g a refl refl refl refl refl refl) (λ e. refl) (λ e. refl))

  pub injected : {A E : Type 0} (r : Result A E) (item : Injection) (new : HandlesState) → OnOk r (new ≡ with_injected d.handles app item) → OnErr r (new ≡ with_refusal d.handles app) → Goes new
  injected (Ok x) item new is refused = subst Goes (sym is)
      (goes (λ e. record e { queue = record e.queue { pushed = e.queue.pushed ++ item ∷ [] } })
      (λ n s e g a. same n s e (record e { queue = record e.queue { pushed = e.queue.pushed ++ item ∷ [] } }) g a refl refl refl refl refl refl) (λ e. refl) (λ e. refl))
  injected (Err x) item new pushed is = subst Goes (sym is)
      (goes (λ e. record e { queue = record e.queue { refusals = e.queue.refusals + 1 } })
      (λ n s e g a. same n s e (record e { queue = record e.queue { refusals = e.queue.refusals + 1 } }) g a refl refl refl refl refl refl) (λ e. refl) (λ e. refl))
