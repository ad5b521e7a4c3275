-- The handles of the applications of a desk, before the desk is made.
use Rattle.std.specs.Prelude.{◌≡◌, true, List, [], ◌∷◌}
use Rattle.dl_bytes.specs.declared.conf.AppSpec.{AppSpec}
use Rattle.dl_ring.specs.State as ring
use Rattle.dl_ring.specs.InjectionState as injections
use Rattle.dl_desk.specs.declared.app_handles.AppHandles.{AppHandles}
use Rattle.dl_desk.specs.declared.app_handles.FirstHandles.{FirstHandles}
use Rattle.dl_desk.specs.declared.parts.Parts.{Parts}
use Rattle.dl_desk.specs.Apps.{declared_apps}

-- the two sides of an application's ring, of its capacity, and of its queue, none of which was used
pub record AreUnused (spec : AppSpec) (e : AppHandles) (f : FirstHandles) : Type 0 where
  pub push : f.push ≡ ring.unused_push e.ring.ring spec.capacity 0 true
  pub take : e.ring ≡ ring.unused_take e.ring.ring spec.capacity
  pub queue : e.queue ≡ injections.unused_push e.queue.queue
  pub takes : f.injections ≡ injections.unused_take e.queue.queue true

-- those of these applications, in order
abbrev pub AreUnusedOf : List AppSpec → List AppHandles → List FirstHandles → Type 0
AreUnusedOf [] [] [] = Unit {0}
AreUnusedOf (spec ∷ specs) (e ∷ es) (f ∷ fs) = AreUnused spec e f × AreUnusedOf specs es fs
AreUnusedOf _ _ _ = ⊥

-- the parts of a desk of these applications
pub record ArePartsOf (specs : List AppSpec) (p : Parts) : Type 0 where
  pub apps : p.apps.items ≡ specs
  pub handles : AreUnusedOf specs p.handles.items p.firsts.items
  pub list : p.list.items ≡ declared_apps 0 specs
