-- What a desk keeps whatever levels are set and whatever is injected.
use Rattle.std.proofs.Common.{◌≡◌, ℕ, List, [], ◌∷◌, ◌++◌, map, append-nil, append_assoc, refl, sym, ap, ◌∙◌}
use Rattle.dl_desk.specs.Made.{IsLater}
use Rattle.dl_desk.specs.QueuedInjections.{without_pushes}
use Rattle.dl_desk.specs.State.{DeskState}
use Rattle.dl_desk.specs.declared.app_handles.AppHandles.{AppHandles}
use Rattle.dl_loop.specs.State.{SameDesk}
use Rattle.dl_account.specs.Known.{taken_of}
use Rattle.dl_account.proofs.Resting.{taken_rest}

pub same_taken : (old new : DeskState) → SameDesk old new → (app : ℕ) → taken_of new.handles app ≡ taken_of old.handles app
same_taken old new same app = sym (taken_rest new.handles app) ∙ ap (λ (d : DeskState). taken_of d.handles app) same ∙ taken_rest old.handles app

pub same_reported : (old new : DeskState) → SameDesk old new → new.handles.losses.reported ≡ old.handles.losses.reported
same_reported old new same = ap (λ (d : DeskState). d.handles.losses.reported) same

pub same_apps : (old new : DeskState) → SameDesk old new → new.apps ≡ old.apps
same_apps old new same = ap (λ (d : DeskState). d.apps) same

-- a list without pushes is one of the same rings and queues
rings_without : (apps : List AppHandles) → map (λ (e : AppHandles). e.ring.ring) (map without_pushes apps) ≡ map (λ (e : AppHandles). e.ring.ring) apps
rings_without [] = refl
rings_without (e ∷ apps) = ap (λ ids. e.ring.ring ∷ ids) (rings_without apps)

queues_without : (apps : List AppHandles) → map (λ (e : AppHandles). e.queue.queue) (map without_pushes apps) ≡ map (λ (e : AppHandles). e.queue.queue) apps
queues_without [] = refl
queues_without (e ∷ apps) = ap (λ ids. e.queue.queue ∷ ids) (queues_without apps)

-- it is the desk of the same writers, and of the same rings, queues and words
pub same_later : (old new : DeskState) → SameDesk old new → IsLater old new
same_later old new same = record {
  apps = same_apps old new same;
  rings = sym (rings_without new.handles.apps) ∙ ap (λ (d : DeskState). map (λ (e : AppHandles). e.ring.ring) d.handles.apps) same ∙ rings_without old.handles.apps;
  queues = sym (queues_without new.handles.apps) ∙ ap (λ (d : DeskState). map (λ (e : AppHandles). e.queue.queue) d.handles.apps) same ∙ queues_without old.handles.apps;
  levels = ap (λ (d : DeskState). d.handles.levels.table) same;
  claims = ap (λ (d : DeskState). d.handles.levels.claims) same;
  losses = ap (λ (d : DeskState). d.handles.losses.table) same;
  more = [];
  owners = ap (λ (d : DeskState). d.owners) same ∙ sym (append-nil old.owners);
}

-- a desk later, and later again
pub later_both : (first second third : DeskState) → IsLater first second → IsLater second third → IsLater first third
later_both first second third one two = record {
  apps = two.apps ∙ one.apps;
  rings = two.rings ∙ one.rings;
  queues = two.queues ∙ one.queues;
  levels = two.levels ∙ one.levels;
  claims = two.claims ∙ one.claims;
  losses = two.losses ∙ one.losses;
  more = one.more ++ two.more;
  owners = two.owners ∙ ap (λ xs. xs ++ two.more) one.owners ∙ append_assoc first.owners one.more two.more;
}

pub later_none : (desk : DeskState) → IsLater desk desk
later_none desk = record { apps = refl; rings = refl; queues = refl; levels = refl; claims = refl; losses = refl; more = []; owners = sym (append-nil desk.owners) }
