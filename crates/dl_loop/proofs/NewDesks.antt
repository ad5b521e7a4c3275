-- A desk that was just made is untouched.
use Rattle.std.proofs.Common.{◌≡◌, ℕ, zero, suc, ◌≤◌, List, [], ◌∷◌, Option, length, map, slice_get, refl, sym, ap, subst, ◌∙◌}
use Rattle.std.specs.Prelude.{unwrap_or}
use Rattle.std.specs.Option.{option_map}
use Rattle.dl_bytes.specs.declared.conf.AppSpec.{AppSpec}
use Rattle.dl_desk.specs.declared.app_handles.AppHandles.{AppHandles}
use Rattle.dl_desk.specs.Made.{IsNew}
use Rattle.dl_desk.specs.State.{DeskState}
use Rattle.dl_loop.specs.Made.{IsUntouched}

get_map : {A B : Type 0} (f : A → B) (xs : List A) (place : ℕ) → option_map f (slice_get xs place) ≡ slice_get (map f xs) place
get_map f [] place = refl
get_map f (x ∷ xs) zero = refl
get_map f (x ∷ xs) (suc place) = get_map f xs place

alike_there : {A B : Type 0} (x : B) (ys : List A) (place : ℕ) → unwrap_or (slice_get (map (λ (y : A). x) ys) place) x ≡ x
alike_there x [] place = refl
alike_there x (y ∷ ys) zero = refl
alike_there x (y ∷ ys) (suc place) = alike_there x ys place

-- what is the same of each application, is so at each place
each_alike : {B : Type 0} (f : AppHandles → B) (x : B) (apps : List AppHandles) (specs : List AppSpec) → map f apps ≡ map (λ (s : AppSpec). x) specs
    → (app : ℕ) → unwrap_or (option_map f (slice_get apps app)) x ≡ x
each_alike {B} f x apps specs same app =
    ap (λ (o : Option B). unwrap_or o x) (get_map f apps app) ∙ ap (λ (bs : List B). unwrap_or (slice_get bs app) x) same ∙ alike_there x specs app

pub new_untouched : (desk : DeskState) (specs : List AppSpec) → length specs ≤ 16 → IsNew desk specs → IsUntouched desk
new_untouched desk specs few new = record {
  few = subst (λ (apps : List AppSpec). length apps ≤ 16) (sym new.apps) few;
  taken = each_alike (λ (e : AppHandles). e.ring.taken) [] desk.handles.apps specs new.rings;
  reported = new.reported;
  sets = new.sets;
  first = new.first;
  pushed = each_alike (λ (e : AppHandles). e.queue.pushed) [] desk.handles.apps specs new.injected;
  refusals = each_alike (λ (e : AppHandles). e.queue.refusals) 0 desk.handles.apps specs new.refused;
}

-- that writers were made changes nothing of it
pub new_but_untouched : (desk : DeskState) (specs : List AppSpec) → length specs ≤ 16 → IsNew (record desk { owners = [] }) specs → IsUntouched desk
new_but_untouched desk specs few new =
    let untouched = new_untouched (record desk { owners = [] }) specs few new in record {
      few = untouched.few;
      taken = untouched.taken;
      reported = untouched.reported;
      sets = untouched.sets;
      first = untouched.first;
      pushed = untouched.pushed;
      refusals = untouched.refusals;
    }
