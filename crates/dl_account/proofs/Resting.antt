-- What a call that sets a level or injects leaves as it was.
use Rattle.std.proofs.Common.{◌≡◌, ℕ, zero, suc, List, [], ◌∷◌, length, map, Option, slice_get, refl, sym, ap, ◌∙◌, subst}
use Rattle.std.specs.Prelude.{Result, Ok, Err, OnOk, OnErr, unwrap_or}
use Rattle.std.specs.Option.{option_map}
use Rattle.dl_bytes.specs.declared.item.Injection.{Injection}
use Rattle.dl_ring.specs.declared.item.RingItem.{RingItem}
use Rattle.dl_desk.specs.declared.app_handles.AppHandles.{AppHandles}
use Rattle.dl_desk.specs.Handles.{HandlesState, with_injected, with_refusal}
use Rattle.dl_desk.specs.QueuedInjections.{rest_of, without_pushes}
use Rattle.dl_desk.proofs.Posts.{pushed_rest, refused_rest}
use Rattle.dl_account.specs.Known.{IsDrained, taken_of}
use Rattle.dl_account.specs.State.{ClosingState}

-- what was taken is no part of what these calls change
same_taken : (handles : List AppHandles) (app : ℕ) → option_map (λ (e : AppHandles). e.ring.taken) (slice_get (map without_pushes handles) app) ≡ option_map (λ (e : AppHandles). e.ring.taken) (slice_get handles app)
same_taken [] app = refl
same_taken (e ∷ handles) zero = refl
same_taken (e ∷ handles) (suc app) = same_taken handles app

pub taken_rest : (s : HandlesState) (app : ℕ) → taken_of (rest_of s) app ≡ taken_of s app
taken_rest s app = ap (λ (o : Option (List RingItem)). unwrap_or o []) (same_taken s.apps app)

abbrev resting : ClosingState → ClosingState
resting s = record s { handles = rest_of s.handles }

drained_rest : (s : ClosingState) → IsDrained s → IsDrained (resting s)
drained_rest s d = λ app within. (ap length (taken_rest s.handles app) ∙ (d app within).0, (d app within).1)

rest_drained : (s : ClosingState) → IsDrained (resting s) → IsDrained s
rest_drained s d = λ app within. (sym (ap length (taken_rest s.handles app)) ∙ (d app within).0, (d app within).1)

-- what was drained stays drained
pub drained_stays : (old new : ClosingState) → resting new ≡ resting old → IsDrained old → IsDrained new
drained_stays old new same d = rest_drained new (subst IsDrained (sym same) (drained_rest old d))

-- and an injection that is pushed or refused leaves all else
pub closing_rest : {T E : Type 0} (r : Result T E) (old new : ClosingState) (app : ℕ) (item : Injection)
    → OnOk r (new ≡ record old { handles = with_injected old.handles app item }) → OnErr r (new ≡ record old { handles = with_refusal old.handles app })
    → (record new { handles = rest_of new.handles }) ≡ (record old { handles = rest_of old.handles })
closing_rest (Ok x) old new app item is _ = ap (λ (d : ClosingState). record d { handles = rest_of d.handles }) is ∙ ap (λ (e : HandlesState). record old { handles = e }) (pushed_rest old.handles app item)
closing_rest (Err x) old new app item _ is = ap (λ (d : ClosingState). record d { handles = rest_of d.handles }) is ∙ ap (λ (e : HandlesState). record old { handles = e }) (refused_rest old.handles app)
