-- What was taken stays where levels are set and injections are put: what `CallSource` asks of the desk, and of what stands for it.
use Rattle.std.specs.Prelude.{◌≡◌, ℕ, zero, suc, List, [], ◌∷◌, map, slice_get, unwrap_or, refl}
use Rattle.std.specs.Option.{option_map}
use Rattle.dl_desk.specs.declared.app_handles.AppHandles.{AppHandles}
use Rattle.dl_desk.specs.Handles.{HandlesState}
use Rattle.dl_desk.specs.QueuedInjections.{rest_of, without_pushes}
use Rattle.dl_taking.specs.Took.{empties_of, took_by}

taken_still : (apps : List AppHandles) (app : ℕ)
    → unwrap_or (option_map (λ (e : AppHandles). e.ring.taken) (slice_get (map without_pushes apps) app)) []
    ≡ unwrap_or (option_map (λ (e : AppHandles). e.ring.taken) (slice_get apps app)) []
taken_still [] app = refl
taken_still (e ∷ apps) zero = refl
taken_still (e ∷ apps) (suc app) = taken_still apps app

pub took_still : (s : HandlesState) → took_by (rest_of s) ≡ took_by s
took_still s = λ i. record { taken = λ app. taken_still s.apps app i; reported = s.losses.reported }

still_empties : (apps : List AppHandles) (app : ℕ)
    → unwrap_or (option_map (λ (e : AppHandles). e.ring.empties) (slice_get (map without_pushes apps) app)) 0
    ≡ unwrap_or (option_map (λ (e : AppHandles). e.ring.empties) (slice_get apps app)) 0
still_empties [] app = refl
still_empties (e ∷ apps) zero = refl
still_empties (e ∷ apps) (suc app) = still_empties apps app

pub empties_still : (s : HandlesState) → empties_of (rest_of s) ≡ empties_of s
empties_still s = λ i app. still_empties s.apps app i
