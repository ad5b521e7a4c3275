-- What a call that sets a level or injects leaves as it was.
use Rattle.std.specs.Prelude.{ℕ, List, [], map, slice_get, unwrap_or}
use Rattle.std.specs.Option.{option_map}
use Rattle.dl_bytes.specs.declared.item.Injection.{Injection}
use Rattle.dl_desk.specs.declared.app_handles.AppHandles.{AppHandles}
use Rattle.dl_desk.specs.Handles.{HandlesState}

-- the injections that the queue of an application took, in order
abbrev pub pushed_of : HandlesState → ℕ → List Injection
pushed_of s app = unwrap_or (option_map (λ e. e.queue.pushed) (slice_get s.apps app)) []

-- how many it refused
abbrev pub refusals_of : HandlesState → ℕ → ℕ
refusals_of s app = unwrap_or (option_map (λ e. e.queue.refusals) (slice_get s.apps app)) 0

-- all but what the queue took and refused
abbrev pub without_pushes : AppHandles → AppHandles
without_pushes e = record e { queue = record e.queue { pushed = []; refusals = 0 } }

-- all but the levels that were set, and what the queues took and refused
abbrev pub rest_of : HandlesState → HandlesState
rest_of s = record s { apps = map without_pushes s.apps; levels = record s.levels { sets = [] } }
