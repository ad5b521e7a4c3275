-- The fields of the contexts that a writer claimed, and what is true of them.
use Rattle.std.specs.Prelude.{◌≡◌, List, map, Some}
use Rattle.std.specs.List.{filter_map}
use Rattle.dl_bytes.specs.Context.{Context}
use Rattle.dl_crew.specs.declared.own.Own.TheInside as own

-- those that are there
abbrev pub own_contexts : own.Inside → List Context
own_contexts o = filter_map (λ ctx. ctx) o.contexts.items

-- each entry is a context
abbrev pub AreAll : own.Inside → Type 0
AreAll o = o.contexts.items ≡ map (λ ctx. Some ctx) (own_contexts o)
