-- A table in which nothing was counted yet.
use Rattle.std.proofs.Common.{◌≡◌, ℕ, List, [], ◌∷◌, map, Some, zero, suc, sym, arith}
use Rattle.std.specs.List.{slice_get}
use Rattle.std.proofs.lemmas.Option.{none-some, same_Some}
use Rattle.dl_bytes.specs.declared.conf.AppSpec.{AppSpec}
use Rattle.dl_report.specs.declared.count.AppCounts.{AppCounts}
use Rattle.dl_report.specs.Counts.{Each, IsCount, AreAtMost, no_counts}

nothing_counted : (specs : List AppSpec) (number : ℕ) (entry : AppCounts) → slice_get (map (λ _. no_counts) specs) number ≡ Some entry → entry ≡ no_counts
nothing_counted [] number entry is = absurd (none-some entry is)
nothing_counted (spec ∷ specs) zero entry is = sym (same_Some _ _ is)
nothing_counted (spec ∷ specs) (suc number) entry is = nothing_counted specs number entry is

pub none_bounds : (specs : List AppSpec) → Each (AreAtMost 0 0) (map (λ _. no_counts) specs)
none_bounds specs number entry is = rw (nothing_counted specs number entry is) (record { queued = omega arith; filtered = omega arith; lost = omega arith; reported = omega arith })

pub none_counts : (specs : List AppSpec) → Each (IsCount [] []) (map (λ _. no_counts) specs)
none_counts specs number entry is = nothing_counted specs number entry is
