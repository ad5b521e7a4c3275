-- What a call of an object does of which chosen calls fail.
use Rattle.std.specs.Prelude.{◌≡◌, ℕ, Contains}
use Rattle.dl_outside.specs.Outside.{one_more}
use Rattle.dl_outside.specs.Told.{LinkTold}
use Rattle.dl_memory.specs.declared.failing.Failing.{Failing}

-- One call more was counted, and the chosen numbers stay. A chosen call failed, and left the object within as it was.
abbrev pub Counts : {T : Type 0} → Failing T → Failing T → Type 0 → Type 0
Counts old new failed =
    (new.calls ≡ one_more old.calls) × (new.chosen ≡ old.chosen)
    × (Contains old.chosen.items new.calls → failed × (new.inner ≡ old.inner))

-- what a link tells, with another count of faults
abbrev pub with_faults : LinkTold → ℕ → LinkTold
with_faults told faults = record told { faults = faults }
