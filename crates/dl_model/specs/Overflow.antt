-- Overflow records: how the daemon reports that messages were lost.
use Rattle.std.specs.Prelude.{ℕ, ◌/◌, ◌%◌, ◌==◌, List, [], ◌∷◌, ◌++◌, map, replicate, if◌then◌else◌}
use Rattle.dl_message.specs.Frames.{overflow_record}

-- the most that one record counts: its counter has four bytes
abbrev pub counter_limit : ℕ
counter_limit = 4294967295

-- the counters that add up to n: each as great as can be, but the last
abbrev pub counters : ℕ → List ℕ
counters n = replicate (n / counter_limit) counter_limit ++ (if n % counter_limit == 0 then [] else n % counter_limit ∷ [])

-- the records that say so; none where nothing was lost
abbrev pub overflow_frames : List ℕ → List ℕ → List ℕ → ℕ → List (List ℕ)
overflow_frames ecu apid ctid n = map (overflow_record ecu apid ctid) (counters n)
