use Rattle.std.proofs.Common.{◌≡◌, ◌++◌, take}
use Rattle.std.specs.List.{flat_map}
use Rattle.dl_conf.specs.Stored.{default_line, own_line}
use Rattle.dl_conf.proofs.stored.write_stored.Given as goal

-- the own levels so far were added
abbrev pub invariant-loop-own : goal.invariant-loop-own
invariant-loop-own l = l.text.items ≡ default_line l.fn.level ++ flat_map own_line (take l.own-index l.own-items)
