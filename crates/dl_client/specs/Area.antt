-- What contracts see of an area.
use Rattle.std.specs.Prelude.{ℕ, List, take}
use Rattle.dl_client.specs.declared.area.bytes.Area.{Area}

-- the bytes that hold something
abbrev pub held : Area → List ℕ
held area = take area.used area.bytes.now
