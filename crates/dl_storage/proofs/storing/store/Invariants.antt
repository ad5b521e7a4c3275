use Rattle.std.proofs.Common.{◌≡◌, ◌≤◌, length, take}
use Rattle.std.specs.Prelude.{vec_capacity}
use Rattle.dl_storage.specs.Storing.{AreStored, ChangesFiltersFiles}
use Rattle.dl_storage.proofs.storing.store.Given as goal

-- the filters so far stored what passes them, and there is room for the ends of all
abbrev pub invariant-loop-filter : goal.invariant-loop-filter
invariant-loop-filter g l = record {
  stored : AreStored l.ecu l.records l.events (g.F.Folder.told l.fn.folder).files (g.F.Folder.told l.folder).files (g.F.Folder.told l.fn.folder).faults (g.F.Folder.told l.folder).faults
      (take l.filter-index l.filter-items) l.ends.items;
  others : ChangesFiltersFiles (take l.filter-index l.filter-items) (g.F.Folder.told l.fn.folder).files (g.F.Folder.told l.folder).files;
  count : length l.ends.items ≡ l.filter-index;
  room : length l.filter-items ≤ vec_capacity l.ends;
}
