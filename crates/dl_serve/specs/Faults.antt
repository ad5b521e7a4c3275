-- How often the outside has failed.
use Rattle.std.specs.Prelude.{◌||◌, Bool, nat_lt}
use Rattle.dl_outside.specs.Told.{FolderTold, NetTold}
use Rattle.dl_serve.specs.declared.faults.Faults.{Faults}

-- what folder and nets count
abbrev pub counted : {L : Type 0} → FolderTold → NetTold L → NetTold L → Faults
counted folder net users = record { folder = folder.faults; net = net.faults; users = users.faults }

-- a net has failed since
abbrev pub nets_failed : Faults → Faults → Bool
nets_failed before now = nat_lt before.net now.net || nat_lt before.users now.users

-- the folder has failed since
abbrev pub folder_failed : Faults → Faults → Bool
folder_failed before now = nat_lt before.folder now.folder
