use Rattle.std.proofs.Common.{refl}
use Rattle.dl_core.proofs.LeftFiles.{leaves_alone, leaves_both}
use Rattle.dl_core.proofs.folder_laws.files_of_others_stay.Goals as goal

pub returns-clause-none : goal.returns-clause-none
returns-clause-none c = λ core told. leaves_alone core core told refl

pub returns-clause-both : goal.returns-clause-both
returns-clause-both c = leaves_both
