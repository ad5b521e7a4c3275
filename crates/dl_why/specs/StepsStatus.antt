-- How the explanation of a script ends: its exit status.
use Rattle.std.specs.Prelude.{ℕ}
use Rattle.dl_startup.specs.Status as startup
use Rattle.dl_why.specs.declared.steps_status.StepsStatus.{StepsStatus}
use Rattle.dl_why.specs.declared.steps_status.StepsStatus.TheVariants.{Plain, PictureFault}

abbrev pub number : StepsStatus → ℕ
number (Plain status) = startup.number status
number PictureFault = 7
