use Rattle.dl_loop.specs.Scene.{scene}
use Rattle.dl_loop.proofs.TakenSteps.{losses_is, some_is}
use Rattle.dl_loop.proofs.laws.a_daemon_goes_on_taking.Goals as goal

pub returns-clause-calls : goal.returns-clause-calls
returns-clause-calls g c = λ app most got folder folder_now old new is greeted within calls claims takes.
    some_is g.L.Link.told app (scene old folder) (scene new folder_now) is greeted within most got calls claims takes

pub returns-clause-losses : goal.returns-clause-losses
returns-clause-losses g c = λ app count folder folder_now old new is greeted within free losses.
    losses_is g.L.Link.told app (scene old folder) (scene new folder_now) is greeted within count free losses
