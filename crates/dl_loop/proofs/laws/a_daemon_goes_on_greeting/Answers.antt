use Rattle.std.proofs.Common.{◌≡◌, List, false, true, length, subst, sym, ◌∙◌}
use Rattle.dl_bytes.specs.declared.conf.AppSpec.{AppSpec}
use Rattle.dl_taking.specs.Takes.{AreThere}
use Rattle.dl_loop.specs.Scene.{scene, side_of}
use Rattle.dl_loop.proofs.DeskRest.{same_apps}
use Rattle.dl_loop.proofs.GreetedDaemons.{greet_is}
use Rattle.dl_loop.proofs.ListedApps.{listed_there}
use Rattle.dl_loop.proofs.laws.a_daemon_goes_on_greeting.Goals as goal

pub returns-clause-all : goal.returns-clause-all
returns-clause-all g c = λ moment apps folder folder_now old new is nobody unregistered are listed greets may spare.
    greet_is g.L.Link.told moment _ (scene old folder) (scene new folder_now) is nobody are greets may spare
    (λ so. subst (λ (specs : List AppSpec). AreThere (length specs) new.core.registry) (sym (same_apps old.desk new.desk greets.desk))
    (listed_there moment apps old.desk.apps (side_of (scene old folder)) (side_of (scene new folder_now)) are listed unregistered is.apps greets.greets))

pub returns-clause-some : goal.returns-clause-some
returns-clause-some g c = λ moment msgs folder folder_now old new is nobody are greets may spare not_so.
    greet_is g.L.Link.told moment msgs (scene old folder) (scene new folder_now) is nobody are greets may spare (λ so. absurd (let bad : false ≡ true = sym not_so ∙ so in cc bad))
