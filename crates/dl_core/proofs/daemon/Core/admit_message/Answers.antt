use Rattle.std.proofs.Common.{◌≡◌, false, refl, rules}
use Rattle.dl_core.specs.Admission.{has_frames}
use Rattle.dl_core.proofs.Messaged.{takes_nothing}
use Rattle.dl_core.proofs.daemon.Core.admit_message.Goals as goal

pub returns-clause-admits : goal.returns-clause-admits
returns-clause-admits g c =
    let none : has_frames c.args.msg.now ≡ false = search rules in
    takes_nothing c.args.moment c.args.msg.now c.args.self.now c.args.self.now (g.F.Folder.told c.args.folder.now) none refl refl

pub returns-2-clause-admits : goal.returns-2-clause-admits
returns-2-clause-admits g c =
    let none : has_frames c.args.msg.now ≡ false = search rules in
    takes_nothing c.args.moment c.args.msg.now c.args.self.now c.args.self.now (g.F.Folder.told c.args.folder.now) none refl refl

pub returns-3-clause-admits : goal.returns-3-clause-admits
returns-3-clause-admits g c =
    let none : has_frames c.args.msg.now ≡ false = search rules in
    takes_nothing c.args.moment c.args.msg.now c.args.self.now c.args.self.now (g.F.Folder.told c.args.folder.now) none refl refl

pub returns-4-clause-admits : goal.returns-4-clause-admits
returns-4-clause-admits g c =
    let none : has_frames c.args.msg.now ≡ false = search rules in
    takes_nothing c.args.moment c.args.msg.now c.args.self.now c.args.self.now (g.F.Folder.told c.args.folder.now) none refl refl

pub returns-5-clause-admits : goal.returns-5-clause-admits
returns-5-clause-admits g c =
    let none : has_frames c.args.msg.now ≡ false = search rules in
    takes_nothing c.args.moment c.args.msg.now c.args.self.now c.args.self.now (g.F.Folder.told c.args.folder.now) none refl refl

pub returns-6-clause-admits : goal.returns-6-clause-admits
returns-6-clause-admits g c =
    let none : has_frames c.args.msg.now ≡ false = search rules in
    takes_nothing c.args.moment c.args.msg.now c.args.self.now c.args.self.now (g.F.Folder.told c.args.folder.now) none refl refl
