use Rattle.std.proofs.Common.{◌≡◌, length, ap, ◌∙◌, arith}
use Rattle.dl_model.specs.Registry.{App, releveled_context}
use Rattle.dl_apps.specs.Change.{changed_entry, relevel_of, releveled_in}
use Rattle.dl_apps.proofs.Entries.{changed_first-more, changed_first-all, length-changed_first}
use Rattle.dl_apps.proofs.application.Application.relevel.Goals as goal

pub loop-place-preserved : goal.loop-place-preserved
loop-place-preserved c =
    let change = releveled_context (relevel_of c.args.levels.now) c.args.apid in
    record {
      channel = c.loop-place.invariant.channel;
      number = c.loop-place.invariant.number;
      pid = c.loop-place.invariant.pid;
      text = c.loop-place.invariant.text;
      contexts = c.relevel_at.ensures.levels ∙ (ap (λ es. changed_entry change es c.loop-place.place) c.loop-place.invariant.contexts ∙ changed_first-more change c.self.inside.contexts.entries c.loop-place.place);
      room = c.relevel_at.ensures.room ∙ c.loop-place.invariant.room;
    }

pub invariant_of-self : goal.invariant_of-self
invariant_of-self c =
    let is = c.loop-place.invariant in
    omega (arith, ap length is.contexts, length-changed_first (releveled_context (relevel_of c.args.levels.now) c.args.apid) c.self.inside.contexts.entries c.loop-place.place, is.room, c.self.invariant)

pub returns : goal.returns
returns c =
    let change = releveled_context (relevel_of c.args.levels.now) c.args.apid in
    let is = c.loop-place.invariant in
    let all = is.contexts ∙ changed_first-all change c.self.inside.contexts.entries c.loop-place.place (omega arith) in
    let same : (let a : App = record { channel = c.loop-place.self-inside.channel; number = c.loop-place.self-inside.number; pid = c.loop-place.self-inside.pid; text = c.loop-place.self-inside.text; contexts = c.loop-place.self-inside.contexts.entries } in a)
    ≡ record { channel = c.self.inside.channel; number = c.self.inside.number; pid = c.self.inside.pid; text = c.self.inside.text; contexts = _ } =
    λ i. record { channel = is.channel i; number = is.number i; pid = is.pid i; text = is.text i; contexts = all i } in
    same ∙ ap (releveled_in (relevel_of c.args.levels.now) c.args.apid) c.self.view_is
