use Rattle.std.proofs.Common.{◌≡◌, Ok, arith}
use Rattle.std.proofs.lemmas.Grind.{common_steps}
use Rattle.dl_control.specs.declared.request.Request.TheVariants.{Store, Reset, Inject}
use Rattle.dl_services.proofs.Serving.{wants_store, wants_reset, replies_inject}
use Rattle.dl_services.proofs.service.serve.Goals as goal

pub store-requires : goal.store-requires
store-requires c =
    let asks : c.args.request.now ≡ Ok Store = grind (arith, common_steps) in
    wants_store c.args.injection c.args.level c.args.registry.now c.args.target c.args.request.now c.args.wish asks c.requires

pub reset-requires : goal.reset-requires
reset-requires c =
    let asks : c.args.request.now ≡ Ok Reset = grind (arith, common_steps) in
    wants_reset c.args.injection c.args.level c.args.registry.now c.args.target c.args.request.now c.args.wish asks c.requires

pub returns-in-Ok-Inject-clause-reply : goal.returns-in-Ok-Inject-clause-reply
returns-in-Ok-Inject-clause-reply c =
    let asks : c.args.request.now ≡ Ok (Inject c.in-Ok-Inject.service c.in-Ok-Inject.field-0-1) = grind (arith, common_steps) in
    replies_inject c.args.software c.args.injection c.args.level c.args.registry.now c.args.target c.args.request.now c.args.done c.inject.result c.args.wish
    c.in-Ok-Inject.service c.in-Ok-Inject.field-0-1 asks c.requires c.inject.ensures
