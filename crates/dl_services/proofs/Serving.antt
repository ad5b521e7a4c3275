-- From what a request makes to what holds under each configuration, and back.
use Rattle.std.proofs.Common.{◌≡◌, ℕ, Bool, List, [], Option, None, Result, Ok, refl, sym, subst}
use Rattle.std.specs.Result.{result_ok}
use Rattle.dl_bytes.specs.declared.outcome.Done.{Done}
use Rattle.dl_control.specs.declared.reply.Reply.{Reply}
use Rattle.dl_control.specs.declared.request.Request.{Request}
use Rattle.dl_control.specs.declared.request.Request.TheVariants.{Store, Reset, Inject}
use Rattle.dl_control.specs.declared.request.RequestFault.{RequestFault}
use Rattle.dl_bytes.specs.Payload.{Arguments}
use Rattle.dl_model.specs.declared.context.Context.{Context}
use Rattle.dl_model.specs.Registry.{App, reset}
use Rattle.dl_model.specs.Reply.{bare, inject_status, injected}
use Rattle.dl_model.specs.Setting.{Setting}
use Rattle.dl_model.specs.declared.software.Software.{Software}
use Rattle.dl_model.specs.declared.software.Software.TheVariants.{Run}
use Rattle.dl_registry.specs.Kept.{Kept, slots}
use Rattle.dl_services.specs.Service.{Replies}
use Rattle.dl_services.specs.Wish.{stores, removes, sends, Wants}
use Rattle.dl_services.specs.declared.wish.Want.{Want}

-- one configuration with this `InjectionMode` and this level
some_setting : Bool → ℕ → Setting
some_setting injection level = record {
  ecu = [];
  level = level;
  buffer = 0;
  directory = [];
  file_size = 0;
  max_size = 0;
  injection = injection;
  stored = record { level = None; own = [] };
  first = 0;
  clients = 0;
  software = Run;
}

pub wants_store : (injection : Bool) (level : ℕ) (kept : Kept) (target : List ℕ × List ℕ) (request : Result Request RequestFault) (want : Want)
    → request ≡ Ok Store → Wants injection level kept target request want → want ≡ stores kept.registry
unfolding some_setting
wants_store injection level kept target request want is wants =
    let asked : Wants injection level kept target (Ok Store) want = subst (λ r. Wants injection level kept target r want) is wants in
    asked (some_setting injection level) (record { mode_is = refl; level_is = refl })

pub wants_reset : (injection : Bool) (level : ℕ) (kept : Kept) (target : List ℕ × List ℕ) (request : Result Request RequestFault) (want : Want)
    → request ≡ Ok Reset → Wants injection level kept target request want → want ≡ removes (result_ok (reset (slots kept) kept.registry level))
unfolding some_setting
wants_reset injection level kept target request want is wants =
    let asked : Wants injection level kept target (Ok Reset) want = subst (λ r. Wants injection level kept target r want) is wants in
    asked (some_setting injection level) (record { mode_is = refl; level_is = refl })

-- the reply to an injection, by what it wanted
pub replies_inject : (software : Software) (injection : Bool) (level : ℕ) (kept : Kept) (target : List ℕ × List ℕ) (request : Result Request RequestFault) (answer : Done) (reply : Reply) (want : Want) (service : ℕ) (body : Arguments)
    → request ≡ Ok (Inject service body) → Wants injection level kept target request want
    → ((body : Arguments) (context : Option (App × Context)) → want ≡ sends service body context → reply ≡ bare service (inject_status context answer))
    → Replies software injection level kept target request answer reply
replies_inject software injection level kept target request answer reply want service body asks wants replied =
    let asked : Wants injection level kept target (Ok (Inject service body)) want = subst (λ r. Wants injection level kept target r want) asks wants in
    subst (λ r. Replies software injection level kept target r answer reply) (sym asks)
    (λ setting set named. replied body (injected setting kept.registry target.0 target.1) (asked setting set))
