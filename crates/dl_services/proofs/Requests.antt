-- Laws of requests, case by case.
use Rattle.std.proofs.Common.{◌≡◌, ◌≢◌, ℕ, List, Option, Some, None, Result, Ok, Err, refl, sym, ap, ◌∙◌, arith}
use Rattle.std.specs.Prelude.{unwrap_or, is_some, if◌then◌else◌}
use Rattle.std.specs.Option.{option_map_or}
use Rattle.dl_bytes.specs.declared.outcome.Done.{Done}
use Rattle.dl_bytes.specs.declared.outcome.Done.TheVariants as done
use Rattle.dl_bytes.specs.Payload.{Arguments}
use Rattle.dl_control.specs.declared.request.Request.{Request}
use Rattle.dl_control.specs.declared.request.Request.TheVariants.{Store, Reset, Inject}
use Rattle.dl_control.specs.declared.request.RequestFault.{RequestFault}
use Rattle.dl_control.specs.declared.request.RequestFault.TheVariants.{Short, Excess}
use Rattle.dl_model.specs.declared.context.Context.{Context}
use Rattle.dl_model.specs.declared.registry.Slot.{Slot}
use Rattle.dl_model.specs.Registry.{App, Registry}
use Rattle.dl_model.specs.Reply.{Folder, Nothing, Queue, bare, done_status, inject_status, injected, need_of, now_stored, reply_to, reset_requested, reset_status, served, where_done}
use Rattle.dl_model.specs.Setting.{Setting}
use Rattle.dl_services.specs.Wish.{wanted, needed, removes, sends}
use Rattle.dl_services.specs.declared.wish.Want.TheVariants as want

-- what a Reset and an injection want is what they need
pub reset_needs : (o : Option Registry) → (if is_some o then Folder else Nothing) ≡ needed (removes o)
reset_needs None = refl
reset_needs (Some new) = refl

pub inject_needs : (service : ℕ) (body : Arguments) (o : Option (App × Context)) → option_map_or (λ (target : App × Context). Queue target.0.number) o Nothing ≡ needed (sends service body o)
inject_needs service body None = refl
inject_needs service body (Some target) = refl

pub wants-needs : (setting : Setting) (slots : ℕ → Slot) (registry : Registry) (apid ctid : List ℕ) (request : Result Request RequestFault)
    → need_of setting slots registry apid ctid request ≡ needed (wanted setting slots registry apid ctid request)
wants-needs setting slots registry apid ctid (Ok Store) = refl
wants-needs setting slots registry apid ctid (Ok Reset) = reset_needs (reset_requested setting slots registry)
wants-needs setting slots registry apid ctid (Ok (Inject service body)) = inject_needs service body (injected setting registry apid ctid)
wants-needs setting slots registry apid ctid _ = refl

-- the same registry, done or not
where_done-same : (answer : Done) (registry : Registry) → where_done answer registry registry ≡ registry
where_done-same done.Yes registry = refl
where_done-same _ registry = refl

-- not done: the registry as it was
where_not_done : (answer : Done) (new old : Registry) → answer ≢ done.Yes → where_done answer new old ≡ old
where_not_done done.Yes new old not = absurd (not refl)
where_not_done _ new old not = refl

not_done-status : (answer : Done) → answer ≢ done.Yes → done_status answer ≢ 0
not_done-status done.Yes not = absurd (not refl)
not_done-status done.Failed not = λ e. omega arith
not_done-status done.NoMemory not = λ e. omega arith

reset_same : (o : Option Registry) (registry : Registry) (one other : Done) → removes o ≡ want.Nothing
    → where_done one (unwrap_or o registry) registry ≡ where_done other (unwrap_or o registry) registry
reset_same None registry one other nothing = where_done-same one registry ∙ sym (where_done-same other registry)
reset_same (Some new) registry one other nothing = absurd (cc nothing)

reset_same_status : (o : Option Registry) (one other : Done) → removes o ≡ want.Nothing → reset_status o one ≡ reset_status o other
reset_same_status None one other nothing = refl
reset_same_status (Some new) one other nothing = absurd (cc nothing)

inject_same_status : (service : ℕ) (body : Arguments) (o : Option (App × Context)) (one other : Done) → sends service body o ≡ want.Nothing → inject_status o one ≡ inject_status o other
inject_same_status service body None one other nothing = refl
inject_same_status service body (Some target) one other nothing = absurd (cc nothing)

pub same_registry : (setting : Setting) (slots : ℕ → Slot) (registry : Registry) (apid ctid : List ℕ) (request : Result Request RequestFault) (one other : Done)
    → wanted setting slots registry apid ctid request ≡ want.Nothing → served setting slots registry request one ≡ served setting slots registry request other
same_registry setting slots registry apid ctid (Ok Store) one other nothing = absurd (cc nothing)
same_registry setting slots registry apid ctid (Ok Reset) one other nothing = reset_same (reset_requested setting slots registry) registry one other nothing
same_registry setting slots registry apid ctid _ one other nothing = refl

pub same_reply : (setting : Setting) (slots : ℕ → Slot) (registry : Registry) (apid ctid : List ℕ) (request : Result Request RequestFault) (one other : Done)
    → wanted setting slots registry apid ctid request ≡ want.Nothing → reply_to setting slots registry apid ctid request one ≡ reply_to setting slots registry apid ctid request other
same_reply setting slots registry apid ctid (Ok Store) one other nothing = absurd (cc nothing)
same_reply setting slots registry apid ctid (Ok Reset) one other nothing = ap (bare 0x06) (reset_same_status (reset_requested setting slots registry) one other nothing)
same_reply setting slots registry apid ctid (Ok (Inject service body)) one other nothing =
    ap (bare service) (inject_same_status service body (injected setting registry apid ctid) one other nothing)
same_reply setting slots registry apid ctid (Err (Short service)) one other nothing = refl
same_reply setting slots registry apid ctid (Err (Excess service)) one other nothing = refl
same_reply setting slots registry apid ctid _ one other nothing = refl

pub not_done-registry : (setting : Setting) (slots : ℕ → Slot) (registry : Registry) (apid ctid : List ℕ) (request : Result Request RequestFault) (answer : Done)
    → wanted setting slots registry apid ctid request ≢ want.Nothing → answer ≢ done.Yes → served setting slots registry request answer ≡ registry
not_done-registry setting slots registry apid ctid (Ok Store) answer some not = where_not_done answer (now_stored registry) registry not
not_done-registry setting slots registry apid ctid (Ok Reset) answer some not = where_not_done answer (unwrap_or (reset_requested setting slots registry) registry) registry not
not_done-registry setting slots registry apid ctid (Ok (Inject service body)) answer some not = refl
not_done-registry setting slots registry apid ctid _ answer some not = absurd (some refl)

reset_not_done : (o : Option Registry) (answer : Done) → answer ≢ done.Yes → reset_status o answer ≢ 0
reset_not_done None answer not = λ e. omega arith
reset_not_done (Some new) answer not = not_done-status answer not

inject_not_done : (o : Option (App × Context)) (answer : Done) → answer ≢ done.Yes → inject_status o answer ≢ 0
inject_not_done None answer not = λ e. omega arith
inject_not_done (Some target) done.Yes not = absurd (not refl)
inject_not_done (Some target) _ not = λ e. omega arith

pub not_done-reply : (setting : Setting) (slots : ℕ → Slot) (registry : Registry) (apid ctid : List ℕ) (request : Result Request RequestFault) (answer : Done)
    → wanted setting slots registry apid ctid request ≢ want.Nothing → answer ≢ done.Yes → (reply_to setting slots registry apid ctid request answer).status ≢ 0
not_done-reply setting slots registry apid ctid (Ok Store) answer some not = not_done-status answer not
not_done-reply setting slots registry apid ctid (Ok Reset) answer some not = reset_not_done (reset_requested setting slots registry) answer not
not_done-reply setting slots registry apid ctid (Ok (Inject service body)) answer some not = inject_not_done (injected setting registry apid ctid) answer not
not_done-reply setting slots registry apid ctid _ answer some not = absurd (some refl)
