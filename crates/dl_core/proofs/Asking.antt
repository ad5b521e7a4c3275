-- A client's request, in its turn.
use Rattle.std.proofs.Common.{◌≡◌, ℕ, ◌<◌, Bool, true, false, List, Option, Some, None, refl, sym, ap, subst, ◌∙◌}
use Rattle.std.specs.Prelude.{count_by, if◌then◌else◌, IsSomeAnd}
use Rattle.dl_bytes.specs.Limits.{request_limit}
use Rattle.dl_bytes.specs.declared.outcome.Done.{Done}
use Rattle.dl_bytes.specs.declared.outcome.Done.TheVariants as did
use Rattle.dl_events.specs.declared.event.Event.{Event}
use Rattle.dl_events.specs.declared.event.Event.TheVariants.{Request}
use Rattle.dl_model.specs.Journal.{is_request_of}
use Rattle.dl_model.specs.Reply.{MayAnswer, Need}
use Rattle.dl_outside.specs.Told.{FolderTold}
use Rattle.dl_services.specs.Wish.{needed}
use Rattle.dl_services.specs.declared.wish.Want.{Want}
use Rattle.dl_services.specs.declared.wish.Want.TheVariants as want
use Rattle.dl_hub.specs.State.{Client, client_of}
use Rattle.dl_core.specs.State.{Core}
use Rattle.dl_core.specs.Serving.{Answers}
use Rattle.dl_core.proofs.Answered.{replies_are}
use Rattle.dl_core.specs.Next.{ComesInTurn, IsAnswered}
use Rattle.dl_core.proofs.InTurn.{settled}
use Rattle.dl_core.proofs.OpenClients.{open_by_journal}
use Rattle.dl_core.proofs.Replies.{need_is}

queue_answers : (pushed : Bool) (answer : Done) → answer ≡ (if pushed then did.Yes else did.Failed) → answer ≡ did.NoMemory → ⊥
queue_answers true answer is none = absurd (let bad : did.Yes ≡ did.NoMemory = sym is ∙ none in cc)
queue_answers false answer is none = absurd (let bad : did.Failed ≡ did.NoMemory = sym is ∙ none in cc)

-- what the folder or a queue answers is an answer to what is needed
may_answer : (wants : Want) (pushed : Bool) (answer : Done) (folder folder_now : FolderTold) → Answers wants pushed answer folder folder_now → MayAnswer (needed wants) answer
may_answer want.Nothing pushed answer folder folder_now acts = acts.0
may_answer (want.Put text stored) pushed answer folder folder_now acts = tt
may_answer want.Remove pushed answer folder folder_now acts = tt
may_answer (want.Inject app injection) pushed answer folder folder_now acts = queue_answers pushed answer acts.0

few_by : (client : ℕ) (events : List Event) (o : Option Client) → ((c : Client) → o ≡ Some c → c.replies ≡ count_by (is_request_of client) events)
    → IsSomeAnd o (λ c. c.replies < request_limit) → count_by (is_request_of client) events < request_limit
few_by client events None replies few = absurd few
few_by client events (Some c) replies few = subst (λ (n : ℕ). n < request_limit) (replies c refl) few

pub request_in_turn : (core : Core) (client : ℕ) (frame : List ℕ) (answer : Done) (later : List Event) → IsAnswered core client frame answer → ComesInTurn (Request client frame answer) later core
request_in_turn core client frame answer later answered = λ run past taken is. record {
  settled = settled core answered.settled run past taken is;
  is_open = open_by_journal run past taken core is client answered.few.0;
  limit = few_by client past (client_of core.hub client) (λ c there. replies_are run past taken core client c is there) answered.few.1;
  answered = subst (λ (need : Need). MayAnswer need answer)
      (ap needed answered.wanted ∙ sym (need_is run past taken core frame is))
      (may_answer answered.want answered.pushed answer answered.folder answered.folder_now answered.acts);
}
