use Rattle.std.proofs.Common.{ℕ, subst, ◌∙◌, ◌<◌, ◌≤◌, inl, inr, sym, ap, arith}
use Rattle.dl_world_calls.proofs.Acts.{on_ok}
use Rattle.dl_world.specs.declared.world.World.{World}
use Rattle.dl_world.proofs.EventDeeds.{connect_refused, connect_accepted}
use Rattle.dl_world.proofs.world.World.connect.Goals.{then-len-eq-CLIENT_LIMIT-via-then-len-eq-CLIENT_LIMIT, then-len-eq-CLIENT_LIMIT-via-else-len-eq-CLIENT_LIMIT+then-open_clients-ge-OPEN_CLIENT_LIMIT}
use Rattle.dl_world.proofs.world.World.connect.Goals as goal

pub returns-then-len-eq-CLIENT_LIMIT-clause-does : goal.returns-then-len-eq-CLIENT_LIMIT-clause-does
returns-then-len-eq-CLIENT_LIMIT-clause-does c = connect_refused c.args.self.now (elim c.then-len-eq-CLIENT_LIMIT.branch [
  | then-len-eq-CLIENT_LIMIT-via-then-len-eq-CLIENT_LIMIT w ↦ inl (sym c.len.ensures.value ∙ w.if-len-eq-CLIENT_LIMIT.true)
  | then-len-eq-CLIENT_LIMIT-via-else-len-eq-CLIENT_LIMIT+then-open_clients-ge-OPEN_CLIENT_LIMIT w ↦ inr (subst (λ (n : ℕ). 8 ≤ n) w.open_clients.ensures w.if-open_clients-ge-OPEN_CLIENT_LIMIT.true)
])

pub returns-clause-does : goal.returns-clause-does
returns-clause-does c =
    on_ok c.note_levels_now.result _ _
    (λ behind. connect_accepted c.args.self.now c.note_levels.new.self c.note_connect.new.self c.note_levels_now.new.self
    (omega (arith, c.len.ensures.value, c.len.ensures.range, c.if-len-eq-CLIENT_LIMIT.false)) (subst (λ (n : ℕ). n < 8) c.open_clients.ensures c.if-open_clients-ge-OPEN_CLIENT_LIMIT.false) c.in_ok-note_levels.ensures.does
    (ap (λ (w : World). w.clients) c.note_levels.ensures.rest) (ap (λ (w : World). w.core.hub) c.note_levels.ensures.rest) c.in_ok-note_connect.ensures.does behind
    (ap (λ (w : World). w.core.trace) c.note_levels_now.ensures.rest ∙ c.note_connect.ensures.trace ∙ ap (λ (w : World). w.core.trace) c.note_levels.ensures.rest))
    c.note_levels_now.ensures.does
