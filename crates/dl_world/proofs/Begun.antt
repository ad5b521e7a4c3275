-- A world before the first line of a script.
use Rattle.std.proofs.Common.{◌≡◌, ℕ, ◌-◌, ◌<◌, Bool, true, false, cond, eqb, List, [], length, Option, None, refl, sym, ap, subst, ◌∙◌, inl, arith}
use Rattle.std.specs.Prelude.{slice_get, IfSome}
use Rattle.std.specs.List.{concat}
use Rattle.std.specs.Option.{option_map_or}
use Rattle.std.proofs.Math.Bridge.{le_prop}
use Rattle.dl_bytes.specs.Limits.{client_limit}
use Rattle.dl_bytes.specs.declared.moment.Moment.{Moment}
use Rattle.dl_user.proofs.Cuts.{nothing_read}
use Rattle.dl_script_model.specs.Marks.{moment_at}
use Rattle.dl_user.proofs.FrontLemmas.{open_is}
use Rattle.dl_world_calls.specs.Follows as calls
use Rattle.dl_world_calls.specs.Injections.{AreAfter}
use Rattle.dl_core.specs.Follows as core
use Rattle.dl_core.specs.Follows.{Run}
use Rattle.dl_world.specs.State.{Client, Channel, client_at, channel_at, taken_by}
use Rattle.dl_world.specs.Fed.{IsFedBy, IsHeardBy}
use Rattle.dl_world.specs.Follows.{IsAfter, stream_in}
use Rattle.dl_world.specs.declared.world.World.{World}

abbrev no_client : List Client
no_client = []

nobody : (number : ℕ) → client_at [] number ≡ None
nobody number = by_test (eqb number 0) where
  by_test : (b : Bool) → cond b None (slice_get no_client (number - 1)) ≡ None
  by_test true = refl
  by_test false = refl

nothing_taken : (λ (number : ℕ). []) ≡ taken_by []
nothing_taken i number = sym (ap (λ (o : Option Client). option_map_or (λ (client : Client). concat client.frames) o []) (nobody number)) i

-- nothing came on a channel
unheard : (channel : ℕ) → IsHeardBy [] (channel_at [] channel)
unheard channel = record {
  bytes = λ place. omega arith;
  stands = inl (record {
    rest = refl;
    good = open_is [] nothing_read;
    room = refl;
    some = omega arith;
  });
}

pub world_begins : (run : Run) (w : World) → length run.setting.ecu ≡ 4 → run.setting.clients ≡ client_limit → core.IsAfter run [] (λ (number : ℕ). []) w.core → w.core.hub.clients ≡ [] → calls.IsAfter [] w.calls → AreAfter [] w.injections
    → w.journal.events ≡ [] → w.clients ≡ [] → w.channels ≡ [] → w.moment ≡ moment_at 0 0 → w.later ≡ false → IsAfter run [] w
world_begins run w ecu_so limit_so core_so none_came calls_so injections_so events_so no_clients no_channels moment_so later_so = record {
  so_far = record {
    ecu_so = ecu_so;
    limit_so = limit_so;
    calls_so = calls_so;
    few_so = omega arith;
    injections_so = injections_so;
    events_so = events_so;
    core_so = subst (λ (taken : ℕ → List ℕ). core.IsAfter run [] taken w.core) (nothing_taken ∙ ap taken_by (sym no_clients)) core_so;
    lengths_so = tt;
    came_so = ap length no_clients ∙ ap length (sym none_came);
    gone_so = rw none_came refl;
    fed_so = λ number. subst (λ (clients : List Client). IfSome (client_at clients number) (λ (client : Client). IsFedBy [] client.cutter)) (sym no_clients)
        (subst (λ (o : Option Client). IfSome o (λ (client : Client). IsFedBy [] client.cutter)) (sym (nobody number)) tt);
    unfed_so = λ number none. refl;
    heard_so = λ channel. subst (λ (channels : List Channel). IsHeardBy [] (channel_at channels channel)) (sym no_channels) (unheard channel);
    moment_so = moment_so;
    later_so = later_so;
  };
  taken = λ number. subst (λ (clients : List Client). IfSome (client_at clients number) (λ (client : Client). client.frames ≡ stream_in run [] number)) (sym no_clients)
      (subst (λ (o : Option Client). IfSome o (λ (client : Client). client.frames ≡ stream_in run [] number)) (sym (nobody number)) tt);
}

-- a moment is what its numbers say
pub same_moment : (secs micros ticks : ℕ) (p q : micros < 1000000)
    → ◌≡◌ {A = Moment} (record { secs = secs; micros = micros; ticks = ticks; within_second = p }) (record { secs = secs; micros = micros; ticks = ticks; within_second = q })
same_moment secs micros ticks p q i = record { secs = secs; micros = micros; ticks = ticks; within_second = le_prop p q i }
