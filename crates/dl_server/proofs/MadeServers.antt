-- What is true of a server is true of one that was just made.
use Rattle.std.proofs.Common.{◌≡◌, ◌≤◌, ℕ, true, List, length, map, replicate, Option, Some, None, refl, sym, ap, subst, ◌∙◌, arith, if◌then◌else◌}
use Rattle.std.specs.Prelude.{slice_get}
use Rattle.std.proofs.lemmas.List.{length-replicate}
use Rattle.dl_bytes.specs.Limits.{admitted_limit}
use Rattle.dl_bytes.specs.declared.conf.Conf.{Conf}
use Rattle.dl_bytes.specs.declared.conf.Stored.{Stored}
use Rattle.dl_channel.specs.declared.outcome.ChannelEnd.{ChannelEnd}
use Rattle.dl_core.specs.Settings.{begun_for}
use Rattle.dl_core.specs.State.{Core}
use Rattle.dl_hub.specs.State.{fresh, outbox_of}
use Rattle.dl_outside.specs.Links.{Links}
use Rattle.dl_outside.specs.Told.{LinkTold}
use Rattle.dl_registry.specs.Kept.{made}
use Rattle.dl_rounds.specs.Partings.{AreShut}
use Rattle.dl_rounds.specs.Ready.{fresh_listener}
use Rattle.dl_rounds.specs.ListenerPool.{Seated}
use Rattle.dl_rounds.specs.declared.listener.Listener.{Listener}
use Rattle.dl_channels.specs.Accepting.{AreLinked}
use Rattle.dl_model.specs.declared.software.Software.{Software}
use Rattle.dl_socket.specs.Channels.{Channels, none_opened}
use Rattle.dl_socket.specs.Listening.{HaveListeners}
use Rattle.dl_trace.specs.State.{Trace}
use Rattle.dl_server.specs.declared.server.Server.{Server}
use Rattle.dl_server.specs.Server.{HaveLinks, IsMade, IsServer}
use Rattle.dl_loop.proofs.MadeDaemons.{each_fresh, nobody_open, made_owes_none}
use Rattle.dl_lemmas.proofs.Options.{not_some}

fresh_at : (seated : Seated) (clients place : ℕ) (listener : Listener) → seated.listeners ≡ replicate clients fresh_listener → slice_get seated.listeners place ≡ Some listener → listener ≡ fresh_listener
fresh_at seated clients place listener are is = each_fresh clients place listener (sym (ap (λ (ls : List Listener). slice_get ls place) are) ∙ is)

listeners_so : (software : Software) (conf : Conf) (stored : Stored) (first : ℕ) (trace : Option Trace) (clients : ℕ) (seated : Seated) → seated.listeners ≡ replicate clients fresh_listener
    → HaveListeners seated (begun_for software conf stored first trace clients)
listeners_so software conf stored first trace clients seated are = λ desk desk_so. record {
  enough = omega (arith, ap (λ (ls : List Listener). length ls) are, length-replicate clients fresh_listener);
  limits = λ place listener there. ap (λ (l : Listener). l.cutter.limit) (fresh_at seated clients place listener are there);
  counts = λ place listener there low. absurd (omega (arith, low));
  unused = λ place listener there none. fresh_at seated clients place listener are there;
  waiting = λ number is none. absurd (not_some (outbox_of (fresh conf.ecu conf.buffer clients) number) (nobody_open conf.ecu conf.buffer clients number) is);
  desk_so = desk_so;
}

module _ {J L : Type 0} (told : L → LinkTold) where
  pub made_server : (software : Software) (conf : Conf) (stored : Stored) (first : ℕ) (trace : Option Trace) (journal : J) (clients programs at_once in_all : ℕ) (s : Server J L)
      → IsMade (begun_for software conf stored first trace clients) journal (none_opened at_once in_all) clients programs s → in_all ≤ programs → IsServer told s
  made_server software conf stored first trace journal clients programs at_once in_all s made fits =
      let core = begun_for software conf stored first trace clients in
      record {
        linked = subst (λ (c : Core). HaveLinks s.clients c) (sym made.core_is) (subst (λ (ls : Links L). HaveLinks ls core) (sym made.no_client)
            (record { many = refl; few = omega arith; place = omega arith; settled = made_owes_none conf.level stored first }));
        heard = subst (λ (c : Core). HaveListeners s.seats c) (sym made.core_is) (listeners_so software conf stored first trace clients s.seats made.listeners_are);
        programs = subst (λ (cs : Channels). AreLinked s.programs cs) (sym made.channels_are) (subst (λ (ls : Links L). AreLinked ls (none_opened at_once in_all)) (sym made.no_program)
            (record { many = refl; place = fits }));
        given = subst (λ (cs : Channels). cs.opened ≤ cs.in_all) (sym made.channels_are) (omega arith);
        enough = subst (λ (cs : Channels). cs.in_all ≤ length s.ends.items) (sym made.channels_are)
            (omega (arith, fits, ap (λ (es : List (Option ChannelEnd)). length es) made.no_end, length-replicate {A = Option ChannelEnd} programs None));
        few = subst (λ (c : Core). c.hub.admitted ≤ admitted_limit) (sym made.core_is) (omega arith);
        shut = λ noted. subst (λ (ls : Links L). AreShut s.core.hub (map told ls.links)) (sym made.no_client) (λ number link one none there. absurd (cc there));
      }
