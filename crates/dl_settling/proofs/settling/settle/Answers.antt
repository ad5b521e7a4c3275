use Rattle.std.proofs.Common.{◌≡◌, length, map, refl, sym, ap, ◌∙◌, subst, arith}
use Rattle.std.proofs.lemmas.List.{length-map}
use Rattle.dl_taking.specs.Draining.{closing_told}
use Rattle.dl_taking.proofs.DrainedEvents.{all_drain}
use Rattle.dl_account.proofs.Resting.{drained_stays}
use Rattle.dl_account.specs.Settled.{account_of}
use Rattle.dl_hub.specs.State.{Hub}
use Rattle.dl_rounds.specs.Partings.{ShutsGone}
use Rattle.dl_settling.specs.Ends.{ends_in}
use Rattle.dl_settling.specs.State.{Stopping}
use Rattle.dl_settling.proofs.Ready.{heard_still, linked_still}
use Rattle.dl_settling.proofs.settling.settle.Goals as goal

pub close_all-requires-clause-linked : goal.close_all-requires-clause-linked
close_all-requires-clause-linked g c =
    let now = c.drain_all.new in
    let drain = all_drain c.args.parts.closing.apps _ _ c.drain_all.ensures.drains in
    linked_still drain.more c.args.parts.links c.args.parts.core now.core c.args.parts.journal.spare now.journal.spare c.requires.linked drain.clients
    c.drain_all.ensures.settled (omega (arith, c.drain_all.ensures.may.spare_so))

pub close_all-requires-clause-heard : goal.close_all-requires-clause-heard
close_all-requires-clause-heard g c =
    let now = c.drain_all.new in
    let drain = all_drain c.args.parts.closing.apps _ _ c.drain_all.ensures.drains in
    heard_still drain.more c.args.parts.seats c.args.parts.core now.core (closing_told c.args.parts.closing) (closing_told now.closing) c.requires.heard drain.clients
    c.drain_all.ensures.desk

pub finish-account-requires : goal.finish-account-requires
finish-account-requires g c = drained_stays c.drain_all.new.closing c.close_all.new.desk c.close_all.ensures.rest c.drain_all.ensures.drained

pub fill-requires-clause-few : goal.fill-requires-clause-few
fill-requires-clause-few g c =
    let drain = all_drain c.args.parts.closing.apps _ _ c.drain_all.ensures.drains in
    let many : length c.shut_gone.new.links.links ≡ length c.close_all.new.links.links =
    sym (length-map c.shut_gone.new.links.links g.L.Link.told) ∙ c.shut_gone.ensures.shuts.many ∙ length-map c.close_all.new.links.links g.L.Link.told in
    omega (arith, c.len.ensures, many, c.close_all.ensures.linked.many, c.close_all.ensures.linked.few, c.close_all.ensures.same.limit, drain.clients.same.limit, c.requires.clients)

pub returns-clause-settles : goal.returns-clause-settles
returns-clause-settles g c =
    let parts = c.args.parts in
    let one = c.drain_all in
    let other = c.close_all in
    let drained : Stopping g.row.L.Denot = record { core = one.new.core; closing = one.new.closing; journal = one.new.journal; links = parts.links; seated = parts.seats } in
    let closed : Stopping g.row.L.Denot = record { core = other.new.core; closing = other.new.desk; journal = other.new.journal; links = other.new.links; seated = other.new.seats } in
    record {
      drained = drained;
      between = g.F.Folder.told one.new.folder;
      drains = record { drains = one.ensures.drains; drained = one.ensures.drained; same = one.ensures.rest; links = refl; seated = refl };
      closed = closed;
      closes = record {
        closes = other.ensures.visits;
        none_open = other.ensures.none;
        same = other.ensures.rest;
        linked = other.ensures.linked;
        heard = other.ensures.heard;
      };
      account_is = c.finish-account.ensures ∙ ap (account_of other.new.desk other.new.journal.events) (λ i. record {
        links = (c.fill.ensures ∙ ap ends_in c.hub-2.ensures) i;
        dropped = parts.dropped;
        trace = c.trace_told.ensures i;
      });
      shuts = subst (λ (h : Hub). ShutsGone h (map g.L.Link.told other.new.links.links) (map g.L.Link.told c.shut_gone.new.links.links)) c.hub.ensures c.shut_gone.ensures.shuts;
    }

pub fill-requires-clause-all : goal.fill-requires-clause-all
fill-requires-clause-all g c =
    let many : length c.shut_gone.new.links.links ≡ length c.close_all.new.links.links =
    sym (length-map c.shut_gone.new.links.links g.L.Link.told) ∙ c.shut_gone.ensures.shuts.many ∙ length-map c.close_all.new.links.links g.L.Link.told in
    c.len.ensures ∙ many ∙ sym c.close_all.ensures.linked.many ∙ ap (λ (h : Hub). length h.clients) (sym c.hub-2.ensures)
