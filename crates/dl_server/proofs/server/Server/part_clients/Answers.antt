use Rattle.std.proofs.Common.{◌≡◌, length, map, refl, sym, subst, ◌∙◌, arith}
use Rattle.std.proofs.lemmas.List.{length-map}
use Rattle.dl_hub.specs.State.{Hub}
use Rattle.dl_rounds.specs.Partings.{AreShut, ShutsGone}
use Rattle.dl_server.proofs.ShutServers.{all_are_shut}
use Rattle.dl_server.proofs.server.Server.part_clients.Goals as goal

pub returns-then-self-clause-parts : goal.returns-then-self-clause-parts
returns-then-self-clause-parts g c = λ folder.
    let told = g.L.Link.told in
    record {
      shuts = subst (λ (h : Hub). ShutsGone h (map told c.args.self.now.clients.links) (map told c.shut_gone.new.links.links)) c.hub.ensures c.shut_gone.ensures.shuts;
      rest = refl;
    }

pub returns-then-self-clause-server : goal.returns-then-self-clause-server
returns-then-self-clause-server g c =
    let so = c.requires.server in
    let told = g.L.Link.told in
    let many : length c.shut_gone.new.links.links ≡ length c.args.self.now.clients.links =
    sym (length-map c.shut_gone.new.links.links told) ∙ c.shut_gone.ensures.shuts.many ∙ length-map c.args.self.now.clients.links told in
    record {
      linked = record { many = so.linked.many ∙ sym many; few = so.linked.few; place = omega (arith, so.linked.place, c.shut_gone.ensures.room); settled = so.linked.settled };
      heard = so.heard;
      programs = so.programs;
      given = so.given;
      enough = so.enough;
      few = so.few;
      shut = λ noted. subst (λ (h : Hub). AreShut h (map told c.shut_gone.new.links.links)) c.hub.ensures
          (c.links_of_gone_clients_are_shut.ensures.parted _ _ _ c.shut_gone.ensures.shuts);
    }

pub returns-else-self-clause-parts : goal.returns-else-self-clause-parts
returns-else-self-clause-parts g c = λ folder. record { shuts = all_are_shut _ _ (c.requires.server.shut c.if-self.false); rest = refl }
