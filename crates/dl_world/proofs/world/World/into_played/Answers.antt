use Rattle.std.proofs.Common.{length, refl, ap, ◌∙◌}
use Rattle.std.specs.List.{range_with_len}
use Rattle.dl_hub.specs.State.{Hub}
use Rattle.dl_world.specs.Left.{links_in}
use Rattle.dl_world.proofs.Leaving.{records_left, claims_left, specs_left, streams_left, links_left, backlog_left}
use Rattle.dl_world.proofs.world.World.into_played.Goals as goal

pub returns : goal.returns
returns c = record {
  leaves = λ run done after. record {
    records_are = c.in_ok-records.ensures.records ∙ records_left run done c.args.self after;
    claims_are = c.in_ok-records.ensures.claims ∙ claims_left run done c.args.self after;
    events_are = after.so_far.events_so;
    streams_are = c.over-streams.ensures ∙ c.in_ok-into_streams.ensures.streams ∙ streams_left run done c.args.self after;
    specs_are = c.in_ok-records.ensures.specs ∙ specs_left run done c.args.self after;
    links_are = c.in_ok-links.ensures ∙ ap (λ (h : Hub). links_in h (range_with_len 1 (length c.args.self.clients))) c.hub.ensures ∙ links_left run done c.args.self after;
    none_dropped = refl;
    trace_is = c.trace_of-trace.ensures;
    backlog_is = c.backlog-backlog.ensures ∙ ap (λ (h : Hub). record { frames = h.frames; bytes = length h.backlog; refused = h.refused }) c.hub-2.ensures ∙ backlog_left run done c.args.self after;
  };
}
