use Rattle.std.proofs.Common.{◌≡◌}
use Rattle.indexmap.specs.IndexMap.{spare}
use Rattle.dl_model.specs.Registry.{releveled_context}
use Rattle.dl_apps.specs.Change.{changed_first, relevel_of}
use Rattle.dl_apps.proofs.application.Application.relevel.Given as goal

abbrev pub invariant-loop-place : goal.invariant-loop-place
invariant-loop-place l = record {
  channel : l.self-inside.channel ≡ l.initial.self-inside.channel;
  number : l.self-inside.number ≡ l.initial.self-inside.number;
  pid : l.self-inside.pid ≡ l.initial.self-inside.pid;
  text : l.self-inside.text ≡ l.initial.self-inside.text;
  contexts : l.self-inside.contexts.entries ≡ changed_first (releveled_context (relevel_of l.levels) l.apid) l.place l.initial.self-inside.contexts.entries;
  room : spare l.self-inside.contexts ≡ spare l.initial.self-inside.contexts;
}
