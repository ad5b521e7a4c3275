use Rattle.std.proofs.Common.{◌≡◌, ℕ, List, drop, sym, ap, ◌∙◌}
use Rattle.dl_bytes.specs.Htyp.{header_len}
use Rattle.dl_message.specs.Parts.{message_of}
use Rattle.dl_receive.specs.MessageKind.{kind_of, payload_of}
use Rattle.dl_receive.specs.declared.kind.Kind.{Kind}
use Rattle.dl_sessions.specs.Stream.{context_of, ecu_of, entry_in, ticks_of, told_by}
use Rattle.dl_sessions.specs.declared.session.Told.{Told}
use Rattle.dl_sessions.proofs.ToldFields.{context_read, ecu_read, entry_read, htyp_read, ticks_read}
use Rattle.dl_sessions.proofs.told.told_of.Goals as goal

pub returns : goal.returns
returns c =
    let bytes = c.args.message.now in
    let parts = c.in-Ok.parts in
    let m = message_of parts bytes in
    let is = c.in-Ok.ensures.message in
    let behind : payload_of bytes ≡ m.payload = ap (λ (n : ℕ). drop n bytes) (ap header_len (htyp_read m bytes is) ∙ sym c.in-Ok.ensures.start) in
    let own = c.unwrap_or-own.ensures ∙ sym (ecu_read m bytes is c.args.ecu) in
    let ticks = c.unwrap_or-ticks.ensures ∙ sym (ticks_read m bytes is) in
    let entry = c.entry_in-entry.ensures ∙ ap (λ (p : List ℕ). entry_in parts.standard parts.extended p c.unwrap_or-own.result c.unwrap_or-ticks.result) c.behind-payload.ensures
    ∙ ap (λ (e : List ℕ). entry_in parts.standard parts.extended m.payload e c.unwrap_or-ticks.result) own
    ∙ ap (entry_in parts.standard parts.extended m.payload (ecu_of c.args.ecu bytes)) ticks ∙ sym (entry_read m bytes is behind (ecu_of c.args.ecu bytes) (ticks_of bytes)) in
    let context = c.context_in.ensures ∙ sym (context_read m bytes is) in
    c.told_by.ensures ∙ ap (λ (k : Kind). told_by k c.context_in.result c.entry_in-entry.result) c.kind_of.ensures
    ∙ ap (λ (x : List ℕ). told_by (kind_of bytes) x c.entry_in-entry.result) context
    ∙ ap (λ (t : Told). told_by (kind_of bytes) (context_of bytes) t) entry
