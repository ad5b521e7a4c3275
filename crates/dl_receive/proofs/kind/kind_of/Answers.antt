use Rattle.std.proofs.Common.{ℕ, List, sym, ap, ◌∙◌}
use Rattle.std.specs.Option.{option_map_or}
use Rattle.std.proofs.lemmas.List.{take_rest}
use Rattle.dl_message.specs.Parts.{message_of}
use Rattle.dl_receive.specs.declared.kind.Kind.TheVariants.{Other}
use Rattle.dl_receive.specs.MessageKind.{headed}
use Rattle.dl_receive.proofs.Fields.{kind_read}
use Rattle.dl_receive.proofs.kind.kind_of.Goals as goal

pub returns : goal.returns
returns c =
    let bytes = c.args.message.now in
    let parts = c.in-Ok.parts in
    c.kind_in.ensures ∙ ap (λ (p : List ℕ). option_map_or (headed parts.standard p) parts.extended (Other parts.standard.len)) (take_rest bytes parts.start)
    ∙ sym (kind_read (message_of parts bytes) bytes c.in-Ok.ensures.message)
