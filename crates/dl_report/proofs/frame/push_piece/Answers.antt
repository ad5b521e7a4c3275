use Rattle.dl_report.proofs.Spelling.{piece_added}
use Rattle.dl_report.proofs.frame.push_piece.Goals as goal

pub returns : goal.returns
returns c =
    piece_added c.extend_from_slice.result c.args.text.now.items c.extend_from_slice.new.self.items c.args.bytes.now c.copy_from_slice.new.self _ c.spell.new.letters
    c.copy_from_slice.ensures.after c.spell.ensures c.extend_from_slice.ensures.items
