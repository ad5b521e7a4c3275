use Rattle.std.proofs.Common.{◌≡◌, ◌+◌, ◌++◌, ◌∷◌, [], ℕ, List, Option, sym, ap, subst, ◌∙◌, take, arith}
use Rattle.std.specs.Prelude.{IfNone, max, codes}
use Rattle.dl_bytes.specs.declared.outcome.TraceFile.{TraceFile}
use Rattle.dl_trace.specs.Found.{AreFound, IsNoFile}
use Rattle.dl_model.specs.TraceFiles.{six_digits, trace_name}
use Rattle.dl_trace.proofs.Making.{one_found, none_found, names_more, stays_later, size_before, none_before}
use Rattle.dl_trace.proofs.trace.old_files.Goals as goal

pub loop-name-preserved-in_default : goal.loop-name-preserved-in_default
loop-name-preserved-in_default g c =
    let told = (g.F.Folder.told c.args.folder.now).files in
    let names = c.args.names.now in
    let k = c.loop-name.name-index in
    let name = c.name-item.result in
    let inv = c.loop-name.invariant in
    let none = subst (λ (o : Option (ℕ × ℕ)). IfNone o (IsNoFile (g.F.Folder.told c.loop-name.folder).files c.args.front.now name)) c.in_default.is c.in_ok-number.ensures.none in
    let here : IsNoFile told c.args.front.now name = none_before told (g.F.Folder.told c.loop-name.folder).files c.args.front.now name inv.1 none in
    let found = none_found c.args.directory.now told (take k names) c.loop-name.files.items c.loop-name.last name inv.0 (subst (λ (f : List ℕ). IsNoFile told f name) c.requires here) in (
      subst (λ (ns : List (List ℕ)). AreFound c.args.directory.now told ns c.loop-name.files.items c.loop-name.last) (sym (names_more names k name (omega arith) c.name-item.is)) found,
      stays_later told (g.F.Folder.told c.loop-name.folder).files (g.F.Folder.told c.ask.new.folder).files inv.1 c.ask.ensures.stays,
      c.in_ok-number.ensures.cause ∙ inv.2,
      c.ask.ensures.unchanged ∙ inv.3,
      c.ask.ensures.unappended ∙ inv.4,
    )

pub loop-name-preserved : goal.loop-name-preserved
loop-name-preserved g c =
    let told = (g.F.Folder.told c.args.folder.now).files in
    let directory = c.args.directory.now in
    let names = c.args.names.now in
    let k = c.loop-name.name-index in
    let name = c.name-item.result in
    let inv = c.loop-name.invariant in
    let f = rw c.in-Some.is at c.in_ok-number.ensures.found in
    let spelled : c.over-name.result ≡ trace_name directory c.in-Some.number = c.over-name.ensures ∙ c.in_ok-file_name.ensures in
    let entry : TraceFile = record { name = c.over-name.result; bytes = c.in-Some.bytes } in
    let found = one_found directory told (take k names) c.loop-name.files.items c.loop-name.last c.in-Some.number c.in-Some.bytes name c.over-name.result inv.0 f.0 f.1
    (f.2 ∙ ap (λ (x : List ℕ). x ++ six_digits c.in-Some.number ++ codes ".dlt") c.requires) spelled (size_before told (g.F.Folder.told c.loop-name.folder).files name c.in-Some.bytes inv.1 f.3) in
    let items : c.push.new.self.items ≡ c.loop-name.files.items ++ entry ∷ [] = c.in-Ok.ensures.items in (
      subst (λ (n : ℕ). AreFound directory told (take (k + 1) names) c.push.new.self.items n) (sym c.greater-last.ensures)
          (subst (λ (fs : List TraceFile). AreFound directory told (take (k + 1) names) fs (max c.loop-name.last c.in-Some.number)) (sym items)
          (subst (λ (ns : List (List ℕ)). AreFound directory told ns (c.loop-name.files.items ++ entry ∷ []) (max c.loop-name.last c.in-Some.number)) (sym (names_more names k name (omega arith) c.name-item.is)) found)),
      stays_later told (g.F.Folder.told c.loop-name.folder).files (g.F.Folder.told c.ask.new.folder).files inv.1 c.ask.ensures.stays,
      c.in_ok-number.ensures.cause ∙ inv.2,
      c.ask.ensures.unchanged ∙ inv.3,
      c.ask.ensures.unappended ∙ inv.4,
    )
