use Rattle.std.proofs.Common.{◌≡◌, ◌++◌, ℕ, List, None, true, false, refl, sym, ap, subst, ◌∙◌}
use Rattle.std.specs.Prelude.{All, IfSome, map, codes}
use Rattle.std.specs.List.{list_all}
use Rattle.std.proofs.lemmas.Bool.{false≢true}
use Rattle.std.proofs.lemmas.Option.{IfSome_then}
use Rattle.dl_bytes.specs.Conf.{is_printable}
use Rattle.dl_bytes.specs.declared.outcome.TraceFile.{TraceFile}
use Rattle.dl_outside.specs.Folder.{Files, names_with}
use Rattle.dl_trace.specs.State.{Trace, listed}
use Rattle.dl_trace.specs.InFolder.{HasFiles, IsTraceName}
use Rattle.dl_trace.specs.Found.{AreFound, Found}
use Rattle.dl_trace.proofs.Finding.{front_of}
use Rattle.dl_trace.proofs.Making.{found_named, after_nothing, holds_made}
use Rattle.dl_trace.proofs.trace.Trace.make.Goals as goal

pub invariant_of-result : goal.invariant_of-result
invariant_of-result g c =
    let conf = c.args.conf.now in
    let made = c.in_ok-stood.ensures.found in
    let directory : c.over.result ≡ conf.directory = c.over.ensures ∙ c.in_ok-directory.ensures.items ∙ c.all.ensures in
    let same : c.deref-3.result.now ≡ c.over.result = c.deref-3.ensures.value ∙ sym c.over.ensures in
    record {
      letters = subst (λ (d : List ℕ). list_all is_printable d ≡ true) (sym directory) conf.directory_letters;
      least = conf.file_size_least;
      most = conf.max_size_most;
      two_files = conf.two_files;
      last = made.within;
      named = subst (λ (fs : List TraceFile). All (λ (file : TraceFile). IsTraceName c.over.result file.name) fs) (sym (c.over-2.ensures ∙ made.files_are ∙ ap (λ (d : List ℕ). map (listed d) made.stood) same))
          (found_named c.over.result (g.F.Folder.told c.names.new.self).files c.all-2.result.now made.stood (subst (λ (d : List ℕ). Found d (g.F.Folder.told c.names.new.self).files c.all-2.result.now made.stood) same made.found));
      some = λ e. absurd (false≢true e);
      room = λ e. absurd (false≢true e);
    }

pub returns-clause-stood : goal.returns-clause-stood
returns-clause-stood g c =
    let conf = c.args.conf.now in
    let directory : c.over.result ≡ conf.directory = c.over.ensures ∙ c.in_ok-directory.ensures.items ∙ c.all.ensures in
    let same : c.deref-3.result.now ≡ c.over.result = c.deref-3.ensures.value ∙ sym c.over.ensures in
    let made : AreFound c.over.result (g.F.Folder.told c.names.new.self).files c.all-2.result.now c.over-2.result c.in_ok-stood.stood.last =
    subst (λ (fs : List TraceFile). AreFound c.over.result (g.F.Folder.told c.names.new.self).files c.all-2.result.now fs c.in_ok-stood.stood.last) (sym c.over-2.ensures)
    (subst (λ (d : List ℕ). AreFound d (g.F.Folder.told c.names.new.self).files c.all-2.result.now c.in_ok-stood.stood.files.items c.in_ok-stood.stood.last) same c.in_ok-stood.ensures.found) in
    let trace : Trace = record { directory = c.over.result; file_size = conf.file_size; max_size = conf.max_size; state = record { files = c.over-2.result; end = None }; last = c.in_ok-stood.stood.last; begun = false; unstored = 0 } in
    let prefix : c.as_text.result.now ≡ front_of c.over.result =
    c.as_text.ensures ∙ c.deref-2.ensures.value ∙ c.in_ok-front.ensures ∙ ap (λ (d : List ℕ). d ++ codes "/dlt_offlinetrace.") (c.deref.ensures.value ∙ sym c.over.ensures) in
    let all : IfSome (g.F.Folder.told c.args.folder.now).files (λ (folder : Files). c.all-2.result.now ≡ names_with (front_of c.over.result) folder) =
    IfSome_then (g.F.Folder.told c.args.folder.now).files c.in_ok-names.ensures.found (λ folder e. c.all-2.ensures ∙ e ∙ ap (λ (p : List ℕ). names_with p folder) prefix) in (
      made.stood,
      after_nothing trace (g.F.Folder.told c.names.new.self).files c.all-2.result.now refl made,
      subst (λ (d : List ℕ). IfSome (g.F.Folder.told c.args.folder.now).files (λ (folder : Files). HasFiles d folder made.stood)) directory
          (holds_made c.over.result (g.F.Folder.told c.args.folder.now).files (g.F.Folder.told c.names.new.self).files c.all-2.result.now c.over-2.result c.in_ok-stood.stood.last c.in_ok-names.ensures.stays all made),
    )
