use Rattle.std.proofs.Common.{◌≡◌, length, ap, sym, ◌∙◌, arith, vec_len}
use Rattle.std.proofs.lemmas.List.{length-map}
use Rattle.std.proofs.lemmas.List.FromFn.{length-range_with_len}
use Rattle.dl_account.proofs.OpenBooks.{made_with, same_bases, stay}
use Rattle.test_threads.proofs.crowds.work_beside.Goals as goal

-- as many threads were started as there are books
pub join_all-requires : goal.join_all-requires
join_all-requires g c =
    let children = c.in-Ok.children in
    let count : length children.items ≡ vec_len c.args.books =
    sym (length-map children.items (λ h. h.promise.before.value.writer.push.number)) ∙ ap length (c.in-Ok.ensures.numbered ∙ c.requires.numbered) ∙ length-range_with_len 1 (vec_len c.args.books) in
    let long = children.ok.0 in
    let few = c.requires.few in
    record { few = omega (arith, count, long, few); bases = c.in-Ok.ensures.bases }

pub returns-in-Ok : goal.returns-in-Ok
returns-in-Ok g c =
    let before = c.args.desk.now in
    let started = c.in-Ok.ensures in
    let back = c.join_all.ensures in
    let books = c.join_all.result.books in
    record {
      made = made_with c.serve.new.desk books (vec_len c.args.books)
          (stay before c.serve.new.desk books c.serve.ensures (back.made before started.same))
          (back.numbered ∙ started.numbered ∙ c.requires.numbered)
          (same_bases (λ app. 1) books back.bases);
    }
