use Rattle.std.proofs.Common.{◌≡◌, ◌≤◌, ℕ, true, List, length, sym, subst, arith}
use Rattle.std.specs.List.{list_all}
use Rattle.dl_bytes.specs.Conf.{is_printable}
use Rattle.dl_storage.proofs.Letters.{printable, short, sizes}
use Rattle.dl_storage.proofs.storing.trace_conf.Goals as goal

pub invariant_of-result : goal.invariant_of-result
invariant_of-result c =
    let filter = c.args.filter.now in
    let sized = sizes filter.size filter.max filter.sizes in
    record {
      buffer_least = omega arith;
      buffer_most = omega arith;
      directory_size = subst (λ (d : List ℕ). length d ≤ 200) (sym c.in_ok-directory_of.ensures) (short filter.name filter.name_form);
      directory_letters = subst (λ (d : List ℕ). list_all is_printable d ≡ true) (sym c.in_ok-directory_of.ensures) (printable filter.name filter.name_form);
      file_size_least = sized.least;
      file_size_most = sized.most;
      max_size_most = sized.limit;
      two_files = sized.two;
    }
