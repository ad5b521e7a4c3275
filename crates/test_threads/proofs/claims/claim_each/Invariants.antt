use Rattle.std.proofs.Common.{◌≡◌, ◌+◌, ◌*◌, ◌≤◌, length}
use Rattle.dl_cells.specs.Claims.{given_of, refused_of}
use Rattle.test_threads.proofs.claims.claim_each.Given as goal

abbrev pub invariant-loop-n : goal.invariant-loop-n
invariant-loop-n l = record {
  state : l.claimer ≡ record l.initial.claimer { given = l.claimer.given; refused = l.claimer.refused };
  count : l.given.count ≡ length (given_of 0 l.claimer.given);
  few : l.given.count ≤ l._n;
  all : l._n ≤ l.given.count + 16 * refused_of 0 l.claimer.refused;
}
