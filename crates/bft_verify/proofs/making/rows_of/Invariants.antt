use Rattle.std.proofs.Common.{◌≡◌, ◌++◌, drop, length, sum}
use Rattle.bft_verify.specs.Rows.{rows}
use Rattle.bft_verify.proofs.making.rows_of.Given as goal

abbrev pub invariant-loop-before : goal.invariant-loop-before
invariant-loop-before l =
    record {
      whole : rows l.members.sizes l.fn.replicas ≡ l.rows ++ rows (drop l.before l.members.sizes) l.rest;
      left : length l.rest ≡ sum (drop l.before l.members.sizes);
      all : l.before-end ≡ length l.members.sizes;
    }
