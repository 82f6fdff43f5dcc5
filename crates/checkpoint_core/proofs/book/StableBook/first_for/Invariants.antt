use Rattle.std.proofs.Common.{◌≡◌, take}
use Rattle.std.specs.List.{filter}
use Rattle.fab_base.specs.Quorums.{quorum_size}
use Rattle.checkpoint_core.specs.Checkpoints.{is_for, by_index}
use Rattle.checkpoint_core.proofs.book.StableBook.first_for.Given as goal

abbrev pub invariant-loop-sender : goal.invariant-loop-sender
invariant-loop-sender l =
    (l.first ≡ take l.need (by_index l.sender (filter (is_for l.round l.digest) l.self.votes))) × (l.need ≡ quorum_size l.self.members)
