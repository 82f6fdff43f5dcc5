use Rattle.std.proofs.Common.{◌≡◌, ◌≤◌, arith, [], ap, ◌∙◌, slice_index_or}
use Rattle.lms_tree.specs.Keys.{public_of_key}
use Rattle.std.proofs.Math.Nat.{one-le-pow}
use Rattle.std.proofs.lemmas.List.{get_or_read}
use Rattle.lms_tree.specs.Heights.{levels, leaf_count}
use Rattle.lms_tree.proofs.NodeLemmas.{root_at}
use Rattle.lms_tree.proofs.key.Key.public.Goals as goal

pub returns : goal.returns
returns c =
    let read : c.index.result.now ≡ slice_index_or c.self.inside.nodes.items 1 [] =
    let least : 1 ≤ leaf_count c.self.inside.height = one-le-pow (levels c.self.inside.height) 2 (omega arith) in
    let sized = c.self.invariant.sized in
    get_or_read c.self.inside.nodes.items 1 c.index.result.now (omega arith) c.index.ensures [] in
    let root = read ∙ root_at c.self.inside.ots c.self.inside.height c.self.inside.seed c.self.inside.nodes.items c.self.invariant in
    rw root (ap public_of_key c.self.view_is)
