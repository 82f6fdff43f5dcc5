use Rattle.std.proofs.Common.{◌≡◌, ◌+◌, ◌++◌, ap, sym, ◌∙◌, take, drop, arith, rules}
use Rattle.std.proofs.lemmas.List.{take_rest}
use Rattle.std.proofs.lemmas.Simd.{chunk-drop}
use Rattle.fab_io.specs.Memory.{Feed}
use Rattle.fab_io.proofs.memory.MemSourceSource.read.Goals as goal

-- what was left is what was moved into the room, and what is left now
pub returns-clause-seen : goal.returns-clause-seen
returns-clause-seen c =
    let n = c.move_front-n.result in
    let place = c.self.inside.place in
    let bytes = c.self.inside.bytes in
    let left : c.args.self.now.left ≡ drop place bytes = sym (ap (λ (f : Feed). f.left) c.self.view_is) in
    let moved : take n c.move_front-n.new.room ≡ take n (drop place bytes) =
    c.move_front-n.ensures.moved ∙ ap (take n) (take_rest c.as_slice.result.now place ∙ ap (drop place) c.as_slice.ensures) in record {
      bytes = (
        omega (arith, c.if-n-eq0.false),
        search rules,
        left ∙ chunk-drop place n bytes ∙ ap (λ front. front ++ drop (place + n) bytes) (sym moved),
      );
      number = search rules;
      count = search rules;
    }
