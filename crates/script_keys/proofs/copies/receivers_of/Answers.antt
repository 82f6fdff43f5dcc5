use Rattle.std.proofs.Common.{◌<◌, ◌≤◌, ◌-◌, List, ℕ, sym, subst, length, slice_index_or}
use Rattle.script_keys.proofs.Wishes.{home_declared, home_of}
use Rattle.script_keys.proofs.copies.receivers_of.Goals as goal

pub bounds-as_slice-home : goal.bounds-as_slice-home
bounds-as_slice-home c =
    let script = c.args.script.now in
    let number = c.args.request.now.client.number in
    subst (λ (homes : List ℕ). slice_index_or homes number 0 - 1 < length c.as_slice-2.result.now) (sym c.as_slice.ensures)
    (subst (λ (sizes : List ℕ). slice_index_or script.homes number 0 - 1 < length sizes) (sym c.as_slice-2.ensures)
    (home_declared script number c.requires.limits c.requires.declared))

pub overflow_sub-size : goal.overflow_sub-size
overflow_sub-size c =
    let number = c.args.request.now.client.number in
    subst (λ (homes : List ℕ). 1 ≤ slice_index_or homes number 0) (sym c.as_slice.ensures)
    (home_of c.args.script.now number c.requires.limits c.requires.declared).first
