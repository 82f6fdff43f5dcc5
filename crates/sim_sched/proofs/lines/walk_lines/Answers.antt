use Rattle.std.proofs.Common.{◌≡◌, ◌+◌, true, false, cond, ◌<◌, ◌≤◌, map, length, get_or, refl, sym, ap, ◌∙◌, arith, add-zero}
use Rattle.fault_script.specs.declared.twists.TimeoutLine.{TimeoutLine}
use Rattle.sim_sched.specs.Seats.{seen}
use Rattle.sim_sched.proofs.Walking.{walks_spent, walks_kept, walks_given, walks_whole}
use Rattle.sim_sched.proofs.lines.walk_lines.Goals as goal

pub returns-then-entries-turns-clause-walked : goal.returns-then-entries-turns-clause-walked
returns-then-entries-turns-clause-walked g c =
    let f = seen g.P.Party.made g.P.Party.journal g.P.Party.shut in
    let h : c.loop-place.place < length c.loop-place.lines.items = omega arith in
    walks_spent c.args.reader.now.members.now c.args.reader.now.ring.now c.args.ids.now (map f c.args.seats.now) (map f c.loop-place.seats)
    c.args.lines.now.items c.loop-place.lines.items c.args.before c.args.turns c.loop-place.entries c.loop-place.place c.loop-place.invariant
    (record { spent = true; moved = c.loop-place.moved; entries = c.loop-place.entries }) refl h (omega arith)

pub loop-place-preserved-then-from-entries : goal.loop-place-preserved-then-from-entries
loop-place-preserved-then-from-entries g c =
    let f = seen g.P.Party.made g.P.Party.journal g.P.Party.shut in
    let h : c.loop-place.place < length c.loop-place.lines.items = omega arith in
    let line : TimeoutLine = c.index-line.result.now in
    let there : get_or c.loop-place.lines.items c.loop-place.place line ≡ line = sym c.index-line.ensures in
    walks_kept c.args.reader.now.members.now c.args.reader.now.ring.now c.args.ids.now (map f c.args.seats.now) (map f c.loop-place.seats)
    c.args.lines.now.items c.loop-place.lines.items c.args.before c.args.turns c.loop-place.entries c.loop-place.place c.loop-place.invariant
    line there h (omega arith) (omega (arith, c.from.ensures))

pub loop-place-preserved-then-branch : goal.loop-place-preserved-then-branch
loop-place-preserved-then-branch g c =
    let f = seen g.P.Party.made g.P.Party.journal g.P.Party.shut in
    let h : c.loop-place.place < length c.loop-place.lines.items = omega arith in
    let line : TimeoutLine = c.index-line.result.now in
    walks_given c.args.reader.now.members.now c.args.reader.now.ring.now c.args.ids.now (map f c.args.seats.now) (map f c.loop-place.seats)
    c.args.lines.now.items c.loop-place.lines.items c.args.before c.args.turns c.loop-place.entries c.loop-place.place c.loop-place.invariant
    line (map f c.time_out.new.seats) c.remove.new.self.items (c.loop-place.entries + 1) c.in_ok-time_out.field-0 (sym c.index-line.ensures) h
    (omega arith) (omega (arith, c.from.ensures)) c.remove.ensures.items c.in_ok-time_out.ensures
    (ap (λ b. c.loop-place.entries + cond b 1 0) (sym c.if-branch.true))

pub loop-place-preserved : goal.loop-place-preserved
loop-place-preserved g c =
    let f = seen g.P.Party.made g.P.Party.journal g.P.Party.shut in
    let h : c.loop-place.place < length c.loop-place.lines.items = omega arith in
    let line : TimeoutLine = c.index-line.result.now in
    walks_given c.args.reader.now.members.now c.args.reader.now.ring.now c.args.ids.now (map f c.args.seats.now) (map f c.loop-place.seats)
    c.args.lines.now.items c.loop-place.lines.items c.args.before c.args.turns c.loop-place.entries c.loop-place.place c.loop-place.invariant
    line (map f c.time_out.new.seats) c.remove.new.self.items c.loop-place.entries c.in_ok-time_out.field-0 (sym c.index-line.ensures) h
    (omega arith) (omega (arith, c.from.ensures)) c.remove.ensures.items c.in_ok-time_out.ensures
    (sym (ap (λ b. c.loop-place.entries + cond b 1 0) c.if-branch.false ∙ add-zero c.loop-place.entries))

pub returns-clause-walked : goal.returns-clause-walked
returns-clause-walked g c =
    let f = seen g.P.Party.made g.P.Party.journal g.P.Party.shut in
    let h : length c.loop-place.lines.items ≤ c.loop-place.place = omega arith in
    walks_whole c.args.reader.now.members.now c.args.reader.now.ring.now c.args.ids.now (map f c.args.seats.now) (map f c.loop-place.seats)
    c.args.lines.now.items c.loop-place.lines.items c.args.before c.args.turns c.loop-place.entries c.loop-place.place c.loop-place.invariant
    (record { spent = false; moved = c.loop-place.moved; entries = c.loop-place.entries }) refl refl h
