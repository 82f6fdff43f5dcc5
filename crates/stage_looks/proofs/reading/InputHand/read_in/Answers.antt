use Rattle.std.proofs.Common.{rules, ◌≡◌, Some, Ok, Err, refl}
use Rattle.stage_looks.specs.declared.items.Item.{Item}
use Rattle.stage_looks.specs.declared.reading.InputHand.{InputHand}
use Rattle.stage_looks.proofs.Feeding.{reads_on, refuses_on, keeps_on}
use Rattle.stage_looks.proofs.reading.InputHand.read_in.Goals as goal

pub returns-in-Ok-Ok-clause-feeds : goal.returns-in-Ok-Ok-clause-feeds
returns-in-Ok-Ok-clause-feeds c = λ popped f.
    let a = c.args.self.now in
    let reader = c.args.reader.now in
    let is : c.in-Ok-Ok.field-0 ≡ Ok c.in-Ok-Ok.heard = search rules in
    let item : Item = record { origin = c.args.copy.origin; heard = c.in-Ok-Ok.heard } in
    let b : InputHand = record { put = a.put; held = Some item; kept = a.kept; refused = a.refused } in
    reads_on reader.members.now reader.ring.now popped c.args.copy a b c.as_slice.result.now c.in-Ok-Ok.field-0 item c.as_slice.ensures is
    c.in-Ok-Ok.ensures refl c.requires.free.0 c.requires.free.1 refl refl c.requires.free.1 refl f

pub returns-in-Ok-clause-feeds : goal.returns-in-Ok-clause-feeds
returns-in-Ok-clause-feeds c = λ popped f.
    let a = c.args.self.now in
    let reader = c.args.reader.now in
    let is : c.in-Ok-Err.field-0 ≡ Err c.in-Ok-Err.refusal = search rules in
    refuses_on reader.members.now reader.ring.now popped c.args.copy a c.note.new.self c.as_slice.result.now c.in-Ok-Err.field-0 c.in-Ok-Err.refusal
    c.as_slice.ensures is c.in-Ok-Err.ensures c.requires.free.1 c.note.ensures.same.0 c.note.ensures.same.1 c.note.ensures.same.2 c.in-Ok.ensures.ok f

pub returns-in-Err-note-clause-feeds : goal.returns-in-Err-note-clause-feeds
returns-in-Err-note-clause-feeds c = λ popped f.
    let a = c.args.self.now in
    let n = c.note.new.self in
    let reader = c.args.reader.now in
    let b : InputHand = record { put = n.put; held = n.held; kept = Some c.args.copy; refused = n.refused } in
    keeps_on reader.members.now reader.ring.now popped c.args.copy a b c.requires.free.1 c.note.ensures.same.0 c.note.ensures.same.1 refl
    c.in-Err-note.ensures.err f

pub returns-in-Err-clause-feeds : goal.returns-in-Err-clause-feeds
returns-in-Err-clause-feeds c = λ popped f.
    let a = c.args.self.now in
    let reader = c.args.reader.now in
    let b : InputHand = record { put = a.put; held = a.held; kept = Some c.args.copy; refused = a.refused } in
    keeps_on reader.members.now reader.ring.now popped c.args.copy a b c.requires.free.1 refl refl refl refl f
