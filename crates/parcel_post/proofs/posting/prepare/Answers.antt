use Rattle.std.proofs.Common.{◌∙◌, ◌++◌, List, ap, subst, sym, replicate, map}
use Rattle.run_words.specs.declared.logs.Parcel.{Parcel}
use Rattle.parcel_post.specs.Posting.{Counts, HaveRoom, ended_parcel, numbered, raised_by}
use Rattle.parcel_post.proofs.Ending.{ended_numbered, have_room, all_made, made_more, raised_more, all_raised}
use Rattle.parcel_post.proofs.posting.prepare.Goals as goal

pub invariant_of-result : goal.invariant_of-result
invariant_of-result c =
    subst (HaveRoom c.args.room) (sym (all_made c.loop-receiver.after c.args.time (c.args.front.now ++ replicate c.args.room 0) c.args.to.now c.loop-receiver.receiver-index c.loop-receiver.parcels.items _ c.loop-receiver-test.false c.loop-receiver.invariant.0))
    (have_room c.args.numbers.now c.args.time c.args.front.now c.args.room c.args.to.now)

pub returns-clause-parcels : goal.returns-clause-parcels
returns-clause-parcels c = λ back e.
    ap (map (ended_parcel back)) (all_made c.loop-receiver.after c.args.time (c.args.front.now ++ replicate c.args.room 0) c.args.to.now c.loop-receiver.receiver-index c.loop-receiver.parcels.items _ c.loop-receiver-test.false c.loop-receiver.invariant.0)
    ∙ ended_numbered c.args.numbers.now c.args.time c.args.front.now back c.args.room c.args.to.now e

pub loop-receiver-init : goal.loop-receiver-init
loop-receiver-init c =
    let bytes = c.args.front.now ++ replicate c.args.room 0 in (
      ap (λ (n : Counts). numbered n c.args.time bytes c.args.to.now) (sym c.in_ok-after.ensures)
          ∙ ap (λ (l : List Parcel). l ++ numbered c.in_ok-after.after c.args.time bytes c.args.to.now) (sym c.in_ok-parcels.ensures.items),
      ap (λ (n : Counts). raised_by n c.args.to.now) (sym c.in_ok-after.ensures),
    )

pub loop-receiver-preserved : goal.loop-receiver-preserved
loop-receiver-preserved c = (
  made_more c.loop-receiver.after c.raise.new.self c.args.time (c.args.front.now ++ replicate c.args.room 0) c.in_ok-with_room.field-0 c.args.to.now
      c.loop-receiver.receiver-index _ c.in_ok-raise.field-0 c.loop-receiver.parcels.items c.push.new.self.items _ c.loop-receiver-test.true
      c.in_ok-raise.ensures.number c.in_ok-with_room.ensures c.in_ok-raise.ensures.raised c.in_ok-push.ensures.items c.loop-receiver.invariant.0,
  raised_more c.loop-receiver.after c.raise.new.self _ c.args.to.now c.loop-receiver.receiver-index _ c.loop-receiver-test.true
      c.in_ok-raise.ensures.raised c.loop-receiver.invariant.1,
)

pub returns-clause-counts : goal.returns-clause-counts
returns-clause-counts c =
    all_raised c.loop-receiver.after _ c.args.to.now c.loop-receiver.receiver-index c.loop-receiver-test.false c.loop-receiver.invariant.1
