use Rattle.std.proofs.Common.{◌≡◌, ◌∙◌, ℕ, ◌+◌, List, [], ◌∷◌, sym, ap, map, replicate, arith}
use Rattle.run_words.specs.declared.logs.Origin.{Origin}
use Rattle.run_words.specs.Runs.{copy_of}
use Rattle.sim_sched.specs.Seats.{seen, receive}
use Rattle.sim_sched.specs.Putting.{ids_of}
use Rattle.sim_sched.proofs.Receiving.{received_none, received_again, received_last, same_ids}
use Rattle.sim_sched.proofs.putting.put_parcel.Goals as goal

pub returns-in_default : goal.returns-in_default
returns-in_default g c =
    let views = map (seen g.P.Party.made g.P.Party.journal g.P.Party.shut) c.args.seats.now in
    let none : c.args.parcel.passes ≡ 0 = omega arith in
    sym (ap (λ n. map (receive (replicate n (copy_of c.args.from c.args.parcel))) views) none ∙ received_none views)

pub loop-init : goal.loop-init
loop-init g c = sym (received_none _)

pub put_copy-requires-clause-named : goal.put_copy-requires-clause-named
put_copy-requires-clause-named g c = c.requires.named ∙ sym (ap ids_of c.loop.invariant ∙ same_ids _ _)

pub loop-preserved : goal.loop-preserved
loop-preserved g c =
    let f = seen g.P.Party.made g.P.Party.journal g.P.Party.shut in
    let views = map f c.loop.seats in
    let p = c.args.parcel in
    let origin = Origin.Replica c.args.from p.time in
    received_again (map f c.args.seats.now) views (map f c.put_copy.new.seats) c.loop.counter (copy_of c.args.from p) c.loop.invariant
    (c.in_ok-put_copy.ensures
    ∙ ap (λ (load : List ℕ). map (receive ((p.to, record { origin = origin; number = p.number; load = load }) ∷ [])) views)
    c.in_ok-copy.ensures)

pub put_copy-requires-2-clause-named : goal.put_copy-requires-2-clause-named
put_copy-requires-2-clause-named g c = c.requires.named ∙ sym (ap ids_of c.loop.invariant ∙ same_ids _ _)

pub returns : goal.returns
returns g c =
    let f = seen g.P.Party.made g.P.Party.journal g.P.Party.shut in
    let last : c.args.parcel.passes ≡ c.loop.counter + 1 = omega arith in
    received_last (map f c.args.seats.now) (map f c.loop.seats) (map f c.put_copy-2.new.seats) c.loop.counter c.args.parcel.passes
    (copy_of c.args.from c.args.parcel) c.put_copy-2.result c.loop.invariant last c.put_copy-2.ensures
