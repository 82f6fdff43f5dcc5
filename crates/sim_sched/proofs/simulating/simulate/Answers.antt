use Rattle.run_words.proofs.Ending.{run_law}
use Rattle.std.proofs.Common.{◌≡◌, ◌∙◌, ap, sym, subst, List, map, length, arith, refl}
use Rattle.run_words.specs.declared.logs.Transcript.{Transcript}
use Rattle.fault_script.specs.declared.twists.TimeoutLine.{TimeoutLine}
use Rattle.rand_chacha.specs.ChaCha.{of_seed}
use Rattle.sim_sched.specs.Playing.{Played}
use Rattle.sim_sched.specs.Seats.{seen, receive, AllOpen}
use Rattle.sim_sched.specs.Whole.{rules_of, seed_bytes, IsRunBy, seat_trace}
use Rattle.sim_sched.proofs.Opening.{ready_first, schedule, put_back}
use Rattle.sim_sched.proofs.simulating.simulate.Goals as goal

pub run_seats-requires-clause-ready : goal.run_seats-requires-clause-ready
run_seats-requires-clause-ready g c =
    let f = seen g.P.Party.made g.P.Party.journal g.P.Party.shut in
    ready_first g.P.Party.made g.P.Party.journal g.P.Party.shut _ _ c.args.parties.items c.args.ids.now (map f c.deref_mut.result.now)
    c.requires.named c.requires.fresh c.requires.made
    (ap (map f) c.deref_mut.ensures.value ∙ c.in_ok-seats.ensures)

pub returns : goal.returns
returns g c =
    let made = g.P.Party.made in
    let journal = g.P.Party.journal in
    let shut = g.P.Party.shut in
    let f = seen made journal shut in
    let told : Transcript = record
    { script = c.args.script; traces = c.in_ok-traces.traces; moments = c.run_seats.new.moments; timeouts_left = c.run_seats.new.patience } in
    let v = c.deref_mut.ensures.value in
    let m = ap length v in
    let k = c.run_seats.auto.seats in
    let n : c.in_ok-seats.seats.len ≡ length c.run_seats.new.seats = omega arith in
    let back = put_back c.in_ok-seats.seats.len c.run_seats.new.seats _ n in
    let opened = subst (λ l. AllOpen (map f l)) (sym back) c.in_ok-spent.ensures.open in
    let listed : c.in_ok-lines.lines.items ≡ c.args.script.timeouts = c.in_ok-lines.ensures.items_if_clones_equal (λ x y e. e) ∙ c.as_slice.ensures in
    let played = subst (λ (l : List TimeoutLine). Played c.from-turns.result (map (receive c.args.requests.items) (map f c.deref_mut.result.now)) (of_seed (seed_bytes c.args.script.seed)) l
    c.args.script.patience c.new-moments.result c.in_ok-spent.spent (map f c.run_seats.new.seats) c.run_seats.new.patience c.run_seats.new.moments) listed c.in_ok-spent.ensures.played in
    let whole : IsRunBy c.args.script (map made c.args.parties.items) c.args.requests.items told c.in_ok-spent.spent =
    schedule made journal shut c.args.script c.args.parties.items c.args.ids.now c.args.requests.items c.from-turns.result
    (map (receive c.args.requests.items) (map f c.deref_mut.result.now)) (map f c.run_seats.new.seats) _ c.new-moments.result c.run_seats.new.moments
    c.run_seats.new.patience c.in_ok-spent.spent c.in_ok-traces.traces
    c.requires.named c.requires.apart c.requires.fresh c.from-turns.ensures
    (ap (λ l. map (receive c.args.requests.items) (map f l)) v ∙ ap (map (receive c.args.requests.items)) c.in_ok-seats.ensures)
    refl c.new-moments.ensures played
    (c.in_ok-traces.ensures opened ∙ ap (λ l. map seat_trace (map f l)) back)
    in
    record {
      schedule = whole;
      lawful = λ lines are sane. run_law (rules_of c.args.script (map made c.args.parties.items) lines c.args.requests.items) told c.in_ok-spent.spent sane (whole lines are);
    }
