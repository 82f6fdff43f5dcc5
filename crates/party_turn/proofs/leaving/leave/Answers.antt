use Rattle.turn_lock.specs.Passes.{view, first_machine, seats}
use Rattle.party_turn.proofs.Traces.{trace_is, trace_kept}
use Rattle.party_turn.proofs.leaving.leave.Goals as goal

pub returns-clause-trace : goal.returns-clause-trace
returns-clause-trace g c =
    let J = g.P.Party in
    let log = (view c.args.pass).seen in
    trace_is J.made (first_machine c.args.turn).first (seats c.args.turn) log c.close.result.first (J.journal c.close.result.party) c.into_trace.result
    c.close.ensures.made c.close.ensures.journal c.into_trace.ensures.trace

pub returns-clause-kept : goal.returns-clause-kept
returns-clause-kept g c =
    let J = g.P.Party in
    let log = (view c.args.pass).seen in
    trace_kept J.made (first_machine c.args.turn).first (seats c.args.turn) log c.into_trace.result c.close.ensures.legal
    (trace_is J.made (first_machine c.args.turn).first (seats c.args.turn) log c.close.result.first (J.journal c.close.result.party) c.into_trace.result
    c.close.ensures.made c.close.ensures.journal c.into_trace.ensures.trace)
