use Rattle.std.proofs.Common.{◌≡◌, ◌++◌, ◌∷◌, [], List, length, ap, sym, subst, ◌∙◌, rules}
use Rattle.fab_rules.specs.declared.blocks.Block.{Block}
use Rattle.fab_rules.specs.Ledger.{chain_from, chain_of, state_after_blocks}
use Rattle.seq_table.specs.Holding.{state_of}
use Rattle.round_exec.specs.Done.{IsStored, AreSound, outcomes_in}
use Rattle.round_exec.proofs.Storing.{stored_more, tail_is}
use Rattle.round_exec.proofs.executed.Executed.run.Goals as goal

pub invariant_of-self-2 : goal.invariant_of-self-2
invariant_of-self-2 c =
    let z = c.self.inside.clusters in
    let clients = c.self.inside.clients in
    let blocks : List Block = c.self.inside.blocks in
    let more : List Block = c.args.more in
    let count : length more ≡ z = c.requires.whole ∙ sym (ap (λ d. d.clusters) c.self.view_is) in
    let sound : AreSound clients more = subst (λ n. AreSound n more) (sym (ap (λ d. d.clients) c.self.view_is)) c.requires.sound in
    let grown : c.append.new.self ≡ blocks ++ more = search rules in
    let tail = tail_is blocks more c.as_slice-3.result.now c.len-before.result (c.as_slice-3.ensures ∙ grown) c.len-before.ensures in
    let kept : c.reserve.new.self.items ≡ c.self.inside.outcomes.items = c.reserve.ensures.items in
    let state : state_of c.reserve_all.new.table ≡ state_of c.self.inside.table = c.reserve_all.ensures.state in
    let outcomes : c.apply_all.new.outcomes.items ≡ c.self.inside.outcomes.items ++ outcomes_in (state_of c.self.inside.table) more =
    c.apply_all.ensures.outcomes ∙ (λ i. kept i ++ outcomes_in (state i) (tail i)) in
    let after : state_of c.apply_all.new.table ≡ state_after_blocks (state_of c.self.inside.table) more =
    c.apply_all.ensures.state ∙ (λ i. state_after_blocks (state i) (tail i)) in
    let linked : c.chain_after-chain.result ≡ chain_from (chain_of blocks) more = search rules in
    let pushed : c.push.new.self.items ≡ c.self.inside.chains.items ++ c.chain_after-chain.result ∷ [] = search rules in
    let chains = pushed ∙ ap (λ x. c.self.inside.chains.items ++ x ∷ []) linked in
    let stamps = c.apply_all.ensures.clients ∙ ap (λ x. length x.stamps) state in
    subst (λ (l : List Block). IsStored z clients l c.apply_all.new.outcomes.items c.push.new.self.items c.apply_all.new.table) (sym grown)
    (stored_more z clients blocks more c.self.inside.outcomes.items c.apply_all.new.outcomes.items c.self.inside.chains.items c.push.new.self.items c.self.inside.table c.apply_all.new.table
    c.self.invariant count outcomes chains after stamps sound)
