-- What became of a replica that told ordering of its own cluster's block, and put the block's note.
use Rattle.std.proofs.Common.{◌≡◌, ℕ, ◌++◌, Bool, false, List, [], ◌∷◌, Option, Some, None, refl, sym, ap, subst, ◌∙◌}
use Rattle.std.specs.Option.{option_map}
use Rattle.fab_base.specs.declared.ids.Hash32.{Hash32}
use Rattle.fab_base.specs.declared.ids.ReplicaId.{ReplicaId}
use Rattle.fab_base.specs.declared.requests.Outcome.{Outcome}
use Rattle.fab_base.specs.declared.answers.Item.{Item}
use Rattle.fab_rules.specs.declared.blocks.Block.{Block}
use Rattle.fab_rules.specs.Ledger.{RunBlock}
use Rattle.fab_machine.specs.State.{Local}
use Rattle.fab_machine.specs.Rounds.{ran_block, outcomes_at, chain}
use Rattle.fab_machine.specs.Serving.{served}
use Rattle.fab_machine.specs.Step.{note_item, after_noting, own_block}
use Rattle.view_order.specs.Views.{Views, with_views}
use Rattle.round_exec.specs.Book.{Book}
use Rattle.cluster_talk.specs.Talking.{Talking}
use Rattle.replica_core.specs.Inside.{Assembly, AreParts, seen, with_state}

-- the state that ordering is told of a block with these outcomes
abbrev told_so : Views → Book → RunBlock → Local
told_so o b ran = served o.roster o.local b.rounds.executed ran.block.batch ran.outcomes (chain b.rounds)

-- what is seen then
abbrev seen_so : Views → Book → Talking → Local → List Item → Bool → Assembly
seen_so o b t local waiting stuck = record {
  roster = o.roster;
  me = o.me;
  state = record { local = local; changes = o.changes; rounds = b.rounds; pleading = t.pleading; askers = t.askers; outbox = waiting };
  stuck = stuck;
}

pub noted : (old : Assembly) (me : ReplicaId) (o told : Views) (b : Book) (t : Talking) (waiting more : List Item) (round : ℕ) (block : Block)
    (outcomes : List Outcome) (digest : Hash32) (item : Item) → seen o b t waiting ≡ old → AreParts me o b t → round ≡ old.state.rounds.executed
    → Some block ≡ option_map (λ (ran : RunBlock). ran.block) (ran_block b.clusters b.clients b.rounds round me.cluster)
    → Some outcomes ≡ outcomes_at b.clusters b.clients b.rounds round me.cluster
    → o.shut ≡ false → told ≡ with_views o (served o.roster o.local round block.batch outcomes digest) o.changes
    → item ≡ note_item me round (record { block = block; outcomes = outcomes }) → more ≡ waiting ++ item ∷ [] → digest ≡ chain b.rounds
    → seen told b t more ≡ with_state old (after_noting old.roster old.me old.state old.state.rounds (own_block old.roster old.me old.state.rounds))
noted old me o told b t waiting more round block outcomes digest item view parts executed block_is outcomes_is live state put joins chained =
    subst
    (λ a. round ≡ a.state.rounds.executed
    → seen told b t more ≡ with_state a (after_noting a.roster a.me a.state a.state.rounds (own_block a.roster a.me a.state.rounds)))
    view (λ last. go last (ran_block b.clusters b.clients b.rounds round me.cluster) refl block_is outcomes_is) executed
  where
    after : Option RunBlock → Assembly
    after own = with_state (seen o b t waiting) (after_noting o.roster o.me (seen o b t waiting).state b.rounds own)

    go : round ≡ b.rounds.executed → (own : Option RunBlock) → ran_block b.clusters b.clients b.rounds round me.cluster ≡ own
        → Some block ≡ option_map (λ (ran : RunBlock). ran.block) own → Some outcomes ≡ option_map (λ (ran : RunBlock). ran.outcomes) own
        → seen told b t more ≡ after (own_block o.roster o.me b.rounds)
    go last None e h k = cc
    go last (Some ran) e h k =
        let found : own_block o.roster o.me b.rounds ≡ Some ran = (cc) in
        let block_same : block ≡ ran.block = (cc) in
        let outcomes_same : outcomes ≡ ran.outcomes = (cc) in
        let local : served o.roster o.local round block.batch outcomes digest ≡ told_so o b ran =
        ap (λ n. served o.roster o.local n block.batch outcomes digest) last
        ∙ (ap (λ (x : Block). served o.roster o.local b.rounds.executed x.batch outcomes digest) block_same
        ∙ (ap (λ x. served o.roster o.local b.rounds.executed ran.block.batch x digest) outcomes_same
        ∙ ap (served o.roster o.local b.rounds.executed ran.block.batch ran.outcomes) chained)) in
        let noted_so : item ≡ note_item o.me b.rounds.executed ran =
        put ∙ (ap (λ i. note_item i round (record { block = block; outcomes = outcomes })) parts.me_is
        ∙ (ap (λ n. note_item o.me n (record { block = block; outcomes = outcomes })) last
        ∙ (ap (λ x. note_item o.me b.rounds.executed (record { block = x; outcomes = outcomes })) block_same
        ∙ ap (λ x. note_item o.me b.rounds.executed (record { block = ran.block; outcomes = x })) outcomes_same))) in
        ap (λ l. seen l b t more) state
        ∙ (ap (λ l. seen_so o b t l more false) local
        ∙ (ap (λ w. seen_so o b t (told_so o b ran) w false) (joins ∙ ap (λ x. waiting ++ x ∷ []) noted_so)
        ∙ (ap (seen_so o b t (told_so o b ran) (waiting ++ note_item o.me b.rounds.executed ran ∷ [])) (sym live) ∙ ap after (sym found))))
