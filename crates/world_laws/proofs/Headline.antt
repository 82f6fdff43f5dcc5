-- The headline: what prefixes, certificates, stamps and notes come to.
use Rattle.std.proofs.Common.{◌≡◌, ℕ, ◌%◌, false, List, [], inl, inr, length, refl, sym, subst, ◌∙◌}
use Rattle.std.specs.Prelude.{IsTrue}
use Rattle.std.proofs.Math.Nat.{zero-mod}
use Rattle.fab_base.specs.Roster.{is_cluster}
use Rattle.fab_base.specs.declared.ids.Who.{Who}
use Rattle.fab_base.specs.declared.ids.Hash32.{Hash32}
use Rattle.fab_base.specs.declared.requests.Request.{Request}
use Rattle.fab_base.specs.declared.messages.NoteLine.{NoteLine}
use Rattle.fab_base.specs.declared.messages.Message.{Message}
use Rattle.fab_rules.specs.declared.blocks.Block.{Block}
use Rattle.fab_rules.specs.Lists.{In}
use Rattle.fab_rules.specs.Ledger.{start_of}
use Rattle.fab_rules.specs.Diary.{Said, ledger}
use Rattle.fab_rules.specs.Rules.{MayNote}
use Rattle.world_laws.specs.World.{World, member_of, IsWorld, AllHonest, FewFaulty, AllMade, Unforged, NoClash, OneCertificate, common_ledger, IsRepeated}
use Rattle.world_laws.specs.Safety.{IsInOrder, IsReplyOf, AllIssued, IsSafe}
use Rattle.fab_rules.proofs.Parts.{part_is_statement, request_is_part}
use Rattle.fab_rules.proofs.Runs.{in_longer_run}
use Rattle.fab_rules.proofs.Diaries.{kept}
use Rattle.world_laws.proofs.Made.{all_made}
use Rattle.world_laws.proofs.Votes.{correct_in_enough}
use Rattle.world_laws.proofs.Voting.{one_committed, one_heard}
use Rattle.world_laws.proofs.Prefixes.{Certified, ledger_in_order, certified, common_by, prefixes}
use Rattle.world_laws.proofs.Once.{run_done_once}

-- ---- the promises one by one

module _ (w : World) (honest : AllHonest w) (few : FewFaulty w) (made : AllMade w) (no_clash : NoClash w) (one : OneCertificate w) where
  -- the requests of a correct replica's ledger were issued
  block_issued : (block : Block) → Certified w block → (x : Request) → In x block.batch → w.faulty (Who.Client x.client) ≡ false
      → In (record x { sig = [] }) (w.issued x.client)
  block_issued block c x h good =
      elim c.known [
        | inl e ↦ absurd (subst (λ b. In x b) e h)
        | inr k ↦
            (let part = request_is_part k.message block.batch x k.inside h in
            made k.hearer k.correct k.message k.heard (Message.Request x) (part_is_statement k.message (Message.Request x) part refl) good)
      ]

  -- of those who repeat a note one is correct; its own ledger gave the note, and begins the common one
  replied : (cluster round : ℕ) (digest : Hash32) (lines : List NoteLine) → IsTrue (is_cluster w.roster cluster)
      → IsRepeated w cluster round digest lines → IsReplyOf w.roster (common_ledger w) cluster round digest lines
  replied cluster round digest lines is_c repeated =
      let k = correct_in_enough w few cluster is_c repeated.members repeated.enough in
      let i = member_of cluster k.index in
      let said = repeated.each k.index k.is_in k.correct in
      let at = kept w.roster i (w.diary i) (Said (Message.ReplyNote said.note)) ((honest i k.correct).rules) said.said in
      let may : MayNote w.roster i at.past said.note = at.may.note_rule in
      let here = in_longer_run (start_of w.roster) (ledger at.past) (ledger (w.diary i)) may.ran at.done may.in_run in
      record {
        ran = may.ran;
        in_run = in_longer_run (start_of w.roster) (ledger (w.diary i)) (common_ledger w) may.ran (prefixes w honest no_clash one i k.correct) here;
        round_is = may.round_is ∙ said.round_is;
        cluster_is = may.cluster_is;
        digest_is = sym said.digest_is ∙ may.digest_is;
        lines_are = sym said.lines_are ∙ may.lines_are;
      }

  pub safe : IsSafe w
  safe = record {
    prefixes = prefixes w honest no_clash one;
    in_order = common_by w (IsInOrder (length w.roster.sizes) 0) tt (λ i correct. ledger_in_order w.roster i (w.diary i) ((honest i correct).rules));
    whole = common_by w (λ blocks. length blocks % length w.roster.sizes ≡ 0) (zero-mod (length w.roster.sizes)) (λ i correct. (honest i correct).whole);
    issued = common_by w (AllIssued w) (λ block h. absurd h) (λ i correct block h. block_issued block (certified w honest i correct block h));
    once = run_done_once (start_of w.roster) (common_ledger w);
    replied = replied;
  }

-- ---- the laws

pub clusters_agree : (w : World) → IsWorld w → AllHonest w → OneCertificate w → FewFaulty w → Unforged w → NoClash w → IsSafe w
clusters_agree w world honest one few unforged no_clash = safe w honest few (all_made w world unforged) no_clash one

pub worlds_are_safe : (w : World) → IsWorld w → AllHonest w → FewFaulty w → Unforged w → NoClash w → IsSafe w
worlds_are_safe w world honest few unforged no_clash =
    let made = all_made w world unforged in
    safe w honest few made no_clash (one_heard w made (one_committed w world honest few made))
