-- What is kept of a journal, an entry later.
use Rattle.std.proofs.Common.{◌≡◌, ℕ, ◌+◌, false, List, [], ◌∷◌, ◌++◌, length, sym, ap, subst, ◌∙◌, length-append}
use Rattle.fab_machine.specs.State.{Replica}
use Rattle.fab_machine.specs.Step.{step}
use Rattle.replica_core.specs.Cores.{Machine, with_state}
use Rattle.run_words.specs.declared.logs.Entry.{Entry}
use Rattle.run_words.specs.Journal.{Maker, Walk, event_of, tick, added, signed_by, walk, parcels_of, IsNext, IsHeardSound}
use Rattle.run_words.proofs.Walks.{walk_more, parcels_more, made_more, sound_more}
use Rattle.run_words.proofs.Replays.{state_more}
use Rattle.parcel_post.specs.Posting.{Counts, AreNumbers}
use Rattle.replica_log.specs.Keeping.{IsKept, core_after}

-- what an entry adds to what is kept
pub record IsMore (m : Maker) (journal : List Entry) (e : Entry) (old now : ℕ) (signed signed_now : List (List ℕ)) (counts : Counts) (made made_now : ℕ) : Type 0 where
  pub next : IsNext m journal e
  pub sound : IsHeardSound m e
  pub ticks : now ≡ tick old e
  pub signs : signed_now ≡ signed ++ signed_by m (walk m journal) e
  pub numbers : AreNumbers counts (parcels_of m journal ++ added m (walk m journal) e)
  pub makes : made_now ≡ made + length (signed_by m (walk m journal) e)

pub kept_more : (m : Maker) (journal : List Entry) (e : Entry) (old now : ℕ) (signed signed_now : List (List ℕ)) (counts counts_now : Counts) (made made_now : ℕ)
    → IsKept m journal old signed counts made → IsMore m journal e old now signed signed_now counts_now made made_now
    → IsKept m (journal ++ e ∷ []) now signed_now counts_now made_now
kept_more m journal e old now signed signed_now counts counts_now made made_now h more = record {
  limits = h.limits;
  member = h.member;
  plain = h.plain;
  alone = h.alone;
  replays = made_more m journal e h.replays more.next;
  sound = sound_more m journal e h.sound more.sound;
  clock_is = more.ticks ∙ ap (λ c. tick c e) h.clock_is ∙ sym (ap (λ (w : Walk). w.clock) (walk_more m journal e));
  signed_is = more.signs ∙ ap (λ l. l ++ signed_by m (walk m journal) e) h.signed_is ∙ sym (ap (λ (w : Walk). w.signed) (walk_more m journal e));
  numbers = subst (AreNumbers counts_now) (sym (parcels_more m journal e)) more.numbers;
  used = more.makes ∙ ap (λ n. n + length (signed_by m (walk m journal) e)) h.used
      ∙ sym (ap length more.signs ∙ length-append signed (signed_by m (walk m journal) e));
  keyed = h.keyed;
}

-- the core, too
pub core_more : (m : Maker) (journal : List Entry) (e : Entry) (core : Machine) → core ≡ core_after m journal
    → with_state core (step core.roster core.me core.state (event_of e)).state ≡ core_after m (journal ++ e ∷ [])
core_more m journal e core h =
    let made : Replica → Machine = λ s. record { roster = m.roster; me = m.id; state = s; shut = false } in
    ap (λ (c : Machine). with_state c (step c.roster c.me c.state (event_of e)).state) h ∙ ap made (sym (state_more m journal e))
