-- What waits to be sent may be sent, and what is sent has a spelling.
use Rattle.std.proofs.Common.{◌≡◌, true, false, List, [], ◌∷◌, ◌++◌, map, Option, Some, None, inl, inr, refl, sym, subst}
use Rattle.std.specs.Prelude.{IsTrue}
use Rattle.fab_base.specs.Limits.{IsWithinLimits}
use Rattle.fab_base.specs.Roster.{is_replica}
use Rattle.fab_base.specs.declared.answers.Item.{Item}
use Rattle.fab_rules.specs.Diary as diaries
use Rattle.fab_rules.specs.Format.{fits}
use Rattle.fab_rules.specs.Lists.{In, first_of}
use Rattle.fab_rules.specs.Statements.{signer_of}
use Rattle.fab_machine.specs.State.{Replica}
use Rattle.fab_machine.specs.Items.{is_own}
use Rattle.fab_machine.specs.Step.{step, first}
use Rattle.fab_machine.specs.Diaries.{state_from, diary_after}
use Rattle.fab_machine.proofs.Members.{is_member}
use Rattle.fab_machine.proofs.Steps.{starts_related}
use Rattle.bft_verify.proofs.Soundness.{shaped_from_sound}
use Rattle.run_words.specs.declared.logs.Entry.{Entry}
use Rattle.run_words.specs.Journal.{Maker, event_of, state, needs_leaf, next_item, IsNext, IsMadeFrom, IsMade, AreSound}
use Rattle.run_words.specs.Lawful.{IsKeyed}
use Rattle.run_words.proofs.Sending.{Stays, stays_more, next_sound}
use Rattle.run_words.proofs.Walks.{sound_more}
use Rattle.parcel_post.specs.Posting.{IsSpelled, AreSpelled}
use Rattle.replica_log.specs.Sending.{IsSpelledIn}

-- ---- what waits

-- some diary is related to the state, and all that was heard in it is sound
record IsSteady (m : Maker) (s : Replica) : Type 0 where
  past : List diaries.Entry
  stays : Stays m s past

steady_on : (m : Maker) (s : Replica) (rest : List Entry) → IsWithinLimits m.roster → IsTrue (is_replica m.roster m.id) → AreSound m rest → IsSteady m s
    → IsSteady m (state_from m.roster m.id s (map event_of rest))
steady_on m s [] limits member sound h = h
steady_on m s (e ∷ rest) limits member sound h =
    let now = (step m.roster m.id s (event_of e)).state in
    steady_on m now rest limits member sound.1 (record {
      past = diary_after m.id s (event_of e) now h.past;
      stays = stays_more m s h.past e limits member sound.0 h.stays;
    })

steady : (m : Maker) (journal : List Entry) → IsWithinLimits m.roster → IsTrue (is_replica m.roster m.id) → AreSound m journal
    → IsSteady m (state m journal)
unfolding state
steady m journal limits member sound =
    steady_on m _ journal limits member sound (record {
      past = [];
      stays = record {
        member = is_member m.roster m.id limits member;
        related = starts_related m.roster m.id limits member;
        heard = λ x i. absurd i;
      };
    })

-- what the replica doesn't sign itself has a spelling
passed_fits : (m : Maker) (s : Replica) (item : Item) → IsSteady m s → In item s.outbox → is_own m.id (signer_of item.message) ≡ false
    → fits item.message ≡ true
passed_fits m s item h i another =
    elim (h.stays.related.facts.waits item i).from as (λ _. fits item.message ≡ true) [
      | inl own ↦ absurd cc
      | inr passed ↦ passed.1.shaped.spelled
    ]

first_in : (items : List Item) (item : Item) → first_of items ≡ Some item → In item items
first_in [] item e = absurd cc
first_in (x ∷ rest) item e = inl cc

pub first_spelled : (m : Maker) (journal : List Entry) → IsWithinLimits m.roster → IsTrue (is_replica m.roster m.id) → AreSound m journal
    → needs_leaf m.id (first (state m journal)) ≡ false → IsSpelledIn (first (state m journal))
first_spelled m journal limits member sound another = go (first (state m journal)) refl another
  where
    go : (o : Option Item) → first (state m journal) ≡ o → needs_leaf m.id o ≡ false → IsSpelledIn o
    go None e h = tt
    go (Some item) e h =
        passed_fits m (state m journal) item (steady m journal limits member sound) (first_in (state m journal).outbox item e) h

-- ---- what is sent

made_spelled : (m : Maker) (journal : List Entry) (e : Entry) → IsKeyed m → IsSteady m (state m journal) → IsNext m journal e → IsSpelled e
made_spelled m journal (Entry.Sent sent) keyed h next =
    subst (λ (x : Item). fits x.message ≡ true) (sym next.1)
    (shaped_from_sound m.roster m.ring (next_item m journal).message (next_sound m journal h.past keyed h.stays next.0)).spelled
made_spelled m journal (Entry.Heard origin x) keyed h next = tt
made_spelled m journal Entry.Proposed keyed h next = tt
made_spelled m journal Entry.Nudged keyed h next = tt
made_spelled m journal Entry.Executed keyed h next = tt
made_spelled m journal Entry.Marked keyed h next = tt
made_spelled m journal Entry.TimedOut keyed h next = tt

spelled_from : (m : Maker) (earlier rest : List Entry) → IsWithinLimits m.roster → IsTrue (is_replica m.roster m.id) → IsKeyed m
    → AreSound m earlier → IsMadeFrom m earlier rest → AreSound m rest
    → AreSpelled rest
spelled_from m earlier [] limits member keyed before made sound = tt
spelled_from m earlier (e ∷ rest) limits member keyed before made sound = (
  made_spelled m earlier e keyed (steady m earlier limits member before) made.0,
  spelled_from m (earlier ++ e ∷ []) rest limits member keyed (sound_more m earlier e before sound.0) made.1 sound.1,
)

-- what a journal's items put has a spelling
pub kept_spelled : (m : Maker) (journal : List Entry) → IsWithinLimits m.roster → IsTrue (is_replica m.roster m.id) → IsKeyed m
    → IsMade m journal → AreSound m journal
    → AreSpelled journal
kept_spelled m journal limits member keyed made sound = spelled_from m [] journal limits member keyed tt made sound
