-- Whether a run is settled, by how much was taken, by what is still and by how much patience was used.
use Rattle.std.proofs.Common.{◌≡◌, ℕ, ◌<◌, ◌≤◌, Bool, true, false, not, ◌==◌, ◌⊎◌, inl, inr, count_by, sum_by, refl, sym, ◌∙◌, arith}
use Rattle.std.specs.Prelude.{IsTrue, ◌↔◌}
use Rattle.std.specs.List.{list_all}
use Rattle.std.proofs.lemmas.Bool.Decides.{nat_tests}
use Rattle.fab_base.proofs.Tests.{at_most, is_at_most}
use Rattle.run_words.specs.Journal.{Maker}
use Rattle.run_words.specs.Lawful.{AreEach, Kept, IsAllHeard, IsIdle, IsQuiet, timed_out_in}
use Rattle.run_words.specs.declared.movers.Mover.{Mover}
use Rattle.run_words.specs.declared.logs.Trace.{Trace}
use Rattle.run_words.specs.declared.logs.Transcript.{Transcript}
use Rattle.run_worlds.specs.Scripts.{makers_of, script_rules}
use Rattle.run_worlds.specs.Endings.{IsRunOf, IsSettled}
use Rattle.fabric_audit.specs.Counts.{all_taken, all_put, are_tried}
use Rattle.fabric_audit.specs.Still.{is_still}
use Rattle.fabric_audit.proofs.Ledgers.{all_of}
use Rattle.fabric_audit.proofs.Quiet.{each_as, each_both, heard_where, taken_where}
use Rattle.fabric_audit.proofs.Stillness.{AreIdle, IsStill, sent_idle, all_idle, all_still}

abbrev pub is_all_taken : Transcript → Bool
is_all_taken t = all_taken t.traces == all_put t.script t.traces

-- no event would make an entry: Timeout is asked about where it wasn't tried
abbrev pub are_all_still : Transcript → Bool
are_all_still t = list_all (is_still t.script (not (are_tried t))) t.traces

same_number : (a b : ℕ) → (a == b) ≡ true → a ≡ b
same_number a b h = grind (arith, nat_tests)

equal : (a b : ℕ) → a ≡ b → (a == b) ≡ true
equal a b e = grind (arith, nat_tests)

absurd_test : {A : Type 0} (b : Bool) → b ≡ false → b ≡ true → A
absurd_test b f t = absurd cc

-- a Timeout that is asked about comes to nothing
abbrev IsCalm : Bool → Maker → Trace → Type 0
IsCalm timeouts m t = timeouts ≡ true → IsIdle Mover.Timeout m t

-- ---- patience

-- where no patience is left, it was used by the quiet moments that ended in timeouts
all_used : (t : Transcript) → IsRunOf t.script t → t.timeouts_left ≡ 0 → count_by (λ x. x.timed) t.moments ≡ t.script.patience
all_used t run none = let all = run.lawful.patience in omega arith

-- they came to something, or none would
tried_where : (t : Transcript) → IsRunOf t.script t → t.timeouts_left ≡ 0
    → AreEach (IsStill (not (are_tried t))) (makers_of t.script) t.traces
    → (t.script.patience ≤ sum_by timed_out_in t.traces) ⊎ AreEach (IsIdle Mover.Timeout) (makers_of t.script) t.traces
tried_where t run none still = by (are_tried t) refl still
  where
    by : (b : Bool) → are_tried t ≡ b → AreEach (IsStill (not b)) (makers_of t.script) t.traces
        → (t.script.patience ≤ sum_by timed_out_in t.traces) ⊎ AreEach (IsIdle Mover.Timeout) (makers_of t.script) t.traces
    by true e each =
        let used = all_used t run none in
        let tried = at_most (count_by (λ x. x.timed) t.moments) (sum_by timed_out_in t.traces) e in
        inl (omega arith)
    by false e each = inr (each_as (IsStill true) (IsIdle Mover.Timeout) (λ m u h. h.idle.timeout refl) (makers_of t.script) t.traces each)

timeouts_of : (t : Transcript) → IsRunOf t.script t → IsSettled t
    → AreEach (IsCalm (not (are_tried t))) (makers_of t.script) t.traces
timeouts_of t run h = by h.tried
  where
    never : {A : Type 0} (b : Bool) → b ≡ true → not b ≡ true → A
    never b e f = absurd cc

    by : (t.script.patience ≤ sum_by timed_out_in t.traces) ⊎ AreEach (IsIdle Mover.Timeout) (makers_of t.script) t.traces
        → AreEach (IsCalm (not (are_tried t))) (makers_of t.script) t.traces
    by (inl enough) =
        let used = all_used t run h.no_patience in
        let tried : are_tried t ≡ true = is_at_most (count_by (λ x. x.timed) t.moments) (sum_by timed_out_in t.traces) (omega arith) in
        each_as Kept (IsCalm (not (are_tried t))) (λ m u k f. never (are_tried t) tried f)
        (makers_of t.script) t.traces run.lawful.kept
    by (inr idle) =
        each_as (IsIdle Mover.Timeout) (IsCalm (not (are_tried t))) (λ m u i f. i) (makers_of t.script) t.traces idle

-- ---- settled

pub settled_where : (t : Transcript) → IsRunOf t.script t → t.timeouts_left ≡ 0 → is_all_taken t ≡ true → are_all_still t ≡ true → IsSettled t
settled_where t run none taken still =
    let makers = makers_of t.script in
    let each = all_idle t.script (not (are_tried t)) makers t.traces (all_of t.script) run.lawful.kept still in
    let heard = heard_where t.script t.traces run.limits run.lawful.refused run.lawful.delivered
    (same_number (all_taken t.traces) (all_put t.script t.traces) taken) in
    record {
      quiet =
          each_both (IsAllHeard (script_rules t.script) t.traces) (IsStill (not (are_tried t))) (IsQuiet (script_rules t.script) t.traces)
          (λ m u h s. record { all_heard = h; sent = s.sent; batch = s.idle.batch; execute = s.idle.execute; checkpoint = s.idle.checkpoint })
          makers t.traces heard each;
      unmoved = each_as (IsStill (not (are_tried t))) (IsIdle Mover.Nudge) (λ m u s. s.idle.nudge) makers t.traces each;
      no_patience = none;
      tried = tried_where t run none each;
    }

pub taken_of_settled : (t : Transcript) → IsRunOf t.script t → IsSettled t → is_all_taken t ≡ true
taken_of_settled t run h =
    equal (all_taken t.traces) (all_put t.script t.traces)
    (taken_where t.script t.traces run.limits run.lawful.refused
    (each_as (IsQuiet (script_rules t.script) t.traces) (IsAllHeard (script_rules t.script) t.traces) (λ m u q. q.all_heard) (makers_of t.script) t.traces h.quiet))

pub still_of_settled : (t : Transcript) → IsRunOf t.script t → IsSettled t → are_all_still t ≡ true
still_of_settled t run h =
    let makers = makers_of t.script in
    let asked = not (are_tried t) in
    let calm = timeouts_of t run h in
    all_still t.script asked makers t.traces (all_of t.script) run.lawful.kept
    (each_both (λ m u. Kept m u × IsQuiet (script_rules t.script) t.traces m u)
    (λ m u. IsIdle Mover.Nudge m u × IsCalm (not (are_tried t)) m u) (AreIdle asked)
    (λ m u a b. record {
      batch = a.1.batch;
      nudge = b.0;
      execute = a.1.execute;
      checkpoint = a.1.checkpoint;
      emit = sent_idle m u a.0 a.1.sent;
      timeout = b.1;
    })
    makers t.traces
    (each_both Kept (IsQuiet (script_rules t.script) t.traces) (λ m u. Kept m u × IsQuiet (script_rules t.script) t.traces m u)
    (λ m u k q. (k, q)) makers t.traces run.lawful.kept h.quiet)
    (each_both (IsIdle Mover.Nudge) (IsCalm (not (are_tried t)))
    (λ m u. IsIdle Mover.Nudge m u × IsCalm (not (are_tried t)) m u) (λ m u i f. (i, f)) makers t.traces h.unmoved calm))

-- ---- what is answered

-- where no patience is left and all is taken, it is settled where all is still
pub decided : (t : Transcript) → IsRunOf t.script t → t.timeouts_left ≡ 0 → (taken still : Bool) → taken ≡ is_all_taken t → taken ≡ true
    → still ≡ are_all_still t → IsTrue still ↔ IsSettled t
decided t run none taken still a b e = (λ h. settled_where t run none (sym a ∙ b) (sym e ∙ h), λ h. e ∙ still_of_settled t run h)

-- where not all is taken, it isn't
pub undelivered : (t : Transcript) → IsRunOf t.script t → (taken : Bool) → taken ≡ is_all_taken t → taken ≡ false → IsTrue taken ↔ IsSettled t
undelivered t run taken a b = (λ h. absurd_test taken b h, λ h. a ∙ taken_of_settled t run h)

-- nor where patience is left
pub impatient : (t : Transcript) → 0 < t.timeouts_left → IsTrue false ↔ IsSettled t
impatient t some = (λ h. absurd cc, λ h. absurd (none_left some h.no_patience))
  where
    none_left : {n : ℕ} → 0 < n → n ≡ 0 → ⊥
    none_left more none = omega (arith, more, none)
