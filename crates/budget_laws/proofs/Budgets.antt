-- The one run of a script whose keys and turns are enough ends done.
use Rattle.std.proofs.Common.{◌≡◌, ℕ, ◌+◌, ◌*◌, ◌≤◌, Bool, true, false, cond, not, nat_le, List, [], ◌∷◌, length, sum, Option, Some, None, ◌⊎◌, inl, inr, refl, ap, subst, ◌∙◌, arith}
use Rattle.std.specs.Prelude.{slice_index}
use Rattle.std.specs.List.{find}
use Rattle.std.proofs.Math.Nat.{mul_assoc, mul-le-mul_left, mul-le-mul_right, one-mul, mul-one}
use Rattle.fab_base.specs.Roster.{size_of}
use Rattle.fab_base.proofs.Tests.{and_both, is_at_most}
use Rattle.fab_rules.specs.Lists.{In}
use Rattle.fault_script.specs.declared.scripts.Script.{Script}
use Rattle.fault_script.specs.declared.scripts.Wish.{Wish}
use Rattle.fault_script.specs.Scripts.{keeps_limits}
use Rattle.run_words.specs.Lawful.{entries_of}
use Rattle.run_words.specs.Runs.{IsSchedule}
use Rattle.run_words.specs.declared.ends.End.{End}
use Rattle.run_words.specs.declared.ends.Evidence.{Evidence}
use Rattle.run_words.specs.declared.logs.Transcript.{Transcript}
use Rattle.run_worlds.specs.Scripts.{roster_of, script_rules}
use Rattle.run_worlds.specs.Sights.{first_evidence}
use Rattle.run_worlds.specs.Endings.{is_effective, first_missing, IsRunOf, IsEnd, IsEndBy}
use Rattle.run_worlds.proofs.RunLogs.{logs_of}
use Rattle.audit_laws.proofs.Evidence.{clean_run}
use Rattle.audit_laws.proofs.Premises.{is_world}
use Rattle.run_laws.proofs.Unforged.{no_signer_named}
use Rattle.plain_laws.specs.Plain.{IsClash, HasSpent, HasTimedOut, HasCause}
use Rattle.plain_laws.proofs.Ends.{ends, one_cluster}
use Rattle.budget_laws.specs.Budgets.{rounds_of, replicas_in, FitsScript, BudgetLaw}
use Rattle.budget_laws.specs.Opened.{slots_opened}
use Rattle.budget_laws.proofs.Entries.{few_entries}
use Rattle.plain_laws.proofs.Prefixes.{at_step, run_of, told_ended}
use Rattle.budget_laws.proofs.Rounds.{leaves_are, untimed_at, rounds_few}
use Rattle.budget_laws.proofs.Voicing.{spent_opened}

-- ---- numbers

scale : (c m n : ℕ) → c * m * n * n ≡ c * (m * n * n)
scale c m n = ap (λ x. x * n) (mul_assoc c m n) ∙ mul_assoc c (m * n) n

-- so many entries are fewer than those that are allowed
few_entries_then : (m rounds n : ℕ) → m ≤ rounds → 1 ≤ rounds → 1 ≤ n → 11 * m * n + 5 * m * n * n + 1 ≤ 32 * rounds * n * n
few_entries_then m rounds n few some member =
    let all : m * n ≤ rounds * n = mul-le-mul_right n few in
    let squares : m * n * n ≤ rounds * n * n = mul-le-mul_right n all in
    let wide : rounds * n * 1 ≤ rounds * n * n = mul-le-mul_left (rounds * n) member in
    let one_by : 1 * n ≤ rounds * n = mul-le-mul_right n some in
    omega (arith, all, squares, wide, one_by, one-mul n, mul-one (rounds * n), mul_assoc 11 m n, scale 5 m n, scale 32 rounds n, member)

one_size : (sizes : List ℕ) → length sizes ≡ 1 → sum sizes ≡ slice_index sizes 0
one_size [] e = absurd (omega (arith, e))
one_size (x ∷ []) e = omega arith
one_size (x ∷ y ∷ rest) e = absurd (omega (arith, e))

found_in : {X : Type 0} (p : X → Bool) (xs : List X) (x : X) → find p xs ≡ Some x → In x xs
found_in p [] x e = absurd cc
found_in p (y ∷ xs) x e = go (p y) (found_in p xs x) e
  where
    go : (b : Bool) → (find p xs ≡ Some x → In x xs) → cond b (Some y) (find p xs) ≡ Some x → In x (y ∷ xs)
    go true later q = inl (let same : y ≡ x = cc in same)
    go false later q = inr (later q)

-- a run of one cluster without evidence has neither cause
module _ (script : Script) (limits : keeps_limits script ≡ true) (lines : script.timeouts ≡ []) (fits : FitsScript script) (n : ℕ) (one : length script.sizes ≡ 1)
    (clean : first_evidence (at_step script n) ≡ None) where
  abbrev t : Transcript
  t = at_step script n

  run : IsRunOf script (at_step script n)
  run = run_of script n limits

  peopled : 1 ≤ size_of (roster_of script) 1
  peopled = (is_world t (logs_of t run)).peopled 1 (and_both (nat_le 1 1) (nat_le 1 (length script.sizes)) refl (is_at_most 1 (length script.sizes) (omega (arith, one))))

  untimed : HasTimedOut (at_step script n) → ⊥
  untimed = untimed_at script limits one peopled lines fits.leaves n (clean_run t (logs_of t run) clean).1

  opened : length (slots_opened (at_step script n)) ≤ rounds_of script
  opened = rounds_few script limits one peopled lines fits.leaves n (clean_run t (logs_of t run) clean).1

  unspent : HasSpent (at_step script n) → ⊥
  unspent spent =
      let upto = spent_opened t (omega (arith, one)) run untimed spent in
      omega (arith, upto, opened, leaves_are script spent.trace.id limits, fits.leaves)

  unended : script.turns ≤ entries_of (at_step script n) → ⊥
  unended over =
      let m = length (slots_opened t) in
      let members = size_of (roster_of script) 1 in
      let upto : entries_of t ≤ 11 * m * members + 5 * m * members * members + members * length script.requests = few_entries t one run untimed in
      let less = few_entries_then m (rounds_of script) members opened (omega arith) peopled in
      let same : replicas_in script ≡ members = one_size script.sizes one in
      let turns = fits.turns in
      let at : 32 * rounds_of script * members * members + members * length script.requests ≤ script.turns =
      subst (λ k. 32 * rounds_of script * k * k + k * length script.requests ≤ script.turns) same fits.turns in
      omega (arith, over, upto, less, at)

  no_cause : (end : End) → HasCause script (at_step script n) end → IsClash end
  no_cause end (inl spent) = absurd (unspent spent)
  no_cause end (inr (inl over)) = absurd (unended over)
  no_cause end (inr (inr clash)) = clash

-- a request that is missing has a cluster for its home
missing_one : (t : Transcript) (end : End) → length t.script.sizes ≤ 1 → IsRunOf t.script t → (end ≡ End.Done → ⊥) → (w : Option Wish) → first_missing t ≡ w
    → IsEndBy t end w → length t.script.sizes ≡ 1
missing_one t end few lawful other (Some w) e h = one_cluster t few lawful w (found_in (λ wish. not (is_effective t wish)) t.script.requests w e)
missing_one t End.Done few lawful other None e h = absurd (other refl)
missing_one t (End.Stalled client stamp) few lawful other None e h = absurd h
missing_one t (End.Spent count) few lawful other None e h = absurd h
missing_one t (End.Broken evidence) few lawful other None e h = absurd h

by_end : (script : Script) (n : ℕ) (spent : Bool) (end : End) → length script.sizes ≤ 1 → keeps_limits script ≡ true → script.timeouts ≡ [] → FitsScript script
    → IsSchedule (script_rules script) (at_step script n) spent → IsEnd (at_step script n) end → (end ≡ End.Done) ⊎ IsClash end
by_end script n spent End.Done few limits lines fits schedule h = inl refl
by_end script n spent (End.Broken (Evidence.Clash digest a b)) few limits lines fits schedule h = inr tt
by_end script n spent (End.Broken (Evidence.Forged i place signer)) few limits lines fits schedule h =
    absurd (no_signer_named script (at_step script n) (run_of script n limits) i place signer h)
by_end script n spent (End.Stalled client stamp) few limits lines fits schedule h =
    let one = missing_one (at_step script n) (End.Stalled client stamp) few (run_of script n limits) (λ e. cc) (first_missing (at_step script n)) refl h.1 in
    elim (ends script (at_step script n) spent (End.Stalled client stamp) few limits lines schedule h) [
      | inl done ↦ inl done
      | inr cause ↦ inr (no_cause script limits lines fits n one h.0 (End.Stalled client stamp) cause)
    ]
by_end script n spent (End.Spent count) few limits lines fits schedule h =
    let one = missing_one (at_step script n) (End.Spent count) few (run_of script n limits) (λ e. cc) (first_missing (at_step script n)) refl h.1 in
    elim (ends script (at_step script n) spent (End.Spent count) few limits lines schedule h) [
      | inl done ↦ inl done
      | inr cause ↦ inr (no_cause script limits lines fits n one h.0 (End.Spent count) cause)
    ]

pub within_budget : BudgetLaw
within_budget script t spent end few limits lines fits schedule h =
    let is : t ≡ at_step script schedule.0 = schedule.2 ∙ told_ended script schedule.0 spent schedule.1 in
    by_end script schedule.0 spent end few limits lines fits
    (subst (λ x. IsSchedule (script_rules script) x spent) is schedule) (subst (λ x. IsEnd x end) is h)
