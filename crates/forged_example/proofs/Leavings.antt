-- Logs that stand leave traces that their replicas may leave.
use Rattle.std.proofs.Common.{◌≡◌, List, [], ◌∷◌, ◌++◌, refl, sym, ap, subst, ◌∙◌, false, Result, Ok, Err, IfOk}
use Rattle.lms_leaf.specs.Leaves.{Leaves}
use Rattle.replica_log.specs.Logs.{Log}
use Rattle.run_words.specs.Journal.{Maker}
use Rattle.run_words.specs.Lawful.{AreEach, Kept}
use Rattle.run_words.specs.Runs.{trace_of}
use Rattle.run_words.specs.declared.logs.Trace.{Trace}
use Rattle.forged_example.specs.Standing.{maker_in, IsStanding, AreStanding}

-- ---- one

kept_by : (m : Maker) (log : Log Leaves) (t : Trace) → t ≡ trace_of (maker_in log) log.journal [] → IsStanding m log → Kept m t
kept_by m log t e s =
    subst (λ (x : Trace). Kept m x) (sym (e ∙ ap (λ (x : Maker). trace_of x log.journal []) s.made))
    (record { named = refl; fault = refl; replays = s.replays; sound = s.sound; signed = refl; parcels = refl; unsent = refl })

pub left : {E : Type 0} (log : Log Leaves) (told : Result Trace E)
    → (log.shut ≡ false → IfOk told (λ t. t ≡ trace_of (maker_in log) log.journal []))
    → IfOk told (λ t. (m : Maker) → IsStanding m log → Kept m t)
left log (Err e) h = tt
left log (Ok t) h = λ m s. kept_by m log t (h s.is_open) s

-- ---- all

-- what stands before the last log, and the last
record IsCut (makers : List Maker) (logs : List (Log Leaves)) (log : Log Leaves) : Type 0 where
  pub front : List Maker
  pub last : Maker
  pub is : makers ≡ front ++ last ∷ []
  pub stand : AreStanding front logs
  pub stands : IsStanding last log

cut : (makers : List Maker) (logs : List (Log Leaves)) (log : Log Leaves) → AreStanding makers (logs ++ log ∷ []) → IsCut makers logs log
cut [] [] log s = absurd s
cut [] (x ∷ logs) log s = absurd s
cut (m ∷ []) [] log s = record { front = []; last = m; is = refl; stand = tt; stands = s.0 }
cut (m ∷ n ∷ makers) [] log s = absurd s.1
cut (m ∷ makers) (x ∷ logs) log s =
    let rest = cut makers logs log s.1 in
    record {
      front = m ∷ rest.front;
      last = rest.last;
      is = ap (λ (l : List Maker). m ∷ l) rest.is;
      stand = (s.0, rest.stand);
      stands = rest.stands;
    }

each_more : (makers : List Maker) (traces : List Trace) (m : Maker) (t : Trace) → AreEach Kept makers traces → Kept m t
    → AreEach Kept (makers ++ m ∷ []) (traces ++ t ∷ [])
each_more [] [] m t a k = (k, tt)
each_more [] (x ∷ traces) m t a k = absurd a
each_more (n ∷ makers) [] m t a k = absurd a
each_more (n ∷ makers) (x ∷ traces) m t a k = (a.0, each_more makers traces m t a.1 k)

pub one_more : (logs : List (Log Leaves)) (log : Log Leaves) (traces now : List Trace) (t : Trace)
    → ((makers : List Maker) → AreStanding makers logs → AreEach Kept makers traces) → ((m : Maker) → IsStanding m log → Kept m t)
    → now ≡ traces ++ t ∷ [] → (makers : List Maker) → AreStanding makers (logs ++ log ∷ []) → AreEach Kept makers now
one_more logs log traces now t all one e makers s =
    let c = cut makers logs log s in
    subst (λ (l : List Maker). AreEach Kept l now) (sym c.is)
    (subst (λ (l : List Trace). AreEach Kept (c.front ++ c.last ∷ []) l) (sym e)
    (each_more c.front traces c.last t (all c.front c.stand) (one c.last c.stands)))

pub none_left : (makers : List Maker) → AreStanding makers [] → AreEach Kept makers []
none_left [] s = tt
none_left (m ∷ makers) s = absurd s
