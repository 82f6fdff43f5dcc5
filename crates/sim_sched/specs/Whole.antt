-- The whole call.
use Rattle.std.specs.Prelude.{◌≡◌, ℕ, ◌≤◌, Bool, true, false, List, [], ◌∷◌, ◌++◌, replicate}
use Rattle.std.specs.Int.{w64, to_be_bytes}
use Rattle.fab_base.specs.Limits.{Roster}
use Rattle.fab_base.specs.declared.ids.ReplicaId.{ReplicaId}
use Rattle.fault_script.specs.declared.scripts.Script.{Script}
use Rattle.bft_verify.specs.Ring.{Ring}
use Rattle.run_words.specs.Journal.{Maker}
use Rattle.run_words.specs.Runs.{Rules, Line, IsSchedule, trace_of}
use Rattle.run_words.specs.Lawful.{Sane, Lawful, Settled, entries_of}
use Rattle.run_words.specs.declared.logs.Transcript.{Transcript}
use Rattle.run_words.specs.declared.logs.Entry.{Entry}
use Rattle.run_words.specs.declared.logs.Pending.{Pending}
use Rattle.run_words.specs.declared.logs.Trace.{Trace}
use Rattle.rand_chacha.specs.ChaCha.{key_of}
use Rattle.copy_reader.specs.Reading.{IsMadeWith}
use Rattle.sim_sched.specs.Seats.{SeatView}
use Rattle.sim_sched.specs.Simulating.{word_of, AreLines}

-- the generator's key: the script's seed, and zeros
abbrev pub seed_bytes : ℕ → List ℕ
seed_bytes seed = to_be_bytes w64 seed ++ replicate 24 0

-- the rules of a run of a script with these lines: its patience, the generator's words and the limit of entries are the script's
abbrev pub rules_of : Script → List Maker → List Line → List (ReplicaId × Pending) → Rules
rules_of script makers lines requests = record {
  script = script;
  makers = makers;
  requests = requests;
  lines = lines;
  patience = script.patience;
  word = word_of (key_of (seed_bytes script.seed));
  turns = script.turns;
}

-- parties that have done nothing yet
abbrev pub AreFresh : {P : Type 0} → (P → List Entry) → (P → Bool) → List P → Type 0
AreFresh journal shut [] = Unit {0}
AreFresh journal shut (p ∷ rest) = ((journal p ≡ []) × (shut p ≡ false)) × AreFresh journal shut rest

-- parties that were made with these members and keys
abbrev pub AreMadeWith : {P : Type 0} → (P → Maker) → Roster → Ring → List P → Type 0
AreMadeWith made members ring [] = Unit {0}
AreMadeWith made members ring (p ∷ rest) = IsMadeWith members ring (made p) × AreMadeWith made members ring rest

abbrev pub empty_seat : {P : Type 0} → (P → Maker) → (P → List Entry) → (P → Bool) → P → SeatView
empty_seat made journal shut p = record { maker = made p; journal = journal p; shut = shut p; way = []; turned = [] }

abbrev pub seat_trace : SeatView → Trace
seat_trace s = trace_of s.maker s.journal s.turned

-- with sane rules a run is lawful; it is settled where it wasn't cut off, and has as many entries as are allowed where it was
abbrev pub IsLawfulRun : Rules → Transcript → Bool → Type 0
IsLawfulRun r t spent = Sane r → Lawful r t × (spent ≡ false → Settled r t) × (spent ≡ true → r.turns ≤ entries_of t)

-- for whatever lines are those of the script's timeouts: the transcript is that of the one run, which is lawful
abbrev pub IsRunBy : Script → List Maker → List (ReplicaId × Pending) → Transcript → Bool → Type 0
IsRunBy script makers requests t spent =
    (lines : List Line) → AreLines makers script.timeouts lines → IsSchedule (rules_of script makers lines requests) t spent

abbrev pub IsLawfulBy : Script → List Maker → List (ReplicaId × Pending) → Transcript → Bool → Type 0
IsLawfulBy script makers requests t spent =
    (lines : List Line) → AreLines makers script.timeouts lines → IsLawfulRun (rules_of script makers lines requests) t spent
