-- Copies, counted: those that replicas took, and those that were put to them. Timeouts, counted.
use Rattle.std.specs.Prelude.{ℕ, ◌+◌, nat_le, Bool, true, false, cond, List, length}
use Rattle.std.specs.List.{sum_by, count_by}
use Rattle.fab_base.specs.Limits.{Roster}
use Rattle.fab_base.specs.Roster.{is_replica, home_of, size_of}
use Rattle.fault_script.specs.declared.scripts.Script.{Script}
use Rattle.fault_script.specs.declared.scripts.Wish.{Wish}
use Rattle.run_words.specs.Lawful.{timed_out_in}
use Rattle.run_words.specs.declared.logs.Entry.{Entry}
use Rattle.run_words.specs.declared.logs.Parcel.{Parcel}
use Rattle.run_words.specs.declared.logs.Trace.{Trace}
use Rattle.run_words.specs.declared.logs.Transcript.{Transcript}
use Rattle.run_worlds.specs.Scripts.{roster_of}

-- the entry is of a message that was heard
abbrev pub is_heard : Entry → Bool
is_heard (Entry.Heard origin x) = true
is_heard e = false

-- the copies that a replica heard or refused
abbrev pub taken_by : Trace → ℕ
taken_by t = count_by is_heard t.journal + length t.refused

-- the copies of a parcel that came to a member: as often as it passes
abbrev pub put_by : Roster → Parcel → ℕ
put_by r q = cond (is_replica r q.to) q.passes 0

-- those of its parcels
abbrev pub sent_by : Roster → Trace → ℕ
sent_by r t = sum_by (put_by r) t.parcels

-- the copies of a request: one for each replica of its client's home
abbrev pub copies_for : Roster → Wish → ℕ
copies_for r wish = size_of r (home_of r wish.client)

-- ---- of a whole run

abbrev pub all_taken : List Trace → ℕ
all_taken traces = sum_by taken_by traces

abbrev pub all_put : Script → List Trace → ℕ
all_put script traces =
    sum_by (copies_for (roster_of script)) script.requests + sum_by (sent_by (roster_of script)) traces

-- as many timeouts came to something as quiet moments ended in them, or more
abbrev pub are_tried : Transcript → Bool
are_tried t = nat_le (count_by (λ x. x.timed) t.moments) (sum_by timed_out_in t.traces)
