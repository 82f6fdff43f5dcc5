-- What a script's run is made of (ours): its members, what each of its replicas is made with, and the rules of its one run.
use Rattle.std.specs.Prelude.{ℕ, ◌%◌, ◌^◌, ◌++◌, List, [], map, replicate}
use Rattle.std.specs.Int.{w64, to_be_bytes}
use Rattle.fab_base.specs.Limits.{Roster}
use Rattle.fab_base.specs.declared.ids.ReplicaId.{ReplicaId}
use Rattle.fab_base.specs.declared.ids.Who.TheVariants.{Replica}
use Rattle.fault_script.specs.declared.scripts.Script.{Script}
use Rattle.run_words.specs.Journal.{Maker}
use Rattle.run_words.specs.Runs.{Rules, Line}
use Rattle.fault_script.specs.declared.twists.TimeoutLine.{TimeoutLine}
use Rattle.run_worlds.specs.Troubles.{fault_of, losses_of}
use Rattle.script_keys.specs.Keys.{leaves_of, signature_of, replicas_of}
use Rattle.script_keys.specs.Rings.{ring_of}
use Rattle.script_keys.specs.Requests.{copies_of}
use Rattle.rand_chacha.specs.ChaCha.{key_of, word_at}

-- the members of a script, and its settings
abbrev pub roster_of : Script → Roster
roster_of script = record {
  sizes = script.sizes;
  homes = script.homes;
  window = script.window;
  interval = script.interval;
  batch = script.batch;
}

-- what a replica of a script is made with
abbrev pub maker_of : Script → ReplicaId → Maker
maker_of script i = record {
  id = i;
  roster = roster_of script;
  ring = ring_of script;
  losses = losses_of script;
  fault = fault_of script i;
  seconds = [];
  leaves = leaves_of script (Replica i);
  signature = signature_of script (Replica i);
}

-- by id
abbrev pub makers_of : Script → List Maker
makers_of script = map (maker_of script) (replicas_of script)

-- the generator's words, by the script's seed
abbrev pub word_in : Script → ℕ → ℕ
word_in script t = word_at 4 (key_of (to_be_bytes w64 script.seed ++ replicate 24 0)) 0 (t % 2 ^ 68)

abbrev pub line_of : Script → TimeoutLine → Line
line_of script line = record { maker = maker_of script line.replica; entries = line.entries }

-- the rules of a script's one run: its replicas, its signed requests, its timeouts, its patience, its seed's generator and its limit of
-- entries
abbrev pub script_rules : Script → Rules
script_rules script = record {
  script = script;
  makers = makers_of script;
  requests = copies_of script;
  lines = map (λ line. line_of script line) script.timeouts;
  patience = script.patience;
  word = word_in script;
  turns = script.turns;
}
