-- A run that can't be one of correct replicas: in a cluster of four, 1.1 heard a Prepare under the name of 1.2, who signed nothing.
use Rattle.std.specs.Prelude.{ℕ, List, [], ◌∷◌, None, replicate}
use Rattle.fab_base.specs.declared.ids.ReplicaId.{ReplicaId}
use Rattle.fab_base.specs.declared.ids.Who.{Who}
use Rattle.fab_base.specs.declared.messages.Message.{Message}
use Rattle.fault_script.specs.declared.scripts.Script.{Script}
use Rattle.run_words.specs.declared.ends.Evidence.{Evidence}
use Rattle.run_words.specs.declared.logs.Origin.{Origin}
use Rattle.run_words.specs.declared.logs.Entry.{Entry}
use Rattle.run_words.specs.declared.logs.Trace.{Trace}
use Rattle.run_words.specs.declared.logs.Transcript.{Transcript}

abbrev pub member : ℕ → ReplicaId
member index = record { cluster = 1; index = index }

-- a Prepare of 1.2, with whatever signature
abbrev pub prepare_with : List ℕ → Message
prepare_with sig =
    Message.Prepare (record { signer = member 2; view = 0; slot = 1; digest = record { bytes = replicate 32 7 }; sig = sig })

-- what a replica leaves behind that signed nothing
abbrev pub trace_with : ℕ → List Entry → Trace
trace_with index journal = record {
  id = member index;
  fault = None;
  journal = journal;
  signed = [];
  parcels = [];
  refused = [];
  unsent = 0;
}

-- four replicas, and nobody asks
abbrev pub four_alone : Script
four_alone = record { sizes = 4 ∷ []; homes = []; requests = []; timeouts = []; batch = 8; window = 16; interval = 8; seed = 0; turns = 100000; patience = 10; height = 5 }

abbrev pub broken_run : List ℕ → Transcript
broken_run sig = record {
  script = four_alone;
  traces =
      trace_with 0 [] ∷ trace_with 1 (Entry.Heard (Origin.Replica (member 2) 0) (prepare_with sig) ∷ []) ∷ trace_with 2 [] ∷ trace_with 3 [] ∷ [];
  moments = [];
  timeouts_left = 0;
}

-- by 1.1, at place 0, under the name of 1.2
abbrev pub forgery : Evidence
forgery = Evidence.Forged (member 1) 0 (Who.Replica (member 2))
