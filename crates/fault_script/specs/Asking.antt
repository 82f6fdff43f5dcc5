-- What a script has its clients ask for (ours).
use Rattle.std.specs.Prelude.{ℕ, List}
use Rattle.fab_base.specs.declared.requests.Request.{Request}
use Rattle.fault_script.specs.declared.scripts.Wish.{Wish}

-- what is asked for, with this signature
abbrev pub asked : Wish → List ℕ → Request
asked wish signature = record { client = wish.client; stamp = wish.stamp; op = wish.op; sig = signature }
