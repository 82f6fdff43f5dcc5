-- How certificates are stored: each under its own round and cluster. No public contract cites it.
use Rattle.std.specs.Prelude.{◌&&◌, Bool, nat_eq}
use Rattle.fab_base.specs.declared.messages.CommitCert.{CommitCert}
use Rattle.fab_machine.specs.Rounds.{round_of}
use Rattle.round_exec.specs.declared.place.Place.{Place}

abbrev pub is_keyed : Place × CommitCert → Bool
is_keyed e = nat_eq (round_of e.1) e.0.round && nat_eq e.1.cluster e.0.cluster
