-- Digests are compared byte by byte.
use Rattle.std.specs.Prelude.{Bool}
use Rattle.std.specs.Str.{bytes_eq}
use Rattle.fab_base.specs.declared.ids.Hash32.{Hash32}

abbrev pub same_digest : Hash32 → Hash32 → Bool
same_digest d e = bytes_eq d.bytes e.bytes
