-- What stands inside a message.
use Rattle.std.specs.Prelude.{List, drop}
use Rattle.fab_base.specs.declared.messages.Message.{Message}
use Rattle.fab_rules.specs.Statements.{parts_of}

-- its parts without the message itself
abbrev pub parts_inside : Message → List Message
parts_inside m = drop 1 (parts_of m)
