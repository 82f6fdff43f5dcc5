-- What is read off a journal for its parcels, entry by entry.
use Rattle.std.specs.Prelude.{◌++◌}
use Rattle.fab_rules.specs.Spelling.{spelling_of}
use Rattle.run_words.specs.Journal.{tick}
use Rattle.run_words.specs.declared.logs.Entry.{Entry}
use Rattle.parcel_post.specs.Posting.{raised_by, numbered}
use Rattle.parcel_post.specs.declared.tracing.Walk.{Walk}

-- after an entry more: what was heard moves the clock, and what was sent is put
abbrev pub walked : Walk → Entry → Walk
walked w (Entry.Sent item) = record {
  clock = w.clock;
  numbers = raised_by w.numbers item.to;
  parcels = w.parcels ++ numbered w.numbers w.clock (spelling_of item.message) item.to;
}
walked w e = record { clock = tick w.clock e; numbers = w.numbers; parcels = w.parcels }
