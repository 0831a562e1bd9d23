-- What stands against the run of a tree, as an answer.
use Rattle.std.specs.Prelude.{ℕ}
use Rattle.written.specs.Written.{Out, refused_with}
use Rattle.verdict.specs.Refusals.{verdict_by}
use Rattle.unread.specs.declared.UnreadError.{UnreadError}
use Rattle.unread.specs.declared.UnreadError.TheVariants.{Judged, NoTree, RunLong, RunRoom}
use Rattle.unread.specs.Unreads.{TREE, RUN-LONG, RUN-ROOM}

-- the refusal of what stands against a run, with so much room
abbrev pub refused_by : UnreadError → ℕ → Out
refused_by (Judged refusal) room = refused_with (verdict_by refusal).number (verdict_by refusal).place room
refused_by (NoTree place) room = refused_with TREE place room
refused_by RunLong room = refused_with RUN-LONG 0 room
refused_by RunRoom room = refused_with RUN-ROOM 0 room
