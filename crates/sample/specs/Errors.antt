-- What stands against a sample, as an answer.
use Rattle.std.specs.Prelude.{ℕ}
use Rattle.written.specs.Written.{Out, refused_with}
use Rattle.verdict.specs.Refusals.{verdict_by}
use Rattle.sample.specs.declared.SampleError.{SampleError}
use Rattle.sample.specs.declared.SampleError.TheVariants.{Judged, RunLong, RunRoom}
use Rattle.sample.specs.Samples.{RUN-LONG, RUN-ROOM}

-- the refusal of what stands against a sample, with so much room
abbrev pub refused_by : SampleError → ℕ → Out
refused_by (Judged refusal) room = refused_with (verdict_by refusal).number (verdict_by refusal).place room
refused_by RunLong room = refused_with RUN-LONG 0 room
refused_by RunRoom room = refused_with RUN-ROOM 0 room
