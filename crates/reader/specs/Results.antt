-- What the reader's steps come to, by number: how the machine stands, and where a run stops.
use Rattle.std.specs.Prelude.{ℕ, Bool, true, false}
use Rattle.std.specs.declared.result.Result.{Result}
use Rattle.std.specs.declared.result.Result.TheVariants.{Ok, Err}
use Rattle.book.specs.Form.{DONE, judged}
use Rattle.book.specs.declared.Judged.{Judged}
use Rattle.running.specs.Running.{DEEP, UNKNOWN, UNEXPECTED, END, RUNAWAY}
use Rattle.plan.specs.Errors.{judged_by}
use Rattle.reader.specs.Numbers.{LONG}
use Rattle.reader.specs.Machine.{Spot, Stop}
use Rattle.reader.specs.declared.Bar.{Bar}
use Rattle.reader.specs.declared.Bar.TheVariants as bar
use Rattle.reader.specs.declared.Refusal.{Refusal}
use Rattle.reader.specs.declared.Refusal.TheVariants.{Deep, Unknown, Unexpected, Zero, End, Runaway}
use Rattle.reader.specs.declared.Refused.{Refused}
use Rattle.reader.specs.declared.Standing.{Standing}
use Rattle.reader.specs.declared.Stopped.{Stopped}

-- the number of a refusal
abbrev pub number_of : Refusal → ℕ
number_of Deep = DEEP
number_of Unknown = UNKNOWN
number_of Unexpected = UNEXPECTED
number_of Zero = UNEXPECTED
number_of End = END
number_of Runaway = RUNAWAY

-- whether the slots still have the parts held before it: a walk writes over them
abbrev pub intact_at : Refusal → Bool
intact_at Deep = false
intact_at Unknown = true
intact_at Unexpected = true
intact_at Zero = false
intact_at End = true
intact_at Runaway = false

-- how the machine stands after an event or the end, which leaves the slots as they were or not
abbrev pub spot_of : Bool → Result Standing Refused → Spot
spot_of whole (Ok s) = record { number = DONE; intact = whole; count = s.count; written = s.written }
spot_of whole (Err r) =
    record { number = number_of r.refusal; intact = intact_at r.refusal; count = r.standing.count; written = r.standing.written }

-- where the events of a run of a length stop
abbrev pub stop_of : ℕ → Result Standing Stopped → Stop
stop_of size (Ok s) = record { number = DONE; intact = true; at = size; count = s.count; written = s.written }
stop_of size (Err e) =
    record {
      number = number_of e.refusal;
      intact = intact_at e.refusal;
      at = e.at;
      count = e.standing.count;
      written = e.standing.written;
    }

-- the number of what stands against a reading before any event, with its place
abbrev pub barred_by : Bar → Judged
barred_by (bar.Plan error) = judged_by error
barred_by bar.Long = judged LONG 0
barred_by bar.Deep = judged DEEP 0
