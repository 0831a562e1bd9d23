-- The verdict that each refusal of a book comes to.
use Rattle.book.specs.Errors.{judged_by}
use Rattle.verdict.specs.declared.Refusal.{Refusal}
use Rattle.verdict.specs.declared.Refusal.TheVariants.{Form, Unused, Barren, Conflict}
use Rattle.verdict.specs.declared.Verdict.{Verdict}
use Rattle.verdict.specs.Judges.{BARREN, CONFLICT, UNUSED, judgement}
use Rattle.verdict.specs.Conflicts.{flag}

-- the verdict of a refusal: its number and place, and of a conflict the flag and the set
abbrev pub verdict_by : Refusal → Verdict
verdict_by (Form error) = judgement (judged_by error).number (judged_by error).place 0 0
verdict_by (Unused n) = judgement UNUSED n 0 0
verdict_by (Barren n) = judgement BARREN n 0 0
verdict_by (Conflict n clash) = judgement CONFLICT n (flag clash.both) clash.kinds
