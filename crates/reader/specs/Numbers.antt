-- A reading's answer, and the numbers 10 and 16; 0, 8 and 9 are named where books and plans are tested, 11 to 15 where
-- a plan is run.
use Rattle.std.specs.Prelude.{ℕ, cond}
use Rattle.running.specs.Running.{tells}
use Rattle.reader.specs.declared.Reading.{Reading}

abbrev pub LONG : ℕ
LONG = 10

abbrev pub NO-ROOM : ℕ
NO-ROOM = 16

-- an answer outside any stage: number, place, records, expected kinds
abbrev pub answered : ℕ → ℕ → ℕ → ℕ → Reading
answered number place records expected =
    record { number = number; place = place; records = records; label = 0; expected = expected }

-- a refusal at a place in a stage, by its label, where these kinds were expected
abbrev pub told : ℕ → ℕ → ℕ → ℕ → Reading
told number place label kinds =
    record { number = number; place = place; records = 0; label = label; expected = kinds }

-- any refusal at a place: stage and kinds are answered where the number tells them
abbrev pub refusal : ℕ → ℕ → ℕ → ℕ → Reading
refusal number place label kinds = told number place (cond (tells number) label 0) (cond (tells number) kinds 0)
