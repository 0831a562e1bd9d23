-- Laws of what is written for answers.
use Prim.Native.Nat.{ℕ, ◌≤◌}
use mathlib.Core.Path.{◌≡◌, ap, ap₂, ◌∙◌}
use mathlib.Core.Logic.{◌≢◌}
use mathlib.Core.List.{List}
use lib.ListN.{length, take}
use borrow.Author.Tests.{eq-eqb, ne_eqb}
use Rattle.book.specs.Form.{DONE}
use Rattle.reader.specs.declared.Reading.{Reading}
use Rattle.reader.specs.Reads.{Reads, Outcome, outcome, read_of}
use Rattle.reader.proofs.Answers.{read_told, records_fit}
use Rattle.lines.specs.Lines.{accepted_lines, refused_line}
use Rattle.listed.specs.Listing.{slot_room, tree_room, third_of, reading_lines}

module _ (events : ℕ) (answer : Reading) (tree : List ℕ) where
  -- the lines of a run that was accepted
  pub lines_accepted : answer.number ≡ DONE
      → reading_lines events (outcome answer tree) ≡ accepted_lines events answer.records (take answer.records tree)
  unfolding reading_lines
  lines_accepted done = rw (eq-eqb answer.number DONE done)

  -- the line of a run that was refused
  pub lines_refused : answer.number ≢ DONE
      → reading_lines events (outcome answer tree) ≡ refused_line answer.number answer.place (third_of answer)
  unfolding reading_lines
  lines_refused refused = rw (ne_eqb answer.number DONE refused)

module _ (plan run tree : List ℕ) {held held_after tree-after : List ℕ} {answer : Reading}
    (read : Reads plan run held tree answer held_after tree-after) where
  pub records_within : answer.number ≡ DONE → answer.records ≤ length tree
  records_within done =
      let same = read.outcome_is in
      rw (ap (λ (o : Outcome). o.reading.records) same)
      (records_fit (read_told plan run (length held) (length tree)) (rw (ap (λ (o : Outcome). o.reading.number) same) at done))

  pub read_is : length held ≡ slot_room → length tree ≡ tree_room → outcome answer tree-after ≡ read_of plan run slot_room tree_room
  read_is slots room = read.outcome_is ∙ ap₂ (read_of plan run) slots room
