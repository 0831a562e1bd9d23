-- Demands 1 and 2, put together from the laws of the compiler and the reader.
use Prim.Native.Nat.{ℕ, ◌≤◌}
use native.Mathlib.Omega.{arith}
use mathlib.Core.Path.{◌≡◌, ap, ◌∙◌}
use mathlib.Core.List.{List}
use lib.ListN.{length}
use Rattle.book.specs.Form.{DONE, book_of}
use Rattle.book.proofs.Decoded.{formed, well_formed}
use Rattle.plan.specs.Form.{plan_from, plan_of, AlikeButDue}
use Rattle.plan.proofs.Laws.{size_small}
use Rattle.compiler.specs.declared.Compiled.{Compiled}
use Rattle.compiler.specs.Compiles.{Compiles, size_of}
use Rattle.compiler.proofs.Unique.{marks_unique}
use Rattle.compiler.proofs.Promise.{answer_listed, size-most, room_kept, refused_clear, passed, passed_plan, passed_cell, passed_last, passed_due}
use Rattle.compiler.proofs.Promise.{conflict_tells, others_silent}
use Rattle.running.specs.Stages.{nodes_of}
use Rattle.running.proofs.Expected.{expected_next}
use Rattle.reader.specs.declared.Reading.{Reading}
use Rattle.reader.specs.Reads.{Outcome, read_of, Reads}
use Rattle.reader.proofs.Alike.{due_changes_nothing}
use Rattle.reader.proofs.Answers.{read_told, read_expects, number_listed, tree_length, refused_zero, records_counted, records_bounded}
use Rattle.reader.proofs.Settles.{read_slotless}
use Rattle.promises.specs.Promises.{CompileAnswers, ClashesTold, ReadAnswers, PlanByRules, DueTold}

pub compiled_answers : {bytes : List ℕ} {room : ℕ} {a : Compiled} {plan : List ℕ} → Compiles bytes room a plan → CompileAnswers room a plan
compiled_answers compiled =
    record { listed = answer_listed compiled; most = size-most compiled; whole = room_kept compiled; refused_zero = refused_clear compiled }

pub clashes_told : {bytes : List ℕ} {room : ℕ} {a : Compiled} {plan : List ℕ} → Compiles bytes room a plan → ClashesTold (book_of bytes) a
clashes_told compiled = record {
  conflict = λ is. (conflict_tells compiled is).1;
  lowest = λ is. (conflict_tells compiled is).0;
  kinds = λ is. (conflict_tells compiled is).2.clash_is;
  flag = λ is. let told = (conflict_tells compiled is).2 in (told.flag, told.flag_is);
  silent = others_silent compiled;
}

pub read_answers : (plan run : List ℕ) (slots room : ℕ)
    → ReadAnswers plan run slots room (read_of plan run slots room).reading (read_of plan run slots room).tree
unfolding plan_from
read_answers plan run slots room =
    let told = read_told plan run slots room in
    let kinds = read_expects plan run slots room in
    record {
      listed = number_listed told;
      whole = tree_length told;
      refused_zero = refused_zero told;
      counted = records_counted told;
      few_records = records_bounded told;
      expects = λ tells.
          let (before, is, Label-is, expected-is) = kinds.told tells in
          (before, is, Label-is, λ k. rw expected-is (expected_next (plan_of plan) (nodes_of before) k));
      expects_none = kinds.silent;
      no_slot = λ none good short. ap (λ (o : Outcome). o.reading) (read_slotless plan run slots room good short none);
    }

pub by_rules : {bytes : List ℕ} {room : ℕ} {a : Compiled} {plan : List ℕ} → Compiles bytes room a plan → a.number ≡ DONE
    → PlanByRules bytes room plan
by_rules compiled is =
    let known = passed compiled is in
    record {
      marks = known.marks;
      marked = known.marked;
      only = λ other marked. marks_unique marked known.marked;
      plan_is = known.plan_is;
      cell_is = passed_cell compiled is known.marked;
      mark_is = passed_last compiled is known.marked;
    }

pub least_due : {bytes : List ℕ} {room : ℕ} {a : Compiled} {plan : List ℕ} → Compiles bytes room a plan → a.number ≡ DONE → DueTold bytes plan
least_due {bytes} compiled is n below =
    let known = passed compiled is in
    rw (passed_due compiled is known.marked n below) (known.marked.due_is n)

pub reads_alike : {plan other run held tree held_after tree-after : List ℕ} {r : Reading} → AlikeButDue plan other
    → Reads plan run held tree r held_after tree-after → Reads other run held tree r held_after tree-after
reads_alike {run = run} {held = held} {tree = tree} alike reads =
    record { outcome_is = reads.outcome_is ∙ due_changes_nothing alike run (length held) (length tree); slots_zero = reads.slots_zero }
