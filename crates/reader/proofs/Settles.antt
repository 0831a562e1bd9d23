-- A run's end, settled, is the outcome of reading.
use mathlib.Core.Path.{◌≡◌, refl, sym, ap, ap₂, ◌∙◌}
use mathlib.Core.Bool.{Bool, true, false, cond}
use mathlib.Core.List.{List, ◌++◌, append-nil}
use Prim.Native.Nat.{ℕ, ◌+◌, ◌-◌, ◌≤◌, ◌<◌}
use native.Mathlib.Nat.{zero-add}
use native.Mathlib.Omega.{arith}
use borrow.Author.Tests.{leb-true, le-leb, lt-leb, lt-ltb, eq-eqb, ne_eqb}
use borrow.Rule.Slice.PartMut.{mid_of, put_mid, mid_len, Post-is}
use lib.Dec.{leb}
use lib.ListN.{length, take, drop}
use lib.Seq.{sets, sets-eq, length-sets, take_at, drop-length}
use Rattle.words.specs.Words.{zeros}
use Rattle.book.specs.Form.{DONE}
use Rattle.running.specs.Running.{Plan, AnswerOf, DEEP}
use Rattle.running.specs.Stages.{Part}
use Rattle.book.specs.declared.Judged.{Judged}
use Rattle.plan.specs.Errors.{judged_by}
use Rattle.plan.specs.Form.{plan_judged}
use Rattle.plan.specs.declared.PlanError.{PlanError}
use Rattle.plan.specs.declared.PlanError.TheVariants.{Form, Cell}
use Rattle.reader.specs.declared.Reading.{Reading}
use Rattle.reader.specs.Numbers.{LONG, NO-ROOM, answered}
use Rattle.reader.specs.Reads.{Outcome, outcome, bare, accepted_of, outcome_of, run_of, read_of}
use Rattle.reader.specs.Settled.{settled_of}
use Rattle.reader.proofs.Runs.{SameRun, as_accepted, as_stopped}

-- what is left of a tree's room, cleared
pub rest_cleared : (tree rest : List ℕ) (n : ℕ) → n ≤ length tree → rest ≡ zeros (length (mid_of n (length tree - n) tree))
    → put_mid n (length tree - n) tree rest ≡ take n tree ++ zeros (length tree - n)
rest_cleared tree rest n within is =
    ap (λ (l : List ℕ). take n tree ++ l)
    (ap₂ ◌++◌ (is ∙ ap zeros (mid_len n (length tree) tree (omega arith))) (Post-is n (length tree) tree within ∙ drop-length tree)
    ∙ append-nil (zeros (length tree - n)))

-- an answer settled, by each test, with the tree as it is left
module _ (answer : Reading) (tree : List ℕ) {left : List ℕ} where
  pub settled-refused : (answer.number ≡ DONE → ⊥) → left ≡ zeros (length tree) → outcome answer left ≡ settled_of answer tree
  unfolding settled_of
  settled-refused not cleared = rw (cleared, ne_eqb answer.number DONE not) refl

  pub settled_full : answer.number ≡ DONE → length tree < answer.records → left ≡ zeros (length tree)
      → outcome (answered NO-ROOM 0 answer.records 0) left ≡ settled_of answer tree
  unfolding settled_of
  settled_full is full cleared = rw (cleared, eq-eqb answer.number DONE is, lt-leb answer.records (length tree) full) refl

  pub settled_fits : answer.number ≡ DONE → answer.records ≤ length tree
      → left ≡ zeros (length (mid_of answer.records (length tree - answer.records) tree))
      → outcome answer (put_mid answer.records (length tree - answer.records) tree left) ≡ settled_of answer tree
  unfolding settled_of
  settled_fits is fits cleared =
      rw (rest_cleared tree left answer.records fits cleared, eq-eqb answer.number DONE is)
      (rw (le-leb answer.records (length tree) fits) refl)

-- what stands against a plan has a number that is not DONE
not_done : (error : PlanError) → (judged_by error).number ≡ DONE → ⊥
not_done Form is = omega arith
not_done (Cell place) is = omega arith

-- a reading, by each test
module _ (plan run : List ℕ) (slots room : ℕ) where
  pub read_form : ((plan_judged plan).number ≡ DONE → ⊥)
      → read_of plan run slots room ≡ bare room (answered (plan_judged plan).number (plan_judged plan).place 0 0)
  unfolding read_of
  read_form not = rw (ne_eqb (plan_judged plan).number DONE not)

  pub read_barred : (error : PlanError) → plan_judged plan ≡ judged_by error
      → read_of plan run slots room ≡ bare room (answered (judged_by error).number (judged_by error).place 0 0)
  read_barred error is =
      read_form (λ done. not_done error (ap (λ (j : Judged). j.number) (sym is) ∙ done))
      ∙ ap (λ (j : Judged). bare room (answered j.number j.place 0 0)) is

  module _ (good : (plan_judged plan).number ≡ DONE) where
    pub read_long : 65535 < length run → read_of plan run slots room ≡ bare room (answered LONG 0 0 0)
    unfolding read_of
    read_long long = rw (eq-eqb (plan_judged plan).number DONE good, lt-leb (length run) 65535 long)

    module _ (short : length run ≤ 65535) where
      pub read_slotless : slots ≡ 0 → read_of plan run slots room ≡ bare room (answered DEEP 0 0 0)
      unfolding read_of
      read_slotless none = rw (eq-eqb (plan_judged plan).number DONE good, le-leb (length run) 65535 short, none)

      pub read_runs : 0 < slots → read_of plan run slots room ≡ run_of plan run slots room
      unfolding read_of
      read_runs some = rw (eq-eqb (plan_judged plan).number DONE good, le-leb (length run) 65535 short, lt-ltb 0 slots some)

-- records that fit are the front of the tree that they are stored in
front : (tree records : List ℕ) → length records ≤ length tree → take (length records) (sets tree 0 records) ≡ records
front tree records fits =
    let within : 0 + length records ≤ length tree = omega arith in
    ap (take (length records)) (sets-eq records tree 0 within) ∙ take_at records (drop (0 + length records) tree) (length records) refl

module _ (p : Plan) where
  pub settled_same : {tree : List ℕ} {size : ℕ} {answer : AnswerOf Part} {e : Outcome} → length e.tree ≡ length tree
      → SameRun p tree 0 size answer e
      → settled_of e.reading e.tree ≡ outcome_of p size (length tree) answer
  unfolding settled_of outcome_of accepted_of
  settled_same {tree} {size} room (as_accepted records reads stored) =
      rw (reads, zero-add (length records), stored, length-sets tree 0 records) (by_room (leb (length records) (length tree)) refl)
    where
      done : List ℕ → Outcome
      done l = outcome (answered DONE size (length records) 0) (l ++ zeros (length tree - length records))

      full : Outcome
      full = bare (length tree) (answered NO-ROOM 0 (length records) 0)

      by_room : (fits : Bool) → leb (length records) (length tree) ≡ fits
          → cond fits (done (take (length records) (sets tree 0 records))) full ≡ cond fits (done records) full
      by_room true e = rw (front tree records (leb-true _ _ e)) refl
      by_room false e = refl
  settled_same room (as_stopped {number = number} some e) = rw (e, room, ne_eqb number DONE (λ none. omega arith))
