-- Readers that demand 3 shuts out, by the rinse book of the worked table: one with a constant answer, one that judges a run by its first
-- event, and one that judges rightly and writes the records of the first event only.
use Prim.Native.Nat.{ℕ, zero, suc, ◌≤◌}
use native.Mathlib.Omega.{arith}
use mathlib.Core.Path.{◌≡◌, refl, sym, ap, ◌∙◌}
use mathlib.Core.Logic.{◌≢◌}
use mathlib.Core.List.{List, [], ◌∷◌, ◌++◌}
use lib.ListN.{length, get_or, take, drop, length-replicate}
use Rattle.words.specs.Words.{u16_at, zeros}
use Rattle.book.specs.Form.{DONE, named, settings_at, count_of, book_of}
use Rattle.compiler.specs.declared.Compiled.{Compiled}
use Rattle.compiler.specs.Compiles.{Compiles, answer}
use Rattle.running.specs.Running.{DEEP, UNEXPECTED}
use Rattle.reader.specs.declared.Reading.{Reading}
use Rattle.reader.specs.Numbers.{NO-ROOM, answered}
use Rattle.reader.specs.Reads.{Outcome, outcome, Reads, read_of}
use Rattle.worked.specs.Worked
use Rattle.worked.specs.Worked.{Each, no_more, and, rinse, table}
use Rattle.worked.proofs.Checked.{worked}
use Rattle.promises.specs.Promises.{Enough}
use Rattle.promises.proofs.More.{wider, slots_more, room_more}

first_of : {A : Type 0} {Of : A → Type 0} {x : A} {xs : List A} → Each Of (x ∷ xs) → Of x
first_of (and here later) = here

rest_of : {A : Type 0} {Of : A → Type 0} {xs : List A} (n : ℕ) → Each Of xs → Each Of (drop n xs)
rest_of zero all = all
rest_of (suc n) no_more = no_more
rest_of (suc n) (and here later) = rest_of n later

-- the plan of the rinse book, by which two runs are accepted, with other trees, and another that begins as they do is refused
record Parting : Type 0 where
  bytes : List ℕ
  plan : List ℕ
  compiled : Compiles bytes 138 (answer DONE 0 138 0 0) plan
  rinses : read_of (take 138 plan) (0 ∷ 1 ∷ 2 ∷ []) 2 8 ≡ outcome (answered DONE 3 8 0) (8 ∷ 0 ∷ 7 ∷ 6 ∷ 5 ∷ 1 ∷ 32772 ∷ 2 ∷ [])
  tips : read_of (take 138 plan) (0 ∷ 2 ∷ []) 2 8 ≡ outcome (answered DONE 2 5 0) (8 ∷ 0 ∷ 7 ∷ 32774 ∷ 2 ∷ 0 ∷ 0 ∷ 0 ∷ [])
  fills_again : read_of (take 138 plan) (0 ∷ 0 ∷ []) 2 8 ≡ outcome (answered UNEXPECTED 1 0 6) (zeros 8)
  count_is : (book_of bytes).count ≡ 9

parting : Parting
unfolding table u16_at named settings_at count_of book_of
parting =
    record {
      bytes = rinse;
      plan = Worked.plan;
      compiled = first_of worked;
      rinses = first_of (rest_of 2 worked);
      tips = first_of (rest_of 6 worked);
      fills_again = first_of (rest_of 7 worked);
      count_is = refl;
    }

-- 23 slots and room for 49 records are enough for three events by that plan
enough : (run : List ℕ) → length run ≤ 3 → Enough parting.bytes run (zeros 23) (zeros 49)
enough run short = rw (parting.count_is, length-replicate {A = ℕ} 23 0, length-replicate {A = ℕ} 49 0) (omega arith)

module _ (answers : (plan run held tree : List ℕ) → Reading) (slots trees : (plan run held tree : List ℕ) → List ℕ)
    (meets : (plan run held tree : List ℕ)
    → Reads plan run held tree (answers plan run held tree) (slots plan run held tree) (trees plan run held tree)) where
  -- what the reader answers to a run by that plan, and writes
  given : List ℕ → Reading
  given run = answers (take 138 parting.plan) run (zeros 23) (zeros 49)

  written : List ℕ → List ℕ
  written run = trees (take 138 parting.plan) run (zeros 23) (zeros 49)

  -- an answer with few slots and little room, other than DEEP and NO ROOM, is the one with these
  given_is : (run : List ℕ) {r : Reading} {t : List ℕ} → read_of (take 138 parting.plan) run 2 8 ≡ outcome r t → r.number ≢ DEEP
      → r.number ≢ NO-ROOM → outcome (given run) (written run) ≡ outcome r (t ++ zeros 41)
  unfolding given written
  given_is run {r} {t} is not-deep roomy =
      let plan = take 138 parting.plan in
      let lengths : read_of plan run (length (zeros 23)) (length (zeros 49)) ≡ read_of plan run 23 49 =
      rw (length-replicate {A = ℕ} 23 0, length-replicate {A = ℕ} 49 0) in
      let number : (read_of plan run 2 8).reading.number ≡ r.number = ap (λ (o : Outcome). o.reading.number) is in
      let slots_same : read_of plan run 2 8 ≡ read_of plan run 23 8 =
      slots_more plan run 2 8 23 (omega arith) (λ e. not-deep (sym number ∙ e)) in
      (meets plan run (zeros 23) (zeros 49)).outcome_is
      ∙ lengths
      ∙ room_more 8 49 (omega arith) plan run 23
      (λ e. roomy (sym number ∙ ap (λ (o : Outcome). o.reading.number) slots_same ∙ e))
      ∙ ap (wider 8 49) (sym slots_same ∙ is)

  -- the three runs
  rinses_is : outcome (given (0 ∷ 1 ∷ 2 ∷ [])) (written (0 ∷ 1 ∷ 2 ∷ []))
      ≡ outcome (answered DONE 3 8 0) ((8 ∷ 0 ∷ 7 ∷ 6 ∷ 5 ∷ 1 ∷ 32772 ∷ 2 ∷ []) ++ zeros 41)
  rinses_is = given_is _ parting.rinses (omega arith) (omega arith)

  tips_is : outcome (given (0 ∷ 2 ∷ [])) (written (0 ∷ 2 ∷ []))
      ≡ outcome (answered DONE 2 5 0) ((8 ∷ 0 ∷ 7 ∷ 32774 ∷ 2 ∷ 0 ∷ 0 ∷ 0 ∷ []) ++ zeros 41)
  tips_is = given_is _ parting.tips (omega arith) (omega arith)

  fills_is : outcome (given (0 ∷ 0 ∷ [])) (written (0 ∷ 0 ∷ [])) ≡ outcome (answered UNEXPECTED 1 0 6) (zeros 8 ++ zeros 41)
  fills_is = given_is _ parting.fills_again (omega arith) (omega arith)

  -- what it answers to two of them is not the same number
  parts : (given (0 ∷ 1 ∷ 2 ∷ [])).number ≡ (given (0 ∷ 0 ∷ [])).number → ⊥
  parts same =
      let number : (o : Outcome) → ℕ = λ (o : Outcome). o.reading.number in
      let differ : ◌≡◌ {A = ℕ} DONE UNEXPECTED = sym (ap number rinses_is) ∙ same ∙ ap number fills_is in
      omega arith

  -- what it writes for the two that it accepts is not the same
  trees_part : written (0 ∷ 1 ∷ 2 ∷ []) ≡ written (0 ∷ 2 ∷ []) → ⊥
  trees_part same =
      let fourth : (o : Outcome) → ℕ = λ (o : Outcome). get_or o.tree 3 0 in
      let differ : ◌≡◌ {A = ℕ} 6 32774 = sym (ap fourth rinses_is) ∙ ap (λ (t : List ℕ). get_or t 3 0) same ∙ ap fourth tips_is in
      omega arith

  pub not_constant : (constant : Reading)
      → ((bytes : List ℕ) (room : ℕ) (a : Compiled) (plan : List ℕ) → Compiles bytes room a plan → a.number ≡ DONE
      → (run held tree : List ℕ) → Enough bytes run held tree → answers (take a.size plan) run held tree ≡ constant)
      → ⊥
  unfolding given
  not_constant constant always =
      let is : (run : List ℕ) → length run ≤ 3 → given run ≡ constant =
      λ run short. always _ _ _ _ parting.compiled refl run (zeros 23) (zeros 49) (enough run short) in
      parts (ap (λ (r : Reading). r.number) (is _ (omega arith) ∙ sym (is _ (omega arith))))

  pub not_nodding : ((bytes : List ℕ) (room : ℕ) (a : Compiled) (plan : List ℕ) → Compiles bytes room a plan → a.number ≡ DONE
      → (k : ℕ) (run other held tree : List ℕ) → Enough bytes (k ∷ run) held tree → Enough bytes (k ∷ other) held tree
      → (answers (take a.size plan) (k ∷ run) held tree).number ≡ (answers (take a.size plan) (k ∷ other) held tree).number)
      → ⊥
  unfolding given
  not_nodding nods =
      parts
      (nods _ _ _ _ parting.compiled refl 0 (1 ∷ 2 ∷ []) (0 ∷ []) (zeros 23) (zeros 49) (enough (0 ∷ 1 ∷ 2 ∷ []) (omega arith))
      (enough (0 ∷ 0 ∷ []) (omega arith)))

  pub not_nodding_trees : ((bytes : List ℕ) (room : ℕ) (a : Compiled) (plan : List ℕ) → Compiles bytes room a plan → a.number ≡ DONE
      → (k : ℕ) (run other held tree : List ℕ) → Enough bytes (k ∷ run) held tree → Enough bytes (k ∷ other) held tree
      → (answers (take a.size plan) (k ∷ run) held tree).number ≡ DONE
      → (answers (take a.size plan) (k ∷ other) held tree).number ≡ DONE
      → trees (take a.size plan) (k ∷ run) held tree ≡ trees (take a.size plan) (k ∷ other) held tree)
      → ⊥
  unfolding given written
  not_nodding_trees nods =
      let number : (o : Outcome) → ℕ = λ (o : Outcome). o.reading.number in
      trees_part
      (nods _ _ _ _ parting.compiled refl 0 (1 ∷ 2 ∷ []) (2 ∷ []) (zeros 23) (zeros 49) (enough (0 ∷ 1 ∷ 2 ∷ []) (omega arith))
      (enough (0 ∷ 2 ∷ []) (omega arith)) (ap number rinses_is) (ap number tips_is))
