-- The events of a run on slots and a tree come to where reading them event by event comes, and the end to its answer.
use mathlib.Core.Path.{◌≡◌, refl, sym, ap, ◌∙◌}
use mathlib.Core.Bool.{Bool, true, false, cond}
use mathlib.Core.List.{List, [], ◌∷◌, ◌++◌}
use Prim.Native.Nat.{ℕ, zero, suc, ◌+◌, ◌≤◌, ◌<◌}
use native.Mathlib.Nat.{add-zero, zero-add}
use native.Mathlib.Numerals.{add-one}
use native.Mathlib.Omega.{arith}
use borrow.Author.Tests.{ne_eqb}
use lib.Dec.{ltb, eqb}
use lib.ListN.{length, get_or, set, length-append}
use lib.Seq.{sets}
use Rattle.book.specs.Form.{DONE}
use Rattle.running.specs.Running.{Plan, with_slots, emptied, StepOf, expected, AnswerOf, accepted, stopped, logged}
use Rattle.running.specs.Running.{DEEP, UNKNOWN, END, RUNAWAY}
use Rattle.running.specs.Stages.{Part, staged_event, staged_finish, stage_of, nodes_of}
use Rattle.reader.specs.Numbers.{answered, told, refusal}
use Rattle.reader.specs.Reads.{Outcome, outcome}
use Rattle.reader.specs.Machine.{After, SlotsHold, Passed, stands, node_in, stack, take_of, event_of, on_of, pass_of, finish_of, close_of}
use Rattle.reader.specs.Steps.{Progress, going, over, advanced, step, steps}
use Rattle.reader.proofs.Slots.{held_less}
use Rattle.reader.proofs.Fold.{over_stays}
use Rattle.reader.proofs.Refusals.{Numbered, numbered_taken, numbered_refused, event_numbered}
use Rattle.reader.proofs.Simulation.{Stepped, as_taken, as_refused, Bounded, take_same, event_intact}

-- records stored after records are stored together
sets-append : (tree : List ℕ) (written : ℕ) (records more : List ℕ)
    → sets (sets tree written records) (written + length records) more ≡ sets tree written (records ++ more)
sets-append tree written [] more = rw (add-zero written)
sets-append tree written (r ∷ records) more =
    let shift : written + suc (length records) ≡ suc written + length records = omega arith in
    rw shift (sets-append (set tree written r) (suc written) records more)

-- how the events go on with so many parts held and records written, the slots and the tree
abbrev Rest : Type 0
Rest = ℕ → ℕ → List ℕ → List ℕ → Passed

module _ (p : Plan) (slots : ℕ) where
  -- all events were taken: the parts held are those in the slots, the records are stored in the tree
  pub record SameGoing (tree : List ℕ) (at : ℕ) (held : List Part) (records : List ℕ) (e : Passed) : Type 0 where
    pub number_is : e.stop.number ≡ DONE
    pub intact : e.stop.intact ≡ true
    pub place_is : e.stop.at ≡ at
    pub parts : held ≡ stack e.held e.stop.count
    pub counted : e.stop.written ≡ length records
    pub stored : e.tree ≡ sets tree 0 records

  -- an event was refused: where the slots are intact they have the parts held before it
  pub record SameOver (number place : ℕ) (before : List Part) (e : Passed) : Type 0 where
    pub number_is : e.stop.number ≡ number
    pub low : DEEP ≤ number
    pub high : number ≤ RUNAWAY
    pub place_is : e.stop.at ≡ place
    pub parts : e.stop.intact ≡ true → before ≡ stack e.held e.stop.count

  -- where the events come to, in both machines
  pub data Went (tree : List ℕ) : Progress → Passed → Type 0 where
    went_on : {at : ℕ} {held : List Part} {records : List ℕ} {e : Passed} → SameGoing tree at held records e → Went tree (going at held records) e
    went_over : {number place : ℕ} {before : List Part} {e : Passed} → SameOver number place before e
        → Went tree (over (stopped number place before)) e

  module _ (tree₀ : List ℕ) (at count : ℕ) (held records run : List ℕ) (go : Rest) where
    -- refused here
    stops : (s : After) {number : ℕ} → DEEP ≤ number → number ≤ RUNAWAY → s.spot.number ≡ number
        → (s.spot.intact ≡ true → s.held ≡ held)
        → Went tree₀ (steps p (with_slots slots) (over (stopped number at (stack held count))) run) (on_of s at count (length records) go)
    unfolding on_of
    stops s {number} low high is kept =
        rw (over_stays p (with_slots slots) (stopped number at (stack held count)) run, is, ne_eqb number DONE (λ none. omega arith))
        (went_over
        (record {
          number_is = refl;
          low = low;
          high = high;
          place_is = refl;
          parts = λ whole. ap (λ (l : List ℕ). stack l count) (sym (kept whole));
        }))

    -- an event and then the rest of the run
    goes_on : {tree : List ℕ} → tree ≡ sets tree₀ 0 records → {taking : StepOf Part} (s : After) → Numbered taking
        → Stepped p.count slots tree (length records) taking s → (s.spot.intact ≡ true → s.held ≡ held)
        → ((c : ℕ) (h more t : List ℕ) → SlotsHold p.count slots h c → t ≡ sets tree₀ 0 more
        → Went tree₀ (steps p (with_slots slots) (going (suc at) (stack h c) more) run) (go c (length more) h t))
        → Went tree₀ (steps p (with_slots slots) (advanced taking at (stack held count) records) run) (on_of s at count (length records) go)
    unfolding on_of advanced
    goes_on {tree} stored s numbered_taken (as_taken {held = then} {records = more} t) kept rest =
        let long : s.spot.written ≡ length (records ++ more) = t.length_is ∙ sym (length-append records more) in
        let all : s.tree ≡ sets tree₀ 0 (records ++ more) =
        t.tree_is ∙ rw (stored, ← zero-add (length records)) (sets-append tree₀ 0 records more) in
        rw (t.number, t.parts, long) (rest s.spot.count s.held (records ++ more) s.tree t.safe all)
    goes_on stored s (numbered_refused number low high) (as_refused e) kept rest = stops s low high e kept

  module _ (b : Bounded p) (tree₀ : List ℕ) where
    pub pass_went : (run : List ℕ) (at count : ℕ) (held records tree : List ℕ) → SlotsHold p.count slots held count
        → tree ≡ sets tree₀ 0 records
        → Went tree₀ (steps p (with_slots slots) (going at (stack held count) records) run)
        (pass_of p at run count (length records) held tree)
    unfolding steps step pass_of event_of
    pass_went [] at count held records tree h stored =
        went_on (record { number_is = refl; intact = refl; place_is = refl; parts = refl; counted = refl; stored = stored })
    pass_went (k ∷ run) at count held records tree h stored =
        by_kind (ltb k p.kinds) (event_intact p k count (length records) held tree)
        (λ c h' more t safe all. pass_went run (suc at) c h' more t safe all)
      where
        go : Rest
        go c w h' t = pass_of p (suc at) run c w h' t

        unknown : After
        unknown = stands UNKNOWN true count (length records) held tree

        by_kind : (known : Bool)
            → (let s = cond known (take_of p k count (length records) held tree) unknown in s.spot.intact ≡ true → s.held ≡ held)
            → ((c : ℕ) (h more t : List ℕ) → SlotsHold p.count slots h c → t ≡ sets tree₀ 0 more
            → Went tree₀ (steps p (with_slots slots) (going (suc at) (stack h c) more) run) (pass_of p (suc at) run c (length more) h t))
            → Went tree₀
            (steps p (with_slots slots)
            (cond known (advanced (staged_event p (with_slots slots) k (stack held count)) at (stack held count) records)
            (over (stopped UNKNOWN at (stack held count)))) run)
            (on_of (cond known (take_of p k count (length records) held tree) unknown) at count (length records) go)
        by_kind true kept rest =
            goes_on tree₀ at count held records run go stored (take_of p k count (length records) held tree)
            (event_numbered p (with_slots slots) k (stack held count)) (take_same p slots b k count (length records) held tree h) kept rest
        by_kind false kept rest = stops tree₀ at count held records run go unknown (omega arith) (omega arith) refl kept

-- the answer at the end, where the machine stands with all parts taken off or one that is not nullable
abbrev pub end_of : After → ℕ → ℕ → ℕ → Outcome
end_of s at label kinds =
    cond (eqb s.spot.number DONE) (outcome (answered DONE at s.spot.written 0) s.tree)
    (outcome (told s.spot.number at label kinds) s.tree)

module _ (p : Plan) where
  -- what a run comes to, in both machines: an accepted run's place is its length, its records are stored; a refusal's answer is given
  pub data SameRun (tree : List ℕ) (written final : ℕ) : AnswerOf Part → Outcome → Type 0 where
    as_accepted : (records : List ℕ) {e : Outcome} → e.reading ≡ answered DONE final (written + length records) 0
        → e.tree ≡ sets tree written records → SameRun tree written final (accepted records) e
    as_stopped : {number place : ℕ} {before : List Part} {e : Outcome} → DONE < number
        → e.reading ≡ refusal number place (stage_of before) (expected p (nodes_of before))
        → SameRun tree written final (stopped number place before) e

  -- records stored before those of an accepted run
  pub ends-logged : {tree : List ℕ} {written final : ℕ} {answer : AnswerOf Part} {e : Outcome} (records : List ℕ)
      → SameRun (sets tree written records) (written + length records) final answer e → SameRun tree written final (logged records answer) e
  unfolding logged
  ends-logged {tree} {written} {final} records (as_accepted more reads stored) =
      as_accepted (records ++ more) (reads ∙ ap (λ (n : ℕ). answered DONE final n 0) counted)
      (stored ∙ sets-append tree written records more)
    where
      counted : written + length records + length more ≡ written + length (records ++ more)
      counted = simp length-append (omega arith)
  ends-logged records (as_stopped some e) = as_stopped some e

  module _ (slots : ℕ) where
    -- the end of a run
    pub finish_same : (at count written : ℕ) (before : List Part) (held tree : List ℕ) → SlotsHold p.count slots held count
        → SameRun tree written at (staged_finish p at before (stack held count))
        (end_of (finish_of p count written held tree) at (stage_of before) (expected p (nodes_of before)))
    unfolding staged_finish finish_of stack
    finish_same at zero written before held tree h = as_accepted [] (ap (λ (n : ℕ). answered DONE at n 0) (sym (add-zero written))) refl
    finish_same at (suc count) written before held tree h =
        by_null (p.null n) _ (finish_same at count (suc written) before held (set tree written (emptied n)) (held_less h))
      where
        n : ℕ
        n = node_in (get_or held count 0)

        refused : After
        refused = stands END true count written held tree

        by_null : (null : Bool) (s : After) {more : AnswerOf Part}
            → SameRun (set tree written (emptied n)) (suc written) at more (end_of s at (stage_of before) (expected p (nodes_of before)))
            → SameRun tree written at (cond null (logged (emptied n ∷ []) more) (stopped END at before))
            (end_of (cond null s refused) at (stage_of before) (expected p (nodes_of before)))
        by_null true s rest = ends-logged (emptied n ∷ []) (rw (add-one written) rest)
        by_null false s rest = as_stopped {number = END} (omega arith) refl

    -- with what was written before
    pub close_same : (at count : ℕ) (held tree₀ records tree : List ℕ) → SlotsHold p.count slots held count → tree ≡ sets tree₀ 0 records
        → SameRun tree₀ 0 at (logged records (staged_finish p at (stack held count) (stack held count)))
        (close_of p at count (length records) held tree)
    unfolding close_of
    close_same at count held tree₀ records tree h stored =
        ends-logged records
        (rw (← stored, zero-add (length records)) (finish_same at count (length records) (stack held count) held tree h))
