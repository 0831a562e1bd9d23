-- The promises: the three demands and the uniqueness of every answer, in the documents' words. What is said here of
-- `Compiles` and `Reads` is said of the calls: the contract of `compile` is `Compiles` of its bytes, and that of
-- `read` is `Reads` of its own.
use Rattle.std.specs.Prelude.{ℕ, ◌+◌, ◌*◌, ◌-◌, ◌≤◌, ◌<◌, ◌≡◌, true, false, cond, ◌↔◌, ◌≢◌, ◌⊎◌, List, ◌++◌, length, take, get_or}
use Rattle.words.specs.Words.{u16_at, zeros}
use Rattle.kinds.specs.Kinds.{Has}
use Rattle.book.specs.Book.{Book}
use Rattle.book.specs.Form.{DONE, form_of, book_of}
use Rattle.grammar.specs.Rules.{Conflict}
use Rattle.grammar.specs.Passing.{AllReached, Fruitful, NoConflict}
use Rattle.grammar.specs.Derivations.{Lawful}
use Rattle.lengths.specs.Least.{LeastCut}
use Rattle.running.specs.Running.{DEEP, UNKNOWN, UNEXPECTED, END, RUNAWAY, with_slots, accepted, stopped}
use Rattle.running.specs.Running.{Next, reading, tells}
use Rattle.running.specs.Stages.{Part, staged_reading, stage_of, nodes_of}
use Rattle.running.specs.Cells.{Marks, Marked, cell_of}
use Rattle.plan.specs.Form.{cell_at, due_at, plan_count, plan_of, plan_judged}
use Rattle.writer.specs.Bytes.{plan_bytes}
use Rattle.verdict.specs.declared.Verdict.{Verdict}
use Rattle.verdict.specs.Judges.{CONFLICT, Clashing, BothNullable, judgement, Judges}
use Rattle.compiler.specs.declared.Compiled.{Compiled}
use Rattle.compiler.specs.Compiles.{size_of}
use Rattle.reader.specs.declared.Reading.{Reading}
use Rattle.reader.specs.Numbers.{NO-ROOM, answered}
use Rattle.reader.specs.Reads.{Reads}
use Rattle.meaning.specs.Meaning.{tree, Refuses, Ends, NextKinds}
use Rattle.depths.specs.Depths.{Greatest, NoGreatest}
use Rattle.profile.specs.declared.Depth.{Depth}
use Rattle.profile.specs.Profiles.{UNBOUNDED, DEEPER, SLOTS, depth}

-- Demand 1, compiling: the answer is one of 0 to 7, 19 or 22, a plan has at most 37,406 bytes, and a refusal leaves the
-- whole plan buffer zero
pub record CompileAnswers (room : ℕ) (a : Compiled) (plan : List ℕ) : Type 0 where
  pub listed : (a.number ≤ 7) ⊎ ((a.number ≡ 19) ⊎ (a.number ≡ 22))
  pub most : a.size ≤ 37406
  pub whole : length plan ≡ room
  pub refused_zero : a.number ≢ DONE → plan ≡ zeros room

-- Demand 1, reading, for all bytes, forged plans included: the answer is 0 or one of 8 to 16, and a refusal leaves
-- the whole tree buffer zero; the count of records is that of the list that running the plan gives, at most (2N − 2)
-- times the events, and one; at 12, 13 and 14 `label` is that of the part held last before the event refused, or before
-- the end, and `expected` has the kinds that by the rows may come next there; at other numbers both are 0; no slot is
-- DEEP
pub record ReadAnswers (plan run : List ℕ) (slots room : ℕ) (r : Reading) (after : List ℕ) : Type 0 where
  pub listed : (r.number ≡ DONE) ⊎ ((8 ≤ r.number) × (r.number ≤ 16))
  pub whole : length after ≡ room
  pub refused_zero : r.number ≢ DONE → after ≡ zeros room
  pub counted : (r.number ≡ DONE) ⊎ (r.number ≡ NO-ROOM)
      → (records : List ℕ) × (reading (plan_of plan) (with_slots slots) run ≡ accepted records)
      × (r.records ≡ length records)
  pub few_records : r.records ≤ (2 * plan_count plan - 2) * length run + 1
  pub expects : tells r.number ≡ true
      → (before : List Part)
      × (staged_reading (plan_of plan) (with_slots slots) run ≡ stopped r.number r.place before)
      × (r.label ≡ stage_of before) × ((k : ℕ) → Has r.expected k ↔ Next (plan_of plan) k (nodes_of before))
  pub expects_none : tells r.number ≡ false → (r.label ≡ 0) × (r.expected ≡ 0)
  pub no_slot : slots ≡ 0 → (plan_judged plan).number ≡ DONE → length run ≤ 65535 → r ≡ answered DEEP 0 0 0

-- Demand 2: given plan room enough, a well-formed book passes exactly when every node is reachable from the start, the
-- start can produce some run, and no node has a conflict
abbrev pub PassesExactly : List ℕ → ℕ → Compiled → Type 0
PassesExactly bytes room a =
    (form_of bytes).number ≡ DONE → size_of (book_of bytes) ≤ room
    → (a.number ≡ DONE) ↔ (AllReached (book_of bytes) × Fruitful (book_of bytes) × NoConflict (book_of bytes))

-- What CONFLICT tells, by the rules, kind by kind: its place is the lowest node that has a conflict; the set has
-- exactly the kinds that clash there, and the flag is 1 exactly if both sides are nullable, else 0. Any other answer
-- has 0 in both.
pub record ClashesTold (b : Book) (a : Compiled) : Type 0 where
  pub conflict : a.number ≡ CONFLICT → Conflict b.node (b.node a.place)
  pub lowest : a.number ≡ CONFLICT → (m : ℕ) → m < a.place → Conflict b.node (b.node m) → ⊥
  pub kinds : a.number ≡ CONFLICT → (k : ℕ) → Has a.clash k ↔ Clashing b.node (b.node a.place) k
  pub flag : a.number ≡ CONFLICT → (a.both ≤ 1) × ((a.both ≡ 1) ↔ BothNullable b.node (b.node a.place))
  pub silent : a.number ≢ CONFLICT → (a.both ≡ 0) × (a.clash ≡ 0)

-- Demand 2: the plan of a passed book is, cell by cell, the one those rules give: by the marks that are the facts,
-- which are these only
pub record PlanByRules (bytes : List ℕ) (room : ℕ) (plan : List ℕ) : Type 0 where
  pub marks : Marks
  pub marked : Marked (book_of bytes).node marks
  pub only : (other : Marks) → Marked (book_of bytes).node other → other ≡ marks
  pub plan_is : plan ≡ plan_bytes (book_of bytes) marks ++ zeros (room - size_of (book_of bytes))
  pub cell_is : (n k : ℕ) → n < (book_of bytes).count → k < (book_of bytes).kinds
      → cell_at plan (book_of bytes).count (book_of bytes).kinds n k ≡ cell_of marks k n ((book_of bytes).node n)
  pub mark_is : (n : ℕ) → n < (book_of bytes).count
      → cell_at plan (book_of bytes).count (book_of bytes).kinds n (book_of bytes).kinds ≡ cond (marks.null n) 1 0

-- What is due: the number of each node in the fourth section of a passed book's plan is the least length of a run that
-- the node derives, 65,535 where it is that or more or there is none
abbrev pub DueTold : List ℕ → List ℕ → Type 0
DueTold bytes plan =
    (n : ℕ) → n < (book_of bytes).count
    → LeastCut (book_of bytes).node ((book_of bytes).node n) 65535
    (u16_at plan (due_at (book_of bytes).count (book_of bytes).kinds n))

-- slots enough, and tree room enough, for a run of a length by a plan of so many nodes
abbrev pub slots_enough : ℕ → ℕ → ℕ
slots_enough count events = (count - 2) * events + 2

abbrev pub room_enough : ℕ → ℕ → ℕ
room_enough count events = (2 * count - 2) * events + 1

-- slots enough and tree room enough for a run by the plan of a book
abbrev pub Enough : List ℕ → List ℕ → List ℕ → List ℕ → Type 0
Enough bytes run held tree =
    (slots_enough (book_of bytes).count (length run) ≤ length held)
    × (room_enough (book_of bytes).count (length run) ≤ length tree)

-- Demand 3: a reading of a run, with what it leaves of a tree of so much room, answers as the book means
pub record ReadsAsMeant (b : Book) (run : List ℕ) (room : ℕ) (r : Reading) (after : List ℕ) : Type 0 where
  -- it accepts exactly the runs that the start derives
  pub accepts : (r.number ≡ DONE) ↔ Lawful b run
  -- and writes the only derivation there is, each part that takes no event as one empty record
  pub answers : (d : Lawful b run) → r ≡ answered DONE (length run) (length (tree b.start d)) 0
  pub writes : (d : Lawful b run) → after ≡ tree b.start d ++ zeros (room - length (tree b.start d))
  -- otherwise it names the earliest event at which no lawful run still agrees: 12 exactly if the event's kind is not
  -- below K, else 13
  pub unknown : (i : ℕ) → ((r.number ≡ UNKNOWN) × (r.place ≡ i)) ↔ (Refuses b run i × (b.kinds ≤ get_or run i 0))
  pub unexpected : (i : ℕ) → ((r.number ≡ UNEXPECTED) × (r.place ≡ i)) ↔ (Refuses b run i × (get_or run i 0 < b.kinds))
  -- or the end where more was due
  pub ends : (i : ℕ) → ((r.number ≡ END) × (r.place ≡ i)) ↔ Ends b run i
  -- `expected` has the kinds that, behind the events before the refused one, begin a lawful run
  pub next : (r.number ≡ UNKNOWN) ⊎ (r.number ≡ UNEXPECTED) → NextKinds b (take r.place run) r.expected
  -- and at the end those that do so behind the whole run
  pub next_end : r.number ≡ END → NextKinds b run r.expected
  -- and nothing else
  pub listed : (r.number ≡ DONE) ⊎ ((r.number ≡ UNKNOWN) ⊎ ((r.number ≡ UNEXPECTED) ⊎ (r.number ≡ END)))

-- Demand 3: the records number at most twice the node count, less one, times the events; an empty run has one
pub record FewRecords (count events records : ℕ) : Type 0 where
  pub sharp : records ≤ (2 * count - 2) * events + 1
  pub some_events : 0 < events → records ≤ (2 * count - 1) * events
  pub no_events : events ≡ 0 → records ≡ 1

-- More never changes the answer: what a reading's answer and tree come to on a board with at least as many slots and
-- as much tree room
pub record OnBiggerBoards (plan run held tree : List ℕ) (r : Reading) (after : List ℕ) : Type 0 where
  -- an answer other than DEEP and NO ROOM is the same, the tree filled up with zeros
  pub same : (held' tree' : List ℕ) → length held ≤ length held' → length tree ≤ length tree'
      → r.number ≢ DEEP → r.number ≢ NO-ROOM
      → Reads plan run held' tree' r (zeros (length held')) (after ++ zeros (length tree' - length tree))
  -- NO ROOM is NO ROOM with the same count while there are more records than room, and then the accepted run with
  -- that many records
  pub no_room : (held' tree' : List ℕ) → length held ≤ length held' → r.number ≡ NO-ROOM → length tree' < r.records
      → Reads plan run held' tree' r (zeros (length held')) (zeros (length tree'))
  pub room : (held' tree' : List ℕ) → length held ≤ length held' → r.number ≡ NO-ROOM → r.records ≤ length tree'
      → (records : List ℕ) × (length records ≡ r.records)
      × Reads plan run held' tree' (answered DONE (length run) r.records 0) (zeros (length held'))
      (records ++ zeros (length tree' - r.records))
  -- a refusal of an event, 12, 13 or RUNAWAY, is the same whatever events follow, up to 65,535 in all
  pub longer : (more held' tree' : List ℕ) → length (run ++ more) ≤ 65535 → length held ≤ length held'
      → (r.number ≡ UNKNOWN) ⊎ ((r.number ≡ UNEXPECTED) ⊎ (r.number ≡ RUNAWAY))
      → Reads plan (run ++ more) held' tree' r (zeros (length held')) (zeros (length tree'))
  -- and DEEP with the same slots
  pub deep : (more tree' : List ℕ) → length (run ++ more) ≤ 65535 → r.number ≡ DEEP
      → Reads plan (run ++ more) held tree' r (zeros (length held)) (zeros (length tree'))

-- The greatest number of parts held: what is answered of a book
pub record PartsMeasured (bytes : List ℕ) (d : Depth) : Type 0 where
  -- the book's own refusals, by number and place
  pub own : (v : Verdict) → Judges bytes v → v.number ≢ DONE → d ≡ depth v.number v.place 0
  -- of a book that passes the number, exactly if it is the greatest ever held behind beginnings of lawful runs
  pub number : Judges bytes (judgement DONE 0 0 0) → (m : ℕ) → (d ≡ depth DONE 0 m) ↔ Greatest (book_of bytes) m
  -- and 30 exactly if for every number some beginning holds more
  pub unbounded : Judges bytes (judgement DONE 0 0 0) → (d ≡ depth UNBOUNDED 0 0) ↔ NoGreatest (book_of bytes)

-- What a profile of so many slots answers of a book
pub record ProfileSays (bytes : List ℕ) (slots : ℕ) (d : Depth) : Type 0 where
  -- 32 before all
  pub outside : (slots < 1) ⊎ (64 < slots) → d ≡ depth SLOTS 0 0
  -- then the book's own refusals
  pub own : 1 ≤ slots → slots ≤ 64 → (v : Verdict) → Judges bytes v → v.number ≢ DONE
      → d ≡ depth v.number v.place 0
  -- then 30, and 31 with the number as its place
  pub unbounded : 1 ≤ slots → slots ≤ 64 → Judges bytes (judgement DONE 0 0 0) → NoGreatest (book_of bytes)
      → d ≡ depth UNBOUNDED 0 0
  pub deeper : 1 ≤ slots → slots ≤ 64 → Judges bytes (judgement DONE 0 0 0) → (m : ℕ) → Greatest (book_of bytes) m
      → slots < m → d ≡ depth DEEPER m 0
  -- it takes a book exactly if the number exists and is at most the slots
  pub takes : 1 ≤ slots → slots ≤ 64 → Judges bytes (judgement DONE 0 0 0)
      → (d.number ≡ DONE) ↔ ((m : ℕ) × Greatest (book_of bytes) m × (m ≤ slots))
