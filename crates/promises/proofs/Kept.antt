-- The promises are kept: each statement of specs/Promises.antt, for all bytes.
use Prim.Native.Nat.{ℕ, ◌-◌, ◌≤◌, ◌<◌, ◌^◌}
use native.Mathlib.Nat.{le_trans}
use mathlib.Core.Path.{◌≡◌, refl, sym, ◌∙◌}
use mathlib.Core.Bool.{Bool, true, false}
use mathlib.Core.Logic.Iff
use mathlib.Core.Logic.{◌↔◌, ◌≢◌, ◌⊎◌}
use mathlib.Core.List.{List, [], ◌∷◌, ◌++◌}
use lib.ListN.{length, take, get_or}
use Rattle.words.specs.Words.{zeros, Below}
use Rattle.kinds.proofs.Laws.{same_kinds}
use Rattle.names.specs.Names.{GoodNames, HOUSE-NAMES, names_of}
use Rattle.written.specs.Written.{OUT-ROOM, Out, refused_with, handed, handed_over, taken as writtenBytes, Settled}
use Rattle.written.specs.declared.Written.{Written}
use Rattle.book.specs.Book.{Book, WellFormed}
use Rattle.book.specs.Encode.{book_bytes, named_bytes}
use Rattle.book.specs.declared.Node.{Node}
use Rattle.book.specs.Form.{DONE, judged, named, form_of, book_of, book_names}
use Rattle.book.proofs.Laws.{FormNumber, form_listed}
use Rattle.moves.specs.Moves.{KEPT, house_good, house_names, forward_of, back_of}
use Rattle.moves.specs.Look.{kind_name, part_of, part_bytes}
use Rattle.moves.proofs.Moved.{forward_is, back_done_exactly, forward_back, back_forward}
use Rattle.moves.proofs.Moved.{forward_settles, back_settles, forward_listed, back_listed}
use Rattle.moves.proofs.Parts.{name_is_part, name_refused, name_none, name_of_book, name_of_house, name_bad_house}
use Rattle.book.proofs.Decoded.{formed, well_formed}
use Rattle.book.proofs.Encoded.{named_has_bytes, well_formed_has_bytes as encoded}
use Rattle.book.proofs.Rebuilt.{good_form_bytes, good_named_bytes, good_names}
use Rattle.grammar.specs.Rules.{Nullable, First, Snf}
use Rattle.grammar.specs.Passing.{Fruitful, Passes}
use Rattle.grammar.specs.Derivations.{Derives, Lawful, Extends}
use Rattle.grammar.proofs.Facts.{productive_iff, nullable_iff, first_iff, snf_extends}
use Rattle.grammar.proofs.Unique.{derivation_unique, snf_iff}
use Rattle.running.specs.Running.{Plan, DEEP, with_slots, unlimited, taken, refused, walk, event, stopped, reading}
use Rattle.running.specs.Stages.{Part, staged_event, staged_reading, nodes_of, bare_step, bare_answer, AllInStage}
use Rattle.running.proofs.Stages.{event_bare, reading_bare}
use Rattle.running.proofs.InStage.{stopped_in_stage}
use Rattle.running.specs.Cells.{Marks, Marked, cell_of, plan_for}
use Rattle.plan.specs.Form.{AlikeButDue}
use Rattle.verdict.specs.declared.Verdict.{Verdict}
use Rattle.verdict.specs.Judges.{judgement, Judges}
use Rattle.compiler.specs.declared.Compiled.{Compiled}
use Rattle.compiler.specs.Compiles.{Compiles, size_of}
use Rattle.compiler.proofs.Alike.{compiles_without_names}
use Rattle.compiler.proofs.Some.{compiles_some}
use Rattle.compiler.proofs.Unique.{compiles_unique}
use Rattle.compiler.proofs.Promise.{passed, passed_passes, passes_exactly}
use Rattle.compiler.proofs.ShutOut.{not_all-refused, not_all_passed, not_all_clear}
use Rattle.reader.specs.declared.Reading.{Reading}
use Rattle.reader.specs.Numbers.{NO-ROOM, answered}
use Rattle.reader.specs.Reads.{Reads}
use Rattle.reader.proofs.Answers.{reads_unique}
use Rattle.meaning.specs.Meaning.{tree, Accepts, NextKinds}
use Rattle.meaning.proofs.Walks.{walks_take}
use Rattle.sheets.specs.Grammar.{Rule, Sheet}
use Rattle.sheets.specs.Meaning.{SheetMeans}
use Rattle.sheets.specs.Made.{SHEET}
use Rattle.syntax.proofs.Outcomes.{sheet_once}
use Rattle.sampling.specs.Sample.{Sample}
use Rattle.sample.specs.Samples.{RUN-LONG, RUN-ROOM, Samples}
use Rattle.sample.specs.Given.{SampleAnswers, SampleGiven}
use Rattle.sample.proofs.Some.{samples_some}
use Rattle.sample.proofs.Unique.{samples_unique}
use Rattle.sample.proofs.Promise.{answers_listed, done_gives, refused_as_judged, long_exactly, room_exactly}
use Rattle.making.specs.Makes.{Makes, Places}
use Rattle.making.specs.Made.{BookMade, MakeAnswers, NoSheetAt}
use Rattle.making.proofs.Promise.{makes_some, makes_once, places_some, places_once, make_answers, sheet_refused_at, book_made}
use Rattle.trees.specs.Trees.{Wrong}
use Rattle.unread.specs.Unreads.{TREE, MOST-EVENTS, Unreads}
use Rattle.unread.specs.Written.{UnreadAnswers, RunWritten}
use Rattle.unread.proofs.Promise.{unreads_some, unreads_once, unread_answers, tree_refused_at, run-written, tree_written, tree_long, tree_no_room}
use Rattle.depths.specs.Depths.{After}
use Rattle.profile.specs.declared.Depth.{Depth}
use Rattle.profile.specs.Profiles.{Measures, Profiles}
use Rattle.profile.proofs.Unique.{measures_unique, profiles_unique}
use Rattle.profile.proofs.Some.{measures_some, profiles_some}
use Rattle.drums.specs.declared.Drum.{Drum}
use Rattle.drums.specs.Drums.{STALE, board_drums, drum_slots, open_of, event_of, close_of}
use Rattle.drumming.specs.Drumming.{Usable, Stands}
use Rattle.drumming.specs.Alike.{DrumsAlike, CallsAlike}
use Rattle.drumming.proofs.Alike.{calls_alike, stands_alike}
use Rattle.board.specs.Board.{called}
use Rattle.board.specs.Sequences.{opening, event as event-asked, close, asked_of, Call, call_on, drums_after, Isolated}
use Rattle.board.proofs.Isolation.{isolated}
use Rattle.calling.specs.Calling.{zero_board, ask, Unasked, Leaves, Plays, PlaysAsRead}
use Rattle.calling.proofs.Board.{leaves, unused_answers}
use Rattle.calling.proofs.Runs.{plays_as_read}
use Rattle.calling.proofs.Fresh.{never_comes}
use Rattle.finishing.specs.Finishing.{StillDue}
use Rattle.finishing.specs.Boards.{BoardsAlike, SequencesAlike}
use Rattle.finishing.proofs.Boards.{sequences_alike}
use Rattle.finishing.proofs.Finishing.{due_once}
use Rattle.worked.specs.Worked.{Each, Holds, table}
use Rattle.worked.proofs.Checked.{worked}
use Rattle.promises.specs.Promises.{CompileAnswers, ReadAnswers, PassesExactly, ClashesTold, PlanByRules, DueTold, Enough, ReadsAsMeant, FewRecords, OnBiggerBoards}
use Rattle.promises.specs.Promises.{PartsMeasured, ProfileSays}
use Rattle.promises.proofs.Answers.{compiled_answers, clashes_told, read_answers, by_rules, least_due, reads_alike}
use Rattle.promises.proofs.More.{by_call, bigger_boards}
use Rattle.promises.proofs.Meant.{passed_reads, passed_reads_any, passed_records, passed_no_room}
use Rattle.promises.proofs.RoundTrips.{done_short, done_not_deep, done_not_full, tree_back, tree_read}
use Rattle.promises.proofs.Profiled.{parts_measured, profile_says, measured_event, measured_event_shallow, measured_shallow, taken_measured}
use Rattle.promises.proofs.Boards.{drum_due, drum_shallow}
use Rattle.promises.proofs.Readers.{not_constant, not_nodding, not_nodding_trees}

-- Demand 1: the number of a form test is one of 0 to 4 and 19
pub form_answers : (bytes : List ℕ) → ((form_of bytes).number ≤ 4) ⊎ ((form_of bytes).number ≡ 19)
form_answers bytes = form_listed bytes

-- well-formed, in both directions: bytes of good form are a well-formed book's own, and every well-formed book has such bytes
pub formed_is_well_formed : (bytes : List ℕ) → (form_of bytes).number ≡ DONE → WellFormed (book_of bytes)
formed_is_well_formed bytes form = well_formed (formed bytes form)

pub formed_has_its_bytes : (bytes : List ℕ) → Below 256 bytes → (form_of bytes).number ≡ DONE → named bytes ≡ false
    → book_bytes (book_of bytes) ≡ bytes
formed_has_its_bytes bytes small form = good_form_bytes bytes small form

pub well_formed_has_bytes : (b : Book) → WellFormed b → (form_of (book_bytes b) ≡ judged DONE 0) × (book_of (book_bytes b) ≡ b)
well_formed_has_bytes b formed = encoded b formed

-- with names: its names are good and one for each kind, and the bytes are its own with these; every well-formed book has such bytes with
-- good names for its kinds
pub formed_has_good_names : (bytes : List ℕ) → (form_of bytes).number ≡ DONE → named bytes ≡ true
    → GoodNames (book_names bytes) × (length (book_names bytes) ≡ (book_of bytes).kinds)
formed_has_good_names bytes form = good_names bytes form

pub formed_has_its_named_bytes : (bytes : List ℕ) → Below 256 bytes → (form_of bytes).number ≡ DONE → named bytes ≡ true
    → named_bytes (book_of bytes) (book_names bytes) ≡ bytes
formed_has_its_named_bytes bytes small form = good_named_bytes bytes small form

pub well_formed_has_named_bytes : (b : Book) (names : List (List ℕ)) → WellFormed b → GoodNames names → length names ≡ b.kinds
    → (form_of (named_bytes b names) ≡ judged DONE 0) × (book_of (named_bytes b names) ≡ b) × (book_names (named_bytes b names) ≡ names)
well_formed_has_named_bytes b names formed good enough = named_has_bytes b names formed good enough

-- a book with names compiles exactly as the same book without them: the same answer, the same plan
pub names_change_no_plan : (bytes : List ℕ) (room : ℕ) {a : Compiled} {plan : List ℕ} → (form_of bytes).number ≡ DONE
    → Compiles bytes room a plan ↔ Compiles (book_bytes (book_of bytes)) room a plan
names_change_no_plan bytes room form = compiles_without_names bytes form

-- Demand 1: every compiling call has an answer, and one only
pub compiling_answers : (bytes : List ℕ) (room : ℕ) → (a : Compiled) × (plan : List ℕ) × Compiles bytes room a plan
compiling_answers bytes room = compiles_some bytes room

pub compiling_answers_once : {bytes : List ℕ} {room : ℕ} {a a' : Compiled} {plan plan' : List ℕ}
    → Compiles bytes room a plan → Compiles bytes room a' plan' → (a ≡ a') × (plan ≡ plan')
compiling_answers_once one other = compiles_unique one other

-- Demand 1: the answer is a listed one, and a refusal leaves zeros
pub compiling_listed : {bytes : List ℕ} {room : ℕ} {a : Compiled} {plan : List ℕ} → Compiles bytes room a plan → CompileAnswers room a plan
compiling_listed compiled = compiled_answers compiled

pub reading_listed : {plan run held tree : List ℕ} {r : Reading} {held_after tree-after : List ℕ}
    → Reads plan run held tree r held_after tree-after → ReadAnswers plan run (length held) (length tree) r tree-after
reading_listed {plan} {run} {held} {tree} read =
    by_call (ReadAnswers plan run (length held) (length tree)) read (read_answers plan run (length held) (length tree))

-- Demand 1: a reading call's answer and what it leaves of both buffers are determined; the slots are zero
pub reading_answers_once : {plan run held tree : List ℕ} {a a' : Reading} {held_after held-after' tree-after tree-after' : List ℕ}
    → Reads plan run held tree a held_after tree-after → Reads plan run held tree a' held-after' tree-after'
    → (a ≡ a') × (held_after ≡ held-after') × (tree-after ≡ tree-after')
reading_answers_once one other = reads_unique one other

-- Demand 2
pub demand_2_passes : {bytes : List ℕ} {room : ℕ} {a : Compiled} {plan : List ℕ} → Compiles bytes room a plan → PassesExactly bytes room a
demand_2_passes compiled = passes_exactly compiled

-- what a conflict tells: the whole set of the kinds that clash
pub conflict_tells-all : {bytes : List ℕ} {room : ℕ} {a : Compiled} {plan : List ℕ} → Compiles bytes room a plan
    → ClashesTold (book_of bytes) a
conflict_tells-all compiled = clashes_told compiled

pub demand_2_plan : {bytes : List ℕ} {room : ℕ} {a : Compiled} {plan : List ℕ} → Compiles bytes room a plan → a.number ≡ DONE
    → PlanByRules bytes room plan
demand_2_plan compiled is = by_rules compiled is

-- What is due is told: the fourth section of a passed book's plan has the least lengths, by derivations.
pub due_told : {bytes : List ℕ} {room : ℕ} {a : Compiled} {plan : List ℕ}
    → Compiles bytes room a plan → a.number ≡ DONE → DueTold bytes plan
due_told compiled is = least_due compiled is

-- Whatever stands there, plans alike but for it give the same answers and trees, forged plans too.
pub due_answers_alike : {plan other run held tree held_after tree-after : List ℕ} {r : Reading}
    → AlikeButDue plan other → Reads plan run held tree r held_after tree-after → Reads other run held tree r held_after tree-after
due_answers_alike alike reads = reads_alike alike reads

-- Demand 2, what the facts mean of runs: the start is productive iff it derives some run
pub fruitful_means : (b : Book) → Fruitful b ↔ ((run : List ℕ) × Lawful b run)
fruitful_means b = productive_iff

-- a node is nullable iff it derives the empty run
pub nullable_means : (node : ℕ → Node) (top : Node) → Nullable node top ↔ Derives node top []
nullable_means node top = nullable_iff

-- a kind is in FIRST of a node iff the node derives a run that begins with the kind
pub first_means : (node : ℕ → Node) (top : Node) (k : ℕ) → First node top k ↔ ((rest : List ℕ) × Derives node top (k ∷ rest))
first_means node top k = first_iff

-- a kind that should not follow a node takes a run that the node derives on to a longer one
pub snf_means : (node : ℕ → Node) (top : Node) (k : ℕ) → Snf node top k → Extends node top k
snf_means node top k = snf_extends

-- and at a node of a passed book these are the only such kinds
pub snf_exactly : {b : Book} → Passes b → (n k : ℕ) → Snf b.node (b.node n) k ↔ Extends b.node (b.node n) k
snf_exactly passes n k = snf_iff passes n

-- Demand 3, of a book that compiling is done with
module _ {bytes : List ℕ} {room : ℕ} {a : Compiled} {plan : List ℕ} (compiled : Compiles bytes room a plan) (is : a.number ≡ DONE) where
  -- every walk that begins takes its event: on the plan of a passed book no zero is met in a walk, and no walk runs away
  pub demand_3_walks : (marks : Marks) → Marked (book_of bytes).node marks → (n k : ℕ)
      → cell_of marks k n ((book_of bytes).node n) ≢ 0 → (held : List ℕ)
      → (then records : List ℕ) × (walk (plan_for (book_of bytes) marks) unlimited k (book_of bytes).count n held ≡ taken then records)
  demand_3_walks marks marked n k some held = walks_take (passed_passes compiled is) marks marked n k some held

  -- the only derivation there is: any two of one run are equal
  pub demand_3_one_derivation : (n : ℕ) {run : List ℕ} (d e : Derives (book_of bytes).node ((book_of bytes).node n) run) → d ≡ e
  demand_3_one_derivation n d e = derivation_unique (passed_passes compiled is) n d e

  -- and of a reading of its plan
  module _ {run held space : List ℕ} {r : Reading} {held_after tree-after : List ℕ}
      (read : Reads (take a.size plan) run held space r held_after tree-after) where
    -- given slots and tree room enough, it is as the book means
    pub demand_3 : length run ≤ 65535 → Enough bytes run held space → ReadsAsMeant (book_of bytes) run (length space) r tree-after
    demand_3 short enough =
        by_call (ReadsAsMeant (book_of bytes) run (length space)) read
        (passed_reads compiled is run (length held) (length space) short enough.0 enough.1)

    -- whatever the slots and the tree room, an answer other than DEEP and NO ROOM is as the book means
    pub demand_3_any : length run ≤ 65535 → r.number ≢ DEEP → r.number ≢ NO-ROOM
        → ReadsAsMeant (book_of bytes) run (length space) r tree-after
    demand_3_any short =
        by_call (λ r t. r.number ≢ DEEP → r.number ≢ NO-ROOM → ReadsAsMeant (book_of bytes) run (length space) r t) read
        (passed_reads_any compiled is run (length held) (length space) short)

    -- NO ROOM means a lawful run whose tree has that many records
    pub demand_3_no_room : r.number ≡ NO-ROOM
        → (d : Lawful (book_of bytes) run) × (r.records ≡ length (tree (book_of bytes).start d))
    demand_3_no_room =
        by_call (λ r t. r.number ≡ NO-ROOM → (d : Lawful (book_of bytes) run) × (r.records ≡ length (tree (book_of bytes).start d))) read
        (passed_no_room compiled is run (length held) (length space))

    pub demand_3_records : r.number ≡ DONE → FewRecords (book_of bytes).count (length run) r.records
    demand_3_records =
        by_call (λ r t. r.number ≡ DONE → FewRecords (book_of bytes).count (length run) r.records) read
        (passed_records compiled is run (length held) (length space))

-- More never changes the answer, of every plan, forged ones too
pub bigger_boards_same : {plan run held tree : List ℕ} {r : Reading} {held_after tree-after : List ℕ}
    → Reads plan run held tree r held_after tree-after → OnBiggerBoards plan run held tree r tree-after
bigger_boards_same read = bigger_boards read

-- Stages: with the labels mapped away, running a plan with labels is running it without, event by event and as a whole; so trees, places,
-- counts and expected kinds stay, and all that is promised of them
pub stages_leave_each_event : (p : Plan) (free : ℕ → Bool) (k : ℕ) (held : List Part)
    → bare_step (staged_event p free k held) ≡ event p free k (nodes_of held)
stages_leave_each_event p free k held = event_bare p free k held

pub stages_leave_the_reading : (p : Plan) (free : ℕ → Bool) (run : List ℕ) → bare_answer (staged_reading p free run) ≡ reading p free run
stages_leave_the_reading p free run = reading_bare p free run

-- and a part's label is that of the innermost tagged node above it, on a way down to it from the start
pub parts_in_their_stages : (p : Plan) (free : ℕ → Bool) (run : List ℕ) {number place : ℕ} {held : List Part}
    → staged_reading p free run ≡ stopped number place held → AllInStage p held
parts_in_their_stages p free run is = stopped_in_stage p free run is

-- What was expected is one set: two sets of 64 kinds that have the kinds next behind a beginning are equal
pub next_kinds_once : {b : Book} {before : List ℕ} {one other : ℕ} → one < 2 ^ 64 → other < 2 ^ 64 → NextKinds b before one
    → NextKinds b before other → one ≡ other
next_kinds_once small few next also = same_kinds small few (λ k. Iff.trans (next.next k) ((also.next k).1, (also.next k).0))

-- Names: moving a book between its two forms, for all bytes, house lists and room
module _ (bytes house : List ℕ) (room : ℕ) where
  -- the answers' numbers are listed ones: those of a form, 0 to 4 and 19, then 20 and 21
  pub moving_forward_listed :
      FormNumber (forward_of bytes house room).answer.number ⊎ ((forward_of bytes house room).answer.number ≡ OUT-ROOM)
  moving_forward_listed = forward_listed bytes house room

  pub moving_back_listed :
      FormNumber (back_of bytes house room).answer.number
      ⊎ (((back_of bytes house room).answer.number ≡ KEPT) ⊎ ((back_of bytes house room).answer.number ≡ OUT-ROOM))
  moving_back_listed = back_listed bytes house room

  -- all bytes behind what is written, and all at a refusal, are zeros
  pub moving_forward_settles : Settled room (forward_of bytes house room)
  moving_forward_settles = forward_settles bytes house room

  pub moving_back_settles : Settled room (back_of bytes house room)
  moving_back_settles = back_settles bytes house room

  -- forward of an old book is the book of the same nodes with the first names of the house list, one for each kind
  pub forward_names : (form_of bytes).number ≡ DONE → named bytes ≡ false → house_good house ≡ true
      → forward_of bytes house room ≡ handed (named_bytes (book_of bytes) (house_names house (book_of bytes).kinds)) room
  forward_names = forward_is bytes house room

  -- back is done exactly if the book's names are those
  pub back_exactly : (form_of bytes).number ≡ DONE → named bytes ≡ true → house_good house ≡ true → length (book_bytes (book_of bytes)) ≤ room
      → ((back_of bytes house room).answer.number ≡ DONE) ↔ (book_names bytes ≡ house_names house (book_of bytes).kinds)
  back_exactly = back_done_exactly bytes house room

  -- forward then back gives the same bytes, and so does back then forward where back is not refused
  pub forward_then_back : (again : ℕ) → Below 256 bytes → (forward_of bytes house room).answer.number ≡ DONE
      → back_of (writtenBytes (forward_of bytes house room)) house again ≡ handed bytes again
  forward_then_back = forward_back bytes house room

  pub back_then_forward : (again : ℕ) → Below 256 bytes → (back_of bytes house room).answer.number ≡ DONE
      → forward_of (writtenBytes (back_of bytes house room)) house again ≡ handed bytes again
  back_then_forward = back_forward bytes house room

-- a kind's name: nothing where the book's form is refused or the kind is not below K; the book's own where it has names; else the house
-- list's, and nothing where that is bad
module _ (bytes house : List ℕ) (kind : ℕ) where
  pub no_name_without_form : (form_of bytes).number ≢ DONE → kind_name bytes house kind ≡ []
  no_name_without_form = name_refused bytes house kind

  module _ (done : (form_of bytes).number ≡ DONE) where
    pub no_name_past_the_kinds : (book_of bytes).kinds ≤ kind → kind_name bytes house kind ≡ []
    no_name_past_the_kinds = name_none bytes house kind done

    module _ (below : kind < (book_of bytes).kinds) where
      pub name_in_the_book : named bytes ≡ true → kind_name bytes house kind ≡ get_or (book_names bytes) kind []
      name_in_the_book = name_of_book bytes house kind done below

      pub name_in_the_house : named bytes ≡ false → house_good house ≡ true
          → kind_name bytes house kind ≡ get_or (names_of house 0 HOUSE-NAMES) kind []
      name_in_the_house = name_of_house bytes house kind done below

      pub no_name_in_a_bad_house : named bytes ≡ false → house_good house ≡ false → kind_name bytes house kind ≡ []
      no_name_in_a_bad_house = name_bad_house bytes house kind done below

-- the name that the library hands back is the part that C is told
pub name_is_the_part : (bytes house : List ℕ) (kind : ℕ) → kind_name bytes house kind ≡ part_bytes (part_of bytes house kind) bytes house
name_is_the_part = name_is_part

-- A sample: all bytes have an answer with any room, and one only
pub sample_some : (bytes : List ℕ) (room : ℕ) → (o : Out) × Samples bytes room o
sample_some = samples_some

module _ {bytes : List ℕ} {room : ℕ} {o : Out} (samples : Samples bytes room o) where
  pub sample_once : {other : Out} → Samples bytes room other → o ≡ other
  sample_once = samples_unique samples

  -- it is 0, one of the book's own refusals, 24 or 25, and a refusal leaves the whole buffer zero
  pub sample_answers : SampleAnswers room o
  sample_answers = answers_listed samples

  -- the run that is written is lawful, no lawful run is shorter, and of the shortest it is the lowest
  pub sample_done : o.answer.number ≡ DONE → SampleGiven (book_of bytes) (writtenBytes o)
  sample_done = done_gives samples

  -- a book that does not pass is refused as judging refuses it
  pub sample_refused : {v : Verdict} → Judges bytes v → v.number ≢ DONE → o ≡ refused_with v.number v.place room
  sample_refused = refused_as_judged samples

  module _ (good : Judges bytes (judgement DONE 0 0 0)) where
    -- 24 exactly if every lawful run is over 65,535 events, else 25 exactly if the buffer is shorter than the run
    pub sample_24 : (o.answer.number ≡ RUN-LONG) ↔ ((run : List ℕ) → Lawful (book_of bytes) run → 65535 < length run)
    sample_24 = long_exactly good samples

    pub sample_25 : {run : List ℕ} → Sample (book_of bytes) run → length run ≤ 65535 → (o.answer.number ≡ RUN-ROOM) ↔ (room < length run)
    sample_25 = room_exactly good samples

-- Sheets: every text has an answer, and one only, and so has every node's place
pub sheet_answers_some : (text : List ℕ) (room : ℕ) → (o : Out) × Makes text room o
sheet_answers_some text room = ((makes_some text room).answer, (makes_some text room).answers)

pub place_answers_some : (text : List ℕ) (node : ℕ) → (a : Written) × Places text node a
place_answers_some text node = ((places_some text node).answer, (places_some text node).answers)

pub sheet_answer_once : (text : List ℕ) (room : ℕ) {a b : Out} → Makes text room a → Makes text room b → a ≡ b
sheet_answer_once = makes_once

pub place_answer_once : (text : List ℕ) (node : ℕ) {a b : Written} → Places text node a → Places text node b → a ≡ b
place_answer_once = places_once

-- an answer is 0, 21 or one of 26 to 29, and a refusal leaves the whole buffer zero
pub sheet_answers : (text : List ℕ) (room : ℕ) {o : Out} → Makes text room o → MakeAnswers room o
sheet_answers = make_answers

-- 26 stands at the first byte at which no sheet begins so, or at the length where more is due, and nowhere else
pub sheet_26 : (text : List ℕ) (room : ℕ) {o : Out} → Makes text room o → (i : ℕ)
    → ((o.answer.number ≡ SHEET) × (o.answer.place ≡ i)) ↔ NoSheetAt text i
sheet_26 = sheet_refused_at

-- a book that is made has exactly the sheet's nodes, its names are the kinds by first appearance, and it derives exactly
-- the runs that the sheet means
pub sheet_book_made : (text : List ℕ) (room : ℕ) {o : Out} → Makes text room o → o.answer.number ≡ DONE → BookMade text room o
sheet_book_made = book_made

-- end to end: of a sheet whose book is made and passes, reading accepts exactly the runs that the sheet means
module _ (text : List ℕ) {first : Rule} {further : List Rule} (sheet : Sheet text first further) (room : ℕ) (o : Out)
    (made : Makes text room o) (whole : o.answer.number ≡ DONE) where
  book : BookMade text room o
  book = book_made text room made whole

  -- the bytes of the book that is made
  abbrev bytes : List ℕ
  bytes = take o.answer.size o.bytes

  first_is : book.first ≡ first
  first_is = let once = sheet_once text book.sheet sheet in cc

  further_are : book.further ≡ further
  further_are = let once = sheet_once text book.sheet sheet in cc

  means : (run : List ℕ) → Lawful (book_of bytes) run ↔ SheetMeans first further run
  means run = rw (first_is, further_are) at (book.book.derives run)

  module _ {plan-room : ℕ} {a : Compiled} {plan : List ℕ} (compiled : Compiles bytes plan-room a plan) (passed : a.number ≡ DONE)
      {run held space : List ℕ} {r : Reading} {held_after tree-after : List ℕ}
      (read : Reads (take a.size plan) run held space r held_after tree-after) (short : length run ≤ 65535) where
    -- given slots and tree room enough
    pub sheet_reads : Enough bytes run held space → (r.number ≡ DONE) ↔ SheetMeans first further run
    sheet_reads enough = Iff.trans (demand_3 compiled passed read short enough).accepts (means run)

    -- whatever the slots and the tree room, where the answer is not DEEP or NO ROOM
    pub sheet_reads_any : r.number ≢ DEEP → r.number ≢ NO-ROOM → (r.number ≡ DONE) ↔ SheetMeans first further run
    sheet_reads_any shallow roomy = Iff.trans (demand_3_any compiled passed read short shallow roomy).accepts (means run)

-- From tree to run: every bytes, records and room have an answer, and one only
module _ (bytes records : List ℕ) (room : ℕ) where
  pub unread_answers_some : (o : Out) × Unreads bytes records room o
  unread_answers_some = unreads_some bytes records room

  pub unread_answer_once : {a o : Out} → Unreads bytes records room a → Unreads bytes records room o → a ≡ o
  unread_answer_once = unreads_once bytes records room

module _ {bytes records : List ℕ} {room : ℕ} {o : Out} (unreads : Unreads bytes records room o) where
  -- an answer is the book's own refusal, with its place, or 0, or one of 23 to 25; all bytes behind what is written, and all at a
  -- refusal, are zeros
  pub unread_listed : UnreadAnswers bytes room o
  unread_listed = unread_answers unreads

  -- 23 stands, of a book that passes, at the first record at which no tree begins so, or at their count where more is due, and nowhere else
  pub unread_23 : (i : ℕ)
      → ((o.answer.number ≡ TREE) × (o.answer.place ≡ i)) ↔ (Judges bytes (judgement DONE 0 0 0) × Wrong (book_of bytes) records i)
  unread_23 = tree_refused_at unreads

  -- the run that is written is the one that the start derives with these records, and there is no other
  pub unread_writes : o.answer.number ≡ DONE → RunWritten bytes records room o
  unread_writes = run-written unreads

  -- and the tree of a lawful run of a book that passes has its run written, but for 24, over 65,535 events, and then 25, no room
  module _ {run : List ℕ} (passes : Judges bytes (judgement DONE 0 0 0)) (whole : Accepts (book_of bytes) run records) where
    pub unread_done : length run ≤ MOST-EVENTS → length run ≤ room → o ≡ handed_over run room
    unread_done few fits = tree_written passes whole few fits unreads

    pub unread_24 : MOST-EVENTS < length run → o ≡ refused_with RUN-LONG 0 room
    unread_24 many = tree_long passes whole many unreads

    pub unread_25 : length run ≤ MOST-EVENTS → room < length run → o ≡ refused_with RUN-ROOM 0 room
    unread_25 few short = tree_no_room passes whole few short unreads

-- there and back, of a book that compiling is done with
module _ {bytes : List ℕ} {plan-room : ℕ} {a : Compiled} {plan : List ℕ} (compiled : Compiles bytes plan-room a plan) (is : a.number ≡ DONE)
    {room : ℕ} {o : Out} where
  -- reading a run that is written of a tree, with slots and room enough, gives the tree back
  module _ {records : List ℕ} (unreads : Unreads bytes records room o) (done : o.answer.number ≡ DONE)
      {held space : List ℕ} {r : Reading} {held_after tree-after : List ℕ}
      (read : Reads (take a.size plan) (writtenBytes o) held space r held_after tree-after) where
    pub unread_then_read : Enough bytes (writtenBytes o) held space
        → (r ≡ answered DONE (length (writtenBytes o)) (length records) 0) × (tree-after ≡ records ++ zeros (length space - length records))
    unread_then_read enough =
        let w = run-written unreads done in tree_back (demand_3 compiled is read w.few enough) w.accepts

    -- and with any slots and room, where the answer is neither DEEP nor NO ROOM
    pub unread_then_read_any : r.number ≢ DEEP → r.number ≢ NO-ROOM
        → (r ≡ answered DONE (length (writtenBytes o)) (length records) 0) × (tree-after ≡ records ++ zeros (length space - length records))
    unread_then_read_any shallow roomy =
        let w = run-written unreads done in tree_back (demand_3_any compiled is read w.few shallow roomy) w.accepts

  -- the records of a run that is read give the run back, with room for it
  pub read_then_unread : {run held space : List ℕ} {r : Reading} {held_after tree-after : List ℕ}
      → Reads (take a.size plan) run held space r held_after tree-after → r.number ≡ DONE
      → Unreads bytes (take r.records tree-after) room o → length run ≤ room → o ≡ handed_over run room
  read_then_unread {run} {held} {space} {r} read accepted unreads fits =
      let short = by_call (λ r t. r.number ≡ DONE → length run ≤ 65535) read (done_short _ run (length held) (length space)) accepted in
      let meant = demand_3_any compiled is read short (λ deep. done_not_deep (sym accepted ∙ deep)) (λ full. done_not_full (sym accepted ∙ full)) in
      tree_written (passed compiled is).judges (tree_read meant accepted) short fits unreads

-- The greatest number of parts held: every call has an answer, one only, and what it says
pub measuring_answers : (bytes : List ℕ) → (d : Depth) × Measures bytes d
measuring_answers bytes = measures_some bytes

pub measuring_answers_once : {bytes : List ℕ} {d d' : Depth} → Measures bytes d → Measures bytes d' → d ≡ d'
measuring_answers_once one other = measures_unique one other

pub measuring_says : {bytes : List ℕ} {d : Depth} → Measures bytes d → PartsMeasured bytes d
measuring_says measures = parts_measured measures

-- and a profile of so many slots
pub profile_answers : (bytes : List ℕ) (slots : ℕ) → (d : Depth) × Profiles bytes slots d
profile_answers bytes slots = profiles_some bytes slots

pub profile_answers_once : {bytes : List ℕ} {slots : ℕ} {d d' : Depth} → Profiles bytes slots d → Profiles bytes slots d' → d ≡ d'
profile_answers_once one other = profiles_unique one other

pub profile_takes : {bytes : List ℕ} {slots : ℕ} {d : Depth} → Profiles bytes slots d → ProfileSays bytes slots d
profile_takes profiles = profile_says profiles

-- with as many slots as the number no reading of the book's plan is DEEP
module _ {bytes : List ℕ} {room : ℕ} {a : Compiled} {plan : List ℕ} (compiled : Compiles bytes room a plan) (is : a.number ≡ DONE)
    {run held space : List ℕ} {r : Reading} {held_after tree-after : List ℕ}
    (read : Reads (take a.size plan) run held space r held_after tree-after) where
  pub measured_never_deep : {d : Depth} → Measures bytes d → d.number ≡ DONE → d.held ≤ length held → r.number ≢ DEEP
  measured_never_deep measures done enough =
      by_call (λ r t. r.number ≢ DEEP) read (measured_shallow measures done compiled is run (length held) (length space) enough)

  -- under a profile that takes the book, with the profile's slots
  pub profile_never_deep : {slots : ℕ} {d : Depth} → Profiles bytes slots d → d.number ≡ DONE → slots ≤ length held → r.number ≢ DEEP
  profile_never_deep profiles done enough =
      let (measures, most) = taken_measured profiles done in measured_never_deep measures done (le_trans most enough)

-- and behind a beginning no event lacks a slot: with as many it comes to what it comes to without a limit, which is not DEEP
module _ {bytes : List ℕ} {slots : ℕ} {d : Depth} (measures : Measures bytes d) (done : d.number ≡ DONE) (enough : d.held ≤ slots)
    (marks : Marks) (marked : Marked (book_of bytes).node marks) {run parts : List ℕ}
    (behind : After (plan_for (book_of bytes) marks) ((book_of bytes).start ∷ []) run parts) (k : ℕ) where
  pub measured_events :
      event (plan_for (book_of bytes) marks) (with_slots slots) k parts ≡ event (plan_for (book_of bytes) marks) unlimited k parts
  measured_events = measured_event measures done enough marks marked behind k

  pub measured_events_never_deep : event (plan_for (book_of bytes) marks) (with_slots slots) k parts ≡ refused DEEP → ⊥
  measured_events_never_deep = measured_event_shallow measures done enough marks marked behind k

-- Demand 2 shuts out a compiler that refuses all books, one that passes all, and one that writes no plan
module _ (answers : List ℕ → ℕ → Compiled) (plans : List ℕ → ℕ → List ℕ)
    (meets : (bytes : List ℕ) (room : ℕ) → Compiles bytes room (answers bytes room) (plans bytes room)) where
  pub no_compiler_refuses_all :
      ((bytes : List ℕ) (room : ℕ) → (form_of bytes).number ≡ DONE → size_of (book_of bytes) ≤ room → (answers bytes room).number ≢ DONE) → ⊥
  no_compiler_refuses_all = not_all-refused answers plans meets

  pub no_compiler_passes_all :
      ((bytes : List ℕ) (room : ℕ) → (form_of bytes).number ≡ DONE → size_of (book_of bytes) ≤ room → (answers bytes room).number ≡ DONE) → ⊥
  no_compiler_passes_all = not_all_passed answers plans meets

  pub no_compiler_writes_no_plan : ((bytes : List ℕ) (room : ℕ) → plans bytes room ≡ zeros room) → ⊥
  no_compiler_writes_no_plan = not_all_clear answers plans meets

-- Demand 3 shuts out a reader with one constant answer, and one that walks at the first event and then only nods: judging a run by its
-- first event, or judging rightly and writing a tree by it; slots and room enough in each case
module _ (answers : (plan run held tree : List ℕ) → Reading) (slots trees : (plan run held tree : List ℕ) → List ℕ)
    (meets : (plan run held tree : List ℕ)
    → Reads plan run held tree (answers plan run held tree) (slots plan run held tree) (trees plan run held tree)) where
  pub no_reader_is_constant : (constant : Reading)
      → ((bytes : List ℕ) (room : ℕ) (a : Compiled) (plan : List ℕ) → Compiles bytes room a plan → a.number ≡ DONE
      → (run held tree : List ℕ) → Enough bytes run held tree → answers (take a.size plan) run held tree ≡ constant)
      → ⊥
  no_reader_is_constant = not_constant answers slots trees meets

  pub no_reader_nods : ((bytes : List ℕ) (room : ℕ) (a : Compiled) (plan : List ℕ) → Compiles bytes room a plan → a.number ≡ DONE
      → (k : ℕ) (run other held tree : List ℕ) → Enough bytes (k ∷ run) held tree → Enough bytes (k ∷ other) held tree
      → (answers (take a.size plan) (k ∷ run) held tree).number ≡ (answers (take a.size plan) (k ∷ other) held tree).number)
      → ⊥
  no_reader_nods = not_nodding answers slots trees meets

  pub no_reader_nods_in_trees : ((bytes : List ℕ) (room : ℕ) (a : Compiled) (plan : List ℕ) → Compiles bytes room a plan → a.number ≡ DONE
      → (k : ℕ) (run other held tree : List ℕ) → Enough bytes (k ∷ run) held tree → Enough bytes (k ∷ other) held tree
      → (answers (take a.size plan) (k ∷ run) held tree).number ≡ DONE → (answers (take a.size plan) (k ∷ other) held tree).number ≡ DONE
      → trees (take a.size plan) (k ∷ run) held tree ≡ trees (take a.size plan) (k ∷ other) held tree)
      → ⊥
  no_reader_nods_in_trees = not_nodding_trees answers slots trees meets

-- the worked table
pub worked_table : Each Holds table
worked_table = worked

-- The board: what its calls promise, of every plan and every list of drums, forged ones too. Each call is a function (`called`, the contract
-- of the exports), so it has one answer
pub board_calls : (plan : List ℕ) (drums : List Drum) (number k : ℕ)
    → (call_on plan drums (ask opening number k) ≡ called open_of plan drums number k)
    × (call_on plan drums (ask event-asked number k) ≡ called event_of plan drums number k)
    × (call_on plan drums (ask close number k) ≡ called close_of plan drums number k)
unfolding asked_of
board_calls plan drums number k = (refl, refl, refl)

-- a call changes at most the drum named, and nothing where it judges nothing; how it answers and leaves that drum
pub board_leaves : (plan : List ℕ) (drums : List Drum) (c : Call) → Leaves drums c (call_on plan drums c)
board_leaves plan drums c = leaves plan drums c

-- without a good plan, a number below 32 and a list so long every call is 8, 9 or 17
pub board_unused : (plan : List ℕ) (drums : List Drum) (c : Call) → (Usable plan c.number → c.number < length drums → ⊥)
    → Unasked (call_on plan drums c).reading.number
board_unused plan drums c bad = unused_answers plan drums c bad

-- how a drum stands and what it answers depends on its own calls only, from any board, and so from a zero one
pub board_isolates : (plan : List ℕ) (drums : List Drum) (cs : List Call) (d : ℕ) → Isolated plan drums cs d
board_isolates plan drums cs d = isolated plan drums cs d

-- with a good plan and a number below 32 on the list: as a reading of the drum's events
pub board_reads : {plan : List ℕ} {number : ℕ} {run : List ℕ} {drums : List Drum} → Usable plan number → Plays plan number run drums
    → PlaysAsRead plan number run drums
board_reads usable plays = plays_as_read usable plays

-- from a zero board with one plan, whatever plan and calls, STALE never comes
pub board_never_stale : (plan : List ℕ) (drums : ℕ) (cs : List Call) (c : Call)
    → (call_on plan (drums_after plan (zero_board drums) cs) c).reading.number ≢ STALE
board_never_stale plan drums cs c = never_comes plan drums cs c

-- The board's due events, plans alike, profiles
-- plans alike but for what is due, on drums alike but for it: every call answers the same and leaves drums alike but for it, forged ones too
pub board_calls_alike : {plan other : List ℕ} → AlikeButDue plan other → {d e : Drum} → DrumsAlike d e → (number : ℕ)
    → CallsAlike plan other d e number
board_calls_alike alike same number = calls_alike alike same number

-- so a drum that stands after events by one of the plans stands after them by the other, alike but for what is due
pub board_stands_alike : {plan other : List ℕ} → AlikeButDue plan other → {number : ℕ} {run : List ℕ} {d : Drum} → Stands plan number run d
    → (e : Drum) × Stands other number run e × DrumsAlike d e
board_stands_alike alike stands = stands_alike alike stands

-- and calls one after another on boards alike but for what is due: every drum answers the same, and the boards stay alike but for it
pub board_sequences_alike : {plan other : List ℕ} → AlikeButDue plan other → {drums others : List Drum} → BoardsAlike drums others
    → (cs : List Call) → SequencesAlike plan other drums others cs
board_sequences_alike alike same cs = sequences_alike alike same cs

-- so many events are still due after a run, and no other number
pub due_told_once : {b : Book} {run : List ℕ} {m n : ℕ} → StillDue b run m → StillDue b run n → m ≡ n
due_told_once one other = due_once one other

-- a drum that stands after events by a compiled plan
module _ {bytes : List ℕ} {room : ℕ} {a : Compiled} {plan : List ℕ} (compiled : Compiles bytes room a plan) (is : a.number ≡ DONE)
    {number : ℕ} (low : number < board_drums) {run : List ℕ} {d : Drum} (stands : Stands (take a.size plan) number run d) where
  -- it has as due the least number of events that makes its run lawful, 65,535 where that is as much or more
  pub board_still_due : StillDue (book_of bytes) run d.due
  board_still_due = drum_due compiled is low stands

  -- if at most 64 parts are ever held, no event is DEEP
  pub board_never_deep : {depth : Depth} → Measures bytes depth → depth.number ≡ DONE → depth.held ≤ drum_slots → (k : ℕ)
      → (event_of (take a.size plan) d number k).reading.number ≢ DEEP
  board_never_deep measures done enough k = drum_shallow compiled is low stands measures done enough k

  -- under a profile of at most 64 slots that takes the book
  pub board_profile_never_deep : {slots : ℕ} {depth : Depth} → Profiles bytes slots depth → depth.number ≡ DONE → slots ≤ drum_slots
      → (k : ℕ) → (event_of (take a.size plan) d number k).reading.number ≢ DEEP
  board_profile_never_deep profiles done few k =
      let (measures, most) = taken_measured profiles done in
      drum_shallow compiled is low stands measures done (le_trans most few) k
