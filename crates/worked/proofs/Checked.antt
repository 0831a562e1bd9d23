-- The worked table holds: what compiling and reading come to is computed at each case, and is what the case says.
use Prim.Native.Nat.{ℕ}
use native.Mathlib.Decide.{dec_lt, ℕ_discrete}
use mathlib.Core.Path.{◌≡◌, refl, ap, subst}
use mathlib.Core.List.{List, [], ◌∷◌, map, flat_map}
use lib.ListN.{get_or, drop}
use Rattle.words.specs.Words.{u16_at, word_bytes}
use Rattle.kinds.specs.Kinds.{set_of}
use Rattle.words.specs.Lists.{first_bad, every, same}
use Rattle.book.specs.Decode.{node_at, nodes, node_good}
use Rattle.names.specs.Names.{whole_at, name_at, name_new, name_good, names_good}
use Rattle.book.specs.Form.{named, settings_at, count_of, form_of, book_of}
use Rattle.book.specs.Encode.{body_words}
use Rattle.rules.proofs.Least.{filled, kept_or, differ, turned, settled, settle, decided}
use Rattle.rules.proofs.Marks.{ruled, given, facts_decided, fact_decided, productive_decided, nullable_decided, first_decided, snf_decided}
use Rattle.rules.proofs.Reaching.{child?, any, reached?, reach_decided}
use Rattle.rules.specs.Growth.{total}
use Rattle.lengths.specs.Falling.{length_of}
use Rattle.lengths.proofs.Deciding.{lower, climb, turn, rested, rest, least_lengths}
use Rattle.writer.specs.Bytes
use Rattle.writer.specs.Bytes.{plan_bytes, plan_contents, book_body}
use Rattle.words.specs.Lists.{values_from, lists_from}
use Rattle.running.specs.Cells.{cell_of}
use Rattle.plan.specs.Form.{plan_count, plan_kinds, plan_start, cell_at, plan_from, plan_good, cell_good, cells_judged, plan_judged}
use Rattle.running.specs.Running.{move_of, noted, take_off, logged, onward, row_first, expected}
use Rattle.running.specs.Stages.{staged_visit, staged_walk, staged_event, staged_finish, staged_reads, staged_reading, stage_of}
use Rattle.compiler.specs.declared.Compiled.{Compiled}
use Rattle.compiler.specs.Compiles.{answer, Compiles}
use Rattle.verdict.proofs.Some.{decide, other_way, search, shared, tells, conflict?, unreached?}
use Rattle.verdict.proofs.Some.{judged_fruitful, judged_start, judged_good, judged_form, judges_some}
use Rattle.running.proofs.Found.{lengths_found, marks}
use Rattle.compiler.proofs.Some.{by_verdict, compiles_some}
use Rattle.reader.specs.Reads.{Outcome, outcome, accepted_of, outcome_of, run_of, read_of}
use Rattle.worked.specs.Worked.{book, Case, compiled, read, Each, no_more, and, Holds, table}

-- the numbers of an answer, and those of the buffer after them
abbrev compiled_numbers : Compiled → List ℕ → List ℕ
compiled_numbers a plan = a.number ∷ a.place ∷ a.size ∷ a.both ∷ a.clash ∷ plan

abbrev read_numbers : Outcome → List ℕ
read_numbers o = o.reading.number ∷ o.reading.place ∷ o.reading.records ∷ o.reading.label ∷ o.reading.expected ∷ o.tree

-- the numbers that a case comes to, and those that it says
unfoldable computed : Case → List ℕ
computed (compiled bytes room a buffer) = compiled_numbers (compiles_some bytes room).0 (compiles_some bytes room).1
computed (read bytes run slots room a buffer) = read_numbers (read_of bytes run slots room)

unfoldable said : Case → List ℕ
said (compiled bytes room a buffer) = compiled_numbers a buffer
said (read bytes run slots room a buffer) = read_numbers (outcome a buffer)

-- a case whose numbers are those that it says holds
holds : (c : Case) → computed c ≡ said c → Holds c
unfolding computed said
holds (compiled bytes room a buffer) e =
    subst (λ (l : List ℕ). Compiles bytes room (answer (get_or l 0 0) (get_or l 1 0) (get_or l 2 0) (get_or l 3 0) (get_or l 4 0)) (drop 5 l)) e
    (compiles_some bytes room).2
holds (read bytes run slots room a buffer) e =
    ap
    (λ (l : List ℕ).
    outcome (record { number = get_or l 0 0; place = get_or l 1 0; records = get_or l 2 0; label = get_or l 3 0; expected = get_or l 4 0 }) (drop 5 l)) e

each : (cases : List Case) → map computed cases ≡ map said cases → Each Holds cases
each [] e = no_more
each (c ∷ cases) e = and (holds c (ap (λ (l : List (List ℕ)). get_or l 0 []) e)) (each cases (ap (λ (l : List (List ℕ)). drop 1 l) e))

-- the numbers, computed
all_right : map computed table ≡ map said table
unfolding table book word_bytes flat_map computed said by_verdict compiles_some
    u16_at named settings_at count_of book_of node_at nodes node_good first_bad form_of ℕ_discrete dec_lt
    every same whole_at name_at name_new name_good names_good
    filled kept_or differ turned settled settle decided ruled given facts_decided fact_decided productive_decided nullable_decided
    first_decided snf_decided child? any reached? reach_decided
    decide other_way search set_of shared tells conflict? unreached?
    judged_fruitful judged_start judged_good judged_form judges_some marks
    plan_bytes plan_contents book_body body_words values_from lists_from Bytes.row_of Bytes.rows_of Bytes.dues_of cell_of
    total length_of lower climb turn rested rest least_lengths lengths_found
    plan_count plan_kinds plan_start cell_at plan_from plan_good cell_good cells_judged plan_judged
    move_of noted take_off staged_visit staged_walk staged_event logged onward staged_finish staged_reads staged_reading stage_of
    row_first expected accepted_of outcome_of run_of read_of
all_right = refl

-- every case of the table holds
pub worked : Each Holds table
worked = each table all_right
