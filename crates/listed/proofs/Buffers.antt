-- Laws of the lent buffers: what it is that they suffice, and what was read into the input's stands for the whole input.
use Prim.Native.Nat.{ℕ, ◌≤◌, ◌<◌}
use native.Mathlib.Omega.{arith}
use mathlib.Core.Path.{◌≡◌, refl, sym, ap, ap₂, ◌∙◌}
use mathlib.Core.Bool.{Bool, true, false}
use mathlib.Core.List.{List, ◌++◌}
use lib.Dec.{leb, eqb}
use lib.ListN.{length, take, drop, take-append-drop}
use lib.Seq.{take_all, length-take-le}
use borrow.Author.Tests.{leb-true, le-leb, eqb-true, eq-eqb}
use Rattle.words.proofs.Tests.{both, never}
use Rattle.book.specs.Form.{DONE}
use Rattle.reader.specs.Reads.{Outcome}
use Rattle.verdict.specs.Judges.{CONFLICT}
use Rattle.compiler.specs.declared.Compiled.{Compiled}
use Rattle.lines.specs.Lines.{refused_words, refused_line, conflict_line, accepted_lines}
use Rattle.listed.specs.Listing.{
  input_room,
  plan_room,
  slot_room,
  tree_room,
  out_room,
  compiled_line,
  reading_lines,
  Lists,
  too_long,
  too_short,
  book-refused,
  run_read,
  Listed,
  ReadInto,
  suffices,
  Answers,
}
use Rattle.listed.proofs.Unique.{lists_unique, lists_front}

-- the lengths that suffice
pub record Enough (buffer size out plan held tree : ℕ) : Type 0 where
  pub decides : input_room ≤ buffer
  pub read : size ≤ buffer
  pub lines : out_room ≤ out
  pub cells : plan ≡ plan_room
  pub slots : held ≡ slot_room
  pub records : tree ≡ tree_room

pub suffices_enough : (buffer size out plan held tree : ℕ)
    → suffices buffer size out plan held tree ≡ true
    → Enough buffer size out plan held tree
suffices_enough buffer size out plan held tree e =
    let (five, records) = both _ (eqb tree tree_room) e in
    let (four, slots) = both _ (eqb held slot_room) five in
    let (three, cells) = both _ (eqb plan plan_room) four in
    let (two, lines) = both _ (leb out_room out) three in
    let (decides, read) = both (leb input_room buffer) (leb size buffer) two in
    record {
      decides = leb-true _ _ decides;
      read = leb-true _ _ read;
      lines = leb-true _ _ lines;
      cells = eqb-true _ _ cells;
      slots = eqb-true _ _ slots;
      records = eqb-true _ _ records;
    }

pub enough_suffices : {buffer size out plan held tree : ℕ}
    → Enough buffer size out plan held tree
    → suffices buffer size out plan held tree ≡ true
enough_suffices {buffer} {size} {out} {plan} {held} {tree} enough =
    simp (
      le-leb input_room buffer enough.decides,
      le-leb size buffer enough.read,
      le-leb out_room out enough.lines,
      eq-eqb plan plan_room enough.cells,
      eq-eqb held slot_room enough.slots,
      eq-eqb tree tree_room enough.records,
    )

-- ---- what is written

-- something, for every input
reading_lines_some : (events : ℕ) (read : Outcome) → 0 < length (reading_lines events read)
unfolding reading_lines accepted_lines refused_line refused_words
reading_lines_some events read = go (eqb read.reading.number DONE) refl
  where
    go : (done : Bool) → eqb read.reading.number DONE ≡ done → 0 < length (reading_lines events read)
    go true e = rw e (omega arith)
    go false e = rw e (omega arith)

compiled_line_some : (answer : Compiled) → 0 < length (compiled_line answer)
unfolding compiled_line refused_line conflict_line refused_words
compiled_line_some answer = go (eqb answer.number CONFLICT) refl
  where
    go : (conflict : Bool) → eqb answer.number CONFLICT ≡ conflict → 0 < length (compiled_line answer)
    go true e = rw e (omega arith)
    go false e = rw e (omega arith)

pub lists_bytes : {input bytes : List ℕ} → Lists input bytes → 0 < length bytes
lists_bytes (too_long _) = omega arith
lists_bytes (too_short _) = omega arith
lists_bytes (book-refused _ _ _) = compiled_line_some _
lists_bytes (run_read _ _ _) = reading_lines_some _ _

module _ {input before : List ℕ} where
  -- as many bytes as are counted
  front : {after : List ℕ} {count : ℕ} → Listed input before after count → count ≡ length (take count after)
  front {after} {count} listed = sym (length-take-le count after listed.within)

  whole : {after : List ℕ} {count : ℕ} → Listed input before after count → after ≡ take count after ++ drop count before
  whole {after} {count} listed = sym (take-append-drop count after) ∙ ap (λ (rest : List ℕ). take count after ++ rest) listed.rest

  -- its count and its bytes are determined
  pub listed_unique : {after after' : List ℕ} {count count' : ℕ}
      → Listed input before after count
      → Listed input before after' count'
      → (count ≡ count') × (after ≡ after')
  listed_unique {count = count} {count'} one other =
      let same = lists_unique one.lists other.lists in
      let counts : count ≡ count' = front one ∙ ap length same ∙ sym (front other) in
      (counts, whole one ∙ ap₂ (λ (bytes : List ℕ) (n : ℕ). bytes ++ drop n before) same counts ∙ sym (whole other))

-- ---- what was read

-- a buffer of the bytes that decide: what is written for what was read is written for the whole input
pub read_listed : {input buffer out after : List ℕ} {size count : ℕ}
    → input_room ≤ length buffer
    → Listed (take size buffer) out after count
    → ReadInto input buffer size
    → Listed input out after count
read_listed {input} {buffer} decides listed read =
    record {
      within = listed.within;
      lists = lists_front (length buffer) input decides (rw read.front at listed.lists);
      rest = listed.rest;
    }

-- the bytes that were read, as an input of their own
read_itself : (buffer : List ℕ) (size : ℕ) → size ≤ length buffer → ReadInto (take size buffer) buffer size
read_itself buffer size within =
    record { front = sym (take_all (length buffer) (take size buffer) (rw (length-take-le size buffer within) within)) }

module _ (buffer : List ℕ) (size : ℕ) (out plan held tree : List ℕ) where
  abbrev fit : Bool
  fit = suffices (length buffer) size (length out) (length plan) (length held) (length tree)

  abbrev Fits : Type 0
  Fits = Enough (length buffer) size (length out) (length plan) (length held) (length tree)

  -- buffers that do not suffice
  pub answers_nothing : fit ≡ false → Answers buffer size out plan held tree out 0
  answers_nothing e = record { listed = λ is. never (sym e ∙ is); nothing = λ _. (refl, refl) }

  module _ {after : List ℕ} {count : ℕ} where
    -- buffers that suffice, and what is written for the bytes that were read
    pub answers_listed : Fits → Listed (take size buffer) out after count → Answers buffer size out plan held tree after count
    answers_listed fits listed =
        record {
          listed = λ _ input read. read_listed fits.decides listed read;
          nothing = λ is. never (sym is ∙ enough_suffices fits);
        }

    -- and then something is written, within the output
    pub answers_some : Fits → Answers buffer size out plan held tree after count → (0 < count) × (count ≤ length after)
    answers_some fits answers =
        let listed = answers.listed (enough_suffices fits) _ (read_itself buffer size fits.read) in
        (omega (arith, front listed, lists_bytes listed.lists), listed.within)

    -- the answer and the output after it are determined
    pub answers_unique : {after' : List ℕ} {count' : ℕ}
        → Answers buffer size out plan held tree after count
        → Answers buffer size out plan held tree after' count'
        → (count ≡ count') × (after ≡ after')
    answers_unique {after'} {count'} one other = by_lengths fit refl
      where
        by_lengths : (test : Bool) → fit ≡ test → (count ≡ count') × (after ≡ after')
        by_lengths true e =
            let fits : Fits = suffices_enough _ _ _ _ _ _ e in
            let itself = read_itself buffer size fits.read in
            listed_unique (one.listed e _ itself) (other.listed e _ itself)
        by_lengths false e = ((one.nothing e).0 ∙ sym (other.nothing e).0, (one.nothing e).1 ∙ sym (other.nothing e).1)
