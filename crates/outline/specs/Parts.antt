-- What the readers of a text's parts answer, by the reading byte by byte.
use Rattle.std.specs.Prelude.{ℕ, ◌+◌, ◌≤◌, ◌<◌, ◌≡◌, true, List, [], ◌∷◌, ◌++◌, eqb, length}
use Rattle.std.proofs.lemmas.List.Edits.{sets}
use Rattle.sheets.specs.Grammar.{Expression, Rule, rule}
use Rattle.syntax.specs.Machine.{no_choice, no_factor, so_far, Frame, frame, blank_frame, Inside, due, after, done}
use Rattle.syntax.specs.Machine.{State, name_due, inside, with_factor, begun}
use Rattle.spelling.specs.Places.{ends_expression, byte_at, letters_at, GoesWrong, Comes, LettersTo, Fresh, Over}
use Rattle.book.specs.declared.Node.{Node}
use Rattle.outline.specs.Raw.{raw, raw_from, most, cut}
use Rattle.outline.specs.declared.RawNode.{RawNode}
use Rattle.outline.specs.declared.Cursor.{Cursor}

-- items put down in a buffer from the n-th on: how many there are then; they stand there where they are not too many and
-- the buffer holds the most
pub record Laid {A : Type 0} (before : List A) (n next : ℕ) (items after : List A) : Type 0 where
  pub counted : next ≡ cut (n + length items)
  pub long : length after ≡ length before
  pub laid : n + length items ≤ most → most ≤ length before → after ≡ sets before n items

-- two parts joined by a node that comes from a place, which is put down after those of both
pub record Joined (node : Node) (place : ℕ) (part further : Cursor) (before : List RawNode) (r : Cursor) (after : List RawNode)
    : Type 0 where
  pub reached : r.at ≡ further.at
  pub begun_at : r.from ≡ part.from
  pub put : Laid before further.next r.next (raw node place ∷ []) after

-- with so many nestings left
abbrev pub NestingsLeft : ℕ → Inside → Type 0
NestingsLeft depth i = length i.opens + depth ≡ 32

module _ (text : List ℕ) where
  -- a name and its `=` are read, from the name on: an expression is due there; or the text goes wrong at a place
  pub record NameDone (at to : ℕ) : Type 0 where
    pub name_end : ℕ
    pub letters : LettersTo text at name_end
    pub further : at < to
    pub within : to ≤ length text
    pub comes : (rules : List Rule) → Comes text at (name_due rules) to (begun rules at (letters_at text at name_end))

  pub record NameWrong (at place : ℕ) : Type 0 where
    pub within : place ≤ length text
    pub wrong : (rules : List Rule) → GoesWrong text at (name_due rules) place

  -- a part of an expression, begun in a frame by the one around it, with so many nestings left and so many nodes before
  -- it: from a place on the text goes wrong at another, whatever is around
  module _ (Begun : Frame → Frame) where
    pub record PartWrong (at depth : ℕ) (before : List RawNode) (place : ℕ) (after : List RawNode) : Type 0 where
      pub within : place ≤ length text
      pub long : length after ≡ length before
      pub wrong : (i : Inside) (f : Frame) → NestingsLeft depth i → GoesWrong text at (inside i (Begun f) due) place

    -- or it is read: the reading comes to a place and stands as said, where the byte is as said, with an expression's
    -- nodes put down
    module _ (Ended : Inside → Frame → ℕ → Expression → State) (Stops : ℕ → Type 0) where
      pub record PartDone (at depth : ℕ) (before : List RawNode) (n : ℕ) (r : Cursor) (after : List RawNode) : Type 0 where
        pub expression : Expression
        pub further : at < r.at
        pub within : r.at ≤ length text
        pub put : Laid before n r.next (raw_from n expression) after
        pub comes : (i : Inside) (f : Frame) → NestingsLeft depth i
            → Comes text at (inside i (Begun f) due) r.at (Ended i f r.from expression)
        pub stops : Stops r.at

  -- the byte at a place ends an expression
  pub record Ends (at : ℕ) : Type 0 where
    pub ends : ends_expression (byte_at text at) ≡ true

  -- a factor without its star, a factor, factors, a sequence, sequences, an expression
  abbrev pub BareDone : ℕ → ℕ → List RawNode → ℕ → Cursor → List RawNode → Type 0
  BareDone = PartDone (λ f. f) (λ i f from e. inside i f (after from e)) (λ _. Unit)

  abbrev pub FactorDone : ℕ → ℕ → List RawNode → ℕ → Cursor → List RawNode → Type 0
  FactorDone = PartDone (λ f. f) (λ i f from e. inside i (with_factor from e f) done) (Fresh text)

  abbrev pub FactorWrong : ℕ → ℕ → List RawNode → ℕ → List RawNode → Type 0
  FactorWrong = PartWrong (λ f. f)

  abbrev pub FactorsDone : ℕ → ℕ → List RawNode → ℕ → Cursor → List RawNode → Type 0
  FactorsDone =
      PartDone (λ f. frame f.choices no_factor) (λ i f from e. inside i (frame f.choices (so_far e)) done) (Fresh text)

  abbrev pub SequenceDone : ℕ → ℕ → List RawNode → ℕ → Cursor → List RawNode → Type 0
  SequenceDone =
      PartDone (λ f. frame f.choices no_factor) (λ i f from e. inside i (frame f.choices (so_far e)) done) (Over text)

  abbrev pub SequenceWrong : ℕ → ℕ → List RawNode → ℕ → List RawNode → Type 0
  SequenceWrong = PartWrong (λ f. frame f.choices no_factor)

  abbrev pub SequencesDone : ℕ → ℕ → List RawNode → ℕ → Cursor → List RawNode → Type 0
  SequencesDone = PartDone (λ f. blank_frame) (λ i f from e. inside i (frame no_choice (so_far e)) done) (Over text)

  abbrev pub ExpressionDone : ℕ → ℕ → List RawNode → ℕ → Cursor → List RawNode → Type 0
  ExpressionDone = PartDone (λ f. blank_frame) (λ i f from e. inside i (frame no_choice (so_far e)) done) Ends

  abbrev pub ExpressionWrong : ℕ → ℕ → List RawNode → ℕ → List RawNode → Type 0
  ExpressionWrong = PartWrong (λ f. blank_frame)

  -- a word is read as a factor without its star, with any nestings left
  pub record WordDone (at : ℕ) (before : List RawNode) (n : ℕ) (r : Cursor) (after : List RawNode) : Type 0 where
    pub bare : (depth : ℕ) → BareDone at depth before n r after

  pub record WordWrong (at : ℕ) (before : List RawNode) (place : ℕ) (after : List RawNode) : Type 0 where
    pub wrong : (depth : ℕ) → FactorWrong at depth before place after

  -- an expression in parentheses, of which the first stands at a place, is read as a factor without its star, or goes
  -- wrong where it is not shut
  pub record Shut (place : ℕ) (inner r : Cursor) : Type 0 where
    pub bare : {depth n : ℕ} {before after : List RawNode}
        → eqb (byte_at text place) 40 ≡ true
        → ExpressionDone (place + 1) depth before n inner after
        → BareDone place (depth + 1) before n r after

  pub record ShutWrong (place : ℕ) (inner : Cursor) (end : ℕ) : Type 0 where
    pub wrong : {depth n : ℕ} {before after : List RawNode}
        → eqb (byte_at text place) 40 ≡ true
        → ExpressionDone (place + 1) depth before n inner after
        → FactorWrong place (depth + 1) before end after

  -- a factor without its star is read as a factor
  pub record Starred (bare : Cursor) (between : List RawNode) (r : Cursor) (after : List RawNode) : Type 0 where
    pub factor : {at depth n : ℕ} {before : List RawNode}
        → BareDone at depth before n bare between
        → FactorDone at depth before n r after

  -- the body of a rule is its expression up to its end, after which the next rule's name is due
  abbrev pub BodyDone : ℕ → ℕ → List RawNode → ℕ → Cursor → List RawNode → Type 0
  BodyDone =
      PartDone (λ f. blank_frame) (λ i f from e. name_due (i.rules ++ (rule i.place i.name e ∷ []))) (Fresh text)

  -- a rule's expression is read as its body, or goes wrong where it does not end
  pub record Finished (read r : Cursor) : Type 0 where
    pub body : {at n : ℕ} {before after : List RawNode}
        → ExpressionDone at 32 before n read after
        → BodyDone at 32 before n r after

  pub record FinishedWrong (read : Cursor) (place : ℕ) : Type 0 where
    pub wrong : {at n : ℕ} {before after : List RawNode}
        → ExpressionDone at 32 before n read after
        → ExpressionWrong at 32 before place after
