-- Running a plan, sentence by sentence as document 01 has it, for any cells, forged ones too. The list of held parts
-- has the part held last in front.
use Rattle.std.specs.Prelude.{ℕ, zero, suc, ◌+◌, ◌<◌, ◌≡◌, ◌≢◌, Bool, true, ◌&&◌, cond, List, [], ◌∷◌, ◌++◌, ltb, leb, eqb, length, get_or}
use Rattle.kinds.specs.Kinds.{only_kind, joined}

-- the numbers of the refusals that a run can meet
abbrev pub DEEP : ℕ
DEEP = 11

abbrev pub UNKNOWN : ℕ
UNKNOWN = 12

abbrev pub UNEXPECTED : ℕ
UNEXPECTED = 13

abbrev pub END : ℕ
END = 14

abbrev pub RUNAWAY : ℕ
RUNAWAY = 15

-- what a reading goes by: how many nodes and kinds there are, the start, each node's left and right and its tag, 0
-- where it is not tagged, the cell of a node for a kind, and whether a node is nullable by its row; with how many
-- events are due for a node
pub record Plan : Type 0 where
  pub count : ℕ
  pub kinds : ℕ
  pub start : ℕ
  pub left : ℕ → ℕ
  pub right : ℕ → ℕ
  pub tag : ℕ → ℕ
  pub cell : ℕ → ℕ → ℕ
  pub null : ℕ → Bool
  pub due : ℕ → ℕ

-- a slot is free where fewer parts are held than there are slots; and without a limit
abbrev pub with_slots : ℕ → ℕ → Bool
with_slots slots parts = ltb parts slots

abbrev pub unlimited : ℕ → Bool
unlimited parts = true

-- what a cell says: refuse the event, take it, go left, hold right and go left, write an empty record for left and go
-- right, go right
pub data Move : Type 0 where
  refuse : Move
  take_event : Move
  go_left : Move
  hold_right : Move
  skip_left : Move
  go_right : Move

-- the cells 0 to 5 in this order; any other refuses the event
unfoldable pub move_of : ℕ → Move
move_of cell = get_or (refuse ∷ take_event ∷ go_left ∷ hold_right ∷ skip_left ∷ go_right ∷ []) cell refuse

-- the record of a part that takes no event
abbrev pub emptied : ℕ → ℕ
emptied n = n + 32768

-- what one event comes to, with parts of some sort held: taken, with the parts then held and the records written; or
-- refused, with the refusal's number
pub data StepOf (P : Type 0) : Type 0 where
  taken : List P → List ℕ → StepOf P
  refused : ℕ → StepOf P

-- the parts held are nodes
abbrev pub Step : Type 0
Step = StepOf ℕ

-- one record more, before those that follow
unfoldable pub noted : {P : Type 0} → ℕ → StepOf P → StepOf P
noted r (taken held records) = taken held (r ∷ records)
noted r (refused number) = refused number

-- what a move does at a node, given how the walk goes on from a node with parts held, whether a slot is free, and
-- left and right
unfoldable pub visit : Move → (ℕ → List ℕ → Step) → (ℕ → Bool) → ℕ → ℕ → List ℕ → Step
visit refuse go free l r held = refused UNEXPECTED
visit take_event go free l r held = taken held []
visit go_left go free l r held = go l held
visit hold_right go free l r held = cond (free (length held)) (go l (r ∷ held)) (refused DEEP)
visit skip_left go free l r held = noted (emptied l) (go r held)
visit go_right go free l r held = go r held

-- a part taken off, by its cell and whether it is nullable: its walk where the cell is not 0, else it is passed or
-- the event refused
unfoldable pub take_off : {P : Type 0} → ℕ → Bool → StepOf P → StepOf P → StepOf P
take_off cell null walked passed = cond (eqb cell 0) (cond null passed (refused UNEXPECTED)) walked

-- what a whole reading comes to: accepted, with its records; or stopped, with number, place and the parts held before
pub data AnswerOf (P : Type 0) : Type 0 where
  accepted : List ℕ → AnswerOf P
  stopped : ℕ → ℕ → List P → AnswerOf P

abbrev pub Answer : Type 0
Answer = AnswerOf ℕ

-- records written before those of an accepted run
unfoldable pub logged : {P : Type 0} → List ℕ → AnswerOf P → AnswerOf P
logged records (accepted more) = accepted (records ++ more)
logged records (stopped number place held) = stopped number place held

-- after an event at a place, with these parts held before it: on with the rest of the run, or the refusal
unfoldable pub onward : {P : Type 0} → StepOf P → (List P → AnswerOf P) → ℕ → List P → AnswerOf P
onward (taken held records) rest at before = logged records (rest held)
onward (refused number) rest at before = stopped number at before

module _ (p : Plan) where
  -- the end: all held parts are taken off in turn; each must be nullable by its row and writes one empty record
  unfoldable pub finish : ℕ → List ℕ → List ℕ → Answer
  finish at before [] = accepted []
  finish at before (n ∷ held) =
      cond (p.null n) (logged (emptied n ∷ []) (finish at before held)) (stopped END at before)

  -- the kinds below a number whose cell in a node's row is not 0
  unfoldable pub row_first : ℕ → ℕ → ℕ
  row_first n zero = 0
  row_first n (suc k) = joined (row_first n k) (cond (eqb (p.cell n k) 0) 0 (only_kind k))

  -- the kinds that may come next: FIRST, by the row's nonzero cells, of the part held last, and while parts are
  -- nullable by their rows, of the next
  unfoldable pub expected : List ℕ → ℕ
  expected [] = 0
  expected (n ∷ held) = joined (row_first n p.kinds) (cond (p.null n) (expected held) 0)

  -- a kind may come next where parts are held: its cell in the row of the part held last is not 0, or that part is
  -- nullable by its row and the kind may come next where the parts under it are held
  pub data Next (k : ℕ) : List ℕ → Type 0 where
    next_here : {n : ℕ} {held : List ℕ} → k < p.kinds → p.cell n k ≢ 0 → Next k (n ∷ held)
    next_under : {n : ℕ} {held : List ℕ} → p.null n ≡ true → Next k held → Next k (n ∷ held)

  -- whether a slot is free where so many parts are held
  module _ (free : ℕ → Bool) where
    module _ (k : ℕ) where
      -- the walk from a node, with so many visits left: each visited node writes a record, then its cell says how to
      -- go on
      unfoldable pub walk : ℕ → ℕ → List ℕ → Step
      walk zero n held = refused RUNAWAY
      walk (suc left) n held =
          noted n (visit (move_of (p.cell n k)) (λ m h. walk left m h) free (p.left n) (p.right n) held)

      -- an event: the part held last is taken off
      unfoldable pub event : List ℕ → Step
      event [] = refused UNEXPECTED
      event (n ∷ held) = take_off (p.cell n k) (p.null n) (walk p.count n held) (noted (emptied n) (event held))

    -- a run from a place on, with these parts held
    unfoldable pub reads : ℕ → List ℕ → List ℕ → Answer
    reads at held [] = finish at held held
    reads at held (k ∷ run) =
        cond (ltb k p.kinds) (onward (event k held) (λ h. reads (suc at) h run) at held) (stopped UNKNOWN at held)

    -- a whole run: the list of held parts begins with the start node
    unfoldable pub reading : List ℕ → Answer
    reading run = reads 0 (p.start ∷ []) run

-- whether a refusal tells what was expected: 12, 13 and 14 do
abbrev pub tells : ℕ → Bool
tells number = leb UNKNOWN number && leb number END
