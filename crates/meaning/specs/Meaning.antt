-- What a book means to a reading: the records of derivations, and what each answer means.
use Rattle.std.specs.Prelude.{ℕ, suc, ◌<◌, ◌≡◌, ◌↔◌, List, [], ◌∷◌, ◌++◌, cond, ltb, length, take, get_or}
use Rattle.kinds.specs.Kinds.{Has}
use Rattle.book.specs.Book.{Book}
use Rattle.book.specs.declared.Node.{Node}
use Rattle.grammar.specs.Derivations.{Derives, d_empty, d_token, d_left, d_right, d_then, d_tagged, d_ref}
use Rattle.grammar.specs.Derivations.{Lawful, Begins}
use Rattle.running.specs.Running.{UNKNOWN, UNEXPECTED, END, Plan, Answer, emptied, accepted, stopped, expected}

-- the records of a part, by the run it takes: a single empty record if it takes no event, else its node's and then
-- those of its parts
unfoldable pub part_records : ℕ → List ℕ → List ℕ → List ℕ
part_records n [] parts = emptied n ∷ []
part_records n (k ∷ xs) parts = n ∷ parts

module _ {node : ℕ → Node} where
  -- the records of the parts of a derivation's top node, left to right
  unfoldable pub parts : {top : Node} {xs : List ℕ} → Derives node top xs → List ℕ
  parts d_empty = []
  parts d_token = []
  parts (d_left {l} {xs = xs} d) = part_records l xs (parts d)
  parts (d_right {r = r} {xs = xs} d) = part_records r xs (parts d)
  parts (d_then {l} {r} {xs} {ys} d e) = part_records l xs (parts d) ++ part_records r ys (parts e)
  parts (d_tagged {l} {xs = xs} d) = part_records l xs (parts d)
  parts (d_ref {l} {xs = xs} d) = part_records l xs (parts d)

  -- the records of a derivation from a node of this number: top-down, left to right, a part that takes no event a
  -- single empty record
  unfoldable pub tree : {top : Node} {xs : List ℕ} → ℕ → Derives node top xs → List ℕ
  tree {xs = xs} n d = part_records n xs (parts d)

-- a run is accepted with these records: they are the tree of a derivation of the run by the start
pub record Accepts (b : Book) (xs records : List ℕ) : Type 0 where
  pub derivation : Lawful b xs
  pub records_are : records ≡ tree b.start derivation

-- a run is refused at an event: the events before it begin a lawful run, and those with it begin none
pub record Refuses (b : Book) (xs : List ℕ) (i : ℕ) : Type 0 where
  pub within : i < length xs
  pub agrees : Begins b (take i xs)
  pub differs : Begins b (take (suc i) xs) → ⊥

-- a run ends too soon: it begins a lawful run and is none
pub record Ends (b : Book) (xs : List ℕ) (i : ℕ) : Type 0 where
  pub whole : i ≡ length xs
  pub agrees : Begins b xs
  pub unlawful : Lawful b xs → ⊥

-- the number of a refusal of an event: 13, or 12 where the book has no such kind
abbrev pub refusal_of : ℕ → ℕ → ℕ
refusal_of kinds k = cond (ltb k kinds) UNEXPECTED UNKNOWN

-- what an answer to a run means: accepted, with the tree of a derivation; refused at an event, by its kind; at an end
-- too soon; and no other. The parts held that a refusal carries only serve `expected`
pub data Means (b : Book) (xs : List ℕ) : Answer → Type 0 where
  means_accepted : {records : List ℕ} → Accepts b xs records → Means b xs (accepted records)
  means_refused : {number i : ℕ} {held : List ℕ} → Refuses b xs i → number ≡ refusal_of b.kinds (get_or xs i 0)
      → Means b xs (stopped number i held)
  means_end : {i : ℕ} {held : List ℕ} → Ends b xs i → Means b xs (stopped END i held)

-- the kinds of a set are those that some lawful run has next, behind a beginning
pub record NextKinds (b : Book) (before : List ℕ) (set : ℕ) : Type 0 where
  pub next : (k : ℕ) → Has set k ↔ Begins b (before ++ k ∷ [])

-- what the parts held tell, by a plan's rows, that a refusal carries: the kinds that some lawful run has next, behind
-- the events before its place
pub data Tells (b : Book) (xs : List ℕ) (p : Plan) : Answer → Type 0 where
  tells_none : {records : List ℕ} → Tells b xs p (accepted records)
  tells-next : {number i : ℕ} {held : List ℕ} → NextKinds b (take i xs) (expected p held)
      → Tells b xs p (stopped number i held)

-- an answer without the parts held that a refusal carries
unfoldable pub without_parts : Answer → Answer
without_parts (accepted records) = accepted records
without_parts (stopped number place held) = stopped number place []
