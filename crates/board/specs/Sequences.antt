-- A sequence of calls on a board with one plan: how its drums then stand, and what is answered.
use Rattle.std.specs.Prelude.{ℕ, ◌≡◌, cond, List, [], ◌∷◌, eqb, length, get_or}
use Rattle.reader.specs.declared.Reading.{Reading}
use Rattle.drums.specs.declared.Drum.{Drum}
use Rattle.drums.specs.declared.Stepped.{Stepped}
use Rattle.drums.specs.Drums.{idle_drum, open_of, event_of, close_of}
use Rattle.board.specs.Board.{Called, called}

-- what a call asks of a drum
pub data Asked : Type 0 where
  opening event close : Asked

unfoldable pub asked_of : Asked → List ℕ → Drum → ℕ → ℕ → Stepped
asked_of opening = open_of
asked_of event = event_of
asked_of close = close_of

-- a call: what it asks, of the drum with which number, with which kind
pub record Call : Type 0 where
  pub asked : Asked
  pub number : ℕ
  pub kind : ℕ

module _ (plan : List ℕ) where
  -- a call on a board
  abbrev pub call_on : List Drum → Call → Called
  call_on drums c = called (asked_of c.asked) plan drums c.number c.kind

  -- the drums after calls, one after another
  unfoldable pub drums_after : List Drum → List Call → List Drum
  drums_after drums [] = drums
  drums_after drums (c ∷ cs) = drums_after (call_on drums c).drums cs

  -- what the calls for one drum answer
  unfoldable pub answers_for : ℕ → List Drum → List Call → List Reading
  answers_for d drums [] = []
  answers_for d drums (c ∷ cs) =
      cond (eqb c.number d) ((call_on drums c).reading ∷ answers_for d (call_on drums c).drums cs)
      (answers_for d (call_on drums c).drums cs)

-- of calls, those for one drum
unfoldable pub calls_for : ℕ → List Call → List Call
calls_for d [] = []
calls_for d (c ∷ cs) = cond (eqb c.number d) (c ∷ calls_for d cs) (calls_for d cs)

-- a call leaves as many drums, and every drum but the one named as it was
pub record Touches (before : List Drum) (number : ℕ) (after : List Drum) : Type 0 where
  pub as_many : length after ≡ length before
  pub others : (d : ℕ) → (d ≡ number → ⊥) → get_or after d idle_drum ≡ get_or before d idle_drum

-- how a drum stands after calls, and what it answers, are what they would be had only its own calls been made
pub record Isolated (plan : List ℕ) (drums : List Drum) (cs : List Call) (d : ℕ) : Type 0 where
  pub stands :
      get_or (drums_after plan drums cs) d idle_drum ≡ get_or (drums_after plan drums (calls_for d cs)) d idle_drum
  pub answers : answers_for plan d drums cs ≡ answers_for plan d drums (calls_for d cs)
