-- A board's calls by one plan, as a caller meets them: what a call leaves, and what is answered for a drum's run.
use Rattle.std.specs.Prelude.{ℕ, ◌≤◌, ◌<◌, ◌≡◌, Bool, true, false, ◌≢◌, ◌⊎◌, List, [], ◌∷◌, ◌++◌, length, get_or, replicate}
use Rattle.book.specs.Form.{DONE}
use Rattle.running.specs.Running.{RUNAWAY}
use Rattle.plan.specs.Form.{PLAN-FORM, CELL}
use Rattle.reader.specs.Numbers.{LONG, answered}
use Rattle.reader.specs.Reads.{read_of}
use Rattle.drums.specs.declared.Drum.{Drum}
use Rattle.drums.specs.Drums.{NO-DRUM, IDLE, STALE, drum_slots, most_records, idle_drum}
use Rattle.board.specs.Board.{Called}
use Rattle.board.specs.Sequences.{Asked, opening, event, close, Call, call_on, Touches}

-- a board of so many drums, all of them zero
abbrev pub zero_board : ℕ → List Drum
zero_board drums = replicate drums idle_drum

-- a call, for the drum with this number
abbrev pub ask : Asked → ℕ → ℕ → Call
ask asked number kind = record { asked = asked; number = number; kind = kind }

-- whether a close is asked
unfoldable pub closing : Asked → Bool
closing opening = false
closing event = false
closing close = true

-- the answers before a drum is looked at: 8, 9 and 17
abbrev pub Unasked : ℕ → Type 0
Unasked n = (n ≡ PLAN-FORM) ⊎ ((n ≡ CELL) ⊎ (n ≡ NO-DRUM))

-- the answers that judge nothing: 8, 9, 17, 18 and 33
abbrev pub Unjudged : ℕ → Type 0
Unjudged n = (n ≡ PLAN-FORM) ⊎ ((n ≡ CELL) ⊎ ((n ≡ NO-DRUM) ⊎ ((n ≡ IDLE) ⊎ (n ≡ STALE))))

-- the refusals of an event and of the end: 10 to 15
abbrev pub Refusing : ℕ → Type 0
Refusing n = (LONG ≤ n) × (n ≤ RUNAWAY)

-- how a call answers and what it leaves, of any drums
pub record Leaves (drums : List Drum) (c : Call) (after : Called) : Type 0 where
  pub listed : (after.reading.number ≡ DONE) ⊎ (Refusing after.reading.number ⊎ Unjudged after.reading.number)
  -- as many drums, and the others as they were
  pub touches : Touches drums c.number after.drums
  -- where nothing is judged, nothing is changed
  pub nothing : Unjudged after.reading.number → after.drums ≡ drums
  -- an opening and a taken event answer the events and records so far, and leave the unused slots zero
  pub so_far : closing c.asked ≡ false → after.reading.number ≡ DONE
      → after.reading
      ≡ answered DONE (get_or after.drums c.number idle_drum).events
      (get_or after.drums c.number idle_drum).records 0
  pub unused_zero : closing c.asked ≡ false → after.reading.number ≡ DONE
      → (i : ℕ) → (get_or after.drums c.number idle_drum).held ≤ i
      → get_or (get_or after.drums c.number idle_drum).slots i 0 ≡ 0
  -- a refusal leaves the drum all zero
  pub refused-idle : Refusing after.reading.number → get_or after.drums c.number idle_drum ≡ idle_drum
  -- and so does every close that judges
  pub closed-idle : closing c.asked ≡ true → (Unjudged after.reading.number → ⊥)
      → get_or after.drums c.number idle_drum ≡ idle_drum

module _ (plan : List ℕ) (number : ℕ) where
  -- drums after calls: this one was opened and then took these events, whatever was asked of others meanwhile
  pub data Plays : List ℕ → List Drum → Type 0 where
    after-opening : (drums : List Drum) (k : ℕ) → number < length drums
        → Plays [] (call_on plan drums (ask opening number k)).drums
    after_event : {run : List ℕ} {drums : List Drum} (k : ℕ) → Plays run drums
        → (call_on plan drums (ask event number k)).reading.number ≡ DONE
        → Plays (run ++ (k ∷ [])) (call_on plan drums (ask event number k)).drums
    after_other : {run : List ℕ} {drums : List Drum} (c : Call) → number ≢ c.number → Plays run drums
        → Plays run (call_on plan drums c).drums

  -- what its next call answers
  pub record PlaysAsRead (run : List ℕ) (drums : List Drum) : Type 0 where
    -- a close: as a whole reading of its events with 64 slots and tree room for all records
    pub close_reads : (k room : ℕ) → most_records ≤ room
        → (call_on plan drums (ask close number k)).reading ≡ (read_of plan run drum_slots room).reading
    -- a refused event, LONG too: as a reading of the events up to and with it, with any tree room
    pub refused_reads : (k room : ℕ) → (call_on plan drums (ask event number k)).reading.number ≢ DONE
        → (call_on plan drums (ask event number k)).reading ≡ (read_of plan (run ++ (k ∷ [])) drum_slots room).reading
    -- its events are counted
    pub counted : (get_or drums number idle_drum).events ≡ length run
