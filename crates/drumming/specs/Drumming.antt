-- A drum by one good plan: its calls answer as a reading of its events does.
use Rattle.std.specs.Prelude.{ℕ, ◌≤◌, ◌<◌, ◌≡◌, ◌≢◌, List, [], ◌∷◌, ◌++◌, length, get_or}
use Rattle.book.specs.Form.{DONE, judged}
use Rattle.plan.specs.Form.{plan_count, plan_judged}
use Rattle.reader.specs.Reads.{read_of}
use Rattle.drums.specs.declared.Drum.{Drum}
use Rattle.drums.specs.Drums.{STALE, board_drums, drum_slots, most_records, idle_drum, drum_judged, open_of, event_of, close_of}

-- a good plan, and a number that a drum can have
pub record Usable (plan : List ℕ) (number : ℕ) : Type 0 where
  pub good : (plan_judged plan).number ≡ DONE
  pub known : number < board_drums

module _ (plan : List ℕ) (number : ℕ) where
  -- a drum as it stands after an opening and these events, all of them taken
  pub data Stands : List ℕ → Drum → Type 0 where
    after-opening : (d : Drum) (k : ℕ) → Stands [] (open_of plan d number k).drum
    after_event : {run : List ℕ} {d : Drum} (k : ℕ) → Stands run d → (event_of plan d number k).reading.number ≡ DONE
        → Stands (run ++ (k ∷ [])) (event_of plan d number k).drum

  -- what its calls then answer
  pub record AsReading (run : List ℕ) (d : Drum) : Type 0 where
    -- a close: as a whole reading of its events with 64 slots and tree room for all records
    pub close_reads : (k room : ℕ) → most_records ≤ room
        → (close_of plan d number k).reading ≡ (read_of plan run drum_slots room).reading
    pub close_idles : (k : ℕ) → (close_of plan d number k).drum ≡ idle_drum
    -- a refused event, LONG too: as a reading of the events up to and with it, with any tree room
    pub refused_reads : (k room : ℕ) → (event_of plan d number k).reading.number ≢ DONE
        → (event_of plan d number k).reading ≡ (read_of plan (run ++ (k ∷ [])) drum_slots room).reading
    pub refused_idles : (k : ℕ) → (event_of plan d number k).reading.number ≢ DONE
        → (event_of plan d number k).drum ≡ idle_drum
    -- it has its events counted, its unused slots are zero, and it is neither idle nor stale
    pub events_counted : d.events ≡ length run
    pub unused_zero : (i : ℕ) → d.held ≤ i → get_or d.slots i 0 ≡ 0
    pub open_sound : drum_judged (plan_count plan) d ≡ judged DONE 0

  -- a drum of a board that was zero: idle, or as it stands after an opening and events
  pub data Lives : Drum → Type 0 where
    lives_idle : Lives idle_drum
    lives_open : {run : List ℕ} {d : Drum} → Stands run d → Lives d

  -- its calls leave such a drum, and never answer STALE
  pub record NeverStale (d : Drum) : Type 0 where
    pub open_lives : (k : ℕ) → Lives (open_of plan d number k).drum
    pub event_lives : (k : ℕ) → Lives (event_of plan d number k).drum
    pub close_lives : (k : ℕ) → Lives (close_of plan d number k).drum
    pub event_answers : (k : ℕ) → (event_of plan d number k).reading.number ≢ STALE
    pub close_answers : (k : ℕ) → (close_of plan d number k).reading.number ≢ STALE
