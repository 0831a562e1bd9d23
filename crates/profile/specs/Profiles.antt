-- The greatest number of parts ever held by a book, and what a profile of so many slots says of the book.
use Rattle.std.specs.Prelude.{ℕ, ◌≤◌, ◌<◌, ◌≢◌, ◌⊎◌, List}
use Rattle.book.specs.Form.{DONE, book_of}
use Rattle.verdict.specs.declared.Verdict.{Verdict}
use Rattle.verdict.specs.Judges.{judgement, Judges}
use Rattle.depths.specs.Depths.{Greatest, NoGreatest}
use Rattle.profile.specs.declared.Depth.{Depth}

-- the answers' numbers, after the book's own; SLOTS before them all
abbrev pub UNBOUNDED : ℕ
UNBOUNDED = 30

abbrev pub DEEPER : ℕ
DEEPER = 31

abbrev pub SLOTS : ℕ
SLOTS = 32

-- an answer: number, place and how many parts are held at most
abbrev pub depth : ℕ → ℕ → ℕ → Depth
depth number place held = record { number = number; place = place; held = held }

-- what is answered of bytes: the book's own refusals, that there is no greatest number, or the number
pub data Measures (bytes : List ℕ) : Depth → Type 0 where
  refused : {v : Verdict} → Judges bytes v → v.number ≢ DONE → Measures bytes (depth v.number v.place 0)
  unbounded : Judges bytes (judgement DONE 0 0 0) → NoGreatest (book_of bytes) → Measures bytes (depth UNBOUNDED 0 0)
  measured : {m : ℕ} → Judges bytes (judgement DONE 0 0 0) → Greatest (book_of bytes) m → Measures bytes (depth DONE 0 m)

-- what a profile of so many slots answers of bytes: SLOTS for a slot count outside 1 to 64; what is refused anyhow; a
-- greatest number above the slots; or that it takes the book
pub data Profiles (bytes : List ℕ) (slots : ℕ) : Depth → Type 0 where
  no_profile : (slots < 1) ⊎ (64 < slots) → Profiles bytes slots (depth SLOTS 0 0)
  refused_anyhow : {d : Depth} → 1 ≤ slots → slots ≤ 64 → Measures bytes d → d.number ≢ DONE → Profiles bytes slots d
  deeper : {m : ℕ} → 1 ≤ slots → slots ≤ 64 → Measures bytes (depth DONE 0 m) → slots < m
      → Profiles bytes slots (depth DEEPER m 0)
  fits : {m : ℕ} → 1 ≤ slots → slots ≤ 64 → Measures bytes (depth DONE 0 m) → m ≤ slots
      → Profiles bytes slots (depth DONE 0 m)
