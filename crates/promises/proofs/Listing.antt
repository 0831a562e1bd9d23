-- The listing program's promises: what it writes is one thing, for every input.
use Prim.Native.Nat.{ℕ, ◌≤◌}
use mathlib.Core.Path.{◌≡◌}
use mathlib.Core.Logic.{◌≢◌}
use mathlib.Core.List.{List}
use lib.ListN.{take}
use Rattle.compiler.specs.declared.Compiled.{Compiled}
use Rattle.compiler.specs.Compiles.{Compiles, PLAN-ROOM}
use Rattle.listed.specs.Listing.{input_room, plan_room, Lists, Answers}
use Rattle.listed.specs.Worked.{Each, table}
use Rattle.listed.proofs.Unique.{lists_some, lists_unique, lists_front, plan_fits}
use Rattle.listed.proofs.Buffers.{answers_unique}
use Rattle.listed.proofs.Worked.{listing_worked}

-- what it writes for an input is one thing
pub listing_writes : (input : List ℕ) → (bytes : List ℕ) × Lists input bytes
listing_writes input = lists_some input

pub listing_writes_once : {input bytes bytes' : List ℕ} → Lists input bytes → Lists input bytes' → bytes ≡ bytes'
listing_writes_once one other = lists_unique one other

-- what is written for the bytes that decide, or more of them, is written for the whole input
pub listing_front : (room : ℕ) (input : List ℕ) {bytes : List ℕ} → input_room ≤ room → Lists (take room input) bytes → Lists input bytes
listing_front room input enough lists = lists_front room input enough lists

-- what the call answers and what it leaves of the output are determined
pub listing_answers_once : (buffer : List ℕ) (size : ℕ) (out plan held tree : List ℕ) {after after' : List ℕ} {count count' : ℕ}
    → Answers buffer size out plan held tree after count → Answers buffer size out plan held tree after' count'
    → (count ≡ count') × (after ≡ after')
listing_answers_once buffer size out plan held tree one other = answers_unique buffer size out plan held tree one other

-- its plan buffer holds every plan: PLAN ROOM never shows
pub listing_room : {bytes : List ℕ} {a : Compiled} {plan : List ℕ} → Compiles bytes plan_room a plan → a.number ≢ PLAN-ROOM
listing_room compiled = plan_fits compiled

-- the worked lines
pub listing_table : Each table
listing_table = listing_worked
