-- A reading stops at the first byte at which no sheet begins so, or at the end where more is due, and nowhere else.
use Prim.Native.Nat.{ℕ, suc, ◌+◌, ◌<◌, ◌≤◌}
use native.Mathlib.Omega.{arith}
use mathlib.Core.Path.{◌≡◌, refl, sym, ◌∙◌}
use mathlib.Core.List.{List, [], ◌∷◌, ◌++◌}
use lib.ListN.{length, take}
use lib.Seq.{take_all}
use Rattle.words.specs.Beginnings.{Starts, Parts, Lacks}
use Rattle.sheets.specs.Grammar.{Rule, IsSheet}
use Rattle.syntax.specs.Machine.{State, name_due, in_name, equals_due, inside, Next, goes, stops, sheet, wrong}
use Rattle.syntax.specs.Machine.{step, at_end, onward, run, read_sheet}
use Rattle.syntax.proofs.Comes.{clash}
use Rattle.syntax.proofs.SheetsRead.{sheet_is_read}
use Rattle.syntax.proofs.ReadSheets.{read_is_a_sheet}
use Rattle.syntax.proofs.Completed.{completed}

-- ---- a run that is wrong at a place

-- a beginning that goes through, with a rest that completes it
record Begun (front : List ℕ) (s : State) (at : ℕ) : Type 0 where
  pub rest : List ℕ
  pub rules : List Rule
  pub comes : run (front ++ rest) s at ≡ sheet rules

-- so many bytes before the place go through; the byte there stops, whatever follows, unless the text ends there
record Stopped (text : List ℕ) (s : State) (at i k : ℕ) : Type 0 where
  pub place : i ≡ at + k
  pub within : k ≤ length text
  pub before : Begun (take k text) s at
  pub there : k < length text → (rest : List ℕ) → run (take (suc k) text ++ rest) s at ≡ wrong i

nothing_begun : (s : State) (at : ℕ) → Begun [] s at
nothing_begun s at = let c = completed s at in record { rest = c.rest; rules = c.rules; comes = c.comes }

begun_further : {front : List ℕ} {s then : State} {at : ℕ} (byte : ℕ) → step s at byte ≡ goes then → Begun front then (suc at)
    → Begun (byte ∷ front) s at
unfolding run onward
begun_further byte is b = record { rest = b.rest; rules = b.rules; comes = rw is b.comes }

-- the end
same_place : (s : State) (at : ℕ) {i : ℕ} → at_end s at ≡ wrong i → i ≡ at
unfolding at_end
same_place (name_due []) at is = cc
same_place (name_due (r ∷ rules)) at is = clash (sym is)
same_place (in_name rules p letters) at is = cc
same_place (equals_due rules p letters) at is = cc
same_place (inside i f spot) at is = cc

stopped : (text : List ℕ) (s : State) (at : ℕ) {i : ℕ} → run text s at ≡ wrong i → (k : ℕ) × Stopped text s at i k
unfolding run onward
stopped [] s at is = (
  0,
  record {
    place = same_place s at is ∙ omega arith;
    within = omega arith;
    before = nothing_begun s at;
    there = λ below. absurd (omega arith);
  },
)
stopped (byte ∷ more) s at {i} is = go (step s at byte) refl (λ then e. stopped more then (suc at) e)
  where
    later : {then : State} → step s at byte ≡ goes then → ((k : ℕ) × Stopped more then (suc at) i k)
        → (k : ℕ) × Stopped (byte ∷ more) s at i k
    later e (k, x) = (
      suc k,
      record {
        place = omega (arith, x.place);
        within = omega (arith, x.within);
        before = begun_further byte e x.before;
        there = λ below rest. rw e (x.there (omega arith) rest);
      },
    )

    go : (next : Next) → step s at byte ≡ next
        → ((then : State) → run more then (suc at) ≡ wrong i → (k : ℕ) × Stopped more then (suc at) i k)
        → (k : ℕ) × Stopped (byte ∷ more) s at i k
    go stops e ih =
        let here : wrong at ≡ wrong i = rw e at is in
        let same : at ≡ i = cc in (
          0,
          record {
            place = omega arith;
            within = omega arith;
            before = nothing_begun s at;
            there = λ below rest. rw e here;
          },
        )
    go (goes then) e ih = later e (ih then (rw e at is))

-- ---- of a whole text

begun_starts : {front : List ℕ} → Begun front (name_due []) 0 → Starts IsSheet front
begun_starts {front} b =
    let f = read_is_a_sheet (front ++ b.rest) b.comes in
    record { rest = b.rest; within = record { first = f.first; further = f.further; sheet = f.is_sheet } }

-- a sheet is not wrong
sheet_not_wrong : (text : List ℕ) {i : ℕ} → IsSheet text → read_sheet text ≡ wrong i → ⊥
sheet_not_wrong text x is = clash (sym is ∙ sheet_is_read text x.sheet)

-- it goes wrong where the reading is wrong within it
pub wrong_parts : (text : List ℕ) {i : ℕ} → read_sheet text ≡ wrong i → i < length text → Parts IsSheet text i
wrong_parts text {i} is below = go (stopped text (name_due []) 0 is)
  where
    there : Stopped text (name_due []) 0 i i → Starts IsSheet (take (suc i) text) → ⊥
    there x b = sheet_not_wrong (take (suc i) text ++ b.rest) b.within (x.there below b.rest)

    at_place : Stopped text (name_due []) 0 i i → Parts IsSheet text i
    at_place x = record { inside = below; agrees = begun_starts x.before; differs = there x }

    go : ((k : ℕ) × Stopped text (name_due []) 0 i k) → Parts IsSheet text i
    go (k, x) = let same : k ≡ i = omega (arith, x.place) in at_place (rw same at x)

-- more is due where it is wrong at its end
pub wrong_lacks : (text : List ℕ) {i : ℕ} → read_sheet text ≡ wrong i → length text ≤ i → (i ≡ length text) × Lacks IsSheet text
wrong_lacks text {i} is past = go (stopped text (name_due []) 0 is)
  where
    go : ((k : ℕ) × Stopped text (name_due []) 0 i k) → (i ≡ length text) × Lacks IsSheet text
    go (k, x) =
        let same : k ≡ length text = omega (arith, x.place, x.within) in (
          omega (arith, x.place, x.within),
          record {
            agrees = begun_starts (rw (same, take_all (length text) text (omega arith)) at x.before);
            unfinished = λ y. sheet_not_wrong text y is;
          },
        )
