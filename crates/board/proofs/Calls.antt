-- What a call does to a board: the drum of its number is called, and no other is touched.
use mathlib.Core.Path.{◌≡◌, refl, sym, ap, ◌∙◌}
use mathlib.Core.Bool.{Bool, true, false, not, cond}
use mathlib.Core.List.{List}
use Prim.Native.Nat.{ℕ, ◌≤◌, ◌<◌}
use lib.Arith.{le→nltb}
use lib.Dec.{T, ltb, lt→ltb}
use lib.ListN.{length, get_or, set}
use Rattle.std.proofs.lemmas.List.{get_or_default}
use Rattle.reader.specs.declared.Reading.{Reading}
use Rattle.drums.specs.declared.Drum.{Drum}
use Rattle.drums.specs.declared.Stepped.{Stepped}
use Rattle.drums.specs.Drums.{idle_drum, absent_of}
use Rattle.board.specs.Board.{calls, called}

-- a test that holds takes the first, one that fails the second
pub chosen : {A : Type 0} (test : Bool) (x y : A) → T test → cond test x y ≡ x
chosen true x y holds = refl
chosen false x y holds = absurd holds

pub other : {A : Type 0} (test : Bool) (x y : A) → T (not test) → cond test x y ≡ y
other true x y fails = absurd fails
other false x y fails = refl

module _ (call : List ℕ → Drum → ℕ → ℕ → Stepped) (plan : List ℕ) (drums : List Drum) (number k : ℕ) where
  abbrev stepped : Stepped
  stepped = call plan (get_or drums number idle_drum) number k

  -- the drum is on the list
  pub called_on : T (ltb number (length drums)) → called call plan drums number k ≡ calls stepped.reading
      (set drums number stepped.drum)
  unfolding called
  called_on on = chosen (ltb number (length drums)) (calls stepped.reading (set drums number stepped.drum))
      (calls (absent_of plan) drums) on

  -- it is not
  pub called_off : T (not (ltb number (length drums))) → called call plan drums number k ≡ calls (absent_of plan) drums
  unfolding called
  called_off off = other (ltb number (length drums)) (calls stepped.reading (set drums number stepped.drum))
      (calls (absent_of plan) drums) off

  -- the drum is read, at any default, and stored as the call leaves it
  pub call_stored : (d : Drum) (s : Stepped) → number < length drums → s ≡ call plan (get_or drums number d) number k
      → calls s.reading (set drums number s.drum) ≡ called call plan drums number k
  call_stored d s on is =
      let same : s ≡ stepped = is ∙ ap (λ (e : Drum). call plan e number k) (get_or_default drums number d idle_drum on) in
      ap (λ (t : Stepped). calls t.reading (set drums number t.drum)) same ∙ sym (called_on (lt→ltb number (length drums) on))

  -- or no drum is touched
  pub call_absent : (r : Reading) → length drums ≤ number → r ≡ absent_of plan → calls r drums ≡ called call plan drums number k
  call_absent r off is = ap (λ (t : Reading). calls t drums) is ∙ sym (called_off (le→nltb number (length drums) off))
