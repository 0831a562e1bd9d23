-- A reading goes by words and signs as it goes by bytes: what tokens come to from a state outside words, and that a run of bytes which
-- comes to a sheet's rules has tokens that come to them.
use Prim.Native.Nat.{ℕ, suc, ◌≤◌, ◌+◌}
use native.Mathlib.Omega.{arith}
use mathlib.Core.Path.{◌≡◌, refl, sym, ◌∙◌, subst}
use mathlib.Core.Bool.{Bool, true, false}
use mathlib.Core.List.{List, [], ◌∷◌, ◌++◌}
use lib.Dec.{ltb}
use lib.ListN.{length, length-append}
use borrow.Author.Tests.{ltb-true, ltb-false}
use Rattle.sheets.specs.Text.{letter, Token, word, sign, tokens}
use Rattle.sheets.specs.Grammar.{Rule}
use Rattle.syntax.specs.Machine.{State, name_due, Next, goes, stops, sheet, wrong}
use Rattle.syntax.specs.Machine.{step, at_end, onward, run}
use Rattle.syntax.proofs.Bytes.{Class, a_letter, a_blank, a_sign, class_of}
use Rattle.syntax.proofs.Scanned.{Under, no_word, under, grown, flushed, scan, scan_is_tokens}
use Rattle.syntax.proofs.Steps.{Seat, naming, factoring, Seated, worded, Takes, takes_whole}
use Rattle.syntax.proofs.Steps.{Whole, whole_name, whole_equals, whole_due, whole-after, whole_done}
use Rattle.syntax.proofs.Steps.{clash as stuck, blank_stays, begins_seated, letter_grows, letter_stops, left_word}
use Rattle.syntax.proofs.Signs.{Sign, sign_whole, steps_sign}

-- what tokens come to from a state
pub data Comes : State → List Token → List Rule → Type 0 where
  comes_end : {r : Rule} {rules : List Rule} → Comes (name_due (r ∷ rules)) [] (r ∷ rules)
  comes_word : {s : State} {seat : Seat} {p : ℕ} {letters : List ℕ} {then : State} {more : List Token} {rules : List Rule}
      → Seated s seat → Takes seat p letters then → Comes then more rules → Comes s (word p letters ∷ more) rules
  comes_sign : {s : State} {p byte : ℕ} {then : State} {more : List Token} {rules : List Rule}
      → Sign s p byte then → Comes then more rules → Comes s (sign p byte ∷ more) rules

-- a state of the machine, as one outside words and the word under way since
pub data Standing : State → Under → State → Type 0 where
  outside : {s : State} → Whole s → Standing s no_word s
  in_a_word : {s : State} {seat : Seat} {p : ℕ} {letters : List ℕ} → Seated s seat → length letters ≤ 16
      → Standing s (under p letters) (worded seat p letters)

pub long_by_one : (letters : List ℕ) (byte : ℕ) → length (letters ++ (byte ∷ [])) ≡ length letters + 1
long_by_one letters byte = length-append letters (byte ∷ [])

-- a wrong place is no sheet
pub clash {ℓ} : {A : Type ℓ} {rules : List Rule} {at : ℕ} → wrong at ≡ sheet rules → A
clash e = let no_way : ◌≡◌ {A = ℕ} 0 1 = cc in absurd (omega arith)

-- ---- from bytes to tokens

module _ (at byte : ℕ) where
  -- a letter that goes on
  letter_goes : {s now then : State} {u : Under} → Standing s u now → letter byte ≡ true → step now at byte ≡ goes then
      → Standing s (grown u at byte) then
  unfolding grown
  letter_goes {s} (outside whole) l is =
      let b = begins_seated at byte whole l is in
      subst (λ (t : State). Standing s (under at (byte ∷ [])) t) b.is (in_a_word b.seated (omega arith))
  letter_goes {s} {then = then} (in_a_word {seat = seat} {p} {letters} seated short) l is = go (ltb (length letters) 16) refl
    where
      go : (t : Bool) → ltb (length letters) 16 ≡ t → Standing s (under p (letters ++ (byte ∷ []))) then
      go true e =
          let below = ltb-true (length letters) 16 e in
          let known = letter_grows at byte seat p letters l below in
          let same : worded seat p (letters ++ (byte ∷ [])) ≡ then = cc in
          subst (λ (t : State). Standing s (under p (letters ++ (byte ∷ []))) t) same
          (in_a_word seated (omega (arith, long_by_one letters byte)))
      go false e = stuck (sym (letter_stops at byte seat p letters l (ltb-false (length letters) 16 e)) ∙ is)

  -- any other byte that goes on: the word under way is whole, and the byte is taken behind it
  record Behind (s : State) (u : Under) (then : State) : Type 0 where
    pub behind : State
    pub whole : Whole behind
    pub steps : step behind at byte ≡ goes then
    pub comes : (more : List Token) (rules : List Rule) → Comes behind more rules → Comes s (flushed u more) rules

  other_goes : {s now then : State} {u : Under} → Standing s u now → letter byte ≡ false → step now at byte ≡ goes then → Behind s u then
  unfolding flushed
  other_goes {s} (outside whole) l is = record { behind = s; whole = whole; steps = is; comes = λ more rules c. c }
  other_goes (in_a_word {seat = seat} seated short) l is =
      let b = left_word at byte seat short l is in
      record {
        behind = b.behind;
        whole = takes_whole b.takes;
        steps = b.steps;
        comes = λ more rules c. comes_word seated b.takes c;
      }

-- the end
end_name : {rules : List Rule} (read : List Rule) (at : ℕ) → at_end (name_due read) at ≡ sheet rules → Comes (name_due read) [] rules
unfolding at_end
end_name [] at is = clash is
end_name {rules} (r ∷ read) at is =
    let same : r ∷ read ≡ rules = cc in subst (λ (l : List Rule). Comes (name_due (r ∷ read)) [] l) same comes_end

end_word : {rules : List Rule} (seat : Seat) (p : ℕ) (letters : List ℕ) (at : ℕ) → at_end (worded seat p letters) at ≡ sheet rules → ⊥
unfolding at_end worded
end_word (naming read) p letters at is = clash is
end_word (factoring i f) p letters at is = clash is

end_comes : {s now : State} {u : Under} {rules : List Rule} (at : ℕ) → Standing s u now → at_end now at ≡ sheet rules
    → Comes s (flushed u []) rules
unfolding flushed at_end
end_comes at (outside (whole_name {rules = read})) is = end_name read at is
end_comes at (outside whole_equals) is = clash is
end_comes at (outside whole_due) is = clash is
end_comes at (outside whole-after) is = clash is
end_comes at (outside whole_done) is = clash is
end_comes at (in_a_word {seat = seat} {p} {letters} seated short) is = absurd (end_word seat p letters at is)

run_comes : {s now : State} {u : Under} {rules : List Rule} (text : List ℕ) (at : ℕ) → Standing s u now → run text now at ≡ sheet rules
    → Comes s (scan text at u) rules
unfolding run onward scan
run_comes [] at standing is = end_comes at standing is
run_comes {s} {now} {u} {rules} (byte ∷ more) at standing is =
    go (step now at byte) refl (class_of byte) (λ s u now h e. run_comes {s = s} {now = now} {u = u} {rules = rules} more (suc at) h e)
  where
    go : (next : Next) → step now at byte ≡ next → Class byte
        → ((s : State) (u : Under) (now : State) → Standing s u now → run more now (suc at) ≡ sheet rules
        → Comes s (scan more (suc at) u) rules)
        → Comes s (scan (byte ∷ more) at u) rules
    go stops e c ih = clash (rw e at is)
    go (goes then) e (a_letter l) ih = rw l (ih s (grown u at byte) then (letter_goes at byte standing l e) (rw e at is))
    go (goes then) e (a_blank l b) ih =
        let f = other_goes at byte standing l e in
        let stays = blank_stays at byte f.whole l b in
        let steps = f.steps in
        let same : then ≡ f.behind = cc in
        rw (l, b)
        (f.comes (scan more (suc at) no_word) rules (ih f.behind no_word f.behind (outside f.whole) (rw (e, same) at is)))
    go (goes then) e (a_sign l b) ih =
        let f = other_goes at byte standing l e in
        let x = steps_sign at byte l b f.whole f.steps in
        rw (l, b)
        (f.comes (sign at byte ∷ scan more (suc at) no_word) rules
        (comes_sign x (ih then no_word then (outside (sign_whole x)) (rw e at is))))

-- from a state outside words
pub run_comes_to : {s : State} {rules : List Rule} (text : List ℕ) (at : ℕ) → Whole s → run text s at ≡ sheet rules
    → Comes s (tokens at text) rules
run_comes_to text at whole is = rw (← scan_is_tokens text at) (run_comes text at (outside whole) is)
