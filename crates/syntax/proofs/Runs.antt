-- Tokens that come to a sheet's rules are those of bytes whose run comes to them.
use Prim.Native.Nat.{ℕ, suc, ◌≤◌}
use native.Mathlib.Omega.{arith}
use mathlib.Core.Path.{◌≡◌, refl}
use mathlib.Core.Bool.{Bool, true, false}
use mathlib.Core.List.{List, [], ◌∷◌, ◌++◌}
use lib.ListN.{length}
use Rattle.sheets.specs.Text.{letter, blank, Token, word, sign, tokens}
use Rattle.sheets.specs.Grammar.{Rule}
use Rattle.syntax.specs.Machine.{State, goes, sheet, step, at_end, onward, run}
use Rattle.syntax.proofs.Bytes.{Class, a_letter, a_blank, a_sign, class_of}
use Rattle.syntax.proofs.Scanned.{Under, no_word, under, grown, flushed, scan, scan_is_tokens}
use Rattle.syntax.proofs.Steps.{Seat, Seated, worded, Takes, takes_name, takes_factor, takes_whole, takes_short, Whole, seat_once}
use Rattle.syntax.proofs.Steps.{blank_stays, letter-begins, letter_grows, word_left}
use Rattle.syntax.proofs.Signs.{Sign, sign_steps, sign_whole}
use Rattle.syntax.proofs.Comes.{Comes, comes_end, comes_word, comes_sign, Standing, outside, in_a_word, long_by_one}

-- a word that comes to something stands where a word may, and has at most 16 letters
record Taken (s : State) (letters : List ℕ) : Type 0 where
  pub seat : Seat
  pub seated : Seated s seat
  pub short : length letters ≤ 16

taken_now : {s : State} {p : ℕ} {letters : List ℕ} {more : List Token} {rules : List Rule} → Comes s (word p letters ∷ more) rules
    → Taken s letters
taken_now (comes_word {seat = seat} seated takes rest) = record { seat = seat; seated = seated; short = takes_short takes }

taken : {s : State} {rules : List Rule} (text : List ℕ) (at p : ℕ) (letters : List ℕ) → Comes s (scan text at (under p letters)) rules
    → Taken s letters
unfolding scan grown flushed
taken [] at p letters c = taken_now c
taken {s} {rules} (byte ∷ more) at p letters c =
    go (letter byte) refl (λ h. taken {s = s} {rules = rules} more (suc at) p (letters ++ (byte ∷ [])) h)
  where
    go : (t : Bool) → letter byte ≡ t
        → (Comes s (scan more (suc at) (under p (letters ++ (byte ∷ [])))) rules → Taken s (letters ++ (byte ∷ [])))
        → Taken s letters
    go true e ih =
        let t = ih (rw e at c) in
        record { seat = t.seat; seated = t.seated; short = omega (arith, long_by_one letters byte, t.short) }
    go false e ih = taken_now (rw e at c)

module _ (at byte : ℕ) where
  -- a letter goes on if the word it is in comes to something
  record Grows (s : State) (u : Under) (now : State) : Type 0 where
    pub then : State
    pub steps : step now at byte ≡ goes then
    pub standing : Standing s (grown u at byte) then

  grows : {s now : State} {u : Under} {rules : List Rule} (more : List ℕ) → Standing s u now → letter byte ≡ true
      → Comes s (scan more (suc at) (grown u at byte)) rules → Grows s u now
  unfolding grown
  grows more (outside whole) l c =
      let t = taken more (suc at) at (byte ∷ []) c in
      record {
        then = worded t.seat at (byte ∷ []);
        steps = letter-begins at byte t.seated l;
        standing = in_a_word t.seated t.short;
      }
  grows more (in_a_word {seat = seat} {p} {letters} seated short) l c =
      let t = taken more (suc at) p (letters ++ (byte ∷ [])) c in
      record {
        then = worded seat p (letters ++ (byte ∷ []));
        steps = letter_grows at byte seat p letters l (omega (arith, long_by_one letters byte, t.short));
        standing = in_a_word seated t.short;
      }

  -- any other byte is taken behind the word
  record Passed (s : State) (u : Under) (now : State) (more : List Token) (rules : List Rule) : Type 0 where
    pub behind : State
    pub whole : Whole behind
    pub steps : step now at byte ≡ step behind at byte
    pub comes : Comes behind more rules

  passed_word : {s : State} {seat : Seat} {p : ℕ} {letters : List ℕ} {more : List Token} {rules : List Rule} → Seated s seat
      → letter byte ≡ false → Comes s (word p letters ∷ more) rules → Passed s (under p letters) (worded seat p letters) more rules
  passed_word {p = p} {letters} seated l (comes_word {then = then} other takes rest) =
      record {
        behind = then;
        whole = takes_whole takes;
        steps = rw (seat_once seated other) (word_left at byte takes l);
        comes = rest;
      }

  passed : {s now : State} {u : Under} {more : List Token} {rules : List Rule} → Standing s u now → letter byte ≡ false
      → Comes s (flushed u more) rules → Passed s u now more rules
  unfolding flushed
  passed {s} (outside whole) l c = record { behind = s; whole = whole; steps = refl; comes = c }
  passed (in_a_word seated short) l c = passed_word seated l c

-- the end
comes_end_name : {s : State} {rules : List Rule} (at : ℕ) → Comes s [] rules → at_end s at ≡ sheet rules
unfolding at_end
comes_end_name at comes_end = refl

never_ends : {p : ℕ} {letters : List ℕ} {s : State} {seat : Seat} {rules : List Rule} → Takes seat p letters s → Comes s [] rules → ⊥
never_ends (takes_name w) = elim [ ]
never_ends (takes_factor short) = elim [ ]

word_never_ends : {s : State} {p : ℕ} {letters : List ℕ} {rules : List Rule} → Comes s (word p letters ∷ []) rules → ⊥
word_never_ends (comes_word seated takes rest) = never_ends takes rest

comes_ends : {s now : State} {u : Under} {rules : List Rule} (at : ℕ) → Standing s u now → Comes s (flushed u []) rules
    → at_end now at ≡ sheet rules
unfolding flushed
comes_ends at (outside whole) c = comes_end_name at c
comes_ends at (in_a_word seated short) c = absurd (word_never_ends c)

-- a sign at the front
record Signed (s : State) (p byte : ℕ) (more : List Token) (rules : List Rule) : Type 0 where
  pub then : State
  pub sign : Sign s p byte then
  pub comes : Comes then more rules

signed : {s : State} {p byte : ℕ} {more : List Token} {rules : List Rule} → Comes s (sign p byte ∷ more) rules → Signed s p byte more rules
signed (comes_sign {then = then} x rest) = record { then = then; sign = x; comes = rest }

comes_run : {s now : State} {u : Under} {rules : List Rule} (text : List ℕ) (at : ℕ) → Standing s u now → Comes s (scan text at u) rules
    → run text now at ≡ sheet rules
unfolding run onward scan
comes_run [] at standing c = comes_ends at standing c
comes_run {s} {now} {u} {rules} (byte ∷ more) at standing c =
    go (class_of byte) (λ s u now h c. comes_run {s = s} {now = now} {u = u} {rules = rules} more (suc at) h c)
  where
    Onward : Type 0
    Onward =
        (s : State) (u : Under) (now : State) → Standing s u now → Comes s (scan more (suc at) u) rules
        → run more now (suc at) ≡ sheet rules

    by_letter : Grows at byte s u now → Comes s (scan more (suc at) (grown u at byte)) rules → Onward
        → run (byte ∷ more) now at ≡ sheet rules
    by_letter g c ih = rw g.steps (ih s (grown u at byte) g.then g.standing c)

    by_blank : letter byte ≡ false → blank byte ≡ true → Passed at byte s u now (scan more (suc at) no_word) rules → Onward
        → run (byte ∷ more) now at ≡ sheet rules
    by_blank l b f ih =
        rw (f.steps, blank_stays at byte f.whole l b) (ih f.behind no_word f.behind (outside f.whole) f.comes)

    by_sign : {behind : State} → step now at byte ≡ step behind at byte → Signed behind at byte (scan more (suc at) no_word) rules → Onward
        → run (byte ∷ more) now at ≡ sheet rules
    by_sign steps x ih = rw (steps, sign_steps x.sign) (ih x.then no_word x.then (outside (sign_whole x.sign)) x.comes)

    by_sign_passed : Passed at byte s u now (sign at byte ∷ scan more (suc at) no_word) rules → Onward
        → run (byte ∷ more) now at ≡ sheet rules
    by_sign_passed f ih = by_sign f.steps (signed f.comes) ih

    go : Class byte → Onward → run (byte ∷ more) now at ≡ sheet rules
    go (a_letter l) ih = let on = rw l at c in by_letter (grows at byte more standing l on) on ih
    go (a_blank l b) ih = by_blank l b (passed at byte standing l (rw (l, b) at c)) ih
    go (a_sign l b) ih = by_sign_passed (passed at byte standing l (rw (l, b) at c)) ih

-- from a state outside words
pub comes_to_run : {s : State} {rules : List Rule} (text : List ℕ) (at : ℕ) → Whole s → Comes s (tokens at text) rules
    → run text s at ≡ sheet rules
comes_to_run text at whole c = comes_run text at (outside whole) (rw scan_is_tokens c)
