-- Tests of so many numbers joined one after the other, and what they say of the first bad number.
use mathlib.Core.Path.{◌≡◌, refl, sym, ◌∙◌}
use mathlib.Core.Bool.{Bool, true, false, ◌&&◌}
use Prim.Native.Nat.{ℕ, ◌+◌, ◌<◌}
use native.Mathlib.Decide.{ℕ_discrete}
use native.Mathlib.Omega.{arith}
use borrow.Author.Tests.{lt-ltb, ltb-true}
use lib.Dec.{ltb}
use Rattle.words.proofs.Tests.{never, fails}
use Rattle.words.specs.Lists.{first_bad}
use Rattle.words.proofs.FirstBad.{first_none, first_past}

-- a test has been joined from those of the numbers below a count
pub record Joined (good : ℕ → Bool) (count : ℕ) (all : Bool) : Type 0 where
  pub every : all ≡ true → (n : ℕ) → n < count → good n ≡ true
  pub some : all ≡ false → (n : ℕ) × (n < count) × (good n ≡ false)

module _ (good : ℕ → Bool) where
  pub joined_none : Joined good 0 true
  joined_none = record { every = λ is n below. absurd (omega arith); some = λ is. never (sym is) }

  pub joined_more : (count : ℕ) (all : Bool) {test : Bool} → Joined good count all → good count ≡ test
      → Joined good (count + 1) (all && test)
  joined_more count true {test} joined is =
      record {
        every =
            λ holds n below.
            elim (ℕ_discrete n count) [ yes same ↦ rw same (is ∙ holds) | no other ↦ joined.every refl n (omega arith) ];
        some = λ bad. (count, omega arith, is ∙ bad);
      }
  joined_more count false joined is =
      record {
        every = λ holds. never holds;
        some = λ bad. let (n, below, fails) = joined.some refl in (n, omega arith, fails);
      }

  pub joined-all : (last : ℕ) (all : Bool) → Joined good (last + 1) all → all ≡ ltb last (first_bad good (last + 1) 0)
  joined-all last true joined = sym (lt-ltb last _ (omega (arith, first_past good (last + 1) (joined.every refl))))
  joined-all last false joined =
      let (n, below, bad) = joined.some refl in
      sym
      (fails _
      (λ past. never (sym bad ∙ first_none good (last + 1) (omega (arith, ltb-true last (first_bad good (last + 1) 0) past)) n below)))
