-- Storing into a list: a loop that stores lists, one behind the other.
use mathlib.Core.Path.{◌≡◌, refl, ap, ◌∙◌}
use mathlib.Core.List.{List}
use Prim.Native.Nat.{ℕ, suc, ◌+◌, ◌-◌, ◌≤◌, ◌<◌}
use native.Mathlib.Numerals.{add-one}
use native.Mathlib.Omega.{arith}
use lib.ListN.{length}
use lib.Seq.{sets, length-sets}
use Rattle.words.specs.Lists.{lists_from}
use Rattle.words.proofs.Stored.{sets_then}

-- a loop that stores so many lists, one behind the other, has come to the n-th, which begins at a place
pub record ListsStored (list : ℕ → List ℕ) (before after : List ℕ) (from count at n : ℕ) : Type 0 where
  pub within : n ≤ count
  pub rest : sets after at (lists_from list (count - n) n) ≡ sets before from (lists_from list count 0)
  pub long : length after ≡ length before

module _ (list : ℕ → List ℕ) where
  pub lists_none : (l : List ℕ) (from count : ℕ) → ListsStored list l l from count from 0
  lists_none l from count =
      let all : count - 0 ≡ count = omega arith in
      record { within = omega arith; rest = rw all; long = refl }

  module _ {before after : List ℕ} {from count at n : ℕ} (s : ListsStored list before after from count at n) where
    pub lists_more : {next : List ℕ} {behind : ℕ} → n < count → next ≡ sets after at (list n) → behind ≡ at + length (list n)
        → ListsStored list before next from count behind (n + 1)
    unfolding lists_from
    lists_more {next} {behind} below is place =
        record {
          within = omega arith;
          rest =
              rw (is, add-one)
              (sets_then after at (list n) behind _ place ∙ (rw (one_left, add-one) at s.rest));
          long = ap length is ∙ length-sets after at (list n) ∙ s.long;
        }
      where
        one_left : count - n ≡ suc (count - (n + 1))
        one_left = omega arith

    pub lists_all : count ≤ n → after ≡ sets before from (lists_from list count 0)
    unfolding lists_from
    lists_all past = let none : count - n ≡ 0 = omega arith in rw none at s.rest
