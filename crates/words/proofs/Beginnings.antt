-- Where a list first goes wrong is one place, and a list that goes wrong, one that lacks more and one in the language are three.
use Prim.Native.Nat.{ℕ, suc, ◌<◌}
use native.Mathlib.Omega.{arith}
use mathlib.Core.Path.{◌≡◌, refl}
use mathlib.Core.Bool.{Bool, true, false}
use mathlib.Core.List.{List, [], ◌++◌, append_assoc, append-nil}
use lib.Dec.{ltb}
use lib.ListN.{take, drop, take-append-drop}
use lib.Seq.{take-take}
use borrow.Author.Tests.{ltb-true, ltb-false}
use Rattle.words.specs.Beginnings.{Starts, Parts, Lacks}

module _ {In : List ℕ → Type 0} where
  -- a beginning of a beginning is one
  pub starts_shorter : (n : ℕ) (xs : List ℕ) → Starts In xs → Starts In (take n xs)
  starts_shorter n xs s =
      record {
        rest = drop n xs ++ s.rest;
        within = rw (← (append_assoc (take n xs) (drop n xs) s.rest), take-append-drop n xs) s.within;
      }

  pub starts_itself : (xs : List ℕ) → In xs → Starts In xs
  starts_itself xs x = record { rest = []; within = rw (append-nil xs) x }

  -- a list that goes wrong is no beginning, so neither in the language nor lacking more
  pub parts_begins_none : {xs : List ℕ} {i : ℕ} → Parts In xs i → Starts In xs → ⊥
  parts_begins_none {xs} {i} p s = p.differs (starts_shorter (suc i) xs s)

  pub parts_not_in : {xs : List ℕ} {i : ℕ} → Parts In xs i → In xs → ⊥
  parts_not_in {xs} p x = parts_begins_none p (starts_itself xs x)

  pub parts_not_lacks : {xs : List ℕ} {i : ℕ} → Parts In xs i → Lacks In xs → ⊥
  parts_not_lacks p l = parts_begins_none p l.agrees

  -- it goes wrong at one place
  not_before : {xs : List ℕ} {i j : ℕ} → Parts In xs i → Parts In xs j → i < j → ⊥
  not_before {xs} {i} {j} p q below =
      p.differs (rw (take-take (suc i) j xs below) at (starts_shorter (suc i) (take j xs) q.agrees))

  pub parts_once : {xs : List ℕ} {i j : ℕ} → Parts In xs i → Parts In xs j → i ≡ j
  parts_once {i = i} {j} p q = go (ltb i j) (ltb j i) refl refl
    where
      go : (below above : Bool) → ltb i j ≡ below → ltb j i ≡ above → i ≡ j
      go true above e f = absurd (not_before p q (ltb-true i j e))
      go false true e f = absurd (not_before q p (ltb-true j i f))
      go false false e f = omega (arith, ltb-false i j e, ltb-false j i f)
