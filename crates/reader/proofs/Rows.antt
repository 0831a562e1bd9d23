-- The kinds of a row, and those expected of parts held, under way: what is left to join comes to the whole.
use mathlib.Core.Path.{◌≡◌, refl, sym, ◌∙◌}
use mathlib.Core.Bool.{true, false, cond}
use mathlib.Core.List.{List}
use Prim.Native.Nat.{ℕ, suc, ◌+◌, ◌-◌, ◌<◌}
use native.Mathlib.Numerals.{add-one}
use native.Mathlib.Omega.{arith}
use lib.Dec.{eqb}
use lib.Bits.{or_zero_r}
use lib.ListN.{get_or}
use Rattle.kinds.specs.Kinds.{only_kind, joined}
use Rattle.kinds.proofs.Laws.{join_assoc}
use Rattle.running.specs.Running.{Plan, row_first, expected}
use Rattle.running.specs.Stages.{nodes_of}
use Rattle.reader.specs.Machine.{node_in, stack}

-- a row with the next kind
module _ (p : Plan) (n k : ℕ) where
  pub row_without : eqb (p.cell n k) 0 ≡ true → row_first p n k ≡ row_first p n (k + 1)
  unfolding row_first
  row_without is = rw (add-one k, is, or_zero_r) refl

  pub row_with : eqb (p.cell n k) 0 ≡ false → joined (row_first p n k) (only_kind k) ≡ row_first p n (k + 1)
  unfolding row_first
  row_with some = rw (add-one k, some) refl

-- the kinds of the parts passed are joined with those that the parts left expect, and come to the goal
pub record Joining (p : Plan) (held : List ℕ) (goal set parts : ℕ) : Type 0 where
  pub rest : joined set (expected p (nodes_of (stack held parts))) ≡ goal

module _ (p : Plan) {held : List ℕ} {goal set parts : ℕ} (w : Joining p held goal set parts) where
  -- no part is left
  pub joined-all : parts ≡ 0 → set ≡ goal
  unfolding stack expected
  joined-all none = sym (or_zero_r set) ∙ (rw none at w.rest)

  module _ (some : 0 < parts) where
    n : ℕ
    n = node_in (get_or held (parts - 1) 0)

    here : joined set (joined (row_first p n p.kinds) (cond (p.null n) (expected p (nodes_of (stack held (parts - 1)))) 0)) ≡ goal
    unfolding stack expected n
    here = let one : parts ≡ suc (parts - 1) = omega arith in rw one at w.rest

    -- the part held last is not nullable
    pub joined_here : {last : ℕ} → last ≡ node_in (get_or held (parts - 1) 0) → p.null last ≡ false → joined set (row_first p last p.kinds) ≡ goal
    unfolding n
    joined_here is null = rw is (rw (rw is at null, or_zero_r) at here)

    -- it is nullable
    pub joined_on : {last : ℕ} → last ≡ node_in (get_or held (parts - 1) 0) → p.null last ≡ true
        → Joining p held goal (joined set (row_first p last p.kinds)) (parts - 1)
    unfolding n
    joined_on is null =
        let assoc = join_assoc set (row_first p n p.kinds) (expected p (nodes_of (stack held (parts - 1)))) in
        record { rest = rw is (assoc ∙ (rw (rw is at null) at here)) }
