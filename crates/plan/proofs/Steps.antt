-- What a cell says of a walk: one that is none of 1 to 5 refuses the event, and each move has a least cell.
use mathlib.Core.Path.{◌≡◌, refl}
use Prim.Native.Nat.{ℕ, zero, suc, ◌≤◌}
use native.Mathlib.Omega.{arith}
use Rattle.running.specs.Running.{Move, refuse, take_event, go_left, hold_right, skip_left, go_right, move_of}

pub no_step : (c : ℕ) → (c ≡ 1 → ⊥) → (c ≡ 2 → ⊥) → (c ≡ 3 → ⊥) → (c ≡ 4 → ⊥) → (c ≡ 5 → ⊥) → refuse ≡ move_of c
unfolding move_of
no_step zero take left hold skip right = refl
no_step (suc zero) take left hold skip right = absurd (take refl)
no_step (suc (suc zero)) take left hold skip right = absurd (left refl)
no_step (suc (suc (suc zero))) take left hold skip right = absurd (hold refl)
no_step (suc (suc (suc (suc zero)))) take left hold skip right = absurd (skip refl)
no_step (suc (suc (suc (suc (suc zero))))) take left hold skip right = absurd (right refl)
no_step (suc (suc (suc (suc (suc (suc c)))))) take left hold skip right = refl

-- the least cell that says a move
abbrev pub least : Move → ℕ
least refuse = 0
least take_event = 1
least go_left = 2
least hold_right = 3
least skip_left = 4
least go_right = 5

pub least_cell : (c : ℕ) → least (move_of c) ≤ c
unfolding move_of
least_cell zero = omega arith
least_cell (suc zero) = omega arith
least_cell (suc (suc zero)) = omega arith
least_cell (suc (suc (suc zero))) = omega arith
least_cell (suc (suc (suc (suc zero)))) = omega arith
least_cell (suc (suc (suc (suc (suc zero))))) = omega arith
least_cell (suc (suc (suc (suc (suc (suc c)))))) = omega arith
