-- Judging has one answer: the lowest unused node, the lowest conflict and what is told of it are determined, and no two rows of the table
-- of answers hold together.
use Prim.Native.Nat.{ℕ, ◌<◌}
use native.Mathlib.Omega.{arith}
use native.Mathlib.Decide.{ℕ_discrete}
use mathlib.Core.Path.{◌≡◌, refl, ap, subst}
use mathlib.Core.Logic.Iff
use mathlib.Core.Logic.{◌↔◌}
use mathlib.Core.List.{List}
use Rattle.kinds.proofs.Laws.{same_kinds}
use Rattle.book.specs.declared.Node.{Node}
use Rattle.book.specs.Book.{Book}
use Rattle.book.specs.Form.{book_of}
use Rattle.grammar.specs.Rules.{Conflict, Reach}
use Rattle.verdict.specs.declared.Verdict.{Verdict}
use Rattle.verdict.specs.Judges.{UNUSED, CONFLICT, Told, NoConflictBelow, judgement}
use Rattle.verdict.specs.Judges.{Judges, malformed, unused, barren, conflict, passes}

-- the lowest number of which something holds is one
lowest_unique : {Of : ℕ → Type 0} {j k : ℕ} → ((m : ℕ) → m < j → Of m → ⊥) → Of j → ((m : ℕ) → m < k → Of m → ⊥) → Of k → j ≡ k
lowest_unique {Of} {j} {k} least here least' here' =
    let j≤k : ¬ (k < j) = λ h. least k h here' in
    let k≤j : ¬ (j < k) = λ h. least' j h here in
    omega arith

swap : {A B : Type 0} → A ↔ B → B ↔ A
swap e = (e.1, e.0)

module _ {node : ℕ → Node} {at : Node} {both clash both' clash' : ℕ} (one : Told node at both clash) (other : Told node at both' clash') where
  -- one set of kinds clashes at a node
  clash_unique : clash ≡ clash'
  clash_unique = same_kinds one.clash_fits other.clash_fits (λ k. Iff.trans (one.clash_is k) (swap (other.clash_is k)))

  -- and there is one flag
  flag_unique : both ≡ both'
  flag_unique = go (ℕ_discrete both 1) (ℕ_discrete both' 1)
    where
      go : Dec (both ≡ 1) → Dec (both' ≡ 1) → both ≡ both'
      go (yes e) d = omega (arith, e, other.flag_is.1 (one.flag_is.0 e))
      go (no f) (yes e) = absurd (f (one.flag_is.1 (other.flag_is.0 e)))
      go (no f) (no g) = omega (arith, one.flag, other.flag)

-- the lowest node that has a conflict is one, and so is what is told of it
conflict_unique : (book : Book) {n both clash n' both' clash' : ℕ}
    → NoConflictBelow book n
    → Conflict book.node (book.node n)
    → Told book.node (book.node n) both clash
    → NoConflictBelow book n'
    → Conflict book.node (book.node n')
    → Told book.node (book.node n') both' clash'
    → judgement CONFLICT n both clash ≡ judgement CONFLICT n' both' clash'
conflict_unique book {n} {both} {clash} {n'} least here told least' here' told' =
    λ i. judgement CONFLICT (same i) (flag_unique at_same told' i) (clash_unique at_same told' i)
  where
    same : n ≡ n'
    same = lowest_unique {Of = λ m. Conflict book.node (book.node m)} least here least' here'

    at_same : Told book.node (book.node n') both clash
    at_same = subst (λ m. Told book.node (book.node m) both clash) same told

-- judging has one answer
pub judges_unique : {bytes : List ℕ} {v v' : Verdict} → Judges bytes v → Judges bytes v' → v ≡ v'
judges_unique (malformed _) (malformed _) = refl
judges_unique (malformed bad) (unused good _ _ _) = absurd (bad good)
judges_unique (malformed bad) (barren good _ _) = absurd (bad good)
judges_unique (malformed bad) (conflict good _ _ _ _ _) = absurd (bad good)
judges_unique (malformed bad) (passes good _ _ _) = absurd (bad good)
judges_unique (unused good _ _ _) (malformed bad) = absurd (bad good)
judges_unique {bytes} (unused _ _ below not) (unused _ _ below' not') =
    ap (λ (n : ℕ). judgement UNUSED n 0 0)
    (lowest_unique {Of = λ n. Reach (book_of bytes).node (book_of bytes).start n → ⊥} (λ m l f. f (below m l)) not (λ m l f. f (below' m l)) not')
judges_unique (unused _ within _ not) (barren _ reached _) = absurd (not (reached _ within))
judges_unique (unused _ within _ not) (conflict _ reached _ _ _ _) = absurd (not (reached _ within))
judges_unique (unused _ within _ not) (passes _ reached _ _) = absurd (not (reached _ within))
judges_unique (barren good _ _) (malformed bad) = absurd (bad good)
judges_unique (barren _ reached _) (unused _ within _ not) = absurd (not (reached _ within))
judges_unique (barren _ _ _) (barren _ _ _) = refl
judges_unique (barren _ _ bare) (conflict _ _ fruitful _ _ _) = absurd (bare fruitful)
judges_unique (barren _ _ bare) (passes _ _ fruitful _) = absurd (bare fruitful)
judges_unique (conflict good _ _ _ _ _) (malformed bad) = absurd (bad good)
judges_unique (conflict _ reached _ _ _ _) (unused _ within _ not) = absurd (not (reached _ within))
judges_unique (conflict _ _ fruitful _ _ _) (barren _ _ bare) = absurd (bare fruitful)
judges_unique {bytes} (conflict _ _ _ least here told) (conflict _ _ _ least' here' told') =
    conflict_unique (book_of bytes) least here told least' here' told'
judges_unique (conflict _ _ _ _ here _) (passes _ _ _ none) = absurd (none _ here)
judges_unique (passes good _ _ _) (malformed bad) = absurd (bad good)
judges_unique (passes _ reached _ _) (unused _ within _ not) = absurd (not (reached _ within))
judges_unique (passes _ _ fruitful _) (barren _ _ bare) = absurd (bare fruitful)
judges_unique (passes _ _ _ none) (conflict _ _ _ _ here _) = absurd (none _ here)
judges_unique (passes _ _ _ _) (passes _ _ _ _) = refl
