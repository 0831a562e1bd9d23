-- Looking back from a record finds what is due there: one induction on the records read.
use Prim.Native.Nat.{ℕ, zero, suc, ◌-◌, ◌≤◌}
use native.Mathlib.Omega.{arith}
use mathlib.Core.Path.{◌≡◌, refl, sym, ◌∙◌}
use mathlib.Core.Bool.{Bool, true, false}
use mathlib.Core.List.{List, [], ◌∷◌}
use lib.ListN.{length, take, get_or}
use Rattle.book.specs.Book.{Book}
use Rattle.book.specs.declared.Node.{Node}
use Rattle.book.specs.declared.Node.TheVariants.{Fail, Empty, Token, Either, Then, Tagged, Ref}
use Rattle.trees.specs.declared.Due.{Due}
use Rattle.trees.specs.declared.Due.TheVariants.{Nothing, Part, Taking, OneOf, Both}
use Rattle.trees.specs.Trees.{is_emptied}
use Rattle.trees.specs.Machine.{Powers, State, state, next, opened, kept, lapsed, behind, goes, reads, read_tree}
use Rattle.trees.specs.Back.{right_due, found_at, whole_from, found_or, front, back, due_at}
use Rattle.trees.proofs.ReadTrees.{read_before}

-- what is due behind so many whole parts more, where the first of them is an empty record or is not
unfoldable past : ℕ → Bool → Due → List ℕ → Due
past zero empty due held = due
past (suc n) empty Nothing held = past n empty (next held).due (next held).held
past (suc n) empty (Part m) held = past n empty (next held).due (next held).held
past (suc n) empty (Taking m) held = past n empty (next held).due (next held).held
past (suc n) empty (OneOf l r) held = past n empty (next held).due (next held).held
past (suc n) empty (Both l r) held = past n empty (right_due empty r) held

-- what is due where a part is whole
abbrev past_next : ℕ → Bool → List ℕ → Due
past_next n empty held = past n empty (next held).due (next held).held

-- ---- only the left of a then tells an empty record from another

next-any : (n : ℕ) (one other : Bool) (held : List ℕ) → past_next n one held ≡ past_next n other held
unfolding past next
next-any zero one other held = refl
next-any (suc n) one other [] = next-any n one other []
next-any (suc n) one other (m ∷ held) = next-any n one other held

right_any : (n : ℕ) (empty one other : Bool) (r : ℕ) (held : List ℕ) → past n one (right_due empty r) held ≡ past n other (right_due empty r) held
unfolding past next
right_any zero empty one other r held = refl
right_any (suc n) true one other r held = next-any n one other held
right_any (suc n) false one other r held = next-any n one other held

past_right : (n : ℕ) (empty : Bool) (r : ℕ) (held : List ℕ) → past (suc n) empty (right_due empty r) held ≡ past_next n empty held
unfolding past next
past_right n true r held = refl
past_right n false r held = refl

past-whole : (n : ℕ) (empty : Bool) → past n empty Nothing [] ≡ Nothing
unfolding past next
past-whole zero empty = refl
past-whole (suc n) empty = past-whole n empty

-- ---- over a record

-- an empty one
past-lapsed : (n : ℕ) (empty : Bool) (due : Due) (held : List ℕ)
    → past (suc n) true due held ≡ past n empty (lapsed due held).due (lapsed due held).held
unfolding past lapsed
past-lapsed n empty Nothing held = next-any n true empty held
past-lapsed n empty (Part m) held = next-any n true empty held
past-lapsed n empty (Taking m) held = next-any n true empty held
past-lapsed n empty (OneOf l r) held = next-any n true empty held
past-lapsed n empty (Both l r) held = right_any n true true empty r held

-- a whole part that is none
past-kept : (n : ℕ) (empty : Bool) (due : Due) (held : List ℕ) → past (suc n) false due held ≡ past_next n empty (kept due held)
unfolding past kept next
past-kept n empty Nothing held = next-any n false empty held
past-kept n empty (Part m) held = next-any n false empty held
past-kept n empty (Taking m) held = next-any n false empty held
past-kept n empty (OneOf l r) held = next-any n false empty held
past-kept n empty (Both l r) held = right_any n false false empty r held

-- the record of a node, with what is found from the record before
past-opened : (top : Node) (n : ℕ) (empty : Bool) (due : Due) (held : List ℕ) (on : ℕ → Due)
    → ((m : ℕ) → on (suc m) ≡ past (suc m) false due held)
    → found_or (found_at top n empty) (on (whole_from top n))
    ≡ past n empty (opened top (kept due held)).due (opened top (kept due held)).held
unfolding found_or found_at whole_from past opened
past-opened Fail n empty due held on is = is n ∙ past-kept n empty due held
past-opened Empty n empty due held on is = is n ∙ past-kept n empty due held
past-opened (Token k) n empty due held on is = is n ∙ past-kept n empty due held
past-opened (Either l r) zero empty due held on is = refl
past-opened (Either l r) (suc n) empty due held on is = is n ∙ past-kept n empty due held
past-opened (Then l r) zero empty due held on is = refl
past-opened (Then l r) (suc zero) true due held on is = refl
past-opened (Then l r) (suc zero) false due held on is = refl
past-opened (Then l r) (suc (suc n)) empty due held on is =
    let one_less : suc (suc n) - 1 ≡ suc n = omega arith in
    rw one_less (is n ∙ past-kept n empty due held ∙ sym (past_right n empty r (kept due held)))
past-opened (Tagged l t) zero empty due held on is = refl
past-opened (Tagged l t) (suc n) empty due held on is = is n ∙ past-kept n empty due held
past-opened (Ref l) zero empty due held on is = refl
past-opened (Ref l) (suc n) empty due held on is = is n ∙ past-kept n empty due held

-- past the front
past-front : (start n : ℕ) (empty : Bool) → front start n ≡ past n empty (Part start) []
unfolding front past next
past-front start zero empty = refl
past-front start (suc n) empty = sym (past-whole n empty)

module _ (b : Book) (powers : Powers) (records : List ℕ) where
  looks_back : (i n : ℕ) (empty : Bool) {s : State} → i ≤ length records → read_tree b powers (take i records) ≡ goes s
      → back b records i n empty ≡ past n empty s.due s.held
  unfolding back behind read_tree reads
  looks_back zero n empty {s} within is =
      let same : state (Part b.start) [] ≡ s = cc in rw (sym same) (past-front b.start n empty)
  looks_back (suc i) n empty {s} within is =
      let f = read_before b powers records i (omega arith) is in
      rw f.stepped
      (go (is_emptied (get_or records i 0)) refl f.stood (λ m e. looks_back i m e {s = f.stood} (omega arith) f.reads_to))
    where
      go : (t : Bool) → is_emptied (get_or records i 0) ≡ t → (stood : State)
          → ((m : ℕ) (e : Bool) → back b records i m e ≡ past m e stood.due stood.held)
          → back b records (suc i) n empty
          ≡ past n empty (behind b.node stood.due stood.held (get_or records i 0)).due
          (behind b.node stood.due stood.held (get_or records i 0)).held
      go true e stood ih = rw e (ih (suc n) true ∙ past-lapsed n empty stood.due stood.held)
      go false e stood ih =
          rw e (past-opened (b.node (get_or records i 0)) n empty stood.due stood.held (λ w. back b records i w false)
          (λ m. ih (suc m) false))

  -- what is due at a record, by looking back from it, is what the reading has due there
  pub due_at_lem : (i : ℕ) {s : State} → i ≤ length records → read_tree b powers (take i records) ≡ goes s → due_at b records i ≡ s.due
  unfolding due_at past
  due_at_lem i within is = looks_back i 0 false within is
