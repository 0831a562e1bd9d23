-- What the parts that are due derive, with their records; behind the record of a node stands what behind that record is due.
use Prim.Native.Nat.{ℕ}
use mathlib.Core.Path.{◌≡◌, refl}
use mathlib.Core.List.{List, [], ◌∷◌, ◌++◌}
use Rattle.book.specs.declared.Node.{Node}
use Rattle.book.specs.declared.Node.TheVariants.{Fail, Empty, Token, Either, Then, Tagged, Ref}
use Rattle.grammar.specs.Rules.{First, Nullable}
use Rattle.running.specs.Running.{emptied}
use Rattle.meaning.proofs.Parts.{Part as PartOf, part_token, part_left, part_right, part_alone, part_both, part_skip, part_tagged, part_ref}
use Rattle.meaning.proofs.Parts.{Held, held_end, held_none, held_some}
use Rattle.meaning.proofs.Walk.{Taken}
use Rattle.trees.specs.declared.Due.{Due}
use Rattle.trees.specs.declared.Due.TheVariants.{Nothing, Part, Taking, OneOf, Both}
use Rattle.trees.specs.Trees.{own_events}
use Rattle.trees.specs.Machine.{State, next, opened}

-- what is due, and the parts held behind it, derive a run in turn, with these records
pub data Owed (node : ℕ → Node) : Due → List ℕ → List ℕ → List ℕ → Type 0 where
  owed_nothing : Owed node Nothing [] [] []
  owed_part : {n : ℕ} {held zs ps : List ℕ} → Held node (n ∷ held) zs ps → Owed node (Part n) held zs ps
  owed_taking : {n k : ℕ} {held zs ps : List ℕ} → Taken node n (node n) k held zs ps → Owed node (Taking n) held (k ∷ zs) ps
  owed_left : {l r k : ℕ} {held zs ps : List ℕ} → Taken node l (node l) k held zs ps → Owed node (OneOf l r) held (k ∷ zs) ps
  owed_right : {l r k : ℕ} {held zs ps : List ℕ} → Taken node r (node r) k held zs ps → Owed node (OneOf l r) held (k ∷ zs) ps
  owed_hold : {l r k : ℕ} {held zs ps : List ℕ} → Taken node l (node l) k (r ∷ held) zs ps → Owed node (Both l r) held (k ∷ zs) ps
  owed_skip : {l r k : ℕ} {held zs ps : List ℕ} → Nullable node (node l) → Taken node r (node r) k held zs ps
      → Owed node (Both l r) held (k ∷ zs) (emptied l ∷ ps)

-- as the reading stands
abbrev pub Owes : (ℕ → Node) → State → List ℕ → List ℕ → Type 0
Owes node s zs ps = Owed node s.due s.held zs ps

-- what stands behind the record of a node, seen from there and from before it
pub record Follows (node : ℕ → Node) (n : ℕ) (top : Node) (held zs ps : List ℕ) : Type 0 where
  pub kind : ℕ
  pub more : List ℕ
  pub taken : Taken node n top kind held more (n ∷ ps)
  pub run_is : own_events top ++ zs ≡ kind ∷ more

pub record Follow (node : ℕ → Node) (n : ℕ) (top : Node) (held zs ps : List ℕ) : Type 0 where
  pub run : List ℕ
  pub records : List ℕ
  pub run_is : zs ≡ own_events top ++ run
  pub records_are : ps ≡ n ∷ records
  pub owes : Owes node (opened top held) run records

module _ {node : ℕ → Node} where
  pub next_owes : {held zs ps : List ℕ} → Held node held zs ps → Owes node (next held) zs ps
  unfolding next
  next_owes held_end = owed_nothing
  next_owes (held_none a h) = owed_part (held_none a h)
  next_owes (held_some p h) = owed_part (held_some p h)

  pub next_held : (held : List ℕ) {zs ps : List ℕ} → Owes node (next held) zs ps → Held node held zs ps
  unfolding next
  next_held [] owed_nothing = held_end
  next_held (n ∷ held) (owed_part h) = h

  -- a then, of which the right is held or the left takes no event
  then_hold : {n l r k : ℕ} {held zs ys ps qs : List ℕ} → PartOf node l (node l) k zs ys ps qs → Held node (r ∷ held) ys qs
      → Taken node n (Then l r) k held zs (n ∷ ps)
  then_hold p (held_none a h) = record { rest = _; others = _; part = part_alone p a; behind = h }
  then_hold p (held_some q h) = record { rest = _; others = _; part = part_both p q; behind = h }

  no_first_fail : {k : ℕ} → First node Fail k → ⊥
  no_first_fail = elim [ ]

  no_first_empty : {k : ℕ} → First node Empty k → ⊥
  no_first_empty = elim [ ]

  -- what is due behind the record of a node that takes an event is the rest of its part, and the parts held
  pub opened-follows : (n : ℕ) (top : Node) {j : ℕ} {held zs ps : List ℕ} → First node top j → Owes node (opened top held) zs ps
      → Follows node n top held zs ps
  unfolding opened own_events
  opened-follows n Fail f o = absurd (no_first_fail f)
  opened-follows n Empty f o = absurd (no_first_empty f)
  opened-follows n (Token k) {held = held} {zs} f o =
      record {
        kind = k;
        more = zs;
        taken = record { rest = _; others = _; part = part_token; behind = next_held held o };
        run_is = refl;
      }
  opened-follows n (Either l r) f (owed_left {k = k} {zs = zs} t) =
      record {
        kind = k;
        more = zs;
        taken = record { rest = t.rest; others = t.others; part = part_left t.part; behind = t.behind };
        run_is = refl;
      }
  opened-follows n (Either l r) f (owed_right {k = k} {zs = zs} t) =
      record {
        kind = k;
        more = zs;
        taken = record { rest = t.rest; others = t.others; part = part_right t.part; behind = t.behind };
        run_is = refl;
      }
  opened-follows n (Then l r) f (owed_hold {k = k} {zs = zs} t) =
      record { kind = k; more = zs; taken = then_hold t.part t.behind; run_is = refl }
  opened-follows n (Then l r) f (owed_skip {k = k} {zs = zs} a t) =
      record {
        kind = k;
        more = zs;
        taken = record { rest = t.rest; others = t.others; part = part_skip a t.part; behind = t.behind };
        run_is = refl;
      }
  opened-follows n (Tagged l t) f (owed_taking {k = k} {zs = zs} s) =
      record {
        kind = k;
        more = zs;
        taken = record { rest = s.rest; others = s.others; part = part_tagged s.part; behind = s.behind };
        run_is = refl;
      }
  opened-follows n (Ref l) f (owed_taking {k = k} {zs = zs} s) =
      record {
        kind = k;
        more = zs;
        taken = record { rest = s.rest; others = s.others; part = part_ref s.part; behind = s.behind };
        run_is = refl;
      }

  -- and a part and the parts held behind it are its node's record and what is due behind that
  part_follow : {n k : ℕ} {top : Node} {held zs ys ps qs : List ℕ} → PartOf node n top k zs ys ps qs → Held node held ys qs
      → Follow node n top held (k ∷ zs) ps
  unfolding opened own_events
  part_follow part_token h = record { run = _; records = _; run_is = refl; records_are = refl; owes = next_owes h }
  part_follow (part_left p) h =
      record {
        run = _;
        records = _;
        run_is = refl;
        records_are = refl;
        owes = owed_left (record { rest = _; others = _; part = p; behind = h });
      }
  part_follow (part_right p) h =
      record {
        run = _;
        records = _;
        run_is = refl;
        records_are = refl;
        owes = owed_right (record { rest = _; others = _; part = p; behind = h });
      }
  part_follow (part_alone p a) h =
      record {
        run = _;
        records = _;
        run_is = refl;
        records_are = refl;
        owes = owed_hold (record { rest = _; others = _; part = p; behind = held_none a h });
      }
  part_follow (part_both p q) h =
      record {
        run = _;
        records = _;
        run_is = refl;
        records_are = refl;
        owes = owed_hold (record { rest = _; others = _; part = p; behind = held_some q h });
      }
  part_follow (part_skip a p) h =
      record {
        run = _;
        records = _;
        run_is = refl;
        records_are = refl;
        owes = owed_skip a (record { rest = _; others = _; part = p; behind = h });
      }
  part_follow (part_tagged p) h =
      record {
        run = _;
        records = _;
        run_is = refl;
        records_are = refl;
        owes = owed_taking (record { rest = _; others = _; part = p; behind = h });
      }
  part_follow (part_ref p) h =
      record {
        run = _;
        records = _;
        run_is = refl;
        records_are = refl;
        owes = owed_taking (record { rest = _; others = _; part = p; behind = h });
      }

  pub taken_follow : {n k : ℕ} {top : Node} {held zs ps : List ℕ} → Taken node n top k held zs ps → Follow node n top held (k ∷ zs) ps
  taken_follow t = part_follow t.part t.behind
