-- Reading a run and writing a tree's run undo each other.
use Prim.Native.Nat.{ℕ, ◌-◌, ◌≤◌, ◌<◌}
use native.Mathlib.Omega.{arith}
use mathlib.Core.Path.{◌≡◌, refl, sym, ap, ◌∙◌}
use mathlib.Core.Bool.{Bool, true, false}
use mathlib.Core.List.{List, ◌++◌}
use lib.Dec.{leb, eqb}
use lib.ListN.{length, take}
use lib.Seq.{take-append_seam}
use borrow.Author.Tests.{leb-true, eqb-false}
use Rattle.words.specs.Words.{zeros}
use Rattle.book.specs.Book.{Book}
use Rattle.book.specs.Form.{DONE}
use Rattle.running.specs.Running.{DEEP}
use Rattle.plan.specs.Form.{plan_judged}
use Rattle.reader.specs.declared.Reading.{Reading}
use Rattle.reader.specs.Numbers.{NO-ROOM, answered}
use Rattle.reader.specs.Reads.{read_of}
use Rattle.meaning.specs.Meaning.{Accepts, tree}
use Rattle.promises.specs.Promises.{ReadsAsMeant}

-- a run that is read to the end is short enough
pub done_short : (plan run : List ℕ) (slots room : ℕ) → (read_of plan run slots room).reading.number ≡ DONE → length run ≤ 65535
unfolding read_of
done_short plan run slots room is = go (eqb (plan_judged plan).number DONE) (leb (length run) 65535) refl refl
  where
    go : (formed short : Bool) → eqb (plan_judged plan).number DONE ≡ formed → leb (length run) 65535 ≡ short → length run ≤ 65535
    go formed true f s = leb-true _ _ s
    go true false f s = let other = rw (f, s) at is in absurd (omega (arith, other))
    go false false f s = absurd (eqb-false _ _ f (rw f at is))

-- and neither DEEP nor NO ROOM
pub done_not_deep : DONE ≡ DEEP → ⊥
done_not_deep is = omega arith

pub done_not_full : DONE ≡ NO-ROOM → ⊥
done_not_full is = omega arith

module _ {b : Book} {run : List ℕ} {room : ℕ} {r : Reading} {after : List ℕ} (meant : ReadsAsMeant b run room r after) where
  -- reading the run of a tree gives the tree
  pub tree_back : {records : List ℕ} → Accepts b run records
      → (r ≡ answered DONE (length run) (length records) 0) × (after ≡ records ++ zeros (room - length records))
  tree_back a = rw a.records_are (meant.answers a.derivation, meant.writes a.derivation)

  -- the records of a run that is read to the end are its tree
  pub tree_read : r.number ≡ DONE → Accepts b run (take r.records after)
  tree_read is =
      let d = meant.accepts.0 is in
      let many : r.records ≡ length (tree b.start d) = ap (λ (r : Reading). r.records) (meant.answers d) in
      record { derivation = d; records_are = rw (many, meant.writes d) (take-append_seam (tree b.start d) _) }
