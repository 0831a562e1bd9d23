-- Laws of bytes added to a buffer as far as there is room.
use Prim.Native.Nat.{ℕ, suc, ◌+◌, ◌-◌, ◌≤◌, min}
use borrow.Rule.Slice.PartMut.{put_mid}
use native.Mathlib.Omega.{arith}
use mathlib.Core.Path.{◌≡◌, refl, sym, ap, ◌∙◌}
use mathlib.Core.Bool.{Bool, true, false}
use mathlib.Core.List.{List, [], ◌∷◌, ◌++◌}
use lib.Dec.{leb}
use lib.ListN.{length, take, drop, replicate, length-append, length-drop, take-append-drop, drop_of_length-le}
use lib.Seq.{sets, paste, length-sets, sets-eq, set_out, take_all, length-take-le}
use borrow.Author.Tests.{leb-true, leb-false}
use Rattle.std.proofs.lemmas.List.{length-replicate, take-replicate}
use Rattle.std.proofs.lemmas.Slice.{put_mid-paste}
use Rattle.words.proofs.Stored.{sets-append}
use Rattle.prints.specs.declared.Page.{Page}
use Rattle.prints.specs.Prints.{Adds, spaces}
use Rattle.prints.specs.Pages.{Added}

-- a run of stores past the end changes nothing
sets-past : (l : List ℕ) (at : ℕ) (xs : List ℕ) → length l ≤ at → sets l at xs ≡ l
sets-past l at [] past = refl
sets-past l at (x ∷ xs) past =
    rw (set_out l at x past) (sets-past l (suc at) xs (omega arith))

pub adds_none : (out : List ℕ) (at : ℕ) → Adds out out at at []
adds_none out at = record { moved = λ h. omega arith; full = λ h. omega arith; is = refl }

-- as many bytes as have room
sets-cut : (out : List ℕ) (at : ℕ) (bytes : List ℕ) (from size : ℕ)
    → from ≡ min at (length out)
    → size ≡ min (length bytes) (length out - from)
    → sets out from (take size bytes) ≡ sets out at bytes
sets-cut out at bytes from size from_is size_is = go (leb at (length out)) refl
  where
    long : length (take size bytes) ≡ size
    long = length-take-le size bytes (omega arith)

    rest : (s : List ℕ) → length s ≡ length out → sets s (from + size) (drop size bytes) ≡ s
    rest s is = none (leb (length bytes) size) refl
      where
        none : (t : Bool) → leb (length bytes) size ≡ t → sets s (from + size) (drop size bytes) ≡ s
        none true e = rw (drop_of_length-le bytes (leb-true (length bytes) size e))
        none false e = sets-past s (from + size) (drop size bytes) (omega (arith, is, leb-false (length bytes) size e))

    go : (t : Bool) → leb at (length out) ≡ t → sets out from (take size bytes) ≡ sets out at bytes
    go true e =
        let place : from ≡ at = omega (arith, leb-true at (length out) e) in
        sym (rest (sets out from (take size bytes)) (length-sets out from (take size bytes)))
        ∙ ap (λ (n : ℕ). sets (sets out from (take size bytes)) (from + n) (drop size bytes)) (sym long)
        ∙ sets-append out from (take size bytes) (drop size bytes)
        ∙ rw (take-append-drop size bytes, place)
    go false e =
        sets-past out from (take size bytes) (omega (arith, leb-false at (length out) e))
        ∙ sym (sets-past out at bytes (omega (arith, leb-false at (length out) e)))

pub adds_clipped : (out : List ℕ) (at : ℕ) (bytes : List ℕ) (from size : ℕ) {put : List ℕ}
    → from ≡ min at (length out)
    → size ≡ min (length bytes) (length out - from)
    → put ≡ take size bytes
    → Adds out (put_mid from (from + size - from) out put) at (from + size) bytes
adds_clipped out at bytes from size {put} from_is size_is is =
    record {
      moved = λ h. omega arith;
      full = λ h. omega arith;
      is =
          put_mid-paste from (from + size - from) out put (take size bytes) size is (omega arith)
          (sym (length-take-le size bytes (omega arith)))
          ∙ pasted
          ∙ sets-cut out at bytes from size from_is size_is;
    }
  where
    pasted : paste out from (take size bytes) size ≡ sets out from (take size bytes)
    pasted =
        let long : length (take size bytes) ≡ size = length-take-le size bytes (omega arith) in
        rw (sets-eq (take size bytes) out from (omega (arith, long)), long, take_all size (take size bytes) (omega (arith, long)))

-- as many spaces as have room
pub spaces_clipped : (out : List ℕ) (at count from size : ℕ) {put : List ℕ}
    → from ≡ min at (length out)
    → size ≡ min count (length out - from)
    → put ≡ replicate (length (take (from + size - from) (drop from out))) 32
    → Adds out (put_mid from (from + size - from) out put) at (from + size) (spaces count)
spaces_clipped out at count from size from_is size_is is =
    adds_clipped out at (spaces count) from size from_is (rw length-replicate size_is)
    (is ∙ rw long (sym (take-replicate size count 32 (omega arith))))
  where
    long : length (take (from + size - from) (drop from out)) ≡ size
    long =
        let same : from + size - from ≡ size = omega arith in
        rw same (length-take-le size (drop from out) (rw length-drop (omega arith)))

module _ {out mid : List ℕ} {at next : ℕ} {xs : List ℕ} (p : Adds out mid at next xs) where
  pub adds_length : length mid ≡ length out
  adds_length = ap length p.is ∙ length-sets out at xs

  -- bytes after bytes
  pub adds_then : {end : List ℕ} {last : ℕ} {ys : List ℕ} → Adds mid end next last ys → Adds out end at last (xs ++ ys)
  adds_then {end} {last} {ys} q =
      record {
        moved = λ h. moved (rw length-append at h);
        full = λ h. full (leb (at + length xs) (length out)) refl (rw length-append at h);
        is = q.is ∙ is (leb (at + length xs) (length out)) refl ∙ sets-append out at xs ys;
      }
    where
      moved : at + (length xs + length ys) ≤ length out → last ≡ at + length (xs ++ ys)
      moved h =
          rw length-append
          (omega (arith, p.moved (omega arith), q.moved (omega (arith, adds_length, p.moved (omega arith)))))

      full : (t : Bool) → leb (at + length xs) (length out) ≡ t → length out ≤ at + (length xs + length ys) → length out ≤ last
      full true e h =
          omega (arith, q.full (omega (arith, adds_length, p.moved (leb-true (at + length xs) (length out) e))), adds_length)
      full false e h =
          let over : length out ≤ at + length xs = omega (arith, leb-false (at + length xs) (length out) e) in
          omega (arith, q.full (omega (arith, adds_length, p.full over)), adds_length)

      is : (t : Bool) → leb (at + length xs) (length out) ≡ t → sets mid next ys ≡ sets (sets out at xs) (at + length xs) ys
      is true e = rw (p.is, p.moved (leb-true (at + length xs) (length out) e))
      is false e =
          let over : length out ≤ at + length xs = omega (arith, leb-false (at + length xs) (length out) e) in
          sets-past mid next ys (omega (arith, adds_length, p.full over))
          ∙ p.is
          ∙ sym (sets-past (sets out at xs) (at + length xs) ys (omega (arith, length-sets out at xs)))

-- ---- a page

pub added_none : (page : Page) → Added page page []
added_none page = record { same = refl; adds = adds_none _ _ }

-- bytes after bytes
pub added_then : {page mid end : Page} {xs ys : List ℕ} → Added page mid xs → Added mid end ys → Added page end (xs ++ ys)
added_then p q = record { same = q.same ∙ p.same; adds = adds_then p.adds q.adds }
