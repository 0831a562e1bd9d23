-- Names written one behind the other, and their size.
use mathlib.Core.Path.{◌≡◌, refl, sym, ap, ◌∙◌}
use mathlib.Core.List.{List, [], ◌∷◌, ◌++◌, append_assoc, append-nil}
use Prim.Native.Nat.{ℕ, zero, suc, ◌+◌, ◌*◌, ◌≤◌, ◌<◌}
use native.Mathlib.Omega.{arith}
use lib.ListN.{length, get_or, take, drop, take-append-drop, length-append}
use lib.Seq.{sets, length-sets}
use Rattle.std.specs.Prelude.{map}
use Rattle.std.proofs.lemmas.List.{map-append, map_more, take_all}
use Rattle.words.proofs.Stored.{sets_then}
use Rattle.names.specs.Names.{names_bytes}
use Rattle.making.specs.Bytes.{largest}

names_append : (xs ys : List (List ℕ)) → names_bytes (xs ++ ys) ≡ names_bytes xs ++ names_bytes ys
unfolding names_bytes
names_append [] ys = refl
names_append (x ∷ xs) ys =
    rw (names_append xs ys) (ap (λ (l : List ℕ). length x ∷ l) (sym (append_assoc x (names_bytes xs) (names_bytes ys))))

module _ (word : ℕ → List ℕ) (kinds : List ℕ) where
  -- the names of the kinds before a number
  abbrev pub done : ℕ → List ℕ
  done k = names_bytes (map word (take k kinds))

  abbrev pub whole : List ℕ
  whole = names_bytes (map word kinds)

  module _ {k : ℕ} (below : k < length kinds) (d : ℕ) where
    done_more : done (k + 1) ≡ done k ++ (length (word (get_or kinds k d)) ∷ word (get_or kinds k d))
    unfolding names_bytes
    done_more =
        ap names_bytes (map_more word kinds k d below) ∙ names_append (map word (take k kinds)) (word (get_or kinds k d) ∷ [])
        ∙ ap (λ (l : List ℕ). done k ++ (length (word (get_or kinds k d)) ∷ l)) (append-nil (word (get_or kinds k d)))

    done_size : length (done (k + 1)) ≡ length (done k) + 1 + length (word (get_or kinds k d))
    done_size = ap length done_more ∙ length-append (done k) _ ∙ omega arith

  done_within : (k : ℕ) → length (done k) ≤ length whole
  done_within k =
      let all : whole ≡ done k ++ names_bytes (map word (drop k kinds)) =
      ap (λ l. names_bytes (map word l)) (sym (take-append-drop k kinds))
      ∙ ap names_bytes (map-append word (take k kinds) (drop k kinds))
      ∙ names_append (map word (take k kinds)) (map word (drop k kinds)) in
      omega (arith, ap length all, length-append (done k) (names_bytes (map word (drop k kinds))))

  done_all : {k : ℕ} → length kinds ≤ k → done k ≡ whole
  done_all {k} past = ap (λ l. names_bytes (map word l)) (take_all k kinds past)

  -- each name is short where the longest is
  pub short_at : (d : ℕ) {k : ℕ} → k < length kinds → largest (map length (map word kinds)) ≤ 16 → length (word (get_or kinds k d)) ≤ 16
  unfolding largest
  short_at d {k} below short = go kinds k below short
    where
      go : (kinds : List ℕ) (k : ℕ) → k < length kinds → largest (map length (map word kinds)) ≤ 16 → length (word (get_or kinds k d)) ≤ 16
      go [] k below short = absurd (omega arith)
      go (kind ∷ kinds) zero below short = omega arith
      go (kind ∷ kinds) (suc k) below short = go kinds k (omega arith) (omega arith)

  -- the names before a number are written, up to a place
  pub record Naming (before after : List ℕ) (from at k : ℕ) : Type 0 where
    pub place : at ≡ from + length (done k)
    pub put : after ≡ sets before from (done k)
    pub long : length after ≡ length before

  pub naming_none : (l : List ℕ) (from : ℕ) → Naming l l from from 0
  unfolding names_bytes
  naming_none l from = record { place = omega arith; put = refl; long = refl }

  module _ {before after : List ℕ} {from at k : ℕ} (n : Naming before after from at k) (d : ℕ) (below : k < length kinds) where
    pub name_fits : from + length whole ≤ length before → at + 1 + length (word (get_or kinds k d)) ≤ length after
    name_fits fits = omega (arith, fits, n.place, n.long, done_size below d, done_within (k + 1))

    pub naming_more : {next name : List ℕ} → name ≡ word (get_or kinds k d) → next ≡ sets after at (length name ∷ name)
        → Naming before next from (at + (1 + length name)) (k + 1)
    naming_more {next} {name} is stored =
        record {
          place = omega (arith, n.place, done_size below d, ap length is);
          put =
              stored
              ∙ ap (λ (l : List ℕ). sets l at (length name ∷ name)) n.put
              ∙ sets_then before from (done k) at (length name ∷ name) n.place
              ∙ ap (sets before from) (ap (λ (l : List ℕ). done k ++ (length l ∷ l)) is ∙ sym (done_more below d));
          long = ap length stored ∙ length-sets after at (length name ∷ name) ∙ n.long;
        }

  pub naming_all : {before after : List ℕ} {from at k : ℕ} → Naming before after from at k → length kinds ≤ k
      → after ≡ sets before from whole
  naming_all {before} {from = from} n past = n.put ∙ ap (sets before from) (done_all past)

  -- the sizes of the names before a number are added
  pub record Measuring (size k : ℕ) : Type 0 where
    pub is : size ≡ length (done k)
    pub few : size ≤ 17 * k

  pub measuring_none : Measuring 0 0
  unfolding names_bytes
  measuring_none = record { is = refl; few = omega arith }

  pub measuring_more : {size k : ℕ} → Measuring size k → (d : ℕ) → k < length kinds → {name : List ℕ} → name ≡ word (get_or kinds k d)
      → length (word (get_or kinds k d)) ≤ 16 → Measuring (size + (1 + length name)) (k + 1)
  measuring_more m d below is short =
      record { is = omega (arith, m.is, done_size below d, ap length is); few = omega (arith, m.few, ap length is) }

  pub measuring_all : {size k : ℕ} → Measuring size k → length kinds ≤ k → size ≡ length whole
  measuring_all m past = m.is ∙ ap length (done_all past)
