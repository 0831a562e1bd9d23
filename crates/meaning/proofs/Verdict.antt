-- A run of a passed book has one meaning: no two answers, but for the parts held that they carry, mean the same run.
use Prim.Native.Nat.{ℕ, suc, ◌<◌}
use native.Mathlib.Decide.{dec_lt}
use native.Mathlib.Omega.{arith}
use mathlib.Core.Path.{◌≡◌, refl, sym, ap, ◌∙◌}
use mathlib.Core.List.{List, [], ◌++◌, append-nil, append_assoc}
use lib.ListN.{take, drop, get_or, take-append-drop}
use lib.Seq.{take-take}
use Rattle.book.specs.Book.{Book}
use Rattle.running.specs.Running.{END, Answer, accepted, stopped}
use Rattle.grammar.specs.Derivations.{Lawful, Begins}
use Rattle.grammar.specs.Passing.{Passes}
use Rattle.grammar.proofs.Unique.{derivation_unique}
use Rattle.meaning.specs.Meaning.{tree, Refuses, Ends, refusal_of, Means, means_accepted, means_refused, means_end, without_parts}

-- what a beginning of a lawful run begins with is one
pub begins-take : {b : Book} {xs : List ℕ} (n : ℕ) → Begins b xs → Begins b (take n xs)
begins-take {xs = xs} n g =
    let e : xs ++ g.rest ≡ take n xs ++ (drop n xs ++ g.rest) = rw (← append_assoc (take n xs) (drop n xs) g.rest, take-append-drop n xs) in
    record { rest = drop n xs ++ g.rest; lawful = rw e at g.lawful }

module _ {b : Book} {xs : List ℕ} where
  pub lawful_begins : Lawful b xs → Begins b xs
  lawful_begins d = record { rest = []; lawful = rw append-nil d }

  -- a run refused at an event begins no lawful run
  pub refuses_differs : {i : ℕ} → Refuses b xs i → Begins b xs → ⊥
  refuses_differs {i} r g = r.differs (begins-take (suc i) g)

  refuses_before : {i j : ℕ} → Refuses b xs i → Refuses b xs j → i < j → ⊥
  refuses_before {i} {j} r s h = r.differs (rw (take-take (suc i) j xs h) at (begins-take (suc i) s.agrees))

  -- a run is refused at one event
  pub refuses_place : {i j : ℕ} → Refuses b xs i → Refuses b xs j → i ≡ j
  refuses_place {i} {j} r s = go (dec_lt i j) (dec_lt j i)
    where
      go : Dec (i < j) → Dec (j < i) → i ≡ j
      go (yes h) t = absurd (refuses_before r s h)
      go (no h) (yes g) = absurd (refuses_before s r g)
      go (no h) (no g) = omega arith

-- what becomes of a run: it is lawful, refused at an event, or ends too soon
data Fate (b : Book) (xs : List ℕ) : Type 0 where
  lawful_so : Lawful b xs → Fate b xs
  refused_so : (i : ℕ) → Refuses b xs i → Fate b xs
  ended_so : (i : ℕ) → Ends b xs i → Fate b xs

-- the answer that says so, without the parts held
answer_of : {b : Book} {xs : List ℕ} → Fate b xs → Answer
answer_of {b} (lawful_so d) = accepted (tree b.start d)
answer_of {b} {xs} (refused_so i r) = stopped (refusal_of b.kinds (get_or xs i 0)) i []
answer_of (ended_so i e) = stopped END i []

module _ {b : Book} (passes : Passes b) {xs : List ℕ} where
  fate_unique : (f g : Fate b xs) → answer_of f ≡ answer_of g
  unfolding answer_of
  fate_unique (lawful_so d) (lawful_so e) = ap (λ f. accepted (tree b.start f)) (derivation_unique passes b.start d e)
  fate_unique (lawful_so d) (refused_so j s) = absurd (refuses_differs s (lawful_begins d))
  fate_unique (lawful_so d) (ended_so j e) = absurd (e.unlawful d)
  fate_unique (refused_so i r) (lawful_so d) = absurd (refuses_differs r (lawful_begins d))
  fate_unique (refused_so i r) (refused_so j s) = rw (refuses_place r s)
  fate_unique (refused_so i r) (ended_so j e) = absurd (refuses_differs r e.agrees)
  fate_unique (ended_so i e) (lawful_so d) = absurd (e.unlawful d)
  fate_unique (ended_so i e) (refused_so j s) = absurd (refuses_differs s e.agrees)
  fate_unique (ended_so i e) (ended_so j f) = ap (λ (n : ℕ). stopped END n []) (e.whole ∙ sym f.whole)

  means_fate : {a : Answer} → Means b xs a → (f : Fate b xs) × (without_parts a ≡ answer_of f)
  unfolding answer_of without_parts
  means_fate (means_accepted m) = (lawful_so m.derivation, ap accepted m.records_are)
  means_fate (means_refused {i = i} r number_is) = (refused_so i r, ap (λ (number : ℕ). stopped number i []) number_is)
  means_fate (means_end {i} m) = (ended_so i m, refl)

  -- two answers that mean a run are the same, but for the parts held
  pub means_unique : {a c : Answer} → Means b xs a → Means b xs c → without_parts a ≡ without_parts c
  means_unique m n =
      let f = means_fate m in
      let g = means_fate n in
      f.1 ∙ fate_unique f.0 g.0 ∙ sym g.1
