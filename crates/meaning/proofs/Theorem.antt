-- Reading keeps to what a book means: for a passed book and marks that are its facts, the free machine answers a run as the book means.
use Prim.Native.Nat.{ℕ, suc, ◌+◌}
use native.Mathlib.Omega.{arith}
use mathlib.Core.Path.{◌≡◌, ◌∙◌}
use mathlib.Core.List.{List, [], ◌∷◌, ◌++◌}
use lib.ListN.{length, get_or, length-append}
use lib.Seq.{take_at, take_all, get_or_at, append_snoc}
use Rattle.book.specs.Book.{Book, WellFormed}
use Rattle.running.specs.Cells.{Marks, Marked, plan_for}
use Rattle.running.specs.Running.{unlimited, Answer, expected, Next, reading}
use Rattle.running.proofs.Expected.{expected_next}
use Rattle.grammar.specs.Derivations.{Begins}
use Rattle.grammar.specs.Passing.{Passes}
use Rattle.meaning.specs.Meaning.{Refuses, Means, means_accepted, means_refused, means_end, refusal_of}
use Rattle.meaning.specs.Meaning.{NextKinds, Tells, tells_none, tells-next}
use Rattle.meaning.proofs.Parts.{held_derives, derives_held}
use Rattle.meaning.proofs.Orderly.{Orderly, orderly_end, orderly_part, held_nothing}
use Rattle.meaning.proofs.Next.{Behind, next-begins, begins-next}
use Rattle.meaning.proofs.Run.{Parted, Run, run_accepted, run-refused, run_end, run_is}

-- a run that the start, held alone, parts from is refused there
record Refused (b : Book) (xs : List ℕ) (i k : ℕ) : Type 0 where
  refuses : Refuses b xs i
  kind_is : get_or xs i 0 ≡ k

module _ {b : Book} where
  parted_refuses : {xs before behind : List ℕ} {i k : ℕ} → Parted b.node (b.start ∷ []) xs before k behind → i ≡ 0 + length before
      → Refused b xs i k
  parted_refuses {xs} {before} {behind} {i} {k} p e =
      let long : length before ≡ i = omega arith in
      let longer : length (before ++ k ∷ []) ≡ suc i = simp length-append (omega arith) in
      rw p.run_is
      (record {
        refuses = record {
          within = simp length-append (omega arith);
          agrees =
              let t = p.agrees in
              rw (take_at before (k ∷ behind) i long) (record { rest = t.0; lawful = (held_derives t.2).0 });
          differs = λ g. go (rw (← append_snoc before k behind, take_at (before ++ k ∷ []) behind (suc i) longer) at g);
        };
        kind_is = get_or_at before k behind 0 i long;
      })
    where
      go : Begins b (before ++ k ∷ []) → ⊥
      go g = p.differs g.rest _ (derives_held (rw append_snoc at g.lawful))

  run_means : {xs : List ℕ} {a : Answer} → Run b.node b.kinds (b.start ∷ []) xs 0 a → Means b xs a
  run_means (run_accepted h) = let d = held_derives h in means_accepted (record { derivation = d.0; records_are = d.1 })
  run_means {xs} (run-refused {number} {i} p q number_is e) =
      let r = parted_refuses p e in
      let is : number ≡ refusal_of b.kinds (get_or xs i 0) = rw r.kind_is number_is in
      means_refused r.refuses is
  run_means (run_end p q e) =
      let t = p.agrees in
      means_end
      (record {
        whole = e ∙ omega arith;
        agrees = record { rest = t.0; lawful = (held_derives t.2).0 };
        unlawful = λ d. p.differs _ (derives_held d);
      })

-- what the parts held behind a beginning expect is what lawful runs have next
module _ {b : Book} (formed : WellFormed b) (marks : Marks) (marked : Marked b.node marks) where
  behind-next : {before parts : List ℕ} → Behind b.node (b.start ∷ []) before parts
      → NextKinds b before (expected (plan_for b marks) parts)
  behind-next {before} {parts} q =
      record {
        next = λ k.
            let is = expected_next (plan_for b marks) parts k in
            (λ has. begins k (is.0 has), λ g. is.1 (nexts k g));
      }
    where
      begins : (k : ℕ) → Next (plan_for b marks) k parts → Begins b (before ++ k ∷ [])
      begins k next =
          let t = next-begins b formed marks marked q.orderly next in
          let h = q.sound (k ∷ t.0) t.1 t.2 in
          record { rest = t.0; lawful = rw append_snoc (held_derives h.1).0 }

      nexts : (k : ℕ) → Begins b (before ++ k ∷ []) → Next (plan_for b marks) k parts
      nexts k g = begins-next b formed marks marked (q.complete (k ∷ g.rest) _ (derives_held (rw append_snoc at g.lawful))).1

  run-tells : {xs : List ℕ} {a : Answer} → Run b.node b.kinds (b.start ∷ []) xs 0 a → Tells b xs (plan_for b marks) a
  run-tells (run_accepted h) = tells_none
  run-tells (run-refused {i = i} {k = k} {before = before} {behind = behind} {parts = parts} p q number_is e) =
      tells-next {i = i} {held = parts} (rw (p.run_is, take_at before (k ∷ behind) i (omega arith)) (behind-next q))
  run-tells {xs} (run_end {i} {parts} p q e) = tells-next {i = i} {held = parts} (rw (take_all i xs (omega arith)) (behind-next q))

-- the start, held alone, is in order
start_orderly : {b : Book} → Passes b → Orderly b.node (b.start ∷ [])
start_orderly passes =
    orderly_part passes.productive (record { none = λ k zs ps s. held_nothing }) orderly_end

module _ {b : Book} (passes : Passes b) (marks : Marks) (marked : Marked b.node marks) (xs : List ℕ) where
  -- what the machine answers is what the book means
  pub reading_means : Means b xs (reading (plan_for b marks) unlimited xs)
  unfolding reading
  reading_means = run_means (run_is passes marks marked xs 0 (b.start ∷ []) (start_orderly passes))

  -- and the kinds that it tells are those that lawful runs have next
  pub reading_tells : Tells b xs (plan_for b marks) (reading (plan_for b marks) unlimited xs)
  unfolding reading
  reading_tells =
      run-tells passes.well_formed marks marked (run_is passes marks marked xs 0 (b.start ∷ []) (start_orderly passes))
