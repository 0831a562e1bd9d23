-- As many parts are held behind some beginning as a way from the start weighs: the way is walked, and where it goes from a then to its
-- right, the left is completed first.
use Prim.Native.Nat.{ℕ, ◌+◌}
use native.Mathlib.Omega.{arith}
use mathlib.Core.Path.{◌≡◌, refl}
use mathlib.Core.Bool.{Bool, true, false}
use mathlib.Core.List.{List, [], ◌∷◌, ◌++◌, append_assoc}
use mathlib.Core.Logic.{◌⊎◌, inl, inr, ⊎_elim}
use lib.ListN.{length}
use Rattle.book.specs.Book.{Book}
use Rattle.book.specs.declared.Node.{Node}
use Rattle.book.specs.declared.Node.TheVariants.{Then}
use Rattle.grammar.specs.Rules.{Productive, p_empty, p_token, p_left, p_right, p_then, p_tagged, p_ref}
use Rattle.grammar.specs.Rules.{Nullable, n_empty, n_left, n_right, n_then, n_tagged, n_ref}
use Rattle.grammar.specs.Rules.{First, f_token, f_left, f_right, f_hold, f_skip, f_tagged, f_ref}
use Rattle.grammar.specs.Rules.{Snf, s_left, s_right, s_then_right, s_tagged, s_ref, Conflict}
use Rattle.grammar.specs.Derivations.{Begins}
use Rattle.grammar.specs.Passing.{Passes}
use Rattle.grammar.proofs.Facts.{nullable_first_snf, first_productive, first_derives}
use Rattle.running.specs.Running.{unlimited, taken, emptied, noted, take_off, event}
use Rattle.running.specs.Cells.{Marks, Marked, plan_for}
use Rattle.meaning.proofs.Parts.{Held, held_none, derives_before, held_derives}
use Rattle.meaning.proofs.Walk.{after, recorded}
use Rattle.meaning.proofs.Machine.{cell_first, cell_other}
use Rattle.meaning.proofs.Orderly.{Apart, Orderly, orderly_end, orderly_part, held_nothing, apart_as, apart_left, orderly_run, walk_orderly}
use Rattle.meaning.proofs.Event.{Event, event_taken, walk_whole, event_is}
use Rattle.meaning.proofs.Next.{Behind, behind_none, behind-taken}
use Rattle.depths.specs.Depths.{After, after_none, after_event, HeldBehind}
use Rattle.depths.specs.Ways.{Weighs, w_token, w_left, w_right, w_hold, w_pass, w_tagged, w_ref}

pub weighs_productive : {node : ℕ → Node} {top : Node} {w : ℕ} → Weighs node top w → Productive node top
weighs_productive w_token = p_token
weighs_productive (w_left way) = p_left (weighs_productive way)
weighs_productive (w_right way) = p_right (weighs_productive way)
weighs_productive (w_hold way p) = p_then (weighs_productive way) p
weighs_productive (w_pass p way) = p_then p (weighs_productive way)
weighs_productive (w_tagged way) = p_tagged (weighs_productive way)
weighs_productive (w_ref way) = p_ref (weighs_productive way)

-- ---- parts that are nullable

pub data AllNullable (node : ℕ → Node) : List ℕ → Type 0 where
  nullable_none : AllNullable node []
  nullable_part : {n : ℕ} {parts : List ℕ} → Nullable node (node n) → AllNullable node parts → AllNullable node (n ∷ parts)

module _ {node : ℕ → Node} where
  nullable_more : {parts : List ℕ} {n : ℕ} → AllNullable node parts → Nullable node (node n) → AllNullable node (parts ++ n ∷ [])
  nullable_more nullable_none a = nullable_part a nullable_none
  nullable_more (nullable_part c all) a = nullable_part c (nullable_more all a)

  -- they take no event before a run of those under them
  nullable_before : {parts held zs ps : List ℕ} → AllNullable node parts → Held node held zs ps
      → (qs : List ℕ) × Held node (parts ++ held) zs qs
  nullable_before nullable_none h = (_, h)
  nullable_before (nullable_part a all) h = let t = nullable_before all h in (_, held_none a t.1)

  -- a part with a kind in FIRST under nullable parts begins a run with it
  under_begins : {parts held : List ℕ} {r k : ℕ} → AllNullable node parts → First node (node r) k → Orderly node held
      → (zs ps : List ℕ) × Held node (parts ++ r ∷ held) (k ∷ zs) ps
  under_begins {r = r} {k = k} all d o =
      let s = first_derives d in
      let t = orderly_run o in
      let u = nullable_before all (derives_before r (k ∷ s.0) s.1 t.2) in
      (s.0 ++ t.0, u.0, u.1)

  -- what is in order is in order under the first parts, and under one more
  orderly_under : (held : List ℕ) (r : ℕ) (parts : List ℕ) → Orderly node (parts ++ r ∷ held) → Orderly node held
  orderly_under held r [] (orderly_part p a o) = o
  orderly_under held r (n ∷ parts) (orderly_part p a o) = orderly_under held r parts o

-- ---- events

module _ {b : Book} (passes : Passes b) (marks : Marks) (marked : Marked b.node marks) where
  -- parts held behind events, and what they derive
  pub after-behind : {held run parts : List ℕ} → Orderly b.node held → After (plan_for b marks) held run parts
      → Behind b.node held run parts
  after-behind o after_none = behind_none o
  after-behind {held} o (after_event {k} e rest) =
      took (rw e at (event_is passes marks marked k held o)) (λ there. after-behind there rest)
    where
      took : {then records run parts : List ℕ} → Event b.node k held (taken then records)
          → (Orderly b.node then → Behind b.node then run parts) → Behind b.node held (k ∷ run) parts
      took (event_taken t) behind = behind-taken t (behind t.orderly)

  pub after_then : {held run parts more last : List ℕ} → After (plan_for b marks) held run parts → After (plan_for b marks) parts more last
      → After (plan_for b marks) held (run ++ more) last
  after_then after_none rest = rest
  after_then (after_event e first) rest = after_event e (after_then first rest)

  -- an event of a kind in FIRST of a part under nullable parts is taken by that part
  taken_under : (parts : List ℕ) → AllNullable b.node parts → {r k : ℕ} (d : First b.node (b.node r) k) (held : List ℕ)
      → Orderly b.node (parts ++ r ∷ held)
      → (records : List ℕ) × (event (plan_for b marks) unlimited k (parts ++ r ∷ held) ≡ taken (after d held) records)
  unfolding event take_off noted
  taken_under [] nullable_none {r} {k} d held o =
      let c = cell_first b marks marked k refl d in
      let w = walk_whole passes marks marked k d held in
      (recorded r d, rw (c, w) refl)
  taken_under (n ∷ parts) (nullable_part a all) {r} {k} d held (orderly_part p apart o) =
      go (marks.first n k) refl ((marked.null_is n).1 a) (taken_under parts all d held o)
    where
      go : (t : Bool) → marks.first n k ≡ t → marks.null n ≡ true
          → (records : List ℕ) × (event (plan_for b marks) unlimited k (parts ++ r ∷ held) ≡ taken (after d held) records)
          → (records : List ℕ) × (event (plan_for b marks) unlimited k (n ∷ (parts ++ r ∷ held)) ≡ taken (after d held) records)
      go true e f under =
          let t = under_begins all d (orderly_under held r parts o) in
          absurd (apart.none k t.0 t.1 (nullable_first_snf a ((marked.first_is n k).0 e)) t.2)
      go false e f under =
          let c = cell_other b marks marked k n (b.node n) e in
          let u = under.1 in
          (emptied n ∷ under.0, rw (c, f, u) refl)

  -- ---- a productive part is completed

  -- events that begin with a kind in FIRST of a node leave nullable parts before those that were held
  record Completed (top : Node) (held : List ℕ) : Type 0 where
    kind : ℕ
    first : First b.node top kind
    run : List ℕ
    parts : List ℕ
    behind : After (plan_for b marks) (after first held) run (parts ++ held)
    nullable : AllNullable b.node parts

  -- events that complete a part, and then those of the part under it
  after_completed : {top : Node} {r k : ℕ} {held more last : List ℕ} (c : Completed top (r ∷ held)) (d : First b.node (b.node r) k)
      → Orderly b.node (after c.first (r ∷ held)) → After (plan_for b marks) (after d held) more last
      → After (plan_for b marks) (after c.first (r ∷ held)) (c.run ++ k ∷ more) last
  after_completed {held = held} c d o rest =
      let t = taken_under c.parts c.nullable d held (after-behind o c.behind).orderly in
      after_then c.behind (after_event t.1 rest)

  completed_as : {top low : Node} {held : List ℕ} (c : Completed low held) (first : First b.node top c.kind)
      → after first held ≡ after c.first held → Completed top held
  completed_as {held = held} c first same = record {
    kind = c.kind;
    first = first;
    run = c.run;
    parts = c.parts;
    behind = rw same c.behind;
    nullable = c.nullable;
  }

  -- parts in order with a node before them that has no conflict and stands apart from them
  record Ready (top : Node) (held : List ℕ) : Type 0 where
    clear : Conflict b.node top → ⊥
    apart : Apart b.node top held
    orderly : Orderly b.node held

  ready_as : {l : ℕ} {top : Node} {held : List ℕ} → ((k : ℕ) → Snf b.node (b.node l) k → Snf b.node top k) → Ready top held
      → Ready (b.node l) held
  ready_as {l} f ready = record { clear = passes.no_conflict l; apart = apart_as f ready.apart; orderly = ready.orderly }

  -- the left of a then, its right held
  ready_left : {l r : ℕ} {held : List ℕ} → Productive b.node (b.node l) → Productive b.node (b.node r) → Ready (Then l r) held
      → Ready (b.node l) (r ∷ held)
  ready_left {l} p q ready = record {
    clear = passes.no_conflict l;
    apart = apart_left ready.clear ready.apart;
    orderly = orderly_part q (apart_as (λ k. s_then_right p) ready.apart) ready.orderly;
  }

  ready_walked : {top : Node} {k : ℕ} {held : List ℕ} (d : First b.node top k) → Ready top held → Orderly b.node (after d held)
  ready_walked {held = held} d ready = walk_orderly passes.no_conflict d held ready.clear ready.apart ready.orderly

  completes_then : {l r : ℕ} {held : List ℕ} → Productive b.node (b.node l) → Productive b.node (b.node r) → Ready (Then l r) held
      → Nullable b.node (b.node l) ⊎ Completed (b.node l) (r ∷ held) → Nullable b.node (b.node r) ⊎ Completed (b.node r) held
      → Nullable b.node (Then l r) ⊎ Completed (Then l r) held
  unfolding after
  completes_then p q ready (inl a) (inl e) = inl (n_then a e)
  completes_then p q ready (inl a) (inr d) = inr (completed_as d (f_skip a d.first) refl)
  completes_then {r = r} {held} p q ready (inr c) (inl e) =
      inr (record {
        kind = c.kind;
        first = f_hold c.first q;
        run = c.run;
        parts = c.parts ++ r ∷ [];
        behind = rw (append_assoc c.parts (r ∷ []) held) c.behind;
        nullable = nullable_more c.nullable e;
      })
  completes_then {l} {r} {held} p q ready (inr c) (inr d) =
      inr (record {
        kind = c.kind;
        first = f_hold c.first q;
        run = c.run ++ d.kind ∷ d.run;
        parts = d.parts;
        behind = after_completed c d.first (ready_walked c.first (ready_left p q ready)) d.behind;
        nullable = d.nullable;
      })

  -- a productive node is nullable, or some events complete it
  completes : {top : Node} (held : List ℕ) → Productive b.node top → Ready top held → Nullable b.node top ⊎ Completed top held
  unfolding after
  completes held p_empty ready = inl n_empty
  completes held (p_token {k}) ready =
      inr (record { kind = k; first = f_token; run = []; parts = []; behind = after_none; nullable = nullable_none })
  completes held (p_left p) ready =
      ⊎_elim (λ a. inl (n_left a)) (λ c. inr (completed_as c (f_left c.first) refl)) (completes held p (ready_as (λ k. s_left) ready))
  completes held (p_right p) ready =
      ⊎_elim (λ a. inl (n_right a)) (λ c. inr (completed_as c (f_right c.first) refl)) (completes held p (ready_as (λ k. s_right) ready))
  completes held (p_then {l} {r} p q) ready =
      completes_then p q ready (completes (r ∷ held) p (ready_left p q ready)) (completes held q (ready_as (λ k. s_then_right p) ready))
  completes held (p_tagged p) ready =
      ⊎_elim (λ a. inl (n_tagged a)) (λ c. inr (completed_as c (f_tagged c.first) refl))
      (completes held p (ready_as (λ k. s_tagged) ready))
  completes held (p_ref p) ready =
      ⊎_elim (λ a. inl (n_ref a)) (λ c. inr (completed_as c (f_ref c.first) refl)) (completes held p (ready_as (λ k. s_ref) ready))

  -- ---- a way is gone

  -- events that begin with a kind in FIRST of a node leave so many parts more than were held
  record Gone (top : Node) (held : List ℕ) (more : ℕ) : Type 0 where
    kind : ℕ
    first : First b.node top kind
    run : List ℕ
    parts : List ℕ
    behind : After (plan_for b marks) (after first held) run parts
    many : length parts ≡ more + length held

  gone_as : {top low : Node} {held : List ℕ} {more : ℕ} (g : Gone low held more) (first : First b.node top g.kind)
      → after first held ≡ after g.first held → Gone top held more
  gone_as g first same = record {
    kind = g.kind;
    first = first;
    run = g.run;
    parts = g.parts;
    behind = rw same g.behind;
    many = g.many;
  }

  gone_pass : {l r more : ℕ} {held : List ℕ} → Productive b.node (b.node l) → Ready (Then l r) held
      → Nullable b.node (b.node l) ⊎ Completed (b.node l) (r ∷ held) → Gone (b.node r) held more → Gone (Then l r) held more
  unfolding after
  gone_pass p ready (inl a) g = gone_as g (f_skip a g.first) refl
  gone_pass p ready (inr c) g =
      let q = first_productive g.first in
      record {
        kind = c.kind;
        first = f_hold c.first q;
        run = c.run ++ g.kind ∷ g.run;
        parts = g.parts;
        behind = after_completed c g.first (ready_walked c.first (ready_left p q ready)) g.behind;
        many = g.many;
      }

  gone : {top : Node} {w : ℕ} (held : List ℕ) → Weighs b.node top w → Ready top held → Gone top held w
  unfolding after
  gone held (w_token {k}) ready =
      record { kind = k; first = f_token; run = []; parts = held; behind = after_none; many = omega arith }
  gone held (w_left way) ready = let g = gone held way (ready_as (λ k. s_left) ready) in gone_as g (f_left g.first) refl
  gone held (w_right way) ready = let g = gone held way (ready_as (λ k. s_right) ready) in gone_as g (f_right g.first) refl
  gone held (w_hold {r = r} way q) ready =
      let g = gone (r ∷ held) way (ready_left (weighs_productive way) q ready) in
      record {
        kind = g.kind;
        first = f_hold g.first q;
        run = g.run;
        parts = g.parts;
        behind = g.behind;
        many = omega (arith, g.many);
      }
  gone held (w_pass {l} {r} p way) ready =
      let q = weighs_productive way in
      gone_pass p ready (completes (r ∷ held) p (ready_left p q ready)) (gone held way (ready_as (λ k. s_then_right p) ready))
  gone held (w_tagged way) ready = let g = gone held way (ready_as (λ k. s_tagged) ready) in gone_as g (f_tagged g.first) refl
  gone held (w_ref way) ready = let g = gone held way (ready_as (λ k. s_ref) ready) in gone_as g (f_ref g.first) refl

  -- ---- from the start

  start_ready : Ready (b.node b.start) []
  start_ready = record {
    clear = passes.no_conflict b.start;
    apart = record { none = λ k zs ps s. held_nothing };
    orderly = orderly_end;
  }

  pub start_orderly : Orderly b.node (b.start ∷ [])
  start_orderly = orderly_part passes.productive start_ready.apart orderly_end

  -- events that are taken one after another from the start on begin a lawful run
  pub after-begins : {run parts : List ℕ} → After (plan_for b marks) (b.start ∷ []) run parts → Begins b run
  after-begins behind =
      let q = after-behind start_orderly behind in
      let t = orderly_run q.orderly in
      let h = q.sound t.0 t.1 t.2 in
      record { rest = t.0; lawful = (held_derives h.1).0 }

  held_behind : {run parts : List ℕ} → After (plan_for b marks) (b.start ∷ []) run parts → HeldBehind b (length parts)
  held_behind {run} {parts} behind = record {
    run = run;
    begins = after-begins behind;
    marks = marks;
    marked = marked;
    parts = parts;
    after = behind;
    many = refl;
  }

  -- the start alone is held
  pub holds_start : HeldBehind b 1
  holds_start = held_behind after_none

  -- and so many parts as a way from the start weighs
  pub weighs_holds : {w : ℕ} → Weighs b.node (b.node b.start) w → HeldBehind b w
  weighs_holds {w} way =
      let g = gone [] way start_ready in
      let t = taken_under [] nullable_none g.first [] start_orderly in
      let many : length g.parts ≡ w = omega (arith, g.many) in
      rw many at (held_behind (after_event t.1 g.behind))
