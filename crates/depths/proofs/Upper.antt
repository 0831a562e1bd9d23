-- No more parts are held than some way from the start weighs. The invariant of the parts held: every way from a part, with as many as
-- there are parts under it, is a way from the start.
use Prim.Native.Nat.{ℕ, suc, ◌+◌}
use native.Mathlib.Nat.{zero-add, add-zero}
use native.Mathlib.Omega.{arith}
use mathlib.Core.Path.{◌≡◌, refl, sym, ap, subst}
use mathlib.Core.Bool.{Bool, true, false}
use mathlib.Core.List.{List, [], ◌∷◌}
use mathlib.Core.Logic.{◌⊎◌, inl, inr, ⊎_elim}
use lib.ListN.{length}
use Rattle.book.specs.Book.{Book}
use Rattle.book.specs.declared.Node.{Node}
use Rattle.grammar.specs.Rules.{First, f_token, f_left, f_right, f_hold, f_skip, f_tagged, f_ref}
use Rattle.grammar.specs.Passing.{Passes}
use Rattle.grammar.proofs.Facts.{nullable_productive, first_productive}
use Rattle.running.specs.Running.{unlimited, Step, taken, refused, noted, take_off, event}
use Rattle.running.specs.Cells.{Marks, Marked, plan_for}
use Rattle.meaning.proofs.Walk.{after}
use Rattle.meaning.proofs.Machine.{cell_first, cell_other}
use Rattle.meaning.proofs.Event.{walk_whole}
use Rattle.depths.specs.Depths.{After, after_none, after_event, HeldBehind}
use Rattle.depths.specs.Ways.{Weighs, w_token, w_left, w_right, w_hold, w_pass, w_tagged, w_ref}

-- ways from a node, with so many parts under it, are ways from the root
abbrev pub Leads : (ℕ → Node) → Node → Node → ℕ → Type 0
Leads node root top under = (w : ℕ) → Weighs node top w → Weighs node root (w + under)

-- parts held, each on a way from the root
pub data OnWays (node : ℕ → Node) (root : Node) : List ℕ → Type 0 where
  ways_end : OnWays node root []
  ways_part : {n : ℕ} {held : List ℕ} → Leads node root (node n) (length held) → OnWays node root held → OnWays node root (n ∷ held)

module _ {node : ℕ → Node} {root : Node} where
  leads_left : (l under : ℕ) {top : Node} → ((w : ℕ) → Weighs node (node l) w → Weighs node top (suc w)) → Leads node root top under
      → Leads node root (node l) (suc under)
  leads_left l under up leads w way =
      let e : suc w + under ≡ w + suc under = omega arith in
      subst (Weighs node root) e (leads (suc w) (up w way))

  -- a walk leaves parts on ways
  pub walk_ways : {top : Node} {k : ℕ} (d : First node top k) (held : List ℕ) → Leads node root top (length held) → OnWays node root held
      → OnWays node root (after d held)
  unfolding after
  walk_ways f_token held leads on = on
  walk_ways (f_left d) held leads on = walk_ways d held (λ w way. leads w (w_left way)) on
  walk_ways (f_right d) held leads on = walk_ways d held (λ w way. leads w (w_right way)) on
  walk_ways (f_hold {l} {r} d p) held leads on =
      walk_ways d (r ∷ held) (leads_left l (length held) (λ w way. w_hold way p) leads)
      (ways_part (λ w way. leads w (w_pass (first_productive d) way)) on)
  walk_ways (f_skip a d) held leads on = walk_ways d held (λ w way. leads w (w_pass (nullable_productive a) way)) on
  walk_ways (f_tagged d) held leads on = walk_ways d held (λ w way. leads w (w_tagged way)) on
  walk_ways (f_ref d) held leads on = walk_ways d held (λ w way. leads w (w_ref way)) on

  -- and as many as the way to the token weighs
  pub walk_weighs : {top : Node} {k : ℕ} (d : First node top k) (held : List ℕ) → Leads node root top (length held)
      → Weighs node root (length (after d held))
  unfolding after
  walk_weighs f_token held leads = rw zero-add at (leads 0 w_token)
  walk_weighs (f_left d) held leads = walk_weighs d held (λ w way. leads w (w_left way))
  walk_weighs (f_right d) held leads = walk_weighs d held (λ w way. leads w (w_right way))
  walk_weighs (f_hold {l} {r} d p) held leads = walk_weighs d (r ∷ held) (leads_left l (length held) (λ w way. w_hold way p) leads)
  walk_weighs (f_skip a d) held leads = walk_weighs d held (λ w way. leads w (w_pass (nullable_productive a) way))
  walk_weighs (f_tagged d) held leads = walk_weighs d held (λ w way. leads w (w_tagged way))
  walk_weighs (f_ref d) held leads = walk_weighs d held (λ w way. leads w (w_ref way))

-- an event by its result: where it is taken, the parts then held are on ways, and as many as a way weighs
pub data Lands (node : ℕ → Node) (root : Node) : Step → Type 0 where
  lands_taken : {then records : List ℕ} → OnWays node root then → Weighs node root (length then) → Lands node root (taken then records)
  lands_refused : {number : ℕ} → Lands node root (refused number)

lands_noted : {node : ℕ → Node} {root : Node} {s : Step} (r : ℕ) → Lands node root s → Lands node root (noted r s)
unfolding noted
lands_noted r (lands_taken on way) = lands_taken on way
lands_noted r lands_refused = lands_refused

module _ {b : Book} (passes : Passes b) (marks : Marks) (marked : Marked b.node marks) {root : Node} where
  pub event_lands : (k : ℕ) {held : List ℕ} → OnWays b.node root held → Lands b.node root (event (plan_for b marks) unlimited k held)
  unfolding event take_off
  event_lands k ways_end = lands_refused
  event_lands k (ways_part {n} {held} leads on) = go (marks.first n k) refl (marks.null n) refl (event_lands k on)
    where
      go : (t : Bool) → marks.first n k ≡ t → (u : Bool) → marks.null n ≡ u
          → Lands b.node root (event (plan_for b marks) unlimited k held)
          → Lands b.node root (event (plan_for b marks) unlimited k (n ∷ held))
      go true e u f under =
          let d = (marked.first_is n k).0 e in
          let c = cell_first b marks marked k refl d in
          let w = walk_whole passes marks marked k d held in
          rw (c, w) (lands_taken (walk_ways d held leads on) (walk_weighs d held leads))
      go false e true f under =
          let c = cell_other b marks marked k n (b.node n) e in
          rw (c, f) (lands_noted _ under)
      go false e false f under =
          let c = cell_other b marks marked k n (b.node n) e in
          rw (c, f) lands_refused

  -- behind events the parts held are on ways
  pub after_ways : {held run parts : List ℕ} → After (plan_for b marks) held run parts → OnWays b.node root held
      → OnWays b.node root parts
  after_ways after_none on = on
  after_ways (after_event {k} e rest) on = after_ways rest (landed (rw e at (event_lands k on)))
    where
      landed : {then records : List ℕ} → Lands b.node root (taken then records) → OnWays b.node root then
      landed (lands_taken there way) = there

  -- and are those that were held, or as many as a way weighs
  pub after_weighs : {held run parts : List ℕ} → After (plan_for b marks) held run parts → OnWays b.node root held
      → (parts ≡ held) ⊎ Weighs b.node root (length parts)
  after_weighs after_none on = inl refl
  after_weighs {held} (after_event {k} e rest) on = landed rest (rw e at (event_lands k on)) (λ there. after_weighs rest there)
    where
      landed : {then records run parts : List ℕ} → After (plan_for b marks) then run parts → Lands b.node root (taken then records)
          → (OnWays b.node root then → (parts ≡ then) ⊎ Weighs b.node root (length parts))
          → (parts ≡ held) ⊎ Weighs b.node root (length parts)
      landed rest (lands_taken there way) on =
          inr (⊎_elim (λ same. subst (λ (h : List ℕ). Weighs b.node root (length h)) (sym same) way) (λ other. other) (on there))

-- the start alone is on ways from the start
pub start_ways : (b : Book) → OnWays b.node (b.node b.start) (b.start ∷ [])
start_ways b = ways_part {n = b.start} {held = []} (λ w way. rw add-zero way) ways_end

-- the number of parts held behind a beginning is one, or the weight of a way from the start
pub holds_weighs : {b : Book} → Passes b → {m : ℕ} → HeldBehind b m → (m ≡ 1) ⊎ Weighs b.node (b.node b.start) m
holds_weighs {b} passes {m} h =
    subst (λ (n : ℕ). (n ≡ 1) ⊎ Weighs b.node (b.node b.start) n) h.many
    (⊎_elim (λ same. inl (ap length same)) inr (after_weighs passes h.marks h.marked h.after (start_ways b)))
