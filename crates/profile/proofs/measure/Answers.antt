use mathlib.Core.Path.{refl}
use native.Mathlib.Omega.{arith}
use Rattle.rules.proofs.Growing.{settling_none, settling_more}
use Rattle.verdict.proofs.Books.{count_small}
use Rattle.profile.proofs.Raising.{blank-tells, weights_less}
use Rattle.profile.proofs.Weighing.{turned_weighed}
use Rattle.profile.proofs.Rows.{held_is, start_unbounded, start_measured}
use Rattle.profile.proofs.measure.Goals as goal

pub loop-init : goal.loop-init
loop-init c = settling_none (blank-tells c.requires.blank)

pub raise_all-requires : goal.raise_all-requires
raise_all-requires c =
    let pre = c.requires in
    let settling = c.loop.invariant in
    record {
      count_in_bounds = omega (arith, count_small c.book-book.ensures.at_hand.known.good, pre.blank.long, settling.long);
      sound = settling.sound;
    }

pub loop-smaller : goal.loop-smaller
loop-smaller c =
    weights_less c.loop.invariant c.raise_all.ensures.grown c.loop-test.true (λ i. (c.type_inv.weights i).fits)

pub loop-preserved : goal.loop-preserved
loop-preserved c = settling_more c.loop.invariant c.raise_all.ensures.grown

pub offset_bounds-weights-start : goal.offset_bounds-weights-start
offset_bounds-weights-start c =
    let below = rw c.book-book.ensures.book at c.start.ensures.below in
    omega (arith, below, count_small c.book-book.ensures.at_hand.known.good)

pub bounds-weights-start : goal.bounds-weights-start
bounds-weights-start c =
    let pre = c.requires in
    let below = rw c.book-book.ensures.book at c.start.ensures.below in
    omega (arith, below, count_small c.book-book.ensures.at_hand.known.good, c.raise_all.auto.weights, c.loop.invariant.long, pre.blank.long)

pub returns-then-weight-ge-MOST : goal.returns-then-weight-ge-MOST
returns-then-weight-ge-MOST c =
    let pre = c.requires in
    let weighed = turned_weighed c.book-book.ensures.at_hand.known c.loop.invariant.sound c.raise_all.ensures c.loop-test.false in
    start_unbounded pre.judges refl weighed (rw c.book-book.ensures.book at c.start.ensures.start) c.if-weight-ge-MOST.true

pub returns : goal.returns
returns c =
    let pre = c.requires in
    let weighed = turned_weighed c.book-book.ensures.at_hand.known c.loop.invariant.sound c.raise_all.ensures c.loop-test.false in
    rw (c.max.ensures, c.saturating_sub.ensures, held_is)
    (start_measured pre.judges refl weighed (rw c.book-book.ensures.book at c.start.ensures.start) c.if-weight-ge-MOST.false)
