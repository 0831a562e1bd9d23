-- `unread::unread` meets its contract: a small table is enough for a small book, and a large one for every book.
use native.Mathlib.Omega.{arith}
use Rattle.book.proofs.Decoded.{formed, well_formed, claimed_is}
use Rattle.unread.proofs.unread.Goals as goal

pub unread_by-requires : goal.unread_by-requires
unread_by-requires c = record {
  large = λ good. omega (arith, c.count_claimed.ensures, c.if-count_claimed-le-SMALL_TABLE.true, claimed_is (formed _ good));
  few = omega arith;
}

pub unread_by-requires-else-count_claimed-le-SMALL_TABLE : goal.unread_by-requires-else-count_claimed-le-SMALL_TABLE
unread_by-requires-else-count_claimed-le-SMALL_TABLE c = record {
  large = λ good. omega (arith, (well_formed (formed _ good)).few_nodes);
  few = omega arith;
}
