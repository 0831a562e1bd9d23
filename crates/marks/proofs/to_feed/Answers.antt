-- `marks::to_feed` meets its contract: the bytes before the first line feed, or all.
use Rattle.std.proofs.Common.{rules}
use borrow.Author.Tests.{tests}
use Rattle.std.proofs.lemmas.Iterator.{YieldsList-from_slice}
use Rattle.std.proofs.lemmas.Iterator.Search.{position_from_yields_List}
use Rattle.marks.proofs.Laws.{feed, feed_found, feed_missed}
use Rattle.marks.proofs.to_feed.Goals as goal

pub returns-in-Some : goal.returns-in-Some
returns-in-Some c =
    feed_found c.args.rest.now
    (position_from_yields_List feed _ _ _ c.position.ensures.ran (YieldsList-from_slice c.args.rest.now cc)
    (λ x b q k. search (rules, tests)))
    c.in-Some.is

pub returns-in-None : goal.returns-in-None
returns-in-None c =
    feed_missed c.args.rest.now
    (position_from_yields_List feed _ _ _ c.position.ensures.ran (YieldsList-from_slice c.args.rest.now cc)
    (λ x b q k. search (rules, tests)))
    c.in-None.is
