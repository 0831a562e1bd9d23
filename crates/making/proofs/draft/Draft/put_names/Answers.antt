-- `making::draft::Draft::put_names` meets its contract.
use mathlib.Core.Path.{◌≡◌, ap, subst}
use native.Mathlib.Omega.{arith}
use borrow.Author.Rules.{rules}
use lib.ListN.{length}
use lib.Seq.{sets}
use Rattle.names.specs.Names.{names_bytes}
use Rattle.resolving.specs.Letters.{word_at}
use Rattle.making.specs.Bytes.{Down, names_down}
use Rattle.making.proofs.Naming.{naming_none, name_fits, naming_more, naming_all, short_at}
use Rattle.making.proofs.draft.Draft.put_names.Goals as goal

pub loop-kind-init : goal.loop-kind-init
loop-kind-init c = naming_none _ _ _ _

pub put_name-requires : goal.put_name-requires
put_name-requires c =
    let size = ap (λ (d : Down). length (names_bytes (names_down d))) c.self.view_is in
    let short = short_at (word_at c.self.inside.text.now) c.self.inside.kinds.now 0 c.loop-kind-test.true c.self.invariant.short in
    let fits = name_fits (word_at c.self.inside.text.now) c.self.inside.kinds.now c.loop-kind.invariant 0 c.loop-kind-test.true (omega (arith, c.requires, size)) in
    let long = ap length c.word_at-name.ensures in
    (omega (arith, short, long), omega (arith, fits, long))

pub overflow_add-at-in-loop-kind : goal.overflow_add-at-in-loop-kind
overflow_add-at-in-loop-kind c =
    let size = ap (λ (d : Down). length (names_bytes (names_down d))) c.self.view_is in
    let fits = name_fits (word_at c.self.inside.text.now) c.self.inside.kinds.now c.loop-kind.invariant 0 c.loop-kind-test.true (omega (arith, c.requires, size)) in
    let long = ap length c.word_at-name.ensures in
    search (rules, fits, long, c.loop-kind.invariant.long)

pub loop-kind-preserved : goal.loop-kind-preserved
loop-kind-preserved c =
    naming_more _ _ c.loop-kind.invariant _ c.loop-kind-test.true c.word_at-name.ensures c.put_name.ensures

pub returns : goal.returns
returns c =
    subst (λ (d : Down). c.loop-kind.book ≡ sets c.args.book.now c.args.from (names_bytes (names_down d))) c.self.view_is
    (naming_all _ _ c.loop-kind.invariant c.loop-kind-test.false)
