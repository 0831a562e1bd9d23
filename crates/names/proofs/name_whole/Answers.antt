-- `names::name_whole` meets its contract, test by test.
use mathlib.Core.Path.{sym}
use native.Mathlib.Omega.{arith}
use Rattle.names.proofs.Places.{not_whole, none_past, whole_by}
use Rattle.names.proofs.name_whole.Goals as goal
use Rattle.names.proofs.name_whole.Goals.{then-size-lt1-via-then-size-lt1, then-size-lt1-via-else-size-lt1+then-size-gt-LONGEST, then-size-lt1-via-else-size-lt1+else-size-gt-LONGEST+then-bytes-past_name}

pub returns-then-bytes-at : goal.returns-then-bytes-at
returns-then-bytes-at c = sym (none_past _ _ c.if-bytes-at.true)

pub returns-then-size-lt1 : goal.returns-then-size-lt1
returns-then-size-lt1 c =
    sym
    (not_whole _ _
    (λ w.
    elim c.then-size-lt1.branch [
      | then-size-lt1-via-then-size-lt1 t ↦ omega (arith, w.some_byte, c.from-size.ensures, t.if-size-lt1.true)
      | then-size-lt1-via-else-size-lt1+then-size-gt-LONGEST t ↦ omega (arith, w.few_bytes, c.from-size.ensures, t.if-size-gt-LONGEST.true)
      | then-size-lt1-via-else-size-lt1+else-size-gt-LONGEST+then-bytes-past_name t ↦ omega (arith, w.within, t.past_name.ensures, t.if-bytes-past_name.true)
    ]))

pub returns : goal.returns
returns c =
    whole_by _ _ c.from-size.ensures c.if-size-lt1.false c.if-size-gt-LONGEST.false
    (omega (arith, c.from-size.ensures, c.past_name.ensures, c.if-bytes-past_name.false)) c.all_visible.ensures
