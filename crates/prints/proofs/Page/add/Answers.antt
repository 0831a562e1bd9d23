-- `prints::Page::add` meets its contract: all bytes are copied, or as many as have room.
use native.Mathlib.Omega.{arith}
use mathlib.Core.Path.{refl, sym, ◌∙◌}
use lib.ListN.{length}
use lib.Seq.{take_all}
use Rattle.prints.proofs.Laws.{adds_clipped}
use Rattle.prints.proofs.Page.add.Goals as goal

pub returns-then-bytes-room : goal.returns-then-bytes-room
returns-then-bytes-room c =
    let bytes = c.args.bytes.now in
    record {
      same = refl;
      adds =
          adds_clipped _ _ bytes c.min-from.result (length bytes) c.min-from.ensures (omega arith)
          (c.copy_from_slice.ensures.after ∙ sym (take_all (length bytes) bytes (omega arith)));
    }

pub returns-else-bytes-room : goal.returns-else-bytes-room
returns-else-bytes-room c =
    record {
      same = refl;
      adds = adds_clipped _ _ _ c.min-from.result _ c.min-from.ensures (omega arith) c.copy_from_slice-else-bytes-room.ensures.after;
    }
