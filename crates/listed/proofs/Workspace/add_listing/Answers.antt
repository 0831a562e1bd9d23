-- `listed::Workspace::add_listing` meets its contract: by what stands against the input.
use native.Mathlib.Omega.{arith}
use Rattle.listed.specs.Listing.{too_long, too_short}
use Rattle.listed.proofs.Workspace.add_listing.Goals as goal

pub returns-in-Err-TooLong : goal.returns-in-Err-TooLong
returns-in-Err-TooLong c =
    record {
      bytes = _;
      lists = too_long (rw c.in-Err-TooLong.field-0-is at c.in-Err-TooLong.ensures);
      short = omega arith;
      added = c.add.ensures;
    }

pub returns-in-Err-TooShort : goal.returns-in-Err-TooShort
returns-in-Err-TooShort c =
    record {
      bytes = _;
      lists = too_short (rw c.in-Err-TooShort.field-0-is at c.in-Err-TooShort.ensures);
      short = omega arith;
      added = c.add-in-Err-TooShort.ensures;
    }
