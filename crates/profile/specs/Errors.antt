-- The answer that each thing that stands against a book or a profile comes to.
use Rattle.verdict.specs.declared.Refusal.{Refusal}
use Rattle.verdict.specs.Refusals.{verdict_by}
use Rattle.profile.specs.declared.Depth.{Depth}
use Rattle.profile.specs.declared.DepthError.{DepthError}
use Rattle.profile.specs.declared.DepthError.TheVariants.{Book, Unbounded, Deeper, Slots}
use Rattle.profile.specs.Profiles.{UNBOUNDED, DEEPER, SLOTS, depth}

-- what stands against a book that is refused
abbrev pub refused_book : Refusal → DepthError
refused_book = Book

-- a refusal's number and place, UNBOUNDED, DEEPER with the number, or SLOTS
abbrev pub depth_by : DepthError → Depth
depth_by (Book refusal) = depth (verdict_by refusal).number (verdict_by refusal).place 0
depth_by Unbounded = depth UNBOUNDED 0 0
depth_by (Deeper m) = depth DEEPER m 0
depth_by Slots = depth SLOTS 0 0
