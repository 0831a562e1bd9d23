-- `outline::expression`, `outline::factor` and `outline::sequence` call one another. The measure: the nestings left and
-- the bytes left fall, or one of the three calls a lower one at the same place. A loop's invariant: what is read where it
-- begins is read still, with the further parts joined to it. A loop's measure is what is left of the text.
use Rattle.std.proofs.Common.{◌+◌, ◌*◌, ◌-◌, length}
use Rattle.outline.specs.Parts.{FactorsDone, SequencesDone}
use Rattle.outline.proofs.Sequences.{Onward}
use Rattle.outline.proofs.+expression_factor_sequence.Given as goal

abbrev pub decreases-expression : goal.decreases-expression
decreases-expression l = 3 * (l.depth + (length l.s.now - l.at)) + 2

abbrev pub decreases-factor : goal.decreases-factor
decreases-factor l = 3 * (l.depth + (length l.s.now - l.at))

abbrev pub decreases-sequence : goal.decreases-sequence
decreases-sequence l = 3 * (l.depth + (length l.s.now - l.at)) + 1

abbrev pub invariant-expression-loop-nodes : goal.invariant-expression-loop-nodes
invariant-expression-loop-nodes l =
    Onward (λ old. SequencesDone l.s l.at l.depth old l.n) l.initial.part l.initial.nodes l.part l.nodes

abbrev pub decreases-expression-loop-nodes : goal.decreases-expression-loop-nodes
decreases-expression-loop-nodes l = length l.s - l.part.at

abbrev pub invariant-sequence-loop-nodes : goal.invariant-sequence-loop-nodes
invariant-sequence-loop-nodes l =
    Onward (λ old. FactorsDone l.s l.at l.depth old l.n) l.initial.part l.initial.nodes l.part l.nodes

abbrev pub decreases-sequence-loop-nodes : goal.decreases-sequence-loop-nodes
decreases-sequence-loop-nodes l = length l.s - l.part.at
