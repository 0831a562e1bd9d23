-- `drums::check_drum` meets its contract, by each of its tests.
use mathlib.Core.Path.{◌≡◌, sym}
use borrow.Author.Rules.{rules}
use Rattle.plan.specs.Form.{plan_count}
use Rattle.drums.specs.Drums.{nodes_held}
use Rattle.drums.proofs.Tests.{drum_idle, drum_far, drum_astray, drum_done, sound_by}
use Rattle.drums.proofs.check_drum.Goals as goal
use Rattle.drums.proofs.check_drum.Goals.{After-nodes_held}

-- what is tested is the plan's own count
held-are : (c : After-nodes_held) → c.nodes_held.result ≡ nodes_held (plan_count c.args.plan.now) c.args.d.now.slots c.args.d.now.held
held-are c = rw (← c.nodes.ensures.count) c.nodes_held.ensures.0

pub returns-then-is_idle : goal.returns-then-is_idle
returns-then-is_idle c = sym (drum_idle _ _ c.is_idle.ensures c.if-is_idle.true)

pub returns-then-d : goal.returns-then-d
returns-then-d c = sym (drum_far _ _ c.is_idle.ensures c.if-is_idle.false c.if-d.true)

pub returns-then-not-nodes_held : goal.returns-then-not-nodes_held
returns-then-not-nodes_held c =
    sym
    (drum_astray _ _ c.is_idle.ensures c.if-is_idle.false c.if-d.false (held-are (goal.at.returns-then-not-nodes_held c).After-nodes_held)
    c.if-not-nodes_held.true)

pub returns : goal.returns
returns c =
    let hold = c.if-not-nodes_held.false in (
      sym (drum_done _ _ c.is_idle.ensures c.if-is_idle.false c.if-d.false (held-are (goal.at.returns c).After-nodes_held) hold),
      sound_by _ _ c.if-d.false (rw c.nodes.ensures.count at (c.nodes_held.ensures.1 hold)) (search rules),
    )
