-- `input::fill` adds to the buffer's start what the next read takes from the reader.
use Rattle.std.proofs.Common.{◌≡◌, ℕ, ◌+◌, ◌-◌, ◌≤◌, List, ◌++◌, rules, arith, length, take, slice_range, sym, ap, ◌∙◌, subst, le_refl, drop_at, length-take-le}
use Rattle.std.proofs.lemmas.Slice.{take-put_mid_below}
use Rattle.std.specs.Io.KnownBytes.{Consumes}
use Rattle.std.proofs.KnownBytes.{Consumes-trans}
use borrow.Rule.Slice.PartMut.{put_mid, post_of}
use lib.Seq.{take-add, take-append-le}
use Rattle.input.proofs.fill.Goals as goal

-- what stood before a place and what stands from there on
taken_on : (at n : ℕ) (before after : List ℕ) → take at after ≡ take at before → take at before ++ slice_range after at (at + n) ≡ take
    (at + n) after
taken_on at n before after front =
    let same : (at + n) - at ≡ n = omega arith in
    ap (λ (l : List ℕ). l ++ slice_range after at (at + n)) (sym front) ∙ sym (take-add at ((at + n) - at) after) ∙ ap
    (λ (k : ℕ). take (at + k) after) same

-- what is put from a place on stands from there on
put_there : (at k n : ℕ) (xs ys : List ℕ) → at ≤ length xs → n ≤ length ys → slice_range (put_mid at k xs ys) at (at + n) ≡ take n ys
put_there at k n xs ys within fits =
    let same : (at + n) - at ≡ n = omega arith in
    let behind = post_of at k xs in
    ap (take ((at + n) - at)) (drop_at (take at xs) (ys ++ behind) at (length-take-le at xs within)) ∙ ap
    (λ (m : ℕ). take m (ys ++ behind)) same ∙ take-append-le n ys behind fits

pub loop-size-preserved : goal.loop-size-preserved
loop-size-preserved g c =
    let at = c.loop-size.size in
    let room = length c.loop-size.buffer - at in
    let put = put_mid at room c.loop-size.buffer c.read.new.buf in
    let within = c.loop-size.invariant.0 in
    let part = put_there at room c.in_ok-got.got c.loop-size.buffer c.read.new.buf within c.in_ok-got.ensures.bound.0 in
    let joined = taken_on at c.in_ok-got.got c.loop-size.buffer put (take-put_mid_below _ _ _ _ _ (le_refl _) within) in (
      search rules,
      search rules,
      subst (Consumes _ _) (ap (λ (l : List ℕ). take at c.loop-size.buffer ++ l) (sym part) ∙ joined)
          (Consumes-trans _ _ _ _ _ c.loop-size.invariant.2 c.in_ok-got.ensures.bytes.0),
    )
