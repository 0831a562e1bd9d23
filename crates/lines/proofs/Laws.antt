-- Laws of pages written from their start on, and of record lines.
use Prim.Native.Nat.{ℕ, suc, ◌+◌, ◌*◌, ◌-◌, ◌^◌, ◌≤◌, ◌<◌}
use native.Mathlib.Omega.{arith}
use native.Mathlib.Numerals.{add-one}
use mathlib.Core.Path.{◌≡◌, refl, sym, ap, ◌∙◌}
use mathlib.Core.Bool.{Bool, true, false}
use mathlib.Core.List.{List, [], ◌∷◌, ◌++◌, append_assoc, append-nil}
use lib.Dec.{ltb}
use lib.ListN.{length, get_or, take, drop, length-append}
use lib.Seq.{sets-eq, length-sets, take-suc, take_at, drop_at}
use borrow.Author.Tests.{ltb-true, ltb-false}
use Rattle.prints.specs.declared.Page.{Page}
use Rattle.prints.specs.Prints.{Adds}
use Rattle.prints.specs.Pages.{Added}
use Rattle.prints.proofs.Digits.{digits_at_most_5, spaced_at_most}
use Rattle.prints.proofs.Laws.{added_then}
use Rattle.lines.specs.Lines.{Put, record_text, record_line, record_lines, refused_words, refused_line, conflict_line, accepted_lines, words_room, refused_room, conflict_room, record_room, accepted_room}

-- where all bytes have room, they are put
pub adds_whole : {out end : List ℕ} {next : ℕ} {xs : List ℕ} → length xs ≤ length out → Adds out end 0 next xs → Put out end 0 next xs
adds_whole {out} {next = next} {xs} fits p =
    let moved : next ≡ 0 + length xs = p.moved (omega arith) in
    record { moved = moved; within = omega (arith, moved); is = p.is }

pub put-length : {out end : List ℕ} {at next : ℕ} {xs : List ℕ} → Put out end at next xs → length end ≡ length out
put-length {out} {at = at} {xs = xs} p = ap length p.is ∙ length-sets out at xs

-- a buffer into which bytes were put at its front
module _ {out end bytes : List ℕ} {last : ℕ} (p : Put out end 0 last bytes) where
  put-size : length bytes ≡ last
  put-size = omega (arith, p.moved)

  put_front : end ≡ bytes ++ drop last out
  put_front =
      let from : 0 + length bytes ≡ last = omega (arith, p.moved) in
      p.is ∙ rw (sets-eq bytes out 0 (omega (arith, p.moved, p.within)), from)

  -- they stand there, and what was behind them still does
  pub put-taken : take last end ≡ bytes
  put-taken = ap (take last) put_front ∙ take_at bytes (drop last out) last put-size

  pub put_rest : drop last end ≡ drop last out
  put_rest = ap (drop last) put_front ∙ drop_at bytes (drop last out) last put-size

-- ---- records

-- one record's line more
record_lines-append : (xs ys : List ℕ) → record_lines (xs ++ ys) ≡ record_lines xs ++ record_lines ys
unfolding record_lines
record_lines-append [] ys = refl
record_lines-append (x ∷ xs) ys = rw (record_lines-append xs ys) (sym (append_assoc (record_line x) (record_lines xs) (record_lines ys)))

record_lines_one : (entry : ℕ) → record_lines (entry ∷ []) ≡ record_line entry
unfolding record_lines
record_lines_one entry = append-nil (record_line entry)

pub added_line : {page mid end : Page} {i : ℕ} (tree : List ℕ)
    → i < length tree
    → Added page mid (record_lines (take i tree))
    → Added mid end (record_line (get_or tree i 0))
    → Added page end (record_lines (take (i + 1) tree))
added_line {i = i} tree below p q =
    rw (add-one i, take-suc tree i 0 below, record_lines-append (take i tree) (get_or tree i 0 ∷ []), record_lines_one (get_or tree i 0))
    (added_then p q)

-- ---- how long the lines are

words_short : (number place third : ℕ)
    → number < 2 ^ 64
    → place < 2 ^ 64
    → third < 2 ^ 64
    → length (refused_words number place third) ≤ words_room
unfolding refused_words
words_short number place third p q r =
    simp length-append
    (omega (arith, spaced_at_most number p, spaced_at_most place q, spaced_at_most third r))

pub refused_short : (number place third : ℕ)
    → number < 2 ^ 64
    → place < 2 ^ 64
    → third < 2 ^ 64
    → length (refused_line number place third) ≤ refused_room
unfolding refused_line
refused_short number place third p q r =
    simp length-append
    (omega (arith, words_short number place third p q r))

pub conflict_short : (number place kinds flag : ℕ)
    → number < 2 ^ 64
    → place < 2 ^ 64
    → kinds < 2 ^ 64
    → flag < 2 ^ 64
    → length (conflict_line number place kinds flag) ≤ conflict_room
unfolding conflict_line
conflict_short number place kinds flag p q r s =
    simp length-append
    (omega (arith, words_short number place kinds p q r, spaced_at_most flag s))

record_short : (entry : ℕ) → entry < 65536 → length (record_line entry) ≤ record_room
unfolding record_line record_text
record_short entry p = go (ltb entry 32768) refl
  where
    go : (full : Bool) → ltb entry 32768 ≡ full → length (record_line entry) ≤ record_room
    go true e = rw e (simp length-append (omega (arith, digits_at_most_5 entry (ltb-true entry 32768 e))))
    go false e =
        let empty : 32768 ≤ entry = ltb-false entry 32768 e in
        rw e (simp length-append (omega (arith, digits_at_most_5 (entry - 32768) (omega arith))))

records_short : (tree : List ℕ)
    → ((i : ℕ) → get_or tree i 0 < 65536)
    → length (record_lines tree) ≤ record_room * length tree
unfolding record_lines
records_short [] small = omega arith
records_short (entry ∷ tree) small =
    rw length-append
    (omega (arith, record_short entry (small 0), records_short tree (λ i. small (suc i))))

pub accepted_short : (events records : ℕ) (tree : List ℕ)
    → events < 2 ^ 64
    → records < 2 ^ 64
    → ((i : ℕ) → get_or tree i 0 < 65536)
    → length (accepted_lines events records tree) ≤ accepted_room (length tree)
unfolding accepted_lines
accepted_short events records tree p q small =
    simp length-append
    (omega (arith, spaced_at_most events p, spaced_at_most records q, records_short tree small))
