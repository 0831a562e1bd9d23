-- Bytes of good form that decode to the same book compile alike: a book with names as the same book without them.
use Prim.Native.Nat.{ℕ}
use mathlib.Core.Path.{◌≡◌, sym, ap}
use mathlib.Core.Logic.{◌↔◌}
use mathlib.Core.List.{List}
use Rattle.book.specs.Encode.{book_bytes}
use Rattle.book.specs.Form.{DONE, form_of, book_of}
use Rattle.book.specs.declared.Judged.{Judged}
use Rattle.book.proofs.Decoded.{formed, well_formed}
use Rattle.book.proofs.Encoded.{well_formed_has_bytes}
use Rattle.verdict.proofs.Alike.{judges_alike}
use Rattle.compiler.specs.declared.Compiled.{Compiled}
use Rattle.compiler.specs.Compiles.{Compiles, refused, no_room, done}

pub compiles_alike : (one other : List ℕ) → (form_of one).number ≡ DONE → (form_of other).number ≡ DONE → book_of one ≡ book_of other
    → {room : ℕ} {a : Compiled} {plan : List ℕ} → Compiles one room a plan → Compiles other room a plan
compiles_alike one other form form' same (refused judges bad) = refused (judges_alike one other form form' same judges) bad
compiles_alike one other form form' same (no_room judges short) =
    rw same (no_room (judges_alike one other form form' same judges) (rw same at short))
compiles_alike one other form form' same (done judges fits marked) =
    rw same (done (judges_alike one other form form' same judges) (rw same at fits) (rw same at marked))

pub compiles_without_names : (bytes : List ℕ) → (form_of bytes).number ≡ DONE
    → {room : ℕ} {a : Compiled} {plan : List ℕ} → Compiles bytes room a plan ↔ Compiles (book_bytes (book_of bytes)) room a plan
compiles_without_names bytes form =
    let (good, same) = well_formed_has_bytes (book_of bytes) (well_formed (formed bytes form)) in
    let plain = book_bytes (book_of bytes) in
    let form' : (form_of plain).number ≡ DONE = ap (λ (j : Judged). j.number) good in
    (compiles_alike bytes plain form form' (sym same), compiles_alike plain bytes form' form same)
