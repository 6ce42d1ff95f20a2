-- What bytes laid into a lent buffer leave: `copied`, to its front; `laid`, from a place on. And what a count within a buffer tells of its
-- front: `take_min`.
-- Assumes nothing.
use Prim.Native.Nat.{ℕ, ◌-◌, min}
use mathlib.Core.Path.{◌≡◌, sym, ap, ◌∙◌}
use mathlib.Core.List.{List, [], ◌++◌, append-nil}
use native.Mathlib.Omega.{arith}
use native.Mathlib.Nat.{le_refl, min-eq_left}
use lib.Dec.{leb}
use lib.ListN.{length, take, drop, length-drop, drop_of_length-le}
use lib.Seq.{take_all}
use borrow.Author.Tests.{leb-true, leb-false}
use borrow.Rule.Slice.PartMut.{put_mid}
use Rattle.laws.proofs.Choices.{by_test}

-- what the copy of all of `bytes` leaves
pub copied : (bytes entry : List ℕ) {exit : List ℕ} → exit ≡ take (length bytes) bytes ++ drop (length bytes) entry → exit ≡ bytes ++ drop (length bytes) entry
copied bytes entry e = e ∙ ap (λ (l : List ℕ). l ++ drop (length bytes) entry) (take_all (length bytes) bytes (le_refl (length bytes)))

-- a list whose end from n on was lent, and came back with `bytes` at its front
pub laid : (l last bytes : List ℕ) (n : ℕ) → last ≡ bytes ++ drop (length bytes) (take (length l - n) (drop n l))
    → put_mid n (length l - n) l last ≡ take n l ++ (bytes ++ drop (length bytes) (drop n l))
laid l last bytes n e =
    let a : take (length l - n) (drop n l) ≡ drop n l = take_all (length l - n) (drop n l) (simp length-drop (omega arith)) in
    let b : drop (length l - n) (drop n l) ≡ [] = drop_of_length-le (drop n l) {i = length l - n} (simp length-drop (omega arith)) in
    simp (e, a, b) (ap (λ (m : List ℕ). take n l ++ m) (append-nil (bytes ++ drop (length bytes) (drop n l))))

-- a count that is cut down to the length
pub take_min : (n : ℕ) (xs : List ℕ) → take (min n (length xs)) xs ≡ take n xs
take_min n xs =
    by_test (leb n (length xs))
    (λ h. ap (λ (k : ℕ). take k xs) (min-eq_left (leb-true n (length xs) h)))
    (λ h.
    let short = leb-false n (length xs) h in
    take_all (min n (length xs)) xs (omega arith) ∙ sym (take_all n xs (omega arith)))
