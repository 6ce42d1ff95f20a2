-- What the conversions give: `is_numbered`, the kind of a number is the one that has it, and a number that no kind has is refused, so `numbered_by` of what
-- is converted, `one_kind` of any two; `stopped_code`, a record that a step refuses keeps its code.
-- Assumes nothing.
use Prim.Native.Nat.{ℕ, zero, suc, ◌≤◌, ◌<◌}
use mathlib.Core.Path.{◌≡◌, refl, sym, ap, ◌∙◌, subst}
use mathlib.Core.Bool.{false}
use native.Mathlib.Omega.{arith}
use lib.Dec.{eqb}
use borrow.Author.Tests.{ne_eqb}
use Rattle.std.specs.Prelude.{Result, Ok, Err}
use Rattle.device.specs.Step.{refusal_code_of}
use Rattle.record.specs.declared.refusal.Refusal.{Refusal}
use Rattle.record.specs.declared.refusal.Refusal.TheVariants as refusal
use Rattle.record.specs.Record.{code_of}
use Rattle.record.specs.Stopped.{stopped_of}
use Rattle.record.specs.declared.kind.Kind.{Kind}
use Rattle.record.specs.declared.kind.Kind.TheVariants.{Write, Read, Send, Receive, Convert, Open, PowerOn, ConvertSecond, OpenSecond}
use Rattle.record.specs.Kinds.{number_of, kind_of, Numbered}

-- ---- the kind of a number

between : (k : Kind) → (0 < number_of k) × (number_of k ≤ 9)
between Write = (omega arith, omega arith)
between Read = (omega arith, omega arith)
between Send = (omega arith, omega arith)
between Receive = (omega arith, omega arith)
between Convert = (omega arith, omega arith)
between Open = (omega arith, omega arith)
between PowerOn = (omega arith, omega arith)
between ConvertSecond = (omega arith, omega arith)
between OpenSecond = (omega arith, omega arith)

-- a number past the last kind's is of none
past : (n : ℕ) → 9 < n → kind_of n ≡ Err refusal.Kind
past n h =
    let no : (m : ℕ) → m ≤ 9 → eqb n m ≡ false = λ m l. ne_eqb n m (λ e. omega (arith, e, l, h)) in
    rw (
      no 1 (omega arith),
      no 2 (omega arith),
      no 3 (omega arith),
      no 4 (omega arith),
      no 5 (omega arith),
      no 6 (omega arith),
      no 7 (omega arith),
      no 8 (omega arith),
      no 9 (omega arith),
    )

pub is_numbered : (n : ℕ) → Numbered n (kind_of n)
is_numbered zero = (refl, λ k e. let b = between k in omega (arith, e, b.0))
is_numbered (suc zero) = refl
is_numbered (suc (suc zero)) = refl
is_numbered (suc (suc (suc zero))) = refl
is_numbered (suc (suc (suc (suc zero)))) = refl
is_numbered (suc (suc (suc (suc (suc zero))))) = refl
is_numbered (suc (suc (suc (suc (suc (suc zero)))))) = refl
is_numbered (suc (suc (suc (suc (suc (suc (suc zero))))))) = refl
is_numbered (suc (suc (suc (suc (suc (suc (suc (suc zero)))))))) = refl
is_numbered (suc (suc (suc (suc (suc (suc (suc (suc (suc zero))))))))) = refl
is_numbered (suc (suc (suc (suc (suc (suc (suc (suc (suc (suc m)))))))))) =
    let n : ℕ = suc (suc (suc (suc (suc (suc (suc (suc (suc (suc m))))))))) in
    subst (Numbered n) (sym (past n (omega arith))) (refl, λ k e. let b = between k in omega (arith, e, b.1))

pub numbered_by : (n : ℕ) {r : Result Kind Refusal} → r ≡ kind_of n → Numbered n r
numbered_by n e = subst (Numbered n) (sym e) (is_numbered n)

-- a number has one kind or none
kind_back : (k : Kind) → kind_of (number_of k) ≡ Ok k
kind_back Write = refl
kind_back Read = refl
kind_back Send = refl
kind_back Receive = refl
kind_back Convert = refl
kind_back Open = refl
kind_back PowerOn = refl
kind_back ConvertSecond = refl
kind_back OpenSecond = refl

pub one_kind : (n : ℕ) (r s : Result Kind Refusal) → Numbered n r → Numbered n s → r ≡ s
one_kind n (Ok j) (Ok k) p q = sym (kind_back j) ∙ ap kind_of (p ∙ sym q) ∙ kind_back k
one_kind n (Ok j) (Err why) p q = absurd (q.1 j p)
one_kind n (Err why) (Ok k) p q = absurd (p.1 k q)
one_kind n (Err why) (Err same) p q = ap (λ (x : Refusal). Err x) (p.0 ∙ sym q.0)

-- ---- the refusal of a step

pub stopped_code : (why : Refusal) → refusal_code_of (stopped_of why) ≡ code_of (Err why)
unfolding code_of
stopped_code refusal.Kind = refl
stopped_code refusal.Operand = refl
