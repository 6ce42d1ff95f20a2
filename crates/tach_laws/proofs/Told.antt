-- What is told of a report or a refusal is told of no other, `told_apart`; so what is measured of stamps has one answer, `one_measured`.
-- Assumes nothing.
use mathlib.Core.Path.{◌≡◌, refl, sym, ap, ◌∙◌}
use mathlib.Core.List.{List}
use Prim.Native.Nat.{ℕ}
use native.Mathlib.Omega.{arith}
use Rattle.std.specs.Prelude.{Result, Ok, Err}
use Rattle.tach.specs.declared.Speeds.{Speeds}
use Rattle.tach.specs.declared.Report.{Report}
use Rattle.tach.specs.declared.Refusal.{Refusal}
use Rattle.tach.specs.declared.Refusal.TheVariants.{FewStamps, EqualStamps}
use Rattle.tach.specs.Tach.{tach_of, code_of, told_of}

-- a report is its three numbers
abbrev make : ℕ → ℕ → ℕ → Report
make slow fast low = record { slowest = slow; fastest = fast; under = low }

same_report : (a b : Report) → told_of (Ok a) ≡ told_of (Ok b) → a ≡ b
same_report a b e =
    let slow : a.slowest ≡ b.slowest = ap (λ (s : Speeds). s.slowest) e in
    let fast : a.fastest ≡ b.fastest = ap (λ (s : Speeds). s.fastest) e in
    let low : a.under ≡ b.under = ap (λ (s : Speeds). s.under) e in
    let all : make a.slowest a.fastest a.under ≡ make b.slowest b.fastest b.under = cc in
    all

-- each refusal has a code of its own, and none is 0
pub codes_apart : (a b : Refusal) → code_of a ≡ code_of b → a ≡ b
codes_apart FewStamps FewStamps e = refl
codes_apart FewStamps EqualStamps e = absurd (omega (arith, e))
codes_apart EqualStamps FewStamps e = absurd (omega (arith, e))
codes_apart EqualStamps EqualStamps e = refl

pub never_0 : (a : Refusal) → code_of a ≡ 0 → ⊥
never_0 FewStamps e = omega (arith, e)
never_0 EqualStamps e = omega (arith, e)

pub told_apart : (r s : Result Report Refusal) → told_of r ≡ told_of s → r ≡ s
told_apart (Ok a) (Ok b) e = ap Ok (same_report a b e)
told_apart (Ok a) (Err b) e = absurd (never_0 b (sym (ap (λ (s : Speeds). s.code) e)))
told_apart (Err a) (Ok b) e = absurd (never_0 a (ap (λ (s : Speeds). s.code) e))
told_apart (Err a) (Err b) e = ap Err (codes_apart a b (ap (λ (s : Speeds). s.code) e))

pub one_measured : (stamps : List ℕ) (floor : ℕ) (r s : Result Report Refusal)
    → told_of r ≡ tach_of stamps floor → told_of s ≡ tach_of stamps floor → r ≡ s
one_measured stamps floor r s a b = told_apart r s (a ∙ sym b)
