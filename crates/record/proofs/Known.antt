-- `kind_refused`: four bytes are refused for their kind exactly if it is not 01 to 07, under a device count of 2 not 01 to 09 (request c).
-- `past_last`, `of_no_kind`, `of_two`: the same, for a kind past the last of the table, of no kind's number, and for 08 and 09. `kind_alike`: kinds up to 07 read alike under every count.
-- Assumes nothing.
use Prim.Native.Nat.{ℕ, zero, suc, ◌<◌}
use mathlib.Core.Path.{◌≡◌, refl, sym, ap, ◌∙◌}
use mathlib.Core.Logic.{◌↔◌}
use mathlib.Core.Bool.{Bool, true, false, cond, ◌&&◌, and-false}
use mathlib.Core.List.{[], ◌∷◌}
use native.Mathlib.Omega.{arith}
use lib.Dec.{leb, eqb}
use borrow.Author.Tests.{eqb-true, leb-true, lt-leb, ne_eqb}
use Rattle.laws.proofs.Choices.{clash, cond_ind, by_test}
use Rattle.device.specs.declared.Event.{Event}
use Rattle.device.specs.declared.Event.TheVariants.{Write, Read, Send, Receive, Convert, Open, PowerOn, ConvertSecond, OpenSecond}
use Rattle.record.specs.Record.{Record}
use Rattle.std.specs.Prelude.{Err}
use Rattle.record.specs.declared.refusal.Refusal.TheVariants.{Kind}
use Rattle.record.specs.declared.kind.Kind as Numbers
use Rattle.record.specs.declared.kind.Kind.TheVariants as number
use Rattle.record.specs.Kinds.{number_of}
use Rattle.record.specs.Record.{decode_of, admit_of, good_of, last_kind_of, known_kind}

-- no kind of the table is refused for its kind
admits : {P : Type 0} (good : Bool) (e : Event) → admit_of good e ≡ Err Kind → P
admits true e q = let z : ◌≡◌ {A = ℕ} 0 1 = cc in absurd (omega arith)
admits false e q = let z : ◌≡◌ {A = ℕ} 0 1 = cc in absurd (omega arith)

-- a kind above 09 is known under no count
past : (devices kind : ℕ) → 9 < kind → known_kind devices kind ≡ false
past devices kind h =
    cond_ind (λ (most : ℕ). (leb 1 kind && leb kind most) ≡ false) (eqb devices 2)
    (λ _. simp (lt-leb kind 9 h, and-false)) (λ _. simp (lt-leb kind 7 (omega arith), and-false))

-- a choice between a record and itself
either : (t : Bool) (r : Record) → cond t r r ≡ r
either true r = refl
either false r = refl

refused : (devices kind a b c : ℕ) → decode_of devices kind a b c ≡ Err Kind → known_kind devices kind ≡ false
unfolding decode_of
refused devices zero a b c q = refl
refused devices (suc zero) a b c q = admits (good_of (Write a b c) []) (Write a b c) q
refused devices (suc (suc zero)) a b c q = admits (good_of (Read a b) (c ∷ [])) (Read a b) q
refused devices (suc (suc (suc zero))) a b c q = admits (good_of (Send a b) (c ∷ [])) (Send a b) q
refused devices (suc (suc (suc (suc zero)))) a b c q = admits (good_of (Receive a) (b ∷ c ∷ [])) (Receive a) q
refused devices (suc (suc (suc (suc (suc zero))))) a b c q = admits (good_of (Convert a b c) []) (Convert a b c) q
refused devices (suc (suc (suc (suc (suc (suc zero)))))) a b c q = admits (good_of (Open a) (b ∷ c ∷ [])) (Open a) q
refused devices (suc (suc (suc (suc (suc (suc (suc zero))))))) a b c q = admits (good_of PowerOn (a ∷ b ∷ c ∷ [])) PowerOn q
refused devices (suc (suc (suc (suc (suc (suc (suc (suc zero)))))))) a b c q =
    by_test (eqb devices 2) (λ two. admits (good_of (ConvertSecond a b c) []) (ConvertSecond a b c) (rw two at q)) (λ one. rw one)
refused devices (suc (suc (suc (suc (suc (suc (suc (suc (suc zero))))))))) a b c q =
    by_test (eqb devices 2) (λ two. admits (good_of (OpenSecond a) (b ∷ c ∷ [])) (OpenSecond a) (rw two at q)) (λ one. rw one)
refused devices (suc (suc (suc (suc (suc (suc (suc (suc (suc (suc k)))))))))) a b c q =
    past devices (suc (suc (suc (suc (suc (suc (suc (suc (suc (suc k)))))))))) (omega arith)

-- another kind is none of the table's
other : (devices kind : ℕ) → known_kind devices kind ≡ false → (k : ℕ) → known_kind devices k ≡ true → eqb kind k ≡ false
other devices kind u k y = by_test (eqb kind k) (λ e. clash (sym u ∙ rw (eqb-true kind k e) y)) (λ e. e)

unknown : (devices kind a b c : ℕ) → known_kind devices kind ≡ false → decode_of devices kind a b c ≡ Err Kind
unfolding decode_of
unknown devices kind a b c u =
    let no = other devices kind u in
    by_test (eqb devices 2)
    (λ two. simp (two, no 1 (rw two), no 2 (rw two), no 3 (rw two), no 4 (rw two), no 5 (rw two), no 6 (rw two), no 7 (rw two), no 8 (rw two), no 9 (rw two)))
    (λ one. simp (one, no 1 (rw one), no 2 (rw one), no 3 (rw one), no 4 (rw one), no 5 (rw one), no 6 (rw one), no 7 (rw one), either))

pub kind_refused : (devices kind a b c : ℕ) → (decode_of devices kind a b c ≡ Err Kind) ↔ (known_kind devices kind ≡ false)
kind_refused devices kind a b c = (refused devices kind a b c, unknown devices kind a b c)

pub past_last : (devices kind a b c : ℕ) → last_kind_of devices < kind → decode_of devices kind a b c ≡ Err Kind
past_last devices kind a b c h = (kind_refused devices kind a b c).1 (simp (lt-leb kind (last_kind_of devices) h, and-false))

-- a last kind past 07 is that of two devices
pub of_two : (devices : ℕ) → 7 < last_kind_of devices → eqb devices 2 ≡ true
of_two devices h = by_test (eqb devices 2) (λ two. two) (λ one. absurd (omega (arith, rw one at h)))

-- a number of no kind is refused for it
pub of_no_kind : (devices kind a b c : ℕ) → ((k : Numbers.Kind) → number_of k ≡ kind → ⊥) → decode_of devices kind a b c ≡ Err Kind
unfolding decode_of
of_no_kind devices kind a b c none =
    let no = λ (k : Numbers.Kind). ne_eqb kind (number_of k) (λ e. none k (sym e)) in
    rw (
      no number.Write,
      no number.Read,
      no number.Send,
      no number.Receive,
      no number.Convert,
      no number.Open,
      no number.PowerOn,
      no number.ConvertSecond,
      no number.OpenSecond,
    )

-- a number is that of its kind
pub numbered : {j k : Numbers.Kind} {n : ℕ} → number_of j ≡ n → j ≡ k → n ≡ number_of k
numbered {j = j} p e = sym p ∙ ap number_of e

pub kind_alike : (devices kind a b c : ℕ) → leb kind 7 ≡ true → decode_of devices kind a b c ≡ decode_of 1 kind a b c
unfolding decode_of
kind_alike devices kind a b c h =
    let most = leb-true kind 7 h in
    rw (ne_eqb kind 8 (λ e. omega (arith, e, most)), ne_eqb kind 9 (λ e. omega (arith, e, most)))
