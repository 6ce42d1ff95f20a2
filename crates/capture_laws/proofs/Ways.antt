-- What one byte does to a state, in three ways: a state that holds a lasting code stays; a byte is refused, with a lasting code, which the
-- state then holds; or a byte is taken. Nothing is asked of the byte or the state.
-- Assumes nothing.
use Prim.Native.Nat.{ℕ}
use mathlib.Core.Path.{◌≡◌, refl, sym, ◌∙◌}
use mathlib.Core.Bool.{true, false, and-false}
use lib.ListN.{get_or}
use lib.Dec.{ltb, leb, eqb}
use borrow.Author.Tests.{eqb-true, eqb-false}
use Rattle.laws.proofs.Choices.{clash, cond_ind, by_test}
use Rattle.record.specs.Record.{Record}
use Rattle.std.specs.Prelude.{Ok, Err}
use Rattle.record.specs.declared.refusal.Refusal.TheVariants.{Kind, Operand}
use Rattle.record.specs.Record.{decode_of, code_of}
use Rattle.capture.specs.declared.Reader.{Reader}
use Rattle.capture.specs.Reader.{Turn, held_test, in_header, quiet_of, hold_of, head_of, judged_of, record_of, turn_of}
use Rattle.capture_laws.specs.Codes.{lasting_of}
use Rattle.capture.proofs.Turns.{head_ind}

-- a lasting code
abbrev pub Lasts : ℕ → Type 0
Lasts code = lasting_of code ≡ true

-- is no other
pub apart : {code other : ℕ} → Lasts code → lasting_of other ≡ false → code ≡ other → ⊥
apart l n e = clash (sym n ∙ rw (← e) l)

pub data Way (s : Reader) : Turn → Type 0 where
  stays : (s.held ≡ 0 → ⊥) → Way s (quiet_of s)
  refuses : (code : ℕ) → s.held ≡ 0 → Lasts code → Way s (quiet_of (hold_of s code))
  takes : {t : Turn} → s.held ≡ 0 → t.reader.held ≡ 0 → Way s t

module _ (s : Reader) (b : ℕ) (none : s.held ≡ 0) where
  head_way : Way s (quiet_of (head_of s b))
  head_way =
      head_ind s b (λ (t : Reader). Way s (quiet_of t)) (takes none none) (refuses 1 none refl) (takes none none) (refuses 9 none refl)
      (refuses 2 none refl) (takes none none)

  judged_way : (d : Record) → Way s (judged_of s d)
  unfolding code_of
  judged_way (Ok e) = takes none none
  judged_way (Err Kind) = refuses 3 none refl
  judged_way (Err Operand) = refuses 4 none refl

pub way : (s : Reader) (b : ℕ) → Way s (turn_of s b)
unfolding turn_of record_of
way s b =
    cond_ind (Way s) (eqb s.held 0)
    (λ z. let none = eqb-true s.held 0 z in
    cond_ind (Way s) (in_header s) (λ _. head_way s b none)
    (λ _. cond_ind (Way s) (ltb s.done s.count)
    (λ _. cond_ind (Way s) (ltb s.carried 3) (λ _. takes none none)
    (λ _. judged_way s b none (decode_of s.bus.devices (get_or s.bytes 0 0) (get_or s.bytes 1 0) (get_or s.bytes 2 0) b)))
    (λ _. refuses 5 none refl)))
    (λ n. stays (eqb-false s.held 0 n))

-- ---- what follows for any turn of a state

lasting_held : (code : ℕ) → Lasts code → held_test code ≡ true
lasting_held code l =
    by_test (leb code 5) (λ m. rw m) (λ m. rw m (rw (m, and-false (leb 1 code)) at l))

-- a code that is held is one that can be
pub held_kept : {s : Reader} {t : Turn} → Way s t → held_test s.held ≡ true → held_test t.reader.held ≡ true
held_kept (stays n) h = h
held_kept (refuses code z l) h = lasting_held code l
held_kept (takes z e) h = rw e

-- none is held after a byte only if none was before it
pub none_before : {s : Reader} {t : Turn} → Way s t → t.reader.held ≡ 0 → s.held ≡ 0
none_before (stays n) e = e
none_before (refuses code z l) e = z
none_before (takes z e) _ = z

-- a byte that is refused: its turn is silent, and leaves the state as it was, holding a lasting code
pub record Refusal (s : Reader) (t : Turn) : Type 0 where
  pub code : ℕ
  pub lasts : Lasts code
  pub turn : t ≡ quiet_of (hold_of s code)

pub refused : {s : Reader} {t : Turn} → Way s t → s.held ≡ 0 → (t.reader.held ≡ 0 → ⊥) → Refusal s t
refused (stays n) z m = absurd (n z)
refused (refuses code z l) _ m = record { code = code; lasts = l; turn = refl }
refused (takes z e) _ m = absurd (m e)
