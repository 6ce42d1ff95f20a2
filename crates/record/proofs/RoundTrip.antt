-- Demand 2, writing and reading back; request c: reading back of 08 and 09 is under a device count of 2. `reads_back`: every event that the
-- table allows is written as four bytes that read back as that event. `only_those`: any four bytes that read as it are those four, it is
-- allowed, and for 08 and 09 the count is 2. So a refused event is read from nothing.
-- Assumes nothing.
use mathlib.Core.Path.{◌≡◌, refl}
use mathlib.Core.Bool.{true, false}
use mathlib.Core.List.{List, [], ◌∷◌, map}
use Prim.Native.Nat.{ℕ}
use native.Mathlib.Omega.{arith}
use lib.Dec.{eqb}
use lib.ListN.{length, get_or}
use borrow.Author.Tests.{eqb-true}
use Rattle.laws.proofs.Choices.{clash, cond_ind}
use Rattle.device.specs.declared.Event.{Event}
use Rattle.device.specs.declared.Event.TheVariants.{Write, Read, Send, Receive, Convert, Open, PowerOn, ConvertSecond, OpenSecond}
use Rattle.device.specs.Ranges.{operands_of, second_of}
use Rattle.device.proofs.Tests.{Each, each}
use Rattle.record.specs.Record.{Record}
use Rattle.std.specs.Prelude.{Ok, Err}
use Rattle.record.specs.declared.refusal.Refusal.{Refusal}
use Rattle.record.specs.declared.refusal.Refusal.TheVariants.{Kind, Operand}
use Rattle.record.specs.Record.{decode_of, admit_of, good_of, under_two_of, encode_of}

-- four bytes of a list, decoded under a device count
abbrev pub read_of : ℕ → List ℕ → Record
read_of devices q = decode_of devices (get_or q 0 0) (get_or q 1 0) (get_or q 2 0) (get_or q 3 0)

pub four_bytes : (e : Event) → length (encode_of e) ≡ 4
unfolding encode_of
four_bytes (Write a b c) = refl
four_bytes (Read a b) = refl
four_bytes (Send a b) = refl
four_bytes (Receive a) = refl
four_bytes (Convert a b c) = refl
four_bytes (Open a) = refl
four_bytes PowerOn = refl
four_bytes (ConvertSecond a b c) = refl
four_bytes (OpenSecond a) = refl

pub reads_back : (devices : ℕ) (e : Event) → operands_of e ≡ true → (second_of e ≡ true → devices ≡ 2) → read_of devices (encode_of e) ≡ Ok e
unfolding decode_of encode_of second_of
reads_back devices (Write a b c) h two = rw h
reads_back devices (Read a b) h two = rw h
reads_back devices (Send a b) h two = rw h
reads_back devices (Receive a) h two = rw h
reads_back devices (Convert a b c) h two = rw h
reads_back devices (Open a) h two = rw h
reads_back devices PowerOn h two = rw h
reads_back devices (ConvertSecond a b c) h two = rw (two refl, h)
reads_back devices (OpenSecond a) h two = rw (two refl, h)

-- an event that the table does not allow is refused for its operand
pub reads_refused : (devices : ℕ) (e : Event) → operands_of e ≡ false → (second_of e ≡ true → devices ≡ 2) → read_of devices (encode_of e) ≡ Err Operand
unfolding decode_of encode_of second_of
reads_refused devices (Write a b c) h two = rw h
reads_refused devices (Read a b) h two = rw h
reads_refused devices (Send a b) h two = rw h
reads_refused devices (Receive a) h two = rw h
reads_refused devices (Convert a b c) h two = rw h
reads_refused devices (Open a) h two = rw h
reads_refused devices PowerOn h two = rw h
reads_refused devices (ConvertSecond a b c) h two = rw (two refl, h)
reads_refused devices (OpenSecond a) h two = rw (two refl, h)

-- a conversion of the second device is refused for its kind under any other count, whatever its operands
pub reads_unknown : (devices : ℕ) (e : Event) → second_of e ≡ true → eqb devices 2 ≡ false → read_of devices (encode_of e) ≡ Err Kind
unfolding decode_of encode_of second_of
reads_unknown devices (Write a b c) s other = clash s
reads_unknown devices (Read a b) s other = clash s
reads_unknown devices (Send a b) s other = clash s
reads_unknown devices (Receive a) s other = clash s
reads_unknown devices (Convert a b c) s other = clash s
reads_unknown devices (Open a) s other = clash s
reads_unknown devices PowerOn s other = clash s
reads_unknown devices (ConvertSecond a b c) s other = rw other
reads_unknown devices (OpenSecond a) s other = rw other

-- ---- no other bytes read as it

-- what four bytes that read as an event tell of it
pub record Told (devices kind a b c : ℕ) (e : Event) : Type 0 where
  pub bytes : kind ∷ a ∷ b ∷ c ∷ [] ≡ encode_of e
  pub operands : operands_of e ≡ true
  pub count : second_of e ≡ true → devices ≡ 2

same_event : {e f : Event} → ◌≡◌ {A = Record} (Ok e) (Ok f) → e ≡ f
same_event q = cc

module _ (devices kind a b c : ℕ) (e : Event) where
  -- what holds of a record that reads as the event
  abbrev Reads : Record → Type 0
  Reads r = r ≡ Ok e → Told devices kind a b c e

  refused : (why : Refusal) → Reads (Err why)
  refused why q = let z : ◌≡◌ {A = ℕ} 0 1 = cc in absurd (omega arith)

  -- a record that is admitted is the event's, if its bytes are so where the other operands are 0
  admitted : (f : Event) (others : List ℕ) → (second_of f ≡ true → devices ≡ 2)
      → (Each (map (λ x. eqb x 0) others) → kind ∷ a ∷ b ∷ c ∷ [] ≡ encode_of f) → Reads (admit_of (good_of f others) f)
  admitted f others count so = cond_ind Reads (good_of f others)
      (λ good q.
      let t = each (operands_of f ∷ map (λ x. eqb x 0) others) good in
      rw (← (same_event q)) (record { bytes = so t.1; operands = t.0; count = count }))
      (λ _. refused Operand)

  pub only_those : decode_of devices kind a b c ≡ Ok e → Told devices kind a b c e
  unfolding decode_of encode_of second_of
  only_those =
      cond_ind Reads (eqb kind 0x01) (λ k. admitted (Write a b c) [] clash (λ _. rw (eqb-true kind 0x01 k)))
      (λ _. cond_ind Reads (eqb kind 0x02) (λ k. admitted (Read a b) (c ∷ []) clash (λ z. rw (eqb-true kind 0x02 k, eqb-true c 0 z.0)))
      (λ _. cond_ind Reads (eqb kind 0x03) (λ k. admitted (Send a b) (c ∷ []) clash (λ z. rw (eqb-true kind 0x03 k, eqb-true c 0 z.0)))
      (λ _. cond_ind Reads (eqb kind 0x04) (λ k.
      admitted (Receive a) (b ∷ c ∷ []) clash (λ z. rw (eqb-true kind 0x04 k, eqb-true b 0 z.0, eqb-true c 0 z.1.0)))
      (λ _. cond_ind Reads (eqb kind 0x05) (λ k. admitted (Convert a b c) [] clash (λ _. rw (eqb-true kind 0x05 k)))
      (λ _. cond_ind Reads (eqb kind 0x06) (λ k.
      admitted (Open a) (b ∷ c ∷ []) clash (λ z. rw (eqb-true kind 0x06 k, eqb-true b 0 z.0, eqb-true c 0 z.1.0)))
      (λ _. cond_ind Reads (eqb kind 0x07) (λ k.
      admitted PowerOn (a ∷ b ∷ c ∷ []) clash (λ z. rw (eqb-true kind 0x07 k, eqb-true a 0 z.0, eqb-true b 0 z.1.0, eqb-true c 0 z.1.1.0)))
      (λ _. cond_ind Reads (eqb kind 0x08) (λ k. under_two
      (λ two. admitted (ConvertSecond a b c) [] (λ _. two) (λ _. rw (eqb-true kind 0x08 k))))
      (λ _. cond_ind Reads (eqb kind 0x09) (λ k. under_two
      (λ two. admitted (OpenSecond a) (b ∷ c ∷ []) (λ _. two) (λ z. rw (eqb-true kind 0x09 k, eqb-true b 0 z.0, eqb-true c 0 z.1.0))))
      (λ _. refused Kind)))))))))
    where
      under_two : {r : Record} → (devices ≡ 2 → Reads r) → Reads (under_two_of devices r)
      under_two f = cond_ind Reads (eqb devices 2) (λ two. f (eqb-true devices 2 two)) (λ _. refused Kind)
