-- What one byte does to a state, a law for each way of it, by where the state stands.
-- Assumes nothing.
use Prim.Native.Nat.{ℕ, ◌≤◌, ◌<◌}
use mathlib.Core.Path.{◌≡◌, ap, ◌∙◌}
use mathlib.Core.Bool.{true, false, ◌||◌}
use native.Mathlib.Omega.{arith}
use lib.Dec.{ltb, eqb}
use lib.ListN.{get_or}
use borrow.Author.Tests.{eq-eqb, ne_eqb, lt-ltb, le-ltb}
use Rattle.std.specs.Prelude.{Result, Ok, Err}
use Rattle.laws.proofs.Choices.{cond_ind, by_test}
use Rattle.device.specs.Ranges.{variant_of}
use Rattle.record.specs.Record.{decode_of}
use Rattle.pair.specs.declared.Bus.{Bus}
use Rattle.pair.specs.Bus.{count_place}
use Rattle.capture.specs.declared.Reader.{Reader}
use Rattle.capture.specs.declared.refusal.Refusal.{Refusal}
use Rattle.capture.specs.Refusal.{refusal_code_of}
use Rattle.capture.specs.Loops.{opened_or, variant_or}
use Rattle.capture.specs.Reader.{header_length_of, hold_of, with_bus, head_taken_of, second_variant, quiet_of, opened_of, one_address, variant_taken_of, variant_byte_of, counted_of}
use Rattle.capture.specs.Reader.{carry_of, judged_of, head_of, record_of, turn_of}

module _ (s : Reader) (b : ℕ) where
  -- a state that holds a code stays
  pub held_turn : (s.held ≡ 0 → ⊥) → turn_of s b ≡ quiet_of s
  unfolding turn_of
  held_turn n = simp (ne_eqb s.held 0 n)

  -- ---- a byte of the header

  -- with its bus, or the code of why there is none
  abbrev pub on_bus : Result Bus Refusal → Reader
  on_bus (Ok bus) = with_bus (head_taken_of s) bus
  on_bus (Err why) = hold_of s (refusal_code_of why)

  -- the device count
  module _ (z : s.head ≡ 0) where
    pub opened_head : (eqb b 1 || eqb b 2) ≡ true → head_of s b ≡ opened_of s b
    unfolding head_of
    opened_head e = simp (eq-eqb s.head 0 z, e)

    pub other_count_head : (eqb b 1 || eqb b 2) ≡ false → head_of s b ≡ hold_of s 1
    unfolding head_of
    other_count_head e = simp (eq-eqb s.head 0 z, e)

    pub opened_told : {r : Result Bus Refusal} → r ≡ opened_or s.bus b → head_of s b ≡ on_bus r
    opened_told e = by_test (eqb b 1 || eqb b 2) (λ t. opened_head t ∙ rw (e, t)) (λ f. other_count_head f ∙ rw (e, f))

  module _ (n : s.head ≡ 0 → ⊥) where
    -- a variant
    pub variant_head : s.head < count_place s.bus → head_of s b ≡ variant_byte_of s b
    unfolding head_of
    variant_head l = simp (ne_eqb s.head 0 n, lt-ltb s.head (count_place s.bus) l)

    pub variant_told : s.head < count_place s.bus → {r : Result Bus Refusal} → r ≡ variant_or s.bus (second_variant s) b → head_of s b ≡ on_bus r
    variant_told l e =
        variant_head l
        ∙ rw e
        (by_test (variant_of b)
        (λ v. by_test (one_address s b) (λ o. rw (v, o)) (λ o. rw (v, o)))
        (λ v. rw v))

    -- a byte of the record count
    pub counted_head : count_place s.bus ≤ s.head → head_of s b ≡ counted_of s b
    unfolding head_of
    counted_head l = simp (ne_eqb s.head 0 n, le-ltb s.head (count_place s.bus) l)

  -- what holds of every way of a header byte holds of it
  pub head_ind : (P : Reader → Type 0) → P (opened_of s b) → P (hold_of s 1) → P (variant_taken_of s b) → P (hold_of s 9) → P (hold_of s 2)
      → P (counted_of s b) → P (head_of s b)
  unfolding head_of
  head_ind P opened one taken nine two counted =
      cond_ind P (eqb s.head 0) (λ _. cond_ind P (eqb b 1 || eqb b 2) (λ _. opened) (λ _. one))
      (λ _. cond_ind P (ltb s.head (count_place s.bus))
      (λ _. cond_ind P (variant_of b) (λ _. cond_ind P (one_address s b) (λ _. nine) (λ _. taken)) (λ _. two))
      (λ _. counted))

  -- ---- where no code is held

  module _ (free : s.held ≡ 0) where
    pub head_turn : s.head < header_length_of s → turn_of s b ≡ quiet_of (head_of s b)
    unfolding turn_of
    head_turn l = simp (eq-eqb s.held 0 free, lt-ltb s.head (header_length_of s) l)

    pub opened_turn : s.head ≡ 0 → (eqb b 1 || eqb b 2) ≡ true → turn_of s b ≡ quiet_of (opened_of s b)
    opened_turn z e = head_turn (omega arith) ∙ ap quiet_of (opened_head z e)

    pub other_count_turn : s.head ≡ 0 → (eqb b 1 || eqb b 2) ≡ false → turn_of s b ≡ quiet_of (hold_of s 1)
    other_count_turn z e = head_turn (omega arith) ∙ ap quiet_of (other_count_head z e)

    module _ (n : 0 < s.head) (l : s.head < count_place s.bus) where
      of_variant : turn_of s b ≡ quiet_of (variant_byte_of s b)
      of_variant = head_turn (omega arith) ∙ ap quiet_of (variant_head (λ z. omega arith) l)

      pub variant_turn : variant_of b ≡ true → one_address s b ≡ false → turn_of s b ≡ quiet_of (variant_taken_of s b)
      variant_turn e f = of_variant ∙ rw (e, f)

      pub one_address_turn : variant_of b ≡ true → one_address s b ≡ true → turn_of s b ≡ quiet_of (hold_of s 9)
      one_address_turn e f = of_variant ∙ rw (e, f)

      pub other_variant_turn : variant_of b ≡ false → turn_of s b ≡ quiet_of (hold_of s 2)
      other_variant_turn e = of_variant ∙ rw e

    pub counted_turn : count_place s.bus ≤ s.head → s.head < header_length_of s → turn_of s b ≡ quiet_of (counted_of s b)
    counted_turn l m = head_turn m ∙ ap quiet_of (counted_head (λ z. omega arith) l)

    -- ---- a byte of a record

    module _ (h : s.head ≡ header_length_of s) where
      pub carried_turn : s.done < s.count → s.carried < 3 → turn_of s b ≡ quiet_of (carry_of s b)
      unfolding turn_of
      carried_turn d l =
          let behind = le-ltb s.head (header_length_of s) (omega arith) in
          simp (eq-eqb s.held 0 free, behind, lt-ltb s.done s.count d, lt-ltb s.carried 3 l)

      pub judged_turn : s.done < s.count → 3 ≤ s.carried
          → turn_of s b ≡ judged_of s (decode_of s.bus.devices (get_or s.bytes 0 0) (get_or s.bytes 1 0) (get_or s.bytes 2 0) b)
      unfolding turn_of record_of
      judged_turn d l =
          let behind = le-ltb s.head (header_length_of s) (omega arith) in
          simp (eq-eqb s.held 0 free, behind, lt-ltb s.done s.count d, le-ltb s.carried 3 l)

      -- past the last counted one
      pub past_turn : s.count ≤ s.done → turn_of s b ≡ quiet_of (hold_of s 5)
      unfolding turn_of
      past_turn d =
          let behind = le-ltb s.head (header_length_of s) (omega arith) in
          simp (eq-eqb s.held 0 free, behind, le-ltb s.done s.count d)
