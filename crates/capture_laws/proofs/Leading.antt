-- `leads`: what the bytes ahead decide of the header, they decide of the call's code. A header's refusal and its end give their code; a
-- complete header leads to the records, as if the bytes that are carried stood before those ahead.
-- Assumes nothing.
use Prim.Native.Nat.{ℕ, zero, suc, ◌+◌, ◌-◌, ◌*◌, ◌≤◌, ◌<◌}
use mathlib.Core.Path.{◌≡◌, refl, ap, sym, subst}
use mathlib.Core.List.{List, [], ◌∷◌, ◌++◌}
use mathlib.Core.Bool.{true, false, ◌||◌, or-false, and-false}
use native.Mathlib.Omega.{arith}
use lib.Dec.{ltb, eqb}
use lib.ListN.{length, get_or, take}
use lib.Seq.{length-take-le}
use borrow.Author.Tests.{ltb-true, ltb-false, leb-true, eqb-true, eqb-false, le-ltb, eq-eqb, ne_eqb}
use Rattle.laws.proofs.Choices.{cond_ind, by_test}
use Rattle.registers.specs.Page.{address_of}
use Rattle.device.specs.Bus.{powered_of}
use Rattle.device.specs.Ranges.{variant_of}
use Rattle.device.proofs.InRange.{powered_variant}
use Rattle.pair.specs.declared.Bus.{Bus}
use Rattle.pair.specs.Bus.{two_of, placed_of, counted_bus, first_address, count_place, header_length}
use Rattle.pair.proofs.Heading.{counts, few_devices, some_devices}
use Rattle.capture.specs.declared.Reader.{Reader}
use Rattle.capture.specs.Reader.{no_bytes, with_head, with_done, with_carried, hold_of, header_length_of, in_header, count_taken, feed_of}
use Rattle.capture.specs.Whole.{heading, recording}
use Rattle.capture_laws.specs.Codes.{Header, header_ahead, number_header, second_header, variant_header, count_header, carried_of, Free}
use Rattle.capture_laws.specs.Codes.Header.{bad_count, bad_variant, bad_address, unfinished, complete}
use Rattle.capture.proofs.Turns.{opened_turn, other_count_turn, variant_turn, one_address_turn, other_variant_turn, counted_turn}
use Rattle.capture.proofs.InRange.{ranges, idle, none, completed, below_limit}
use Rattle.capture_laws.proofs.Judging.{taken, refused, ended, carries}

-- ---- the header

-- what a call's code is, by what is ahead: one of the header's, or that of the records, k of them done and some bytes carried
unfoldable pub Leads : ℕ → ℕ → List ℕ → ℕ → Header → Type 0
Leads code k c room bad_count = code ≡ 1
Leads code k c room bad_variant = code ≡ 2
Leads code k c room bad_address = code ≡ 9
Leads code k c room unfinished = code ≡ 0
Leads code k c room (complete devices n l) = (d : Bus) × (d.devices ≡ devices) × (code ≡ (feed_of (recording n k d []) (c ++ l) room).code)

-- so many bytes of the record count to come
number_leads : (m h n : ℕ) (d : Bus) (xs : List ℕ) (room : ℕ) → count_place d ≤ h → h + m ≡ header_length d
    → Leads (feed_of (heading h n d) xs room).code 0 [] room (number_header d.devices m n xs)
unfolding Leads
number_leads zero h n d xs room l e =
    let z : h ≡ header_length d = omega arith in
    (d, refl, ap (λ (k : ℕ). (feed_of (heading k n d) xs room).code) z)
number_leads (suc m) h n d [] room l e = ended (heading h n d) room
number_leads (suc m) h n d (b ∷ xs) room l e =
    rw (taken (heading h n d) b xs room (counted_turn (heading h n d) b refl l (omega arith)) refl)
    (number_leads m (h + 1) (n * 256 + b) d xs room (omega arith) (omega arith))

-- the second variant byte to come
second_leads : (d : Bus) → two_of d ≡ true → (xs : List ℕ) (room : ℕ)
    → Leads (feed_of (heading 2 0 d) xs room).code 0 [] room (second_header d.first.variant xs)
unfolding Leads
second_leads d two [] room = ended (heading 2 0 d) room
second_leads d two (v ∷ xs) room =
    let devices : d.devices ≡ 2 = eqb-true d.devices 2 two in
    let at : 2 < count_place d = omega (arith, devices) in
    let s = heading 2 0 d in
    cond_ind (Leads (feed_of s (v ∷ xs) room).code 0 [] room) (variant_of v)
    (λ e. cond_ind (Leads (feed_of s (v ∷ xs) room).code 0 [] room) (eqb (address_of v) (first_address d))
    (λ f. refused s v xs room (one_address_turn s v refl (omega arith) at e f) (λ z. omega arith))
    (λ f.
    rw (taken s v xs room (variant_turn s v refl (omega arith) at e f) refl)
    (subst (λ (n : ℕ). Leads (feed_of (heading 3 0 (placed_of d true (powered_of v))) xs room).code 0 [] room (number_header n 4 0 xs)) devices
    (number_leads 4 3 0 (placed_of d true (powered_of v)) xs room (omega (arith, devices)) (omega (arith, devices))))))
    (λ e. refused s v xs room (other_variant_turn s v refl (omega arith) at e) (λ z. omega arith))

-- the first variant byte to come
variant_leads : (d : Bus) → 1 ≤ d.devices → d.devices ≤ 2 → (xs : List ℕ) (room : ℕ)
    → Leads (feed_of (heading 1 0 d) xs room).code 0 [] room (variant_header d.devices xs)
unfolding Leads
variant_leads d some few [] room = ended (heading 1 0 d) room
variant_leads d some few (v ∷ xs) room =
    let at : 1 < count_place d = omega (arith, some) in
    let s = heading 1 0 d in
    cond_ind (Leads (feed_of s (v ∷ xs) room).code 0 [] room) (variant_of v)
    (λ e.
    rw (taken s v xs room (variant_turn s v refl (omega arith) at e refl) refl)
    (cond_ind (Leads (feed_of (heading 2 0 (placed_of d false (powered_of v))) xs room).code 0 [] room) (eqb d.devices 2)
    (λ two.
    subst (λ (x : ℕ). Leads (feed_of (heading 2 0 (placed_of d false (powered_of v))) xs room).code 0 [] room (second_header x xs)) (powered_variant v)
    (second_leads (placed_of d false (powered_of v)) two xs room))
    (λ one.
    number_leads 4 2 0 (placed_of d false (powered_of v)) xs room (omega (arith, few, some, eqb-false d.devices 2 one))
    (omega (arith, few, some, eqb-false d.devices 2 one)))))
    (λ e. refused s v xs room (other_variant_turn s v refl (omega arith) at e) (λ z. omega arith))

-- the device count to come
count_leads : (d : Bus) (xs : List ℕ) (room : ℕ) → Leads (feed_of (heading 0 0 d) xs room).code 0 [] room (count_header xs)
unfolding Leads
count_leads d [] room = ended (heading 0 0 d) room
count_leads d (n ∷ xs) room =
    cond_ind (Leads (feed_of (heading 0 0 d) (n ∷ xs) room).code 0 [] room) (eqb n 1 || eqb n 2)
    (λ e.
    let some = counts n e in
    rw (taken (heading 0 0 d) n xs room (opened_turn (heading 0 0 d) n refl refl e) refl)
    (variant_leads (counted_bus d n) some.0 some.1 xs room))
    (λ e. refused (heading 0 0 d) n xs room (other_count_turn (heading 0 0 d) n refl refl e) (λ z. omega arith))

-- ---- the states in their ranges

-- three places whose unused ones are 0 are told by those that are used
placed : (l : List ℕ) (c : ℕ) → length l ≡ 3 → c ≤ 3 → (ltb 0 c || eqb (get_or l 0 0) 0) ≡ true → (ltb 1 c || eqb (get_or l 1 0) 0) ≡ true
    → (ltb 2 c || eqb (get_or l 2 0) 0) ≡ true → l ≡ take 3 (take c l ++ no_bytes)
placed (x ∷ y ∷ z ∷ []) zero n h t u v = rw (eqb-true x 0 t, eqb-true y 0 u, eqb-true z 0 v)
placed (x ∷ y ∷ z ∷ []) (suc zero) n h t u v = rw (eqb-true y 0 u, eqb-true z 0 v)
placed (x ∷ y ∷ z ∷ []) (suc (suc zero)) n h t u v = rw (eqb-true z 0 v)
placed (x ∷ y ∷ z ∷ []) (suc (suc (suc zero))) n h t u v = refl
placed (x ∷ y ∷ z ∷ []) (suc (suc (suc (suc c)))) n h t u v = absurd (omega arith)
placed [] c n h t u v = absurd (omega arith)
placed (x ∷ []) c n h t u v = absurd (omega arith)
placed (x ∷ y ∷ []) c n h t u v = absurd (omega arith)
placed (x ∷ y ∷ z ∷ w ∷ l) c n h t u v = absurd (omega arith)

module _ (s : Reader) (three : length s.bytes ≡ 3) (f : Free s) where
  -- at most three bytes are carried, and the places hold them and zeros
  few : s.carried ≤ 3
  few = leb-true s.carried 3 (ranges s f.ranges).place.few

  carries_few : length (carried_of s) ≡ s.carried
  carries_few = length-take-le s.carried s.bytes (omega (arith, few))

  places : s.bytes ≡ take 3 (carried_of s ++ no_bytes)
  places = let p = (ranges s f.ranges).place in placed s.bytes s.carried three few p.first p.second p.third

  -- in the records a state is told by its count, the records done, the device and the bytes that are carried
  in_records : s.head ≡ header_length_of s → s ≡ recording s.count s.done s.bus (carried_of s)
  in_records h = λ i. hold_of (with_carried (with_head s (h i)) (sym carries_few i) (places i)) (f.none i)

  -- in the header it is told by the bytes taken, the count so far and the device
  quiet : s.head < header_length_of s → s.carried ≡ 0
  quiet l = eqb-true s.carried 0 (idle s f.ranges l)

  fresh : s.head < header_length_of s → s.done ≡ 0
  fresh l = eqb-true s.done 0 (none s f.ranges l)

  in_header_lem : s.head < header_length_of s → s ≡ heading s.head s.count s.bus
  in_header_lem l =
      let b : s.bytes ≡ no_bytes = rw (quiet l) at places in
      λ i. hold_of (with_carried (with_done s (fresh l i)) (quiet l i) (b i)) (f.none i)

  -- nothing is carried where all records are done
  all_done : ltb s.done s.count ≡ false → s.carried ≡ 0
  all_done e = eqb-true s.carried 0 (simp (e, and-false, or-false) at (ranges s f.ranges).place.carrying)

  -- no count before its first byte
  uncounted : s.head ≤ count_place s.bus → s.count ≡ 0
  uncounted l = let z : count_taken s ≡ 0 = omega arith in omega (arith, rw z at (below_limit s f.ranges))

  module _ (xs : List ℕ) (room : ℕ) where
    header_leads : s.head < header_length_of s → Leads (feed_of s xs room).code s.done (carried_of s) room (header_ahead s xs)
    unfolding header_ahead
    header_leads l =
        let bus = (ranges s f.ranges).bus in
        let few = few_devices s.head s.bus bus in
        rw (ap (λ (t : Reader). (feed_of t xs room).code) (in_header_lem l), fresh l, quiet l)
        (cond_ind To (eqb s.head 0)
        (λ z. let h = eqb-true s.head 0 z in rw (h, uncounted (omega arith)) (count_leads s.bus xs room))
        (λ n. cond_ind To (eqb s.head 1)
        (λ o.
        let h = eqb-true s.head 1 o in
        let some = some_devices s.head s.bus bus (omega (arith, h)) in
        rw (h, uncounted (omega (arith, h, some))) (variant_leads s.bus some few xs room))
        (λ o. cond_ind To (ltb s.head (count_place s.bus))
        (λ m.
        let before = ltb-true s.head (count_place s.bus) m in
        let h : s.head ≡ 2 = omega (arith, eqb-false s.head 0 n, eqb-false s.head 1 o, before, few) in
        let two : s.bus.devices ≡ 2 = omega (arith, h, before, few) in
        rw (h, uncounted (omega (arith, before))) (second_leads s.bus (eq-eqb _ _ two) xs room))
        (λ m.
        number_leads (header_length_of s - s.head) s.head s.count s.bus xs room
        (ltb-false s.head (count_place s.bus) m) (omega arith)))))
      where
        To : Header → Type 0
        To = Leads (feed_of (heading s.head s.count s.bus) xs room).code 0 [] room

    records_leads : s.head ≡ header_length_of s → Leads (feed_of s xs room).code s.done (carried_of s) room (header_ahead s xs)
    unfolding header_ahead Leads
    records_leads h =
        let none = ne_eqb s.head 0 (λ z. omega arith) in
        let one = ne_eqb s.head 1 (λ z. omega arith) in
        let behind = le-ltb s.head (count_place s.bus) (omega arith) in
        let rest : header_length_of s - s.head ≡ 0 = omega arith in
        rw (ap (λ (t : Reader). (feed_of t xs room).code) (in_records h), none, one, behind, rest) (
          s.bus,
          refl,
          by_test (ltb s.done s.count)
              (λ e. sym (carries s.count s.done s.bus e xs room (carried_of s) (omega (arith, few, carries_few))))
              (λ e. rw (all_done e)),
        )

    pub leads : Leads (feed_of s xs room).code s.done (carried_of s) room (header_ahead s xs)
    leads =
        by_test (in_header s)
        (λ l. header_leads (ltb-true s.head (header_length_of s) l))
        (λ l. records_leads (completed s f.ranges l))
