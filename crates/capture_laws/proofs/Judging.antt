-- The code of a call in the records, those ahead judged in order by fours: `by_line`, each line of the table that is about records gives its
-- code, and `has_line`, the code given has its line.
-- Assumes nothing.
use Prim.Native.Nat.{ℕ, zero, suc, ◌+◌, ◌-◌, ◌*◌, ◌≤◌, ◌<◌}
use mathlib.Core.Path.{◌≡◌, refl, ap, ◌∙◌}
use mathlib.Core.List.{List, [], ◌∷◌, ◌++◌, append-nil}
use mathlib.Core.Bool.{true, false, cond}
use native.Mathlib.Omega.{arith}
use native.Mathlib.Nat.{add-zero, sub-zero}
use lib.Dec.{ltb, leb}
use lib.ListN.{length, take, drop, length-drop, drop_of_length-le}
use lib.Seq.{take_all}
use borrow.Author.Tests.{ltb-true, ltb-false, lt-ltb, leb-true, leb-false, le-leb, lt-leb, le-ltb}
use Rattle.laws.proofs.Choices.{cond_ind, by_test}
use Rattle.device.specs.declared.Event.{Event}
use Rattle.record.specs.Record.{Record}
use Rattle.std.specs.Prelude.{Ok, Err}
use Rattle.record.specs.declared.refusal.Refusal.TheVariants.{Kind, Operand}
use Rattle.record.specs.Record.{decode_of, code_of, known_kind}
use Rattle.record.proofs.Known.{kind_refused}
use Rattle.record.specs.Fours.{Quad, quads, over, quad_of}
use Rattle.capture.specs.declared.Reader.{Reader}
use Rattle.pair.specs.declared.Bus.{Bus}
use Rattle.pair.specs.Bus.{answers_of}
use Rattle.pair.proofs.Kept.{same_count}
use Rattle.capture.specs.Reader.{Out, hold_of, quiet_of, answered_of, turn_of, feed_of}
use Rattle.capture.specs.Whole.{recording}
use Rattle.capture_laws.specs.Codes.{IsValid, AllValid, Judged, Past, Done}
use Rattle.capture.proofs.Outcomes.{feed_stop, feed_full, feed_on}
use Rattle.capture_laws.proofs.Sections.{first, second, third, fourth, past, stepped, lasting}

-- ---- a call's code, byte by byte

-- a byte that is taken with no answer, and one that is refused
module _ (s : Reader) {s' : Reader} (b : ℕ) (bs : List ℕ) (room : ℕ) (e : turn_of s b ≡ quiet_of s') where
  pub taken : s'.held ≡ 0 → (feed_of s (b ∷ bs) room).code ≡ (feed_of s' bs room).code
  taken z = simp (e, sub-zero) at (ap (λ (o : Out). o.code) (feed_on s b bs room (rw e z) (rw e (omega arith))))

  pub refused : (s'.held ≡ 0 → ⊥) → (feed_of s (b ∷ bs) room).code ≡ s'.held
  refused n = rw e at (ap (λ (o : Out). o.code) (feed_stop s b bs room (rw e n)))

-- the bytes end
pub ended : (s : Reader) (room : ℕ) → (feed_of s [] room).code ≡ s.held
unfolding feed_of
ended s room = refl

-- ---- records by fours

-- a record's code: its refusal's, or what comes after it
abbrev judged_code : Record → ℕ → ℕ
judged_code (Ok e) next = next
judged_code (Err why) next = code_of (Err why)

-- under a device count, the code of the records in order, then of the bytes over, k of n done, with so much room
unfoldable judge_of : ℕ → ℕ → ℕ → ℕ → List Quad → List ℕ → ℕ
judge_of devices n k room [] [] = 0
judge_of devices n k room [] (x ∷ l) = cond (ltb k n) 0 5
judge_of devices n k room (q ∷ qs) l = cond (ltb k n) (judged_code (quad_of devices q) (cond (leb 2 room) (judge_of devices n (k + 1) (room - 2) qs l) 7)) 5

module _ (n k : ℕ) (d : Bus) where
  module _ (e : ltb k n ≡ true) (xs : List ℕ) (room : ℕ) where
    -- up to three bytes are carried
    pub carries : (l : List ℕ) → length l ≤ 3 → (feed_of (recording n k d []) (l ++ xs) room).code ≡ (feed_of (recording n k d l) xs room).code
    carries [] h = refl
    carries (x ∷ []) h = taken _ x xs room (first n k d e x) refl
    carries (x ∷ a ∷ []) h = taken _ x (a ∷ xs) room (first n k d e x) refl ∙ taken _ a xs room (second n k d e x a) refl
    carries (x ∷ a ∷ b ∷ []) h =
        taken _ x (a ∷ b ∷ xs) room (first n k d e x) refl
        ∙ taken _ a (b ∷ xs) room (second n k d e x a) refl
        ∙ taken _ b xs room (third n k d e x a b) refl
    carries (x ∷ a ∷ b ∷ c ∷ l) h = absurd (omega arith)

  -- fewer than four bytes, and no more
  short : (x : ℕ) (l : List ℕ) (room : ℕ) → length (x ∷ l) ≤ 3 → (feed_of (recording n k d []) (x ∷ l) room).code ≡ cond (ltb k n) 0 5
  short x l room h =
      by_test (ltb k n)
      (λ e. simp e (rw append-nil at (carries e [] room (x ∷ l) h) ∙ ended (recording n k d (x ∷ l)) room))
      (λ e. simp e (refused _ x l room (past n k d e x) (λ z. omega arith)))

-- byte by byte is by fours
feed_judge : (n k : ℕ) (d : Bus) (xs : List ℕ) (room : ℕ) → (feed_of (recording n k d []) xs room).code ≡ judge_of d.devices n k room (quads xs) (over xs)
unfolding judge_of
feed_judge n k d [] room = ended (recording n k d []) room
feed_judge n k d (x ∷ []) room = short n k d x [] room (omega arith)
feed_judge n k d (x ∷ a ∷ []) room = short n k d x (a ∷ []) room (omega arith)
feed_judge n k d (x ∷ a ∷ b ∷ []) room = short n k d x (a ∷ b ∷ []) room (omega arith)
feed_judge n k d (x ∷ a ∷ b ∷ c ∷ xs) room =
    by_test (ltb k n)
    (λ e.
    simp e
    (carries n k d e (c ∷ xs) room (x ∷ a ∷ b ∷ []) (omega arith)
    ∙ go e (decode_of d.devices x a b c) refl (λ v.
    feed_judge n (k + 1) (answers_of d v).bus xs (room - 2)
    ∙ ap (λ (devices : ℕ). judge_of devices n (k + 1) (room - 2) (quads xs) (over xs)) (same_count d v))))
    (λ e. simp e (refused _ x (a ∷ b ∷ c ∷ xs) room (past n k d e x) (λ z. omega arith)))
  where
    s : Reader
    s = recording n k d (x ∷ a ∷ b ∷ [])

    -- the code of what comes after the record
    rest : ℕ
    rest = judge_of d.devices n (k + 1) (room - 2) (quads xs) (over xs)

    go : ltb k n ≡ true → (r : Record) → decode_of d.devices x a b c ≡ r
        → ((v : Event) → (feed_of (recording n (k + 1) (answers_of d v).bus []) xs (room - 2)).code ≡ rest)
        → (feed_of s (c ∷ xs) room).code ≡ judged_code (decode_of d.devices x a b c) (cond (leb 2 room) rest 7)
    go e (Ok v) q ih =
        let t : turn_of s c ≡ answered_of s (answers_of d v) = rw q at (fourth n k d e x a b c) in
        let next = ap (λ (u : Reader). (feed_of u xs (room - 2)).code) (stepped n k d (x ∷ a ∷ b ∷ []) v) in
        rw q
        (by_test (leb 2 room)
        (λ l.
        let on = feed_on s c xs room (rw t refl) (rw t (leb-true 2 room l)) in
        simp l (rw t at (ap (λ (o : Out). o.code) on) ∙ next ∙ ih v))
        (λ l. simp l (ap (λ (o : Out). o.code) (feed_full s c xs room (rw t refl) (rw t (leb-false 2 room l))))))
    go e (Err why) q ih =
        let t : turn_of s c ≡ quiet_of (hold_of s (code_of (Err why))) = rw q at (fourth n k d e x a b c) in
        rw q (refused _ c xs room t (lasting why))

-- valid records that are counted and have room are passed by
skip : (j devices n k room : ℕ) (qs : List Quad) (l : List ℕ) → j ≤ length qs → j ≤ n - k → AllValid devices (take j qs) → j * 2 ≤ room
    → judge_of devices n k room qs l ≡ judge_of devices n (k + j) (room - j * 2) (drop j qs) l
unfolding judge_of
skip zero devices n k room qs l h c v r = simp (add-zero, sub-zero)
skip (suc j) devices n k room [] l h c v r = absurd (omega arith)
skip (suc j) devices n k room (q ∷ qs) l h c v r =
    let d : k + 1 + j ≡ k + suc j = omega arith in
    let m : room - 2 - j * 2 ≡ room - suc j * 2 = omega arith in
    simp (lt-ltb k n (omega arith), v.0.1, le-leb 2 room (omega arith))
    (skip j devices n (k + 1) (room - 2) qs l (omega arith) (omega arith) v.1 (omega arith) ∙ rw (d, m))

-- a string's length, by its complete records and the bytes over
record Sized (l : List ℕ) : Type 0 where
  whole : length l ≡ length (quads l) * 4 + length (over l)
  rest : length (over l) ≤ 3

sized : (l : List ℕ) → Sized l
sized [] = record { whole = refl; rest = omega arith }
sized (x ∷ []) = record { whole = refl; rest = omega arith }
sized (x ∷ a ∷ []) = record { whole = refl; rest = omega arith }
sized (x ∷ a ∷ b ∷ []) = record { whole = refl; rest = omega arith }
sized (x ∷ a ∷ b ∷ c ∷ l) = record { whole = omega (arith, (sized l).whole); rest = (sized l).rest }

-- ---- the table's lines of the records

-- under a device count, k of n records done, these bytes of records ahead, some room
pub data Lines (devices n k : ℕ) (l : List ℕ) (room : ℕ) : ℕ → Type 0 where
  kind : {j : ℕ} {q : Quad} → Judged devices n k l room j q → known_kind devices q.kind ≡ false → Lines devices n k l room 3
  operand : {j : ℕ} {q : Quad} → Judged devices n k l room j q → quad_of devices q ≡ Err Operand → Lines devices n k l room 4
  past_end : Past devices n k l room → Lines devices n k l room 5
  no_room : {j : ℕ} {q : Quad} → Judged devices n k l room j q → IsValid devices q → room < j * 2 + 2 → Lines devices n k l room 7
  in_records : Done devices n k l room → Lines devices n k l room 0

-- ---- each line gives its code

-- at a record that is judged the code is that record's
reach : {devices n k : ℕ} {l : List ℕ} {room j : ℕ} {q : Quad} (m : Judged devices n k l room j q)
    → judge_of devices n k room (quads l) (over l)
    ≡ judged_code (quad_of devices q) (cond (leb 2 (room - j * 2)) (judge_of devices n (k + j + 1) (room - j * 2 - 2) m.rest (over l)) 7)
unfolding judge_of
reach {devices} {n} {k} {l} {room} {j} m =
    skip j devices n k room (quads l) (over l) (omega (arith, simp length-drop at (ap length m.there))) (omega (arith, m.counted)) m.before m.space
    ∙ rw m.there (simp (lt-ltb (k + j) n m.counted))

-- where all are done, a record or a byte over is past the end
spent : (devices n k room : ℕ) (qs : List Quad) (l : List ℕ) → n ≤ k → 0 < length qs + length l → judge_of devices n k room qs l ≡ 5
unfolding judge_of
spent devices n k room [] [] h p = absurd (omega arith)
spent devices n k room [] (x ∷ l) h p = rw (le-ltb k n h)
spent devices n k room (q ∷ qs) l h p = rw (le-ltb k n h)

-- no complete record, and a byte over only where one is counted
rests : (devices n k room : ℕ) (l : List ℕ) → length l ≤ (n - k) * 4 → judge_of devices n k room [] l ≡ 0
unfolding judge_of
rests devices n k room [] h = refl
rests devices n k room (x ∷ l) h = rw (lt-ltb k n (omega arith))

judges : (devices n k : ℕ) (l : List ℕ) (room code : ℕ) → Lines devices n k l room code → judge_of devices n k room (quads l) (over l) ≡ code
unfolding code_of
judges devices n k l room _ (kind {q = q} m u) = reach m ∙ rw ((kind_refused devices q.kind q.a q.b q.c).1 u)
judges devices n k l room _ (operand m r) = reach m ∙ rw r
judges devices n k l room _ (past_end p) =
    let z = sized l in
    skip (n - k) devices n k room (quads l) (over l) (omega (arith, p.beyond)) (omega arith) p.before p.space
    ∙ spent devices n (k + (n - k)) _ (drop (n - k) (quads l)) (over l) (omega arith) (simp length-drop (omega (arith, p.beyond)))
judges devices n k l room _ (no_room {j = j} m v h) = reach m ∙ rw (v.1, lt-leb 2 (room - j * 2) (omega (arith, m.space)))
judges devices n k l room _ (in_records d) =
    let z = sized l in
    let valid : AllValid devices (take (length (quads l)) (quads l)) = rw (take_all (length (quads l)) (quads l) (omega arith)) d.before in
    skip (length (quads l)) devices n k room (quads l) (over l) (omega arith) (omega (arith, d.within)) valid d.space
    ∙ rw (drop_of_length-le (quads l) {i = length (quads l)} (omega arith)) (rests devices n (k + length (quads l)) _ (over l) (omega (arith, d.within)))

-- ---- the code given has its line

-- a byte where all are done
beyond : (devices n k : ℕ) (l : List ℕ) (room : ℕ) → ltb k n ≡ false → 0 < length l → Past devices n k l room
beyond devices n k l room e h =
    let z : n - k ≡ 0 = omega (arith, ltb-false k n e) in
    record { beyond = omega arith; before = rw z tt; space = omega arith }

-- fewer than four bytes
few : (devices n k : ℕ) (l : List ℕ) (room : ℕ) → quads l ≡ [] → 0 < length l → length l ≤ 3 → Lines devices n k l room (cond (ltb k n) 0 5)
few devices n k l room q h m =
    cond_ind (Lines devices n k l room) (ltb k n)
    (λ e. in_records (record { within = omega (arith, ltb-true k n e); before = rw q tt; space = rw q (omega arith) }))
    (λ e. past_end (beyond devices n k l room e h))

-- a record's four bytes, and more
abbrev ahead : Quad → List ℕ → List ℕ
ahead q xs = q.kind ∷ q.a ∷ q.b ∷ q.c ∷ xs

module _ (devices n k : ℕ) (q : Quad) (xs : List ℕ) (room : ℕ) (more : k < n) where
  -- the record is judged first
  here : Judged devices n k (ahead q xs) room 0 q
  here = record { rest = quads xs; there = refl; counted = omega arith; before = tt; space = omega arith }

  module _ (v : IsValid devices q) (two : 2 ≤ room) where
    -- if it is valid and has room, what is judged after it is judged, and those lines are lines
    later : {j : ℕ} {p : Quad} → Judged devices n (k + 1) xs (room - 2) j p → Judged devices n k (ahead q xs) room (suc j) p
    later m = record { rest = m.rest; there = m.there; counted = omega (arith, m.counted); before = (v, m.before); space = omega (arith, m.space) }

    shift : {code : ℕ} → Lines devices n (k + 1) xs (room - 2) code → Lines devices n k (ahead q xs) room code
    shift (kind m u) = kind (later m) u
    shift (operand m r) = operand (later m) r
    shift (past_end p) =
        let s : n - k ≡ suc (n - (k + 1)) = omega arith in
        past_end (record { beyond = omega (arith, p.beyond); before = rw s (v, p.before); space = omega (arith, p.space) })
    shift (no_room m w h) = no_room (later m) w (omega (arith, m.space))
    shift (in_records d) = in_records (record { within = omega (arith, d.within); before = (v, d.before); space = omega (arith, d.space) })

  -- so its line is its own, or one after it
  lined : {code : ℕ} (r : Record) → quad_of devices q ≡ r → Lines devices n (k + 1) xs (room - 2) code
      → Lines devices n k (ahead q xs) room (judged_code r (cond (leb 2 room) code 7))
  unfolding code_of
  lined (Ok e) t next =
      cond_ind (Lines devices n k (ahead q xs) room) (leb 2 room)
      (λ two. shift (e, t) (leb-true 2 room two) next)
      (λ none. no_room here (e, t) (omega (arith, leb-false 2 room none)))
  lined (Err Kind) t next = kind here ((kind_refused devices q.kind q.a q.b q.c).0 t)
  lined (Err Operand) t next = operand here t

judged : (devices n k : ℕ) (l : List ℕ) (room : ℕ) → Lines devices n k l room (judge_of devices n k room (quads l) (over l))
unfolding judge_of
judged devices n k [] room = in_records (record { within = omega arith; before = tt; space = omega arith })
judged devices n k (x ∷ []) room = few devices n k (x ∷ []) room refl (omega arith) (omega arith)
judged devices n k (x ∷ a ∷ []) room = few devices n k (x ∷ a ∷ []) room refl (omega arith) (omega arith)
judged devices n k (x ∷ a ∷ b ∷ []) room = few devices n k (x ∷ a ∷ b ∷ []) room refl (omega arith) (omega arith)
judged devices n k (x ∷ a ∷ b ∷ c ∷ l) room =
    cond_ind (Lines devices n k (x ∷ a ∷ b ∷ c ∷ l) room) (ltb k n)
    (λ e. lined devices n k (record { kind = x; a = a; b = b; c = c }) l room (ltb-true k n e) (decode_of devices x a b c) refl
    (judged devices n (k + 1) l (room - 2)))
    (λ e. past_end (beyond devices n k (x ∷ a ∷ b ∷ c ∷ l) room e (omega arith)))

-- ---- the table of the records, both ways

module _ (n k : ℕ) (d : Bus) (l : List ℕ) (room : ℕ) where
  pub by_line : (code : ℕ) → Lines d.devices n k l room code → (feed_of (recording n k d []) l room).code ≡ code
  by_line code m = feed_judge n k d l room ∙ judges d.devices n k l room code m

  pub has_line : Lines d.devices n k l room (feed_of (recording n k d []) l room).code
  has_line = rw (feed_judge n k d l room) (judged d.devices n k l room)
